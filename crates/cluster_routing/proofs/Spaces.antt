-- Names of two words: a name with a space is none of those without.
use Rattle.std.specs.List.{list_any, list_all}
use Rattle.std.specs.Str.{str_eq_ignore_ascii_case, str_to_ascii_lowercase}
use Rattle.std.proofs.Common.{◌≡◌, ℕ, ◌==◌, ◌||◌, Bool, true, false, not, List, [], ◌∷◌, ◌++◌, refl, sym, ap, ◌∙◌}
use Rattle.std.proofs.lemmas.Bool.{false≢true, and_parts}
use Rattle.std.proofs.lemmas.Slice.Eq.{bytes_eq-Decides}
use Rattle.cluster_routing.specs.Command.{is_one_of}

abbrev pub has_space : List ℕ → Bool
has_space text = list_any (λ byte. byte == 32) (str_to_ascii_lowercase text)

pub not_among : (names : List (List ℕ)) (text : List ℕ) → has_space text ≡ true → list_all (λ name. not (has_space name)) names ≡ true → is_one_of names text ≡ false
not_among [] text s a = refl
not_among (n ∷ ns) text s a = by (str_eq_ignore_ascii_case n text) refl both.0 (not_among ns text s both.1)
  where
    both : (not (has_space n) ≡ true) × (list_all (λ name. not (has_space name)) ns ≡ true)
    both = and_parts (not (has_space n)) (list_all (λ name. not (has_space name)) ns) a

    by : (b : Bool) → str_eq_ignore_ascii_case n text ≡ b → not (has_space n) ≡ true → is_one_of ns text ≡ false → (b || is_one_of ns text) ≡ false
    by false e f ih = ih
    by true e f ih =
        let same : str_to_ascii_lowercase n ≡ str_to_ascii_lowercase text = (bytes_eq-Decides (str_to_ascii_lowercase n) (str_to_ascii_lowercase text)).0 e in
        let there : has_space n ≡ true = ap (list_any (λ byte. byte == 32)) same ∙ s in
        absurd (false≢true (ap not (sym there) ∙ f))

or_true : (b c : Bool) → c ≡ true → (b || c) ≡ true
or_true true c e = refl
or_true false c e = e

pub spaced : (word second : List ℕ) → has_space (word ++ 32 ∷ second) ≡ true
spaced [] second = refl
spaced (w ∷ word) second = or_true _ (has_space (word ++ 32 ∷ second)) (spaced word second)
