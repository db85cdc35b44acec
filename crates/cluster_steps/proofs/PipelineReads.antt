-- The keys of a read among the commands of a pipeline.
use Rattle.std.proofs.Common.{◌≡◌, ◌<◌, ◌+◌, ◌/◌, ◌%◌, ◌==◌, eq-eqb, take, Bor, ℕ, Bool, true, false, ◌||◌, not, List, [], ◌∷◌, ◌++◌, drop, length, Option, Some, None, refl, sym, ap, ◌∙◌, subst}
use Rattle.std.specs.Prelude.{◌^◌, bytes_eq, codes, cond, nat_lt, option_and_then, option_map, position, slice_get}
use Rattle.std.specs.List.{list_all, list_any}
use Rattle.std.specs.Str.{str_eq_ignore_ascii_case, str_to_ascii_lowercase}
use Rattle.std.proofs.lemmas.Bool.{false≢true, and_parts}
use Rattle.std.proofs.lemmas.Slice.Eq.{bytes_eq-Decides}
use Rattle.std.proofs.lemmas.List.{drop-map, length-map, take-map}
use Rattle.std.proofs.lemmas.List.Quantifiers.{position-Some}
use Rattle.resp_args.specs.declared.cmd.Arg.TheVariants.{Simple, Cursor}
use Rattle.cluster_routing.specs.Command.{Args, all_bytes, bytes_of, if_counted, is_one_of, is_word, name_by, place_of, texts_in}
use Rattle.cluster_routing.specs.Info.{lent}
use Rattle.cluster_routing.specs.Routing.{name_of, name_of_word}
use Rattle.cluster_routing.specs.Table.{families, is_family}
use Rattle.cluster_routing.proofs.Spaces.{not_among, spaced}
use Rattle.cluster_calls.specs.Calls.Parts.{first_half, have_several_slots, is_read_name, keys_behind}
use Rattle.cluster_steps.specs.Reads.{each_or_none}

-- ---- the word

abbrev reads : List (List ℕ)
reads = codes "XREAD" ∷ []

-- no word of a family is that of a read
apart : (families : List (List ℕ)) (word : List ℕ) → list_all (λ family. not (is_one_of reads family)) families ≡ true → is_one_of families word ≡ true → is_one_of reads word ≡ false
apart [] word a h = absurd (false≢true h)
apart (f ∷ fs) word a h = by (str_eq_ignore_ascii_case f word) refl h (apart fs word both.1)
  where
    both : (not (is_one_of reads f) ≡ true) × (list_all (λ family. not (is_one_of reads family)) fs ≡ true)
    both = and_parts (not (is_one_of reads f)) (list_all (λ family. not (is_one_of reads family)) fs) a

    none : (b : Bool) → not b ≡ true → b ≡ false
    none true k = absurd (false≢true k)
    none false k = refl

    by : (b : Bool) → str_eq_ignore_ascii_case f word ≡ b → (b || is_one_of fs word) ≡ true → (is_one_of fs word ≡ true → is_one_of reads word ≡ false) → is_one_of reads word ≡ false
    by true e k ih =
        let same : str_to_ascii_lowercase f ≡ str_to_ascii_lowercase word = (bytes_eq-Decides (str_to_ascii_lowercase f) (str_to_ascii_lowercase word)).0 e in
        ap (λ text. list_any (λ name. bytes_eq (str_to_ascii_lowercase name) text) reads) (sym same) ∙ none (is_one_of reads f) both.0
    by false e k ih = ih k

-- so a read is told by its word
word_tells : (word : List ℕ) (second : Option (List ℕ)) → is_one_of reads word ≡ is_one_of reads (name_by word (is_family word) second)
word_tells word second = by (is_family word) refl second
  where
    by : (b : Bool) → is_family word ≡ b → (second : Option (List ℕ)) → is_one_of reads word ≡ is_one_of reads (name_by word b second)
    by false e second = refl
    by true e None = refl
    by true e (Some text) = apart families word refl e ∙ sym (not_among reads (word ++ 32 ∷ text) (spaced word text) refl)

abbrev pub is_read_word : Option (List ℕ) → Bool
is_read_word None = false
is_read_word (Some word) = is_one_of reads word

pub read_by_word : (args : Args) (o : Option (List ℕ)) → o ≡ bytes_of (slice_get args 0) → is_read_word o ≡ is_read_name (name_of args)
read_by_word args None e = ap (λ o. is_read_name (option_map (λ word. name_of_word word args) o)) e
read_by_word args (Some word) e = word_tells word (bytes_of (slice_get args 1)) ∙ ap (λ o. is_read_name (option_map (λ text. name_of_word text args) o)) e

-- ---- the keys

whole_texts : (args : Args) → all_bytes args ≡ each_or_none (texts_in args)
whole_texts [] = refl
whole_texts (Simple bytes ∷ args) = ap (option_map (λ rest. bytes ∷ rest)) (whole_texts args)
whole_texts (Cursor ∷ args) = refl

-- what stands behind a place, by its texts
pub keys_by_texts : (args : Args) (n : ℕ) (texts : List (Option (List ℕ))) (o : Option (List (List ℕ))) → texts ≡ drop (n + 1) (texts_in args) → o ≡ each_or_none texts → have_several_slots (option_map first_half o) ≡ have_several_slots (keys_behind args (Some n))
keys_by_texts args n texts o behind e =
    ap (λ p. have_several_slots (option_map first_half p)) (e ∙ ap each_or_none (behind ∙ drop-map _ (n + 1) args) ∙ sym (whole_texts (drop (n + 1) args)))

-- the first half of lent texts
pub half : (texts : List (Bor (List ℕ))) → length texts % 2 ≡ 0 → lent (take (length texts / 2) texts) ≡ first_half (lent texts)
half texts even =
    let count : length (lent texts) ≡ length texts = length-map texts _ in
    sym (take-map _ (length texts / 2) texts)
    ∙ sym (ap (λ b. cond b (take (length (lent texts) / 2) (lent texts)) []) (ap (λ n. n % 2 == 0) count ∙ eq-eqb (length texts % 2) 0 even) ∙ ap (λ n. take (n / 2) (lent texts)) count)

-- a word stands within the arguments
counted : (b : Bool) (m n : ℕ) → cond b (Some m) None ≡ Some n → m ≡ n
counted true m n h = cc
counted false m n h = cc

pub place_within : (word : List ℕ) (args : Args) (n : ℕ) → place_of word args ≡ Some n → n < length args
place_within word args n h = by (position (is_word word) args) refl h
  where
    by : (o : Option ℕ) → position (is_word word) args ≡ o → option_and_then if_counted o ≡ Some n → n < length args
    by None e k = cc
    by (Some m) e k = subst (λ i. i < length args) (counted (nat_lt (m + 1) (2 ^ 64)) m n k) (position-Some (is_word word) args m Cursor e).0
