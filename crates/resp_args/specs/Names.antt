-- Names of fields: two names are equal exactly where their meanings are.
use Rattle.std.specs.Prelude.{◌≡◌, ◌==◌, ℕ, pos, List, [], ◌∷◌, Bool, map, refl}
use Rattle.std.proofs.Common.{ap}
use Rattle.std.specs.Ordering.{int_eq}
use Rattle.std.specs.Cmp.Lexicographic.{pointwise}
use Rattle.std.proofs.lemmas.Bool.Decides.{same_from_decides, Decides-eqb, Decides-int_eq}

pub nat_eq-int_eq : (a b : ℕ) → (a == b) ≡ int_eq (pos a) (pos b)
nat_eq-int_eq a b =
    let same = Decides-int_eq (pos a) (pos b) in
    same_from_decides {P = a ≡ b} (a == b) (int_eq (pos a) (pos b)) (Decides-eqb a b)
    ((λ e. let both = same.0 e in cc), (λ e. same.1 (ap pos e)))

pub pointwise-map : {A B : Type 0} (eq : A → A → Bool) (same : B → B → Bool) (f : A → B)
    → ((a b : A) → eq a b ≡ same (f a) (f b)) → (xs ys : List A)
    → pointwise eq xs ys ≡ pointwise same (map f xs) (map f ys)
pointwise-map eq same f agrees [] [] = refl
pointwise-map eq same f agrees [] (y ∷ ys) = refl
pointwise-map eq same f agrees (x ∷ xs) [] = refl
pointwise-map eq same f agrees (x ∷ xs) (y ∷ ys) = rw (agrees x y, pointwise-map eq same f agrees xs ys) refl
