-- Tests and lists: one list and then another, and one element more.
use Rattle.std.specs.Prelude.{◌||◌}
use Rattle.std.specs.List.{AllByRecursion}
use Rattle.std.proofs.Common.{◌≡◌, ℕ, zero, suc, Bool, true, false, List, [], ◌∷◌, ◌++◌, map, length, slice_get, slice_set, refl, ap, ◌∙◌}
use Rattle.cluster_routing.specs.Lists.{Pairwise}

pub or_none : (b : Bool) → (b || false) ≡ b
or_none true = refl
or_none false = refl

pub or_assoc : (a b c : Bool) → (a || (b || c)) ≡ ((a || b) || c)
or_assoc true b c = refl
or_assoc false b c = refl

pub all-append : {X : Type 0} (P : X → Type 0) (xs ys : List X) → AllByRecursion P xs → AllByRecursion P ys → AllByRecursion P (xs ++ ys)
all-append P [] ys h k = k
all-append P (x ∷ xs) ys h k = (h.0, all-append P xs ys h.1 k)

pub all-snoc : {X : Type 0} (P : X → Type 0) (xs : List X) (x : X) → AllByRecursion P xs → P x → AllByRecursion P (xs ++ x ∷ [])
all-snoc P xs x h k = all-append P xs (x ∷ []) h (k, tt)

pub length-snoc : {X : Type 0} (xs : List X) (x : X) → length (xs ++ x ∷ []) ≡ suc (length xs)
length-snoc [] x = refl
length-snoc (y ∷ xs) x = ap suc (length-snoc xs x)

-- another element at one place
pub set_other : {X : Type 0} (xs : List X) (n m : ℕ) (a : X) → (n ≡ m → ⊥) → slice_get (slice_set xs n a) m ≡ slice_get xs m
set_other [] n m a ne = refl
set_other (x ∷ xs) zero zero a ne = absurd (ne refl)
set_other (x ∷ xs) zero (suc m) a ne = refl
set_other (x ∷ xs) (suc n) zero a ne = refl
set_other (x ∷ xs) (suc n) (suc m) a ne = set_other xs n m a (λ e. ne (ap suc e))

-- elements that fit those of a second list, which fit those of a third, have the values of these
pub same_values : {A B C V : Type 0} (R : A → B → Type 0) (S : B → C → Type 0) (f : A → V) (g : C → V) → ((a : A) (b : B) (c : C) → R a b → S b c → f a ≡ g c)
    → (xs : List A) (ys : List B) (zs : List C) → Pairwise R xs ys → Pairwise S ys zs → map f xs ≡ map g zs
same_values R S f g same [] [] [] h k = refl
same_values R S f g same [] [] (z ∷ zs) h k = absurd k
same_values R S f g same [] (y ∷ ys) zs h k = absurd h
same_values R S f g same (x ∷ xs) [] zs h k = absurd h
same_values R S f g same (x ∷ xs) (y ∷ ys) [] h k = absurd k
same_values R S f g same (x ∷ xs) (y ∷ ys) (z ∷ zs) h k = ap (λ v. v ∷ map f xs) (same x y z h.0 k.0) ∙ ap (λ vs. g z ∷ vs) (same_values R S f g same xs ys zs h.1 k.1)
