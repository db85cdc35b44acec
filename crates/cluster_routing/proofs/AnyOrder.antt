-- What two neighbours may change places in, any order leaves as it is.
use Rattle.std.specs.Prelude.{option_and_then, slice_set}
use Rattle.std.specs.List.Sorted.{IsPermutation}
use Rattle.std.specs.List.{swap}
use Rattle.std.proofs.Common.{◌≡◌, ℕ, zero, suc, ◌<◌, List, [], ◌∷◌, ◌++◌, length, Option, Some, None, option_map, refl, sym, ap, ◌∙◌, arith, append_assoc, get_or}
use Rattle.std.proofs.lemmas.List.Sorted.{IsPermutation-keeps}
use Rattle.resp_core.specs.Trees.{Tree}
use Rattle.resp_args.specs.Convert.{traverse}

-- ---- what is read of each

-- both none, or two neighbours swapped
pub data Swapped {A : Type 0} : Option (List A) → Option (List A) → Type 0 where
  neither : Swapped None None
  swapped : (before behind : List A) (a b : A) → Swapped (Some (before ++ a ∷ b ∷ behind)) (Some (before ++ b ∷ a ∷ behind))

swapped_behind : {A : Type 0} (x : A) {l r : Option (List A)} → Swapped l r → Swapped (option_map (λ xs. x ∷ xs) l) (option_map (λ xs. x ∷ xs) r)
swapped_behind x neither = neither
swapped_behind x (swapped before behind a b) = swapped (x ∷ before) behind a b

pub traverse_swap : {A : Type 0} (f : Tree → Option A) (before behind : List Tree) (t u : Tree) → Swapped (traverse f (before ++ t ∷ u ∷ behind)) (traverse f (before ++ u ∷ t ∷ behind))
traverse_swap {A} f [] behind t u = by (f t) (f u) (traverse f behind)
  where
    onto : Option A → Option (List A) → Option (List A)
    onto o xs = option_and_then (λ y. option_map (λ ys. y ∷ ys) xs) o

    by : (o p : Option A) (xs : Option (List A)) → Swapped (onto o (onto p xs)) (onto p (onto o xs))
    by None None xs = neither
    by None (Some b) xs = neither
    by (Some a) None xs = neither
    by (Some a) (Some b) None = neither
    by (Some a) (Some b) (Some xs) = swapped [] xs a b
traverse_swap {A} f (x ∷ before) behind t u = by (f x) (traverse_swap f before behind t u)
  where
    by : (o : Option A) {l r : Option (List A)} → Swapped l r → Swapped (option_and_then (λ y. option_map (λ ys. y ∷ ys) l) o) (option_and_then (λ y. option_map (λ ys. y ∷ ys) r) o)
    by None s = neither
    by (Some y) s = swapped_behind y s

pub read_swap : {A M : Type 0} (g : List A → Option M) → ((before behind : List A) (a b : A) → g (before ++ a ∷ b ∷ behind) ≡ g (before ++ b ∷ a ∷ behind)) → {l r : Option (List A)} → Swapped l r → option_and_then g l ≡ option_and_then g r
read_swap g same neither = refl
read_swap g same (swapped before behind a b) = same before behind a b

-- ---- from two neighbours to any order

abbrev pub OfNeighbours : {A M : Type 0} → (List A → M) → Type 0
OfNeighbours {A} f = (before behind : List A) (a b : A) → f (before ++ (a ∷ b ∷ behind)) ≡ f (before ++ (b ∷ a ∷ behind))

to_front : {A M : Type 0} (f : List A → M) → OfNeighbours f → (before xs : List A) (x : A) (behind : List A) → f (before ++ (xs ++ (x ∷ behind))) ≡ f (before ++ (x ∷ (xs ++ behind)))
to_front f same before [] x behind = refl
to_front f same before (z ∷ xs) x behind =
    ap f (sym (append_assoc before (z ∷ []) (xs ++ (x ∷ behind))))
    ∙ to_front f same (before ++ (z ∷ [])) xs x behind
    ∙ ap f (append_assoc before (z ∷ []) (x ∷ (xs ++ behind)))
    ∙ same before (xs ++ behind) z x

exchanged : {A M : Type 0} (f : List A → M) → OfNeighbours f → (before : List A) (x : A) (xs : List A) (y : A) (behind : List A) → f (before ++ (x ∷ (xs ++ (y ∷ behind)))) ≡ f (before ++ (y ∷ (xs ++ (x ∷ behind))))
exchanged f same before x xs y behind =
    ap f (sym (append_assoc before (x ∷ []) (xs ++ (y ∷ behind))))
    ∙ to_front f same (before ++ (x ∷ [])) xs y behind
    ∙ ap f (append_assoc before (x ∷ []) (y ∷ (xs ++ behind)))
    ∙ same before (xs ++ behind) x y
    ∙ sym (ap f (append_assoc before (y ∷ []) (x ∷ (xs ++ behind))))
    ∙ sym (to_front f same (before ++ (y ∷ [])) xs x behind)
    ∙ ap f (append_assoc before (y ∷ []) (xs ++ (x ∷ behind)))

first_exchanged : {A M : Type 0} (f : List A → M) → OfNeighbours f → (before : List A) (x : A) (xs zs : List A) (j : ℕ) (d : A) → j < length zs → f (before ++ (x ∷ (xs ++ zs))) ≡ f (before ++ (get_or zs j d ∷ (xs ++ slice_set zs j x)))
first_exchanged f same before x xs [] j d h = absurd (omega (arith, h))
first_exchanged f same before x xs (z ∷ zs) zero d h = exchanged f same before x xs z zs
first_exchanged f same before x xs (z ∷ zs) (suc j) d h =
    ap (λ ws. f (before ++ (x ∷ ws))) (sym (append_assoc xs (z ∷ []) zs))
    ∙ first_exchanged f same before x (xs ++ (z ∷ [])) zs j d (omega (arith, h))
    ∙ ap (λ ws. f (before ++ (get_or zs j d ∷ ws))) (append_assoc xs (z ∷ []) (slice_set zs j x))

two_exchanged : {A M : Type 0} (f : List A → M) → OfNeighbours f → (before xs : List A) (i j : ℕ) (d : A) → i < length xs → j < length xs → f (before ++ xs) ≡ f (before ++ slice_set (slice_set xs i (get_or xs j d)) j (get_or xs i d))
two_exchanged f same before [] i j d h k = absurd (omega (arith, h))
two_exchanged f same before (x ∷ xs) zero zero d h k = refl
two_exchanged f same before (x ∷ xs) zero (suc j) d h k = first_exchanged f same before x [] xs j d (omega (arith, k))
two_exchanged f same before (x ∷ xs) (suc i) zero d h k = first_exchanged f same before x [] xs i d (omega (arith, h))
two_exchanged f same before (x ∷ xs) (suc i) (suc j) d h k =
    ap f (sym (append_assoc before (x ∷ []) xs))
    ∙ two_exchanged f same (before ++ (x ∷ [])) xs i j d (omega (arith, h)) (omega (arith, k))
    ∙ ap f (append_assoc before (x ∷ []) (slice_set (slice_set xs i (get_or xs j d)) j (get_or xs i d)))

swapped_alike : {A M : Type 0} (f : List A → M) → OfNeighbours f → (xs : List A) (i j : ℕ) → i < length xs → j < length xs → f xs ≡ f (swap xs i j)
swapped_alike f same [] i j h k = refl
swapped_alike f same (x ∷ xs) i j h k = two_exchanged f same [] (x ∷ xs) i j x h k

pub in_any_order : {A M : Type 0} (f : List A → M) → OfNeighbours f → (xs ys : List A) → IsPermutation xs ys → f xs ≡ f ys
in_any_order f same xs ys p = IsPermutation-keeps xs (λ zs. f xs ≡ f zs) refl (λ zs i j h k e. e ∙ swapped_alike f same zs i j h k) ys p
