-- Whether keys are of one slot, told by the slot of the first.
use Rattle.std.proofs.Common.{◌≡◌, ℕ, suc, Bool, true, false, not, ◌&&◌, nat_eq, nat_lt, List, [], ◌∷◌, map, length, Some, refl, sym, ap, ◌∙◌, subst, eqb-true, eq-eqb, arith, if◌then◌else◌}
use Rattle.std.specs.Prelude.{filter, slice_get}
use Rattle.std.specs.List.{list_all}
use Rattle.std.proofs.lemmas.Bool.Decides.{nat_tests}
use Rattle.std.proofs.lemmas.List.Folds.{list_all-map}
use Rattle.cluster_routing.specs.HashSlot.{hash_slot}
use Rattle.cluster_routing.specs.Lists.{firsts}
use Rattle.cluster_calls.specs.Calls.Task.{are_of_one_slot}

abbrev others : ℕ → List ℕ → List ℕ
others slot xs = filter (λ x. not (nat_eq slot x)) xs

abbrev are_all : ℕ → List ℕ → Bool
are_all slot xs = list_all (λ x. nat_eq slot x) xs

without_others : (slot : ℕ) (xs : List ℕ) → are_all slot (others slot xs) ≡ are_all slot xs
without_others slot [] = refl
without_others slot (x ∷ xs) = by (nat_eq slot x) refl (without_others slot xs)
  where
    by : (b : Bool) → nat_eq slot x ≡ b → are_all slot (others slot xs) ≡ are_all slot xs → are_all slot (others slot (x ∷ xs)) ≡ are_all slot (x ∷ xs)
    by true e rest = rw (e) rest
    by false e rest = ap (λ c. are_all slot (if not c then x ∷ others slot xs else others slot xs)) e ∙ ap (λ c. c && are_all slot (others slot xs)) e ∙ ap (λ c. c && are_all slot xs) (sym e)

all_firsts : (slot : ℕ) (xs : List ℕ) → are_all slot (firsts nat_eq xs) ≡ are_all slot xs
all_firsts slot [] = refl
all_firsts slot (x ∷ xs) = by (nat_eq slot x) refl (all_firsts slot xs)
  where
    by : (b : Bool) → nat_eq slot x ≡ b → are_all slot (firsts nat_eq xs) ≡ are_all slot xs → are_all slot (firsts nat_eq (x ∷ xs)) ≡ are_all slot (x ∷ xs)
    by true e rest =
        let same : slot ≡ x = eqb-true slot x e in
        ap (λ c. c && are_all slot (filter (λ y. not (nat_eq x y)) (firsts nat_eq xs))) e
        ∙ subst (λ y. are_all slot (filter (λ z. not (nat_eq y z)) (firsts nat_eq xs)) ≡ are_all slot xs) same (without_others slot (firsts nat_eq xs) ∙ rest)
        ∙ ap (λ c. c && are_all slot xs) (sym e)
    by false e rest = ap (λ c. c && are_all slot (filter (λ y. not (nat_eq x y)) (firsts nat_eq xs))) e ∙ ap (λ c. c && are_all slot xs) (sym e)

two_are_more : (n : ℕ) → nat_lt (suc (suc n)) 2 ≡ false
two_are_more n = grind (arith, nat_tests)

none_other : (slot : ℕ) (xs : List ℕ) → nat_lt (suc (length (others slot xs))) 2 ≡ are_all slot xs
none_other slot [] = refl
none_other slot (x ∷ xs) = by (nat_eq slot x) refl (none_other slot xs)
  where
    by : (b : Bool) → nat_eq slot x ≡ b → nat_lt (suc (length (others slot xs))) 2 ≡ are_all slot xs → nat_lt (suc (length (others slot (x ∷ xs)))) 2 ≡ are_all slot (x ∷ xs)
    by true e rest = rw (e) rest
    by false e rest = rw (e) (two_are_more (length (others slot xs)))

one_slot : (slot : ℕ) (xs : List ℕ) → nat_lt (length (firsts nat_eq (slot ∷ xs))) 2 ≡ are_all slot (slot ∷ xs)
one_slot slot xs = none_other slot (firsts nat_eq xs) ∙ all_firsts slot xs ∙ ap (λ c. c && are_all slot xs) (sym (eq-eqb slot slot refl))

-- keys are of one slot where each has that of the first
pub told_by_first : {X : Type 0} (key : X → List ℕ) (xs : List X) (first : X) → Some first ≡ slice_get xs 0 → are_of_one_slot (map key xs) ≡ list_all (λ x. nat_eq (hash_slot (key first)) (hash_slot (key x))) xs
told_by_first key [] first e = cc
told_by_first key (x ∷ xs) first e =
    let same : first ≡ x = cc in
    one_slot (hash_slot (key x)) (map hash_slot (map key xs))
    ∙ ap (λ c. nat_eq (hash_slot (key x)) (hash_slot (key x)) && c) (list_all-map (λ n. nat_eq (hash_slot (key x)) n) hash_slot (map key xs) ∙ list_all-map (λ k. nat_eq (hash_slot (key x)) (hash_slot k)) key xs)
    ∙ ap (λ y. list_all (λ z. nat_eq (hash_slot (key y)) (hash_slot (key z))) (x ∷ xs)) (sym same)
