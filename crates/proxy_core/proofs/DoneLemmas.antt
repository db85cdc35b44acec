-- What is told by slots of commands that were done.
use Rattle.std.proofs.Common.{◌≡◌, ℕ, zero, suc, ◌+◌, ◌<◌, ◌≤◌, ◌==◌, Bool, true, false, ◌||◌, List, [], ◌∷◌, Some, None, length, get_or, take, refl, sym, ◌∙◌, ap, arith, ◌⊎◌, inl, inr}
use Rattle.std.specs.Prelude.{slice_get}
use Rattle.std.specs.List.{list_any}
use Rattle.std.specs.Ordering.{nat_cmp, is_eq}
use Rattle.std.specs.BTreeSet.{BTreeSet, contains}
use Rattle.std.proofs.lemmas.Bool.Decides.{nat_tests}
use Rattle.std.proofs.Math.Bool.{or-true, or-false}
use Rattle.std.proofs.lemmas.List.Folds.{list_any_more, list_any_at}
use Rattle.std.proofs.lemmas.List.{take_all}
use Rattle.std.proofs.lemmas.Option.{slice_get_within, get_or_from_slice_get, slice_get_cases}
use Rattle.proxy_core.specs.declared.done.Done.{Done}
use Rattle.proxy_core.specs.Slots.{overlap}
use Rattle.proxy_core.specs.Done.{overtakes}

or_swap : (p q r : Bool) → (p || (q || r)) ≡ (q || (p || r))
or_swap true q r = sym (or-true q)
or_swap false q r = refl

or_pairs : (p q r s : Bool) → ((p || q) || (r || s)) ≡ ((p || r) || (q || s))
or_pairs true q r s = refl
or_pairs false q r s = or_swap q r s

-- a test that is one of two
any_or : (f g h : ℕ → Bool) → ((q : ℕ) → h q ≡ (f q || g q)) → (xs : List ℕ) → list_any h xs ≡ (list_any f xs || list_any g xs)
any_or f g h e [] = refl
any_or f g h e (x ∷ xs) =
    ap (λ b. b || list_any h xs) (e x) ∙ ap (λ b. (f x || g x) || b) (any_or f g h e xs)
    ∙ or_pairs (f x) (g x) (list_any f xs) (list_any g xs)

-- whether there are no slots
abbrev pub is_empty : List ℕ → Bool
is_empty [] = true
is_empty (d ∷ ds) = false

-- with one command more, with the slots ds
pub adds : (done new : Done) (ds : List ℕ) → new.any ≡ true → new.any_without ≡ (done.any_without || is_empty ds)
    → ((q : ℕ) → contains nat_cmp new.slots q ≡ (list_any (λ s. s == q) ds || contains nat_cmp done.slots q))
    → (slots : List ℕ) → overtakes new slots ≡ (overlap slots ds || overtakes done slots)
adds done new ds any without has [] = any
adds done new [] any without has (s ∷ ss) =
    ap (λ b. b || list_any (λ x. contains nat_cmp new.slots x) (s ∷ ss)) (without ∙ or-true done.any_without)
adds done new (d ∷ ds) any without has (s ∷ ss) =
    ap (λ b. b || list_any (λ x. contains nat_cmp new.slots x) (s ∷ ss)) (without ∙ or-false done.any_without)
    ∙ ap (λ b. done.any_without || b)
    (any_or (λ x. list_any (λ o. o == x) (d ∷ ds)) (λ x. contains nat_cmp done.slots x) (λ x. contains nat_cmp new.slots x) has (s ∷ ss))
    ∙ or_swap done.any_without (list_any (λ x. list_any (λ o. o == x) (d ∷ ds)) (s ∷ ss)) (list_any (λ x. contains nat_cmp done.slots x) (s ∷ ss))

above : (i : ℕ) → 0 < i → (i == 0) ≡ false
above i h = grind (arith, nat_tests)

-- one slot of the list xs more
pub has_more : (old now new : ℕ → Bool) (xs : List ℕ) (i slot : ℕ) → slice_get xs i ≡ Some slot
    → ((q : ℕ) → now q ≡ (list_any (λ s. s == q) (take i xs) || old q))
    → ((q : ℕ) → new q ≡ ((slot == q) || now q))
    → (q : ℕ) → new q ≡ (list_any (λ s. s == q) (take (i + 1) xs) || old q)
has_more old now new xs i slot at e f q =
    let within : i < length xs = slice_get_within xs i slot at in
    let more = list_any_more (λ s. s == q) xs i slot within in
    let here : get_or xs i slot ≡ slot = get_or_from_slice_get xs i slot slot at in
    f q ∙ ap (λ b. (slot == q) || b) (e q)
    ∙ or_swap_left (slot == q) (list_any (λ s. s == q) (take i xs)) (old q)
    ∙ ap (λ b. b || old q) (ap (λ x. list_any (λ s. s == q) (take i xs) || (x == q)) (sym here) ∙ sym more)
  where
    or_swap_left : (p a b : Bool) → (p || (a || b)) ≡ ((a || p) || b)
    or_swap_left true true b = refl
    or_swap_left true false b = refl
    or_swap_left false true b = refl
    or_swap_left false false b = refl

-- the slot at i is one of those, or one of the commands has none
pub overtakes_at : (done : Done) (xs : List ℕ) (i slot : ℕ) → slice_get xs i ≡ Some slot
    → (done.any_without || contains nat_cmp done.slots slot) ≡ true → overtakes done xs ≡ true
overtakes_at done [] i slot at e = cc
overtakes_at done (x ∷ xs) i slot at e =
    let within : i < length (x ∷ xs) = slice_get_within (x ∷ xs) i slot at in
    let here : get_or (x ∷ xs) i slot ≡ slot = get_or_from_slice_get (x ∷ xs) i slot slot at in
    by_cases done.any_without (contains nat_cmp done.slots slot) (list_any (λ s. contains nat_cmp done.slots s) (x ∷ xs)) e
    (λ h. list_any_at (λ s. contains nat_cmp done.slots s) (x ∷ xs) i slot within (ap (contains nat_cmp done.slots) here ∙ h))
  where
    by_cases : (p q r : Bool) → (p || q) ≡ true → (q ≡ true → r ≡ true) → (p || r) ≡ true
    by_cases true q r e f = refl
    by_cases false q r e f = f e

-- none of them is, up to i
pub record IsNone (done : Done) (xs : List ℕ) (i : ℕ) : Type 0 where
  pub within : i ≤ length xs
  pub all_have : 0 < i → done.any_without ≡ false
  pub none : list_any (λ s. contains nat_cmp done.slots s) (take i xs) ≡ false

pub none_more : (done : Done) (xs : List ℕ) (i slot : ℕ) → slice_get xs i ≡ Some slot
    → (done.any_without || contains nat_cmp done.slots slot) ≡ false → IsNone done xs i → IsNone done xs (i + 1)
none_more done xs i slot at e h =
    let within : i < length xs = slice_get_within xs i slot at in
    let here : get_or xs i slot ≡ slot = get_or_from_slice_get xs i slot slot at in
    let both : (done.any_without ≡ false) × (contains nat_cmp done.slots slot ≡ false) = or_none done.any_without (contains nat_cmp done.slots slot) e in
    record {
      within = omega arith;
      all_have = λ more. both.0;
      none = list_any_more (λ s. contains nat_cmp done.slots s) xs i slot within
          ∙ ap (λ b. b || contains nat_cmp done.slots (get_or xs i slot)) h.none
          ∙ ap (contains nat_cmp done.slots) here ∙ both.1;
    }
  where
    or_none : (p q : Bool) → (p || q) ≡ false → (p ≡ false) × (q ≡ false)
    or_none true q e = cc
    or_none false q e = (refl, e)

-- what a list that ends at i is up to there
pub whole_of : (xs : List ℕ) (i : ℕ) → slice_get xs i ≡ None → take i xs ≡ xs
whole_of xs i at = all_of (slice_get_cases xs i).1
  where
    all_of : ((y : ℕ) × (i < length xs) × (slice_get xs i ≡ Some y) × (get_or xs i y ≡ y)) ⊎ ((length xs ≤ i) × (slice_get xs i ≡ None)) → take i xs ≡ xs
    all_of (inl w) = cc
    all_of (inr p) = take_all i xs p.0

-- and those are all, of some
pub none_ends : (done : Done) (xs : List ℕ) (i : ℕ) → slice_get xs i ≡ None → IsNone done xs i → 0 < i
    → (i == 0) ≡ overtakes done xs
none_ends done [] i at h some = let no : ⊥ = omega (arith, h.within) in absurd no
none_ends done (x ∷ xs) i at h some =
    above i some ∙ sym (ap (λ b. b || list_any (λ s. contains nat_cmp done.slots s) (x ∷ xs)) (h.all_have some)
    ∙ ap (list_any (λ s. contains nat_cmp done.slots s)) (sym (whole_of (x ∷ xs) i at)) ∙ h.none)

none_in : (set : BTreeSet ℕ) → set.keys ≡ [] → (xs : List ℕ) → list_any (λ s. contains nat_cmp set s) xs ≡ false
none_in set e [] = refl
none_in set e (x ∷ xs) =
    ap (λ ks. list_any (λ k. is_eq (nat_cmp x k)) ks || list_any (λ s. contains nat_cmp set s) xs) e ∙ none_in set e xs

pub none_done : (set : BTreeSet ℕ) → set.keys ≡ [] → (xs : List ℕ) → overtakes (record { any = false; any_without = false; slots = set }) xs ≡ false
none_done set e [] = refl
none_done set e (x ∷ xs) = none_in set e (x ∷ xs)

pub none_if : (xs : List ℕ) (i : ℕ) → slice_get xs i ≡ None → i ≤ length xs → (i == 0) ≡ is_empty xs
none_if [] i at h = let e : i ≡ 0 = omega arith in ap (λ n. n == 0) e
none_if (x ∷ xs) zero at h = cc
none_if (x ∷ xs) (suc i) at h = above (suc i) (omega arith)
