-- The places of the parts of a split.
use Rattle.std.specs.Prelude.{nat_eq, ◌==◌}
use Rattle.std.proofs.Common.{◌≡◌, ℕ, zero, suc, ◌+◌, ◌<◌, Bool, true, false, ◌||◌, if◌then◌else◌, List, [], ◌∷◌, refl, ap, ◌∙◌, arith}
use Rattle.std.proofs.lemmas.Bool.Decides.{nat_tests}
use Rattle.cluster_routing.specs.Lists.{among}
use Rattle.cluster_routing.specs.Parts.{places_from}
use Rattle.cluster_routing.specs.Laws.{holds_at, IsBelowNumbers, NumbersAscend, PartsShareThePlaces}
use Rattle.cluster_routing.proofs.Gathered.{groups_each, groups_once}

other : (j n : ℕ) → j < n → nat_eq j n ≡ false
other j n h = grind (arith, nat_tests, h)

-- what the list has behind one place more, or none more
passed : (b : Bool) (j n : ℕ) (ps : List ℕ) (r : Bool) → nat_eq j n ≡ false → among nat_eq j ps ≡ r → among nat_eq j (if b then n ∷ ps else ps) ≡ r
passed true j n ps r h e = ap (λ c. c || among nat_eq j ps) h ∙ e
passed false j n ps r h e = e

met : (b : Bool) (j n : ℕ) (ps : List ℕ) → nat_eq j n ≡ true → among nat_eq j ps ≡ false → among nat_eq j (if b then n ∷ ps else ps) ≡ b
met true j n ps h e = ap (λ c. c || among nat_eq j ps) h
met false j n ps h e = e

-- no place before the first one is listed
lower : (s n j : ℕ) (slots : List ℕ) → j < n → among nat_eq j (places_from s n slots) ≡ false
lower s n j [] h = refl
lower s n j (x ∷ xs) h = passed (s == x) j n (places_from s (suc n) xs) false (other j n h) (lower s (suc n) j xs (omega (arith, h)))

itself : (n : ℕ) → nat_eq (n + zero) n ≡ true
itself n = grind (arith, nat_tests)

beyond : (n i : ℕ) → nat_eq (n + suc i) n ≡ false
beyond n i = grind (arith, nat_tests)

next : (n i : ℕ) → n + suc i ≡ suc n + i
next n i = omega arith

own_from : (s n i : ℕ) (slots : List ℕ) → among nat_eq (n + i) (places_from s n slots) ≡ holds_at slots i s
own_from s n i [] = refl
own_from s n zero (x ∷ xs) = met (s == x) (n + zero) n (places_from s (suc n) xs) (itself n) (lower s (suc n) (n + zero) xs (omega arith))
own_from s n (suc i) (x ∷ xs) =
    passed (s == x) (n + suc i) n (places_from s (suc n) xs) (holds_at xs i s) (beyond n i) (ap (λ k. among nat_eq k (places_from s (suc n) xs)) (next n i) ∙ own_from s (suc n) i xs)

one_below : (b : Bool) (m n : ℕ) (ps : List ℕ) → m < n → IsBelowNumbers m ps → IsBelowNumbers m (if b then n ∷ ps else ps)
one_below true m n ps h e = h
one_below false m n ps h e = e

below : (s n m : ℕ) (slots : List ℕ) → m < n → IsBelowNumbers m (places_from s n slots)
below s n m [] h = tt
below s n m (x ∷ xs) h = one_below (s == x) m n (places_from s (suc n) xs) h (below s (suc n) m xs (omega (arith, h)))

one_ascends : (b : Bool) (n : ℕ) (ps : List ℕ) → IsBelowNumbers n ps → NumbersAscend ps → NumbersAscend (if b then n ∷ ps else ps)
one_ascends true n ps h e = (h, e)
one_ascends false n ps h e = e

ascend_from : (s n : ℕ) (slots : List ℕ) → NumbersAscend (places_from s n slots)
ascend_from s n [] = tt
ascend_from s n (x ∷ xs) = one_ascends (s == x) n (places_from s (suc n) xs) (below s (suc n) n xs (omega arith)) (ascend_from s (suc n) xs)

from_zero : (n : ℕ) → n ≡ 0 + n
from_zero n = omega arith

pub parts_share : PartsShareThePlaces
parts_share = record {
  own = λ slots s place. ap (λ k. among nat_eq k (places_from s 0 slots)) (from_zero place) ∙ own_from s 0 place slots;
  ascending = λ slots s. ascend_from s 0 slots;
  each = groups_each;
  once = groups_once;
}
