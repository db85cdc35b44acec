-- Drawing from queues gives each place the item that its queue has for it.
use Rattle.std.specs.Prelude.{◌==◌}
use Rattle.std.specs.List.{cons_option}
use Rattle.std.proofs.Common.{◌≡◌, ℕ, suc, ◌≤◌, Bool, true, false, if◌then◌else◌, List, [], ◌∷◌, ◌++◌, refl, sym, ap, ◌∙◌, arith, Option, Some, None}
use Rattle.std.proofs.lemmas.Bool.Decides.{nat_tests}
use Rattle.resp_core.specs.Trees.{Tree}
use Rattle.cluster_routing.specs.Combine.{item_at}
use Rattle.cluster_routing.specs.Lists.{draw, front, rest, without_front_of}
use Rattle.cluster_routing.specs.Parts.{places_from}

-- what f has for each key and its place, from place n on
abbrev pub spread : (ℕ → ℕ → Option Tree) → ℕ → List ℕ → List Tree
spread f n [] = []
spread f n (k ∷ ks) = cons_option (f k n) (spread f (suc n) ks)

spread_alike : (f g : ℕ → ℕ → Option Tree) (n : ℕ) (ks : List ℕ) → ((s m : ℕ) → n ≤ m → f s m ≡ g s m) → spread f n ks ≡ spread g n ks
spread_alike f g n [] h = refl
spread_alike f g n (k ∷ ks) h =
    ap (λ o. cons_option o (spread f (suc n) ks)) (h k n (omega arith))
    ∙ ap (cons_option (g k n)) (spread_alike f g (suc n) ks (λ s m l. h s m (omega (arith, l))))

itself : (n : ℕ) → true ≡ (n == n)
itself n = grind (arith, nat_tests)

other : (m n : ℕ) → suc n ≤ m → (m == n) ≡ false
other m n h = grind (arith, nat_tests, h)

no_item : (ps : List ℕ) (n : ℕ) → item_at ps [] n ≡ None
no_item [] n = refl
no_item (p ∷ ps) n = refl

first : (n : ℕ) (ps : List ℕ) (xs ys : List Tree) → front xs ++ ys ≡ cons_option (item_at (n ∷ ps) xs n) ys
first n ps [] ys = refl
first n ps (x ∷ xs) ys = ap (λ b. cons_option (if b then Some x else item_at ps xs n) ys) (itself n)

beyond : (m n : ℕ) (ps : List ℕ) (xs : List Tree) → suc n ≤ m → item_at ps (rest xs) m ≡ item_at (n ∷ ps) xs m
beyond m n ps [] h = no_item ps m
beyond m n ps (x ∷ xs) h = sym (ap (λ b. if b then Some x else item_at ps xs m) (other m n h))

later : (b : Bool) (m n : ℕ) (ps : List ℕ) (xs : List Tree) → suc n ≤ m → item_at ps (if b then rest xs else xs) m ≡ item_at (if b then n ∷ ps else ps) xs m
later true m n ps xs h = beyond m n ps xs h
later false m n ps xs h = refl

pub drawn : (ks : List ℕ) (n : ℕ) (q : ℕ → List Tree) → draw ks q ≡ spread (λ s m. item_at (places_from s n ks) (q s) m) n ks
drawn [] n q = refl
drawn (k ∷ ks) n q =
    ap (λ ys. front (q k) ++ ys) (drawn ks (suc n) (without_front_of k q))
    ∙ first n (places_from k (suc n) ks) (q k) (spread (λ s m. item_at (places_from s (suc n) ks) (without_front_of k q s) m) (suc n) ks)
    ∙ ap (λ b. cons_option (item_at (if b then n ∷ places_from k (suc n) ks else places_from k (suc n) ks) (q k) n) (spread (λ s m. item_at (places_from s (suc n) ks) (without_front_of k q s) m) (suc n) ks)) (itself k)
    ∙ ap (cons_option (item_at (places_from k n (k ∷ ks)) (q k) n)) (
    spread_alike (λ s m. item_at (places_from s (suc n) ks) (without_front_of k q s) m) (λ s m. item_at (places_from s n (k ∷ ks)) (q s) m) (suc n) ks (λ s m h. later (s == k) m n (places_from s (suc n) ks) (q s) h)
    )
