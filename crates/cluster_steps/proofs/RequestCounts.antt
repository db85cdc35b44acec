-- The groups of a pipeline have no more requests than it has dispatches.
use Rattle.std.specs.Prelude.{filter, nat_eq}
use Rattle.std.proofs.Common.{◌≡◌, ◌≤◌, ℕ, suc, ◌+◌, ◌==◌, Bool, true, false, cond, List, [], ◌∷◌, map, length, refl, ap, ◌∙◌, subst, arith, eqb-true}
use Rattle.cluster_routing.specs.Lists.{among, firsts, IsDistinct}
use Rattle.cluster_steps.specs.Requests.{CodeDispatch}
use Rattle.cluster_steps.specs.Groups.{group_at, place_in, request_count, request_in}
use Rattle.cluster_calls.proofs.LinkLaws.LinkRuns.{or_parts}
use Rattle.cluster_calls.proofs.ServerLaws.Distinct.{firsts_distinct}
use Rattle.cluster_steps.proofs.PipeOrder.{eq_swap}

-- how often a number stands in a list
abbrev occurrences : ℕ → List ℕ → ℕ
occurrences k [] = 0
occurrences k (n ∷ ns) = cond (n == k) 1 0 + occurrences k ns

not_there : (n : ℕ) (ms : List ℕ) → among nat_eq n ms ≡ false → occurrences n ms ≡ 0
not_there n [] h = refl
not_there n (m ∷ ms) h =
    let parts = or_parts (nat_eq n m) (among nat_eq n ms) h in
    ap (λ b. cond b 1 0 + occurrences n ms) (eq_swap m n ∙ parts.0) ∙ ap (λ k. 0 + k) (not_there n ms parts.1)

none_more : (a : ℕ) → a ≡ 0 → 1 + a ≤ 1
none_more a h = omega (arith, h)

as_before : (a : ℕ) → a ≤ 1 → 0 + a ≤ 1
as_before a h = omega (arith, h)

at_most_once : (k : ℕ) (ns : List ℕ) → IsDistinct nat_eq ns → occurrences k ns ≤ 1
at_most_once k [] h = omega arith
at_most_once k (n ∷ ns) h = by (n == k) refl (at_most_once k ns h.1)
  where
    by : (b : Bool) → (n == k) ≡ b → occurrences k ns ≤ 1 → cond b 1 0 + occurrences k ns ≤ 1
    by true e once = none_more (occurrences k ns) (subst (λ m. occurrences m ns ≡ 0) (eqb-true n k e) (not_there n ns h.0))
    by false e once = as_before (occurrences k ns) once

-- ---- the groups at these places

at_place : (b : Bool) (d : CodeDispatch) (es : List CodeDispatch) → length (map request_in (cond b (d ∷ es) es)) ≡ cond b 1 0 + length (map request_in es)
at_place true d es = let n = length (map request_in es) in let more : suc n ≡ 1 + n = omega arith in more
at_place false d es = let n = length (map request_in es) in let same : n ≡ 0 + n = omega arith in same

sums : (a b c d e f : ℕ) → a ≡ b + c → d ≡ e + f → a + d ≡ (b + e) + (c + f)
sums a b c d e f h k = omega (arith, h, k)

one_more_request : (d : CodeDispatch) (ds : List CodeDispatch) (ns : List ℕ) → request_count (map (group_at (d ∷ ds)) ns) ≡ occurrences (place_in d) ns + request_count (map (group_at ds) ns)
one_more_request d ds [] = refl
one_more_request d ds (n ∷ ns) =
    sums _ _ _ _ _ _ (at_place (n == place_in d) d (filter (λ e. n == place_in e) ds)) (one_more_request d ds ns)

no_requests : (ns : List ℕ) → request_count (map (group_at []) ns) ≡ 0
no_requests [] = refl
no_requests (n ∷ ns) = ap (λ k. 0 + k) (no_requests ns)

nothing_within : (a : ℕ) → a ≡ 0 → a ≤ 0
nothing_within a h = omega (arith, h)

one_within : (a b c n : ℕ) → a ≡ b + c → b ≤ 1 → c ≤ n → a ≤ suc n
one_within a b c n h k l = omega (arith, h, k, l)

counts_within : (ds : List CodeDispatch) (ns : List ℕ) → IsDistinct nat_eq ns → request_count (map (group_at ds) ns) ≤ length ds
counts_within [] ns h = nothing_within _ (no_requests ns)
counts_within (d ∷ ds) ns h = one_within _ _ _ _ (one_more_request d ds ns) (at_most_once (place_in d) ns h) (counts_within ds ns h)

pub requests_within : (ds : List CodeDispatch) → request_count (map (group_at ds) (firsts nat_eq (map place_in ds))) ≤ length ds
requests_within ds = counts_within ds (firsts nat_eq (map place_in ds)) (firsts_distinct nat_eq (map place_in ds))
