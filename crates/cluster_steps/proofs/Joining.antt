-- The outcomes of positions, one after another, from those of their parts.
use Rattle.std.specs.Prelude.{MatchOption}
use Rattle.std.specs.List.{AllByRecursion}
use Rattle.std.proofs.Common.{◌≡◌, ◌≢◌, ◌+◌, ℕ, zero, suc, true, List, [], ◌∷◌, ◌++◌, map, take, drop, length, Option, Some, None, Result, Err, sym, ap, ◌∙◌, subst, append_assoc, arith}
use Rattle.resp_core.specs.Trees.{Tree}
use Rattle.resp_core.specs.Errors.{Refusal, by_cause}
use Rattle.resp_core.specs.declared.errors.redis_error.Cause.TheVariants.{Memory}
use Rattle.cluster_routing.specs.Split.{Split, PartsByPlace, split_of, split_by_place, part_slots}
use Rattle.cluster_calls.specs.Calls.Each.{reply_in}
use Rattle.cluster_calls.specs.Calls.EachInParts.{are_of_one_fate, refusal_of_parts, reply_in_parts}
use Rattle.cluster_calls.specs.Calls.Refusals.{refusal_in}
use Rattle.cluster_calls.specs.Calls.Task.{first_refusal}
use Rattle.cluster_steps.specs.Joins.{AreOutcomesBy, IsJoinedBy, IsOutcomeBy, width_by}

abbrev Outcome : Type 0
Outcome = Result Tree Refusal

-- ---- moved from the front

-- the next item of a queue goes behind those that were moved
pub front_moved : {A : Type 0} (n : ℕ) (before queue rest : List A) (x : A) → queue ≡ x ∷ rest → (before ++ take (suc n) queue ≡ (before ++ x ∷ []) ++ take n rest) × (drop (suc n) queue ≡ drop n rest)
front_moved n before queue rest x is = (ap (λ q. before ++ take (suc n) q) is ∙ sym (append_assoc before (x ∷ []) (take n rest)), ap (drop (suc n)) is)

pub all-taken : {A : Type 0} (P : A → Type 0) (n : ℕ) (xs : List A) → AllByRecursion P xs → AllByRecursion P (take n xs)
all-taken P zero xs h = tt
all-taken P (suc n) [] h = tt
all-taken P (suc n) (x ∷ xs) h = (h.0, all-taken P n xs h.1)

pub all-dropped : {A : Type 0} (P : A → Type 0) (n : ℕ) (xs : List A) → AllByRecursion P xs → AllByRecursion P (drop n xs)
all-dropped P zero xs h = h
all-dropped P (suc n) [] h = tt
all-dropped P (suc n) (x ∷ xs) h = all-dropped P n xs h.1

-- ---- one command in parts

-- parts of one fate of which none refuses
pub joined_replies : (p : PartsByPlace) (os : List Outcome) (outcome : Outcome) → are_of_one_fate os ≡ true → None ≡ first_refusal (map refusal_in os)
    → ((args : List (List ℕ)) (s : Split) → split_of args ≡ Some s → p ≡ split_by_place [] s → length os ≡ length (part_slots s.tuples) → outcome ≢ Err (by_cause Memory) → outcome ≡ reply_in_parts s (map reply_in os))
    → IsJoinedBy p os outcome
joined_replies p os outcome one none joined =
    let unrefused : refusal_of_parts os ≡ None = rw one (sym none) in
    subst (λ o. MatchOption o ((args : List (List ℕ)) (s : Split) → split_of args ≡ Some s → p ≡ split_by_place [] s → length os ≡ length (part_slots s.tuples) → outcome ≢ Err (by_cause Memory) → outcome ≡ reply_in_parts s (map reply_in os)) (λ refusal. outcome ≡ Err refusal))
    (sym unrefused) joined

-- ---- one position more

pub outcome_more : (p : Option PartsByPlace) (ps : List (Option PartsByPlace)) (queue rest : List Outcome) (outcome : Outcome) → IsOutcomeBy p (take (width_by p) queue) outcome → rest ≡ drop (width_by p) queue
    → (later : List Outcome) → AreOutcomesBy ps rest later → AreOutcomesBy (p ∷ ps) queue (outcome ∷ later)
outcome_more p ps queue rest outcome is left later h = (is, subst (λ os. AreOutcomesBy ps os later) left h)

pub behind : (n m : ℕ) {A : Type 0} (queue : List A) → n + m ≡ length queue → m ≡ length (drop n queue)
behind zero m queue e = let k : m ≡ length queue = omega (arith, e) in k
behind (suc n) m [] e = absurd (let f : ⊥ = omega (arith, e) in f)
behind (suc n) m (x ∷ queue) e = behind n m queue (let k : n + m ≡ length queue = omega (arith, e) in k)
