-- What a pipeline tells of each position is a reply, the error that it is, or a cause.
use Rattle.std.specs.Prelude.{unwrap_or, MatchOption}
use Rattle.std.specs.List.{AllByRecursion}
use Rattle.std.proofs.Common.{◌≡◌, ◌≢◌, Bool, true, false, cond, List, [], ◌∷◌, map, take, drop, Option, Some, None, Result, Ok, Err, refl, sym, ◌∙◌, subst}
use Rattle.resp_core.specs.Trees.{Tree}
use Rattle.resp_core.specs.Errors.{Refusal, by_cause, by_server, by_servers, at_position}
use Rattle.resp_core.specs.declared.errors.redis_error.Cause.TheVariants as causes
use Rattle.cluster_routing.specs.Choice.{Strategy}
use Rattle.cluster_routing.specs.Combine.{combine, part_replies}
use Rattle.cluster_routing.specs.Policies.{or_bad_reply}
use Rattle.cluster_routing.specs.Split.{Split, part_slots}
use Rattle.cluster_calls.specs.Calls.Call.{Entry}
use Rattle.cluster_calls.specs.Calls.Each.{Fate, answered, redirected, lost, each_of, fate_of, link_refusal, position_exchanges, refusal_where, reply_in}
use Rattle.cluster_calls.specs.Calls.EachInParts.{AreOutcomesOf, IsMadeOf, IsOutcomeOf, are_of_one_fate, refusal_of_parts, reply_in_parts}
use Rattle.cluster_calls.specs.Calls.InParts.{part_count, splits_in}
use Rattle.cluster_calls.specs.Calls.Refusals.{refusal_in}
use Rattle.cluster_calls.specs.Calls.Task.{first_refusal}
use Rattle.cluster_calls.specs.Links.EachMade.{EachMade, refusals_of}
use Rattle.cluster_calls.specs.Links.Events.{exchanges_of}
use Rattle.cluster_calls.specs.Links.World.{World}
use Rattle.cluster_steps.specs.Joins.{IsTold}
use Rattle.cluster_steps.proofs.Joining.{all-taken, all-dropped}
use Rattle.cluster_client.proofs.InParts.{each_told, refusals_told}

abbrev Outcome : Type 0
Outcome = Result Tree Refusal

abbrev AreTold : List Outcome → Type 0
AreTold os = AllByRecursion IsTold os

-- ---- the outcome of a command in parts

first_told : (f : Outcome → Option Refusal) → ((o : Outcome) (refusal : Refusal) → IsTold o → f o ≡ Some refusal → IsTold (Err refusal)) → (os : List Outcome) (refusal : Refusal) → AreTold os → first_refusal (map f os) ≡ Some refusal → IsTold (Err refusal)
first_told f so [] refusal told e = cc
first_told f so (o ∷ os) refusal told e = by (f o) refl e (λ k. first_told f so os refusal told.1 k)
  where
    by : (m : Option Refusal) → f o ≡ m → first_refusal (m ∷ map f os) ≡ Some refusal → (first_refusal (map f os) ≡ Some refusal → IsTold (Err refusal)) → IsTold (Err refusal)
    by None is k ih = ih k
    by (Some r) is k ih = so o refusal told.0 (is ∙ k)

refusal_told : (o : Outcome) (refusal : Refusal) → IsTold o → refusal_in o ≡ Some refusal → IsTold (Err refusal)
refusal_told (Ok tree) refusal told e = cc
refusal_told (Err r) refusal told e = let same : r ≡ refusal = cc in subst (λ q. IsTold (Err q)) same told

link_told : (o : Outcome) (refusal : Refusal) → IsTold o → link_refusal o ≡ Some refusal → IsTold (Err refusal)
link_told (Ok tree) refusal told e = cc
link_told (Err r) refusal told e = by (fate_of (Err r)) e
  where
    by : (fate : Fate) → refusal_where fate r ≡ Some refusal → IsTold (Err refusal)
    by answered k = cc
    by redirected k = cc
    by lost k = let same : r ≡ refusal = cc in subst (λ q. IsTold (Err q)) same told

mixed_told : (o : Option Refusal) → ((refusal : Refusal) → o ≡ Some refusal → IsTold (Err refusal)) → IsTold (Err (unwrap_or o (by_cause causes.UnexpectedReturnType)))
mixed_told None h = tt
mixed_told (Some refusal) h = h refusal refl

parts_told : (os : List Outcome) (refusal : Refusal) → AreTold os → refusal_of_parts os ≡ Some refusal → IsTold (Err refusal)
parts_told os refusal told e = by (are_of_one_fate os) e
  where
    by : (b : Bool) → cond b (first_refusal (map refusal_in os)) (Some (unwrap_or (first_refusal (map link_refusal os)) (by_cause causes.UnexpectedReturnType))) ≡ Some refusal → IsTold (Err refusal)
    by true k = first_told refusal_in refusal_told os refusal told k
    by false k =
        let same : unwrap_or (first_refusal (map link_refusal os)) (by_cause causes.UnexpectedReturnType) ≡ refusal = cc in
        subst (λ r. IsTold (Err r)) same (mixed_told (first_refusal (map link_refusal os)) (λ r f. first_told link_refusal link_told os r told f))

made_told : (s : Split) (os : List Outcome) (outcome : Outcome) → AreTold os → IsMadeOf s os outcome → IsTold outcome
made_told s os outcome told made = by (refusal_of_parts os) refl made
  where
    reply : Option Tree
    reply = combine s (part_replies (part_slots s.tuples) (map reply_in os))

    not_told : (m : Option Tree) (refusal : Refusal) → refusal ≢ by_cause causes.UnexpectedReturnType → Err refusal ≡ or_bad_reply m → IsTold (Err refusal)
    not_told None refusal other e = absurd (let same : refusal ≡ by_cause causes.UnexpectedReturnType = cc in other same)
    not_told (Some tree) refusal other e = cc

    replied : (o : Outcome) → (o ≢ Err (by_cause causes.Memory) → o ≡ or_bad_reply reply) → IsTold o
    replied (Ok tree) h = tt
    replied (Err (by_cause cause)) h = tt
    replied (Err (by_server e)) h = tt
    replied (Err (at_position p)) h = not_told reply (at_position p) (λ e. cc) (h (λ e. cc))
    replied (Err (by_servers first more)) h = not_told reply (by_servers first more) (λ e. cc) (h (λ e. cc))

    by : (m : Option Refusal) → refusal_of_parts os ≡ m → MatchOption m (outcome ≢ Err (by_cause causes.Memory) → outcome ≡ reply_in_parts s (map reply_in os)) (λ refusal. outcome ≡ Err refusal) → IsTold outcome
    by None is h = replied outcome h
    by (Some refusal) is h = subst IsTold (sym h) (parts_told os refusal told is)

-- ---- each position

position_told : (s : Option Split) (os : List Outcome) (outcome : Outcome) → AreTold os → IsOutcomeOf s os outcome → IsTold outcome
position_told None os outcome told is = (subst AreTold is told).0
position_told (Some s) os outcome told made = made_told s os outcome told made

outcomes_told : (ss : List (Option Split)) (os outcomes : List Outcome) → AreTold os → AreOutcomesOf ss os outcomes → AreTold outcomes
outcomes_told [] os [] told w = tt
outcomes_told [] os (o ∷ outcomes) told w = absurd w
outcomes_told (s ∷ ss) os [] told w = absurd w
outcomes_told (s ∷ ss) os (o ∷ outcomes) told w = (
  position_told s (take (part_count s) os) o (all-taken IsTold (part_count s) os told) w.0,
  outcomes_told ss (drop (part_count s) os) outcomes (all-dropped IsTold (part_count s) os told) w.1,
)

pub made_are_told : (strategy : Option Strategy) (old new : World) (entries : List Entry) (outcomes : List Outcome) → EachMade strategy old new entries (Ok outcomes) → AreTold outcomes
made_are_told strategy old new entries outcomes m =
    let events = m.happened.events in
    let xs = exchanges_of 0 events in
    outcomes_told (splits_in entries) (each_of (refusals_of events) m.told.dispatches xs) outcomes
    (each_told (refusals_of events) (refusals_told events) xs (position_exchanges m.told.dispatches xs)) (m.told.each 0)
