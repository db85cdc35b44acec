-- The outcome of each position of a pipeline that tells of each: that of its command, or of a split command of
-- several slots what the outcomes of its parts make.
-- Source: documentation of the crate `redis`, `cluster_routing`.
use Rattle.std.specs.Prelude.{◌≡◌, ◌≢◌, Bool, true, false, if◌then◌else◌, List, [], ◌∷◌, map, take, drop, unwrap_or, Option, Some, None, Result, Err, MatchOption}
use Rattle.std.specs.List.{list_all}
use Rattle.resp_core.specs.Trees.{Tree}
use Rattle.resp_core.specs.Errors.{Refusal, by_cause}
use Rattle.resp_core.specs.declared.errors.redis_error.Cause.TheVariants.{Memory, UnexpectedReturnType}
use Rattle.cluster_routing.specs.Address.{Address}
use Rattle.cluster_routing.specs.Combine.{combine, part_replies}
use Rattle.cluster_routing.specs.Policies.{bad_reply, or_bad_reply}
use Rattle.cluster_routing.specs.Split.{Split, part_slots}
use Rattle.cluster_calls.specs.Links.Log.{Exchange}
use Rattle.cluster_calls.specs.Calls.Call.{Entry, Pipeline}
use Rattle.cluster_calls.specs.Calls.Each.{Fate, answered, redirected, lost, fate_of, link_refusal, reply_in, told_each}
use Rattle.cluster_calls.specs.Calls.InParts.{first_unplaced, in_parts, part_count, splits_in}
use Rattle.cluster_calls.specs.Calls.Parts.{unless}
use Rattle.cluster_calls.specs.Calls.Plan.{Client, Dispatch, plan}
use Rattle.cluster_calls.specs.Calls.Refusals.{refusal_in}
use Rattle.cluster_calls.specs.Calls.Task.{first_refusal}

-- the dispatches of all parts, or why nothing is sent
abbrev pub each_plan : Client → List Address → List Entry → Result (List Dispatch) Refusal
each_plan client picks entries = unless (first_unplaced 0 entries)
    (plan client picks (Pipeline (in_parts entries)))

-- ---- one outcome from those of parts

abbrev pub same_fate : Fate → Fate → Bool
same_fate answered answered = true
same_fate redirected redirected = true
same_fate lost lost = true
same_fate _ _ = false

abbrev pub are_of_one_fate : List (Result Tree Refusal) → Bool
are_of_one_fate [] = true
are_of_one_fate (o ∷ os) = list_all (λ p. same_fate (fate_of p) (fate_of o)) os

-- Of parts of one fate the first refusal, also where other parts were answered with a value. Of others, by what a link
-- call was refused, else by the shape that their replies have not. So only where all were sent on was nothing done.
abbrev pub refusal_of_parts : List (Result Tree Refusal) → Option Refusal
refusal_of_parts os = if are_of_one_fate os then first_refusal (map refusal_in os)
    else Some (unwrap_or (first_refusal (map link_refusal os)) (by_cause UnexpectedReturnType))

-- the reply to the command from those of its parts
abbrev pub reply_in_parts : Split → List Tree → Result Tree Refusal
reply_in_parts s trees = or_bad_reply (combine s (part_replies (part_slots s.tuples) trees))

-- memory may be refused where one reply is made of several
abbrev pub IsMadeOf : Split → List (Result Tree Refusal) → Result Tree Refusal → Type 0
IsMadeOf s os outcome = MatchOption (refusal_of_parts os)
    (outcome ≢ Err (by_cause Memory) → outcome ≡ reply_in_parts s (map reply_in os))
    (λ refusal. outcome ≡ Err refusal)

-- ---- each position from what was told of all parts

-- the outcome of a command that goes whole is that of its one part
abbrev pub IsOutcomeOf : Option Split → List (Result Tree Refusal) → Result Tree Refusal → Type 0
IsOutcomeOf None os outcome = os ≡ outcome ∷ []
IsOutcomeOf (Some s) os outcome = IsMadeOf s os outcome

abbrev pub AreOutcomesOf : List (Option Split) → List (Result Tree Refusal) → List (Result Tree Refusal)
    → Type 0
AreOutcomesOf [] os [] = os ≡ []
AreOutcomesOf (s ∷ ss) os (outcome ∷ outcomes) = IsOutcomeOf s (take (part_count s) os) outcome
    × AreOutcomesOf ss (drop (part_count s) os) outcomes
AreOutcomesOf _ os _ = ⊥

-- what is told of the positions, by the log and by what link calls were refused
abbrev pub AreTold : (Address → Refusal) → List Entry → List Exchange → List (Result Tree Refusal) → Type 0
AreTold refusals entries xs outcomes =
    AreOutcomesOf (splits_in entries) (told_each refusals (in_parts entries) xs) outcomes

-- ---- with memory for each value

abbrev pub outcome_by_parts : Option Split → List (Result Tree Refusal) → Result Tree Refusal
outcome_by_parts None (o ∷ os) = o
outcome_by_parts None [] = Err bad_reply
outcome_by_parts (Some s) os = unless (refusal_of_parts os) (reply_in_parts s (map reply_in os))

-- position by position, each from so many of the parts
abbrev pub outcomes_by_parts : List (Option Split) → List (Result Tree Refusal) → List (Result Tree Refusal)
outcomes_by_parts [] os = []
outcomes_by_parts (s ∷ ss) os = outcome_by_parts s (take (part_count s) os)
    ∷ outcomes_by_parts ss (drop (part_count s) os)

abbrev pub positions_told : (Address → Refusal) → List Entry → List Exchange → List (Result Tree Refusal)
positions_told refusals entries xs =
    outcomes_by_parts (splits_in entries) (told_each refusals (in_parts entries) xs)
