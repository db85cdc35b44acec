-- How the outcomes of a pipeline's positions are made of what was told of its parts, by the places of these.
use Rattle.std.specs.Prelude.{◌≡◌, ◌≢◌, ◌≤◌, ℕ, ◌+◌, vec_capacity, vec_len, List, [], ◌∷◌, map, take, drop, length, Option, Some, None, Result, Ok, Err, MatchOption, ⊤}
use Rattle.resp_core.specs.Trees.{Tree}
use Rattle.resp_core.specs.Errors.{Refusal, by_cause, by_server}
use Rattle.resp_core.specs.declared.errors.redis_error.Cause.TheVariants.{Memory}
use Rattle.cluster_routing.specs.Info.{shown_split}
use Rattle.cluster_routing.specs.Split.{Split, PartsByPlace, split_of, part_slots, split_by_place}
use Rattle.cluster_calls.specs.Calls.Each.{answered, redirected, lost, reply_in}
use Rattle.cluster_calls.specs.Calls.Each as told
use Rattle.cluster_calls.specs.Calls.EachInParts.{refusal_of_parts, reply_in_parts}
use Rattle.cluster_steps.specs.declared.join.Fate.{Fate}
use Rattle.cluster_steps.specs.declared.join.Fate.TheVariants as fates
use Rattle.cluster_steps.specs.declared.join.Join.{Join}

-- ---- fates

-- a fate of the code, as that of a position
abbrev pub fate_in : Fate → told.Fate
fate_in fates.Answered = answered
fate_in fates.Redirected = redirected
fate_in fates.Lost = lost

-- what is told of a part: a reply, the error that it is, or a cause
abbrev pub IsTold : Result Tree Refusal → Type 0
IsTold (Ok tree) = ⊤
IsTold (Err (by_cause cause)) = ⊤
IsTold (Err (by_server e)) = ⊤
IsTold (Err _) = ⊥

-- ---- the code's joins

-- how a join's command is split
abbrev pub shown_join : Join → PartsByPlace
shown_join j = shown_split j.split

-- nothing came yet, and there is room for all of it
pub record HasRoom (j : Join) : Type 0 where
  pub no_outcomes : j.outcomes.items ≡ []
  pub no_replies : j.replies.items ≡ []
  pub outcomes : vec_len j.split.routes ≤ vec_capacity j.outcomes
  pub replies : vec_len j.split.routes ≤ vec_capacity j.replies

-- ---- one position

-- the outcome of a split command, whichever it is, from those of its parts
abbrev pub IsJoinedBy : PartsByPlace → List (Result Tree Refusal) → Result Tree Refusal → Type 0
IsJoinedBy p os outcome = MatchOption (refusal_of_parts os)
    ((args : List (List ℕ)) (s : Split) → split_of args ≡ Some s → p ≡ split_by_place [] s
    → length os ≡ length (part_slots s.tuples)
    → outcome ≢ Err (by_cause Memory) → outcome ≡ reply_in_parts s (map reply_in os))
    (λ refusal. outcome ≡ Err refusal)

abbrev pub width_by : Option PartsByPlace → ℕ
width_by None = 1
width_by (Some p) = length p.routes

-- the outcome of a command that goes whole is that of its one part
abbrev pub IsOutcomeBy : Option PartsByPlace → List (Result Tree Refusal) → Result Tree Refusal → Type 0
IsOutcomeBy None os outcome = os ≡ outcome ∷ []
IsOutcomeBy (Some p) os outcome = IsJoinedBy p os outcome

-- ---- one position after another

-- how many parts several commands have
abbrev pub width_of_all : List (Option PartsByPlace) → ℕ
width_of_all [] = 0
width_of_all (p ∷ ps) = width_by p + width_of_all ps

-- the outcomes of commands, of those of their parts, by the places of the parts
abbrev pub AreOutcomesBy : List (Option PartsByPlace) → List (Result Tree Refusal)
    → List (Result Tree Refusal) → Type 0
AreOutcomesBy [] os [] = os ≡ []
AreOutcomesBy (p ∷ ps) os (outcome ∷ outcomes) = IsOutcomeBy p (take (width_by p) os) outcome
    × AreOutcomesBy ps (drop (width_by p) os) outcomes
AreOutcomesBy _ os _ = ⊥
