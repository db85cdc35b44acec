-- A pipeline that tells of each of its positions: what happened, and how its outcomes follow from it.
use Rattle.std.specs.Prelude.{◌≡◌, ◌≢◌, ℕ, ◌||◌, if◌then◌else◌, List, [], ◌∷◌, map, Option, Result, Ok, Err, MatchResult}
use Rattle.resp_core.specs.Trees.{Tree}
use Rattle.resp_core.specs.Errors.{Refusal, by_cause}
use Rattle.resp_core.specs.declared.errors.redis_error.Cause.TheVariants.{Io, Memory}
use Rattle.cluster_routing.specs.Address.{Address, same_address}
use Rattle.cluster_routing.specs.Choice.{Strategy}
use Rattle.cluster_routing.specs.Lists.{concat}
use Rattle.cluster_calls.specs.Links.World.{World}
use Rattle.cluster_calls.specs.Links.Faults.{refusal_by_fault}
use Rattle.cluster_calls.specs.Links.Events.{Event, Ending, answers, fails, Runs, log_of, calls_of, exchanges_of, answered_moved}
use Rattle.cluster_calls.specs.Links.Happened.{client_of}
use Rattle.cluster_calls.specs.Links.Nodes.{in_one}
use Rattle.cluster_calls.specs.Links.Request.{requests_to}
use Rattle.cluster_calls.specs.Links.Run.{with_log}
use Rattle.cluster_calls.specs.Calls.Call.{Entry, Pipeline}
use Rattle.cluster_calls.specs.Calls.Each.{each_of}
use Rattle.cluster_calls.specs.Calls.EachInParts.{AreOutcomesOf, each_plan}
use Rattle.cluster_calls.specs.Calls.InParts.{in_parts, splits_in}
use Rattle.cluster_calls.specs.Calls.Legal.{direct, node_groups}
use Rattle.cluster_calls.specs.Calls.Picks.{ArePicks}
use Rattle.cluster_calls.specs.Calls.Plan.{Dispatch, plan}

-- ---- by what the link call of each node was refused

abbrev pub refusal_by : Ending → Refusal → Refusal
refusal_by (answers replies) later = later
refusal_by (fails fault) later = refusal_by_fault fault

abbrev pub refusals_of : List Event → Address → Refusal
refusals_of [] a = by_cause Io
refusals_of (x ∷ xs) a = if same_address x.node a then refusal_by x.ending (refusals_of xs a)
    else refusals_of xs a

-- ---- the call

-- What happened, also where a link call lacked memory: one link call for each node that was used, whatever became
-- of the others. The log has all of their requests.
pub record EachHappened (old new : World) : Type 0 where
  pub events : List Event
  pub runs : Runs old.nodes new.nodes events
  pub logged : new.log ≡ log_of events
  pub calls : (node : Address) → calls_of events node ≡ in_one (requests_to node (log_of events))
  pub entries : new.entries ≡ old.entries
  pub settings : new.settings ≡ old.settings
  pub flag : new.needs_refresh ≡ (old.needs_refresh || answered_moved events)

-- All commands were placed, and each node in order of first use got its own in one go; the outcomes are told of
-- these exchanges, of which each command has one.
pub record EachAnswered (strategy : Option Strategy) (old new : World) (entries : List Entry)
    (events : List Event) (Tells : List (Result Tree Refusal) → Type 0) : Type 0 where
  pub dispatches : List Dispatch
  pub planned : plan (client_of old) new.picked (Pipeline entries) ≡ Ok dispatches
  pub picks : ArePicks strategy (client_of old) (Pipeline entries) new.picked
  pub unpicked : new.picked ≡ []
  pub sent : log_of events ≡ map direct (concat (node_groups dispatches))
  pub each : (place : ℕ) → Tells (each_of (refusals_of events) dispatches (exchanges_of place events))

-- Nothing was sent, and the client stays, but for its log and picks, of which there are none: a check before
-- sending was not met, or memory was refused.
pub record NotSent (old new : World) (planned : Result (List Dispatch) Refusal)
    (refusal : Refusal) : Type 0 where
  pub stays : new ≡ with_log old [] []
  pub refused : refusal ≢ by_cause Memory → planned ≡ Err refusal

-- these commands went out, each whole, and the outcomes were told, or why nothing was sent
pub record WholesMade (strategy : Option Strategy) (old new : World) (entries : List Entry)
    (planned : Result (List Dispatch) Refusal)
    (Tells : List (Result Tree Refusal) → List (Result Tree Refusal) → Type 0)
    (result : Result (List (Result Tree Refusal)) Refusal) : Type 0 where
  pub happened : EachHappened old new
  pub told : MatchResult result
      (λ outcomes. EachAnswered strategy old new entries happened.events (λ each. Tells each outcomes))
      (λ refusal. NotSent old new planned refusal)

-- the call was made, with a split command in its parts, and told each position's outcome
abbrev pub EachMade : Option Strategy → World → World → List Entry
    → Result (List (Result Tree Refusal)) Refusal → Type 0
EachMade strategy old new entries result = WholesMade strategy old new (in_parts entries)
    (each_plan (client_of old) [] entries) (AreOutcomesOf (splits_in entries)) result
