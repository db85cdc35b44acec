-- An attempt at a transaction as the code has it: where it goes, what its exchange did, and what becomes of
-- its replies.
use Rattle.std.specs.Prelude.{◌≡◌, ◌<◌, ℕ, ◌||◌, Bool, true, false, List, [], map, length, Option, Some, None, option_map, Result, Ok, Err, ⊤}
use Rattle.std.specs.Borrow.{Bor}
use Rattle.resp_core.specs.Errors.{Refusal}
use Rattle.resp_core.specs.Trees.{Tree}
use Rattle.resp_core.specs.View.{view}
use Rattle.resp_core.specs.declared.value.Value.{Value}
use Rattle.resp_args.specs.Command.{Command}
use Rattle.cluster_routing.specs.Seen.{address}
use Rattle.cluster_calls.specs.Calls.OneSlot.{args_of}
use Rattle.cluster_calls.specs.Calls.Plan.{Dispatch}
use Rattle.cluster_calls.specs.Calls.Redirects.{Next, Goes, is_going}
use Rattle.cluster_calls.specs.Calls.Transactions.{Fate, not_done, attempt, attempt_answer, dispatches_to, first_to, unless_lost}
use Rattle.cluster_calls.specs.Links.Exchanges.{Exchanges}
use Rattle.cluster_calls.specs.Links.Places.{IsOpenAt}
use Rattle.cluster_calls.specs.Links.Request.{Request}
use Rattle.cluster_calls.specs.Links.World.{Node, World}
use Rattle.cluster_steps.specs.GroupRuns.{moved_by}
use Rattle.cluster_steps.specs.Turns.{hop_to}
use Rattle.cluster_steps.specs.declared.attempt.Attempt.{Attempt}
use Rattle.cluster_steps.specs.declared.turn.Turn.{Turn}
use Rattle.cluster_steps.specs.declared.turn.Turn.TheVariants as turns

-- all of them are there
abbrev pub heard : List Tree → List (Option Tree)
heard trees = map (λ tree. Some tree) trees

-- a reply that is lent, where there is one
abbrev pub seen : Option (Bor Value) → Option Tree
seen reply = option_map (λ v. view v.now) reply

abbrev pub is_not_done : Fate → Bool
is_not_done not_done = true
is_not_done _ = false

-- What becomes of the replies: they are answered or refused as the definitions say, or the transaction goes
-- on.
abbrev pub AttemptTurnsBy : Next → List (Option Tree) → Result Turn Refusal → Type 0
AttemptTurnsBy next replies (Ok (turns.Answered value)) = (is_going next ≡ false)
    × (unless_lost next (attempt_answer replies) ≡ Ok (view value))
AttemptTurnsBy next replies (Ok (turns.On hop)) = next ≡ Goes (hop_to hop)
AttemptTurnsBy next replies (Err refusal) = (is_going next ≡ false)
    × (unless_lost next (attempt_answer replies) ≡ Err refusal)

-- ---- an attempt that is ready

-- it has the requests of the commands, and goes over the open link of its node
pub record IsPlacedAttempt (all : List Node) (commands : List Command) (a : Attempt) : Type 0 where
  pub place : IsOpenAt all (address a.hop.node) a.hop.link
  pub within : a.hop.link < length all
  pub requests : a.requests.items ≡ attempt (hop_to a.hop) (args_of commands)

-- the first one goes without ASKING; where there are no commands there is none
abbrev pub IsFirstAttempt : List Node → List Command → Option Attempt → Type 0
IsFirstAttempt all commands None = ⊤
IsFirstAttempt all commands (Some a) = IsPlacedAttempt all commands a
    × (hop_to a.hop ≡ first_to (address a.hop.node))

-- what it sends, or nothing where there is none
abbrev pub found_dispatches : List Command → Option Attempt → List Dispatch
found_dispatches commands None = []
found_dispatches commands (Some a) = dispatches_to (address a.hop.node) (args_of commands)

abbrev pub attempt_plan : List Command → Result (Option Attempt) Refusal → Result (List Dispatch) Refusal
attempt_plan commands (Ok found) = Ok (found_dispatches commands found)
attempt_plan commands (Err refusal) = Err refusal

-- ---- its exchange

-- the requests were exchanged, and a refresh is needed where one of their replies is MOVED
pub record AttemptExchanged (old new : World) (link : ℕ) (qs : List Request) (offset : ℕ)
    (result : Result (List Tree) Refusal) : Type 0 where
  pub exchange : Exchanges old.nodes new.nodes link old.log new.log qs offset (length qs) result
  pub flag : new.needs_refresh ≡ (old.needs_refresh || moved_by result)
  pub entries : new.entries ≡ old.entries
  pub settings : new.settings ≡ old.settings
  pub picked : new.picked ≡ old.picked
