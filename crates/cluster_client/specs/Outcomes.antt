-- What a pipeline that tells of each position does with the groups of its requests, and its outcomes.
use Rattle.std.specs.Prelude.{◌≡◌, ℕ, ◌||◌, ◌++◌, Bool, false, List, [], ◌∷◌, map, Some, Result, Ok, Err, Vec, ⊤}
use Rattle.std.specs.List.{list_any}
use Rattle.std.specs.declared.alloc.Global.{Global}
use Rattle.resp_core.specs.Trees.{Tree}
use Rattle.resp_core.specs.View.{view}
use Rattle.resp_core.specs.Errors.{Refusal, by_cause}
use Rattle.resp_core.specs.declared.errors.redis_error.Cause.{Cause}
use Rattle.resp_core.specs.declared.value.Value.{Value}
use Rattle.cluster_calls.specs.Links.Events.{Event, Ending, answers, fails, Runs, log_of, exchanges_at, answered_moved}
use Rattle.cluster_calls.specs.Links.Faults.{refusal_by_fault}
use Rattle.cluster_calls.specs.Links.Log.{Exchange}
use Rattle.cluster_calls.specs.Links.World.{World, tree_result}
use Rattle.cluster_steps.specs.AtOnce.{IsReceived}
use Rattle.cluster_steps.specs.GroupRuns.{group_node, is_moved_tree}
use Rattle.cluster_steps.specs.Groups.{NodeRequests}
use Rattle.cluster_steps.specs.declared.at_once.Sent.{Sent}

-- ---- the groups

-- what became of a group's link call: its replies came, or the cause is that of its refusal
abbrev pub IsKept : Event → Ending → Result (List Tree) Cause → Type 0
IsKept x (answers replies) (Ok trees) =
    (place : ℕ) → map (λ (e : Exchange). e.reply) (exchanges_at place x) ≡ map (λ tree. Some tree) trees
IsKept x (fails fault) (Err cause) = by_cause cause ≡ refusal_by_fault fault
IsKept _ _ _ = ⊥

-- group by group its link call, and what came
abbrev pub AreKept : List NodeRequests → List Event → List (Result (List Tree) Cause) → Type 0
AreKept [] [] [] = ⊤
AreKept (g ∷ gs) (x ∷ xs) (came ∷ more) = (x.node ≡ group_node g.requests) × (x.requests ≡ g.requests)
    × IsKept x x.ending came × AreKept gs xs more
AreKept _ _ _ = ⊥

-- whether a reply is itself MOVED
abbrev pub moved_in : Result (List Tree) Cause → Bool
moved_in (Ok trees) = list_any is_moved_tree trees
moved_in (Err cause) = false

-- what one node owed was taken, as far as it came, and a refresh is needed where a reply is MOVED
pub record ReceivedFrom (old new : World) (s : Sent) (came : Result (List Tree) Cause) : Type 0 where
  pub received : IsReceived old.nodes new.nodes s came
  pub log : new.log ≡ old.log
  pub flag : new.needs_refresh ≡ (old.needs_refresh || moved_in came)
  pub entries : new.entries ≡ old.entries
  pub settings : new.settings ≡ old.settings
  pub picked : new.picked ≡ old.picked

-- the link call of each group was made, whatever became of the others
pub record EachExchanged (old new : World) (gs : List NodeRequests) (came : List (Result (List Tree) Cause)) : Type 0 where
  pub events : List Event
  pub runs : Runs old.nodes new.nodes events
  pub logged : new.log ≡ old.log ++ log_of events
  pub kept : AreKept gs events came
  pub flag : new.needs_refresh ≡ (old.needs_refresh || answered_moved events)
  pub entries : new.entries ≡ old.entries
  pub settings : new.settings ≡ old.settings
  pub picked : new.picked ≡ old.picked

-- ---- the outcomes

-- the outcomes of a pipeline's positions, or why nothing was sent
abbrev pub outcomes_of : Result (Vec (Result Value Refusal) Global) Refusal
    → Result (List (Result Tree Refusal)) Refusal
outcomes_of (Ok outcomes) = Ok (map (tree_result view) outcomes.items)
outcomes_of (Err refusal) = Err refusal
