-- One call of the servers of a proxy, which are a cluster: what it may do, and what each fate means of it.
use Rattle.std.specs.Prelude.{◌≡◌, ◌≢◌, ℕ, Bool, true, false, ◌⊎◌, List, [], map, Result}
use Rattle.std.specs.List.{list_any}
use Rattle.resp_core.specs.Trees.{Tree}
use Rattle.resp_core.specs.Errors.{Refusal, by_cause}
use Rattle.resp_core.specs.declared.errors.redis_error.Cause.TheVariants.{Memory}
use Rattle.cluster_calls.specs.Calls.Call.{Entry}
use Rattle.cluster_calls.specs.Calls.Each.{each_of, fate_of}
use Rattle.cluster_calls.specs.Calls.EachInParts.{each_plan}
use Rattle.cluster_calls.specs.Links.EachMade.{NotSent, refusals_of}
use Rattle.cluster_calls.specs.Links.Events.{exchanges_of}
use Rattle.cluster_calls.specs.Links.Happened.{client_of}
use Rattle.cluster_calls.specs.Links.Run.{with_log}
use Rattle.cluster_calls.specs.Links.World.{World}
use Rattle.cluster_calls.specs.OneServer.Fates.{PositionsAreKnown}
use Rattle.proxy_core.specs.declared.outcome.Fate.{Fate}
use Rattle.proxy_core.specs.declared.outcome.Fate.TheVariants.{Redirected, NotAsked}
use Rattle.proxy_core.specs.declared.outcome.Outcome.{Outcome}
use Rattle.cluster_servers.specs.declared.command.GuestCommand.{GuestCommand}
use Rattle.cluster_servers.specs.declared.reply.Reply.{Reply}
use Rattle.cluster_servers.specs.Alone.{AreAskedAlone, IsAskedAlone}
use Rattle.cluster_servers.specs.Fates.{fate_by}
use Rattle.cluster_servers.specs.Together.{AskedTogether, entries_of}

-- the servers as plain data: the client, whether the next batch goes command by command, and whether a
-- command that can not be sent waits
pub record Cluster : Type 0 where
  pub world : World
  pub alone : Bool
  pub patient : Bool

-- ---- one call

-- nothing was asked: all is as it was, but that a call which was refused for memory leaves an empty log
pub record Untouched (old new : Cluster) (batch : List (ℕ × GuestCommand))
    (outcomes : List (Outcome Reply)) : Type 0 where
  pub world : (new.world ≡ old.world) ⊎ (new.world ≡ with_log old.world [] [])
  pub alone : new.alone ≡ old.alone
  pub patient : new.patient ≡ old.patient
  pub nothing : batch ≡ []
  pub none : outcomes ≡ []

abbrev pub is_redirect : Fate → Bool
is_redirect Redirected = true
is_redirect _ = false

abbrev pub some_redirected : List (Outcome Reply) → Bool
some_redirected outcomes = list_any (λ (o : Outcome Reply). is_redirect o.fate) outcomes

-- the batch was one pipeline; where a node sent a command of it on, the next batch goes command by command
pub record Together (old new : Cluster) (batch : List (ℕ × GuestCommand))
    (outcomes : List (Outcome Reply)) : Type 0 where
  pub before : old.alone ≡ false
  pub asked : AskedTogether old.world new.world batch outcomes
  pub after : new.alone ≡ some_redirected outcomes
  pub patient : new.patient ≡ old.patient

-- it is this batch's turn to go command by command, or its pipeline was refused before the first byte, by another
-- cause than memory, which leaves the client but for its log
abbrev pub GoesAlone : Cluster → World → List Entry → Type 0
GoesAlone old start entries = ((old.alone ≡ true) × (start ≡ old.world))
    ⊎ ((refusal : Refusal) × (refusal ≢ by_cause Memory)
    × NotSent old.world start (each_plan (client_of old.world) [] entries) refusal)

-- the commands were asked one after another
pub record InTurn (old new : Cluster) (batch : List (ℕ × GuestCommand))
    (outcomes : List (Outcome Reply)) : Type 0 where
  pub start : World
  pub why : GoesAlone old start (entries_of batch)
  pub asked : AreAskedAlone old.patient start new.world batch outcomes
  pub after : new.alone ≡ false
  pub patient : new.patient ≡ old.patient

abbrev pub AsksCluster : Cluster → List (ℕ × GuestCommand) → List (Outcome Reply) → Cluster → Type 0
AsksCluster old batch outcomes new = Untouched old new batch outcomes
    ⊎ (Together old new batch outcomes ⊎ InTurn old new batch outcomes)

-- ---- what the fates mean

-- Of each command of a pipeline its fate is what the log shows of it: where it is told as sent on, it was not
-- done.
abbrev pub FatesOfSeveral : Type 0
FatesOfSeveral = (old new : World) (batch : List (ℕ × GuestCommand)) (outcomes : List (Outcome Reply))
    → (asked : AskedTogether old new batch outcomes) → (place : ℕ)
    → PositionsAreKnown new (entries_of batch) asked.made.told.dispatches
    (exchanges_of place asked.made.happened.events)
    (each_of (refusals_of asked.made.happened.events) asked.made.told.dispatches
    (exchanges_of place asked.made.happened.events)) asked.told
    × (map (λ (o : Outcome Reply). o.fate) outcomes
    ≡ map (λ (t : Result Tree Refusal). fate_by (fate_of t)) asked.told)

-- A command that was asked by itself is told as not asked only where nothing was sent for it, and never as
-- sent on.
abbrev pub FatesOfOneCommand : Type 0
FatesOfOneCommand = (patient : Bool) (old new : World) (command : GuestCommand) (outcome : Outcome Reply)
    → IsAskedAlone patient old new command outcome
    → (outcome.fate ≢ Redirected) × (outcome.fate ≡ NotAsked → new.log ≡ [])
