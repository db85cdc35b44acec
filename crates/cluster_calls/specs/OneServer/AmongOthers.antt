-- Runs on keys that others use too: the claim of Headline with their steps in it.
--
-- Between the requests of a run anyone else may do any step, one that the meaning has or another one. On one
-- server the operations of the run are done whole, one after another, with the same steps of others between
-- them. What others do between two calls stays there. What they do while a call is made stays among what is
-- done for that call, and on each slot all steps keep their order, own and others', so that each finds and
-- leaves the same cell. With no step of others this is the claim of Headline.
--
-- So a step of others is moved only past own steps of one call, and past others' steps on other slots, and
-- only if the call has steps on several slots. It then cannot always stay: `RunsAmongOthers` of WholeCalls
-- has a command that another client sees half done.
use Rattle.std.specs.Prelude.{◌≡◌, ℕ, ◌==◌, Bool, true, false, List, [], ◌∷◌, ◌++◌, map, filter, Option, is_none}
use Rattle.std.specs.List.{AllByRecursion, list_all}
use Rattle.resp_args.specs.Packed.{sent}
use Rattle.cluster_routing.specs.Address.{Address}
use Rattle.cluster_routing.specs.Choice.{Strategy}
use Rattle.cluster_routing.specs.Lists.{concat, front, rest, Pairwise}
use Rattle.cluster_routing.specs.Split.{split_of}
use Rattle.cluster_calls.specs.Links.Faults.{LinkFault}
use Rattle.cluster_calls.specs.Calls.Call.{Call}
use Rattle.cluster_calls.specs.Calls.Task.{Task, slot_map_of, one_command, pipeline_of, positions_of, several_nodes, one_node, read_of, transaction_of, task_of, stream_keys, are_of_one_slot}
use Rattle.cluster_calls.specs.Calls.Plan.{Client}
use Rattle.cluster_calls.specs.OneServer.Commands.{counting, IsAnswerBy}
use Rattle.cluster_calls.specs.OneServer.Headline.{RepliedCall, task_log, IsPlayedFrom, AreOnSlots}
use Rattle.cluster_calls.specs.OneServer.Honest.{Accounts}
use Rattle.cluster_calls.specs.OneServer.Keyspace.{Keyspace, Step, History}
use Rattle.cluster_calls.specs.OneServer.Meaning.{Meaning, DoAll}
use Rattle.cluster_calls.specs.OneServer.Operations.{Response}

-- ---- who does what, in which order

-- a step of the run's own, or a step of someone else, of whom nothing is supposed
pub data Turn : Type 0 where
  Own : (step : Step) → Turn
  Other : (step : Step) → Turn

abbrev pub step_of : Turn → Step
step_of (Own step) = step
step_of (Other step) = step

-- the run's own lists of steps, each unparted, and before each the next list of others' steps; behind the
-- last all that are left
abbrev pub in_turn : List (List Step) → List (List Step) → List Turn
in_turn others [] = map Other (concat others)
in_turn others (own ∷ owns) = map Other (concat (front others)) ++ (map Own own ++ in_turn (rest others) owns)

-- the turns on one slot, in order
abbrev pub turns_on : ℕ → List Turn → List Turn
turns_on slot turns = filter (λ t. slot == (step_of t).slot) turns

-- What is done from the end of one call to the end of the next: by others before it, by others while it is
-- made, and by itself. Both are in lists then, and before each list of its own stands the next one of
-- others'.
pub record CallTurns : Type 0 where
  pub before : List Step
  pub during : List (List Step)
  pub own : List (List Step)

-- all that is done while the call is made
abbrev pub while_made : CallTurns → List Turn
while_made c = in_turn c.during c.own

abbrev pub call_turns : CallTurns → List Turn
call_turns c = map Other c.before ++ while_made c

-- all of a run, and what others do behind it
abbrev pub run_turns : List CallTurns → List Step → List Turn
run_turns calls last = concat (map call_turns calls) ++ map Other last

-- the turns lead from one keyspace to the other
abbrev pub TurnsLead : Keyspace → List Turn → Keyspace → Type 0
TurnsLead keys turns keys' = History keys (map step_of turns) keys'

-- ---- honest nodes

-- a call's own lists are the steps of its requests, one list each
abbrev pub AreItsRequests : Meaning → (ℕ → Bool) → RepliedCall → CallTurns → Type 0
AreItsRequests meaning done t c = Pairwise (Accounts meaning done t.call)
    (task_log (task_of t.call) t.log) c.own

-- The nodes did what they answered, in the order of the log, and in between what others asked for. That is
-- all that is supposed of others. A request without an answer that was done late, behind its place in the
-- log, may be taken for one of theirs, and `done` is false for it.
pub record HonestAmongOthers (meaning : Meaning) (keys : Keyspace) (done : ℕ → Bool) (ts : List RepliedCall)
    (calls : List CallTurns) (last : List Step) (keys' : Keyspace) : Type 0 where
  -- of each call its own lists are what its requests did
  pub requests : Pairwise (AreItsRequests meaning done) ts calls
  -- each step finds the cell that the steps before it left, whoever made them
  pub history : TurnsLead keys (run_turns calls last) keys'

-- ---- one server

-- all of these steps are on one slot
abbrev pub are_on_one_slot : List Step → Bool
are_on_one_slot [] = true
are_on_one_slot (x ∷ xs) = list_all (λ (y : Step). x.slot == y.slot) xs

-- what is done from one call to the end of the next, as it was on the nodes, and as it now is on one server,
-- and what this server responds
pub record ServedCall : Type 0 where
  pub was : CallTurns
  pub now : CallTurns
  pub responses : List Response

pub record IsServed (meaning : Meaning) (done : ℕ → Bool) (t : RepliedCall) (s : ServedCall) : Type 0 where
  -- the own lists are now the steps of the call's operations, one list each: so nothing of others is within
  -- an operation
  pub operations : DoAll meaning (counting done t.call t.answer t.log) s.now.own s.responses
  -- the answer is what the responses say
  pub answer : IsAnswerBy done t.call t.log t.answer s.responses
  -- what others did before the call stays before it
  pub before : s.now.before ≡ s.was.before
  -- on each slot all stays as it was: the same steps, own and others', in the same order
  pub same : (slot : ℕ) → turns_on slot (while_made s.now) ≡ turns_on slot (while_made s.was)
  -- and where all own steps of the call are on one slot, as that of a command with one key is, all stays as
  -- it was
  pub in_place : are_on_one_slot (concat s.was.own) ≡ true → while_made s.now ≡ while_made s.was

-- what was done call by call on the nodes, and what is done on one server
abbrev pub calls_were : List ServedCall → List CallTurns
calls_were served = map (λ (s : ServedCall). s.was) served

abbrev pub calls_now : List ServedCall → List CallTurns
calls_now served = map (λ (s : ServedCall). s.now) served

-- One server is given the operations that count, unsplit, one after another, and in between what others ask
-- for. It may respond so, and it leaves these keys.
pub record AsOneServerAmongOthers (meaning : Meaning) (keys : Keyspace) (done : ℕ → Bool)
    (ts : List RepliedCall)
    (calls : List CallTurns) (last : List Step) (keys' : Keyspace) : Type 0 where
  pub served : List ServedCall
  -- these are all of the calls, as they were
  pub all : calls_were served ≡ calls
  -- each has the answer that the responses say, and others' steps stay as `IsServed` says
  pub each : Pairwise (IsServed meaning done) ts served
  -- all that is done now leads from and to the same keys
  pub history : TurnsLead keys (run_turns (calls_now served) last) keys'

-- over honest nodes a run is as good as one server, whatever others do in between
abbrev pub AnswersAmongOthers : Type 0
AnswersAmongOthers =
    (strategy : Option Strategy) (client : Client) (faults : Address → LinkFault) (ts : List RepliedCall)
    (meaning : Meaning)
    (keys keys' : Keyspace) (done : ℕ → Bool) (calls : List CallTurns) (last : List Step) → AreOnSlots ts
    → IsPlayedFrom strategy client faults ts
    → HonestAmongOthers meaning keys done ts calls last keys'
    → AsOneServerAmongOthers meaning keys done ts calls last keys'

-- ---- where nothing is moved

-- a refresh, a command that is not split, a transaction, or a read of one slot
abbrev pub is_unsplit_task : Task → Bool
is_unsplit_task (slot_map_of node) = true
is_unsplit_task (one_command command number order) = is_none (split_of (sent command))
is_unsplit_task (pipeline_of entries) = false
is_unsplit_task (positions_of entries) = false
is_unsplit_task (several_nodes command) = false
is_unsplit_task (one_node node command) = false
is_unsplit_task (transaction_of commands) = true
is_unsplit_task (read_of options streams) = are_of_one_slot (stream_keys streams)

abbrev pub is_unsplit : Call → Bool
is_unsplit call = is_unsplit_task (task_of call)

-- Where no command is split, no read of streams has several slots and no call is a pipeline, all that is done
-- stays in its order, also what others do: one server may do just what the nodes did.
abbrev pub UnsplitRunsStay : Type 0
UnsplitRunsStay =
    (strategy : Option Strategy) (client : Client) (faults : Address → LinkFault) (ts : List RepliedCall)
    (meaning : Meaning)
    (keys keys' : Keyspace) (done : ℕ → Bool) (calls : List CallTurns) (last : List Step)
    → AllByRecursion (λ (t : RepliedCall). is_unsplit t.call ≡ true) ts
    → IsPlayedFrom strategy client faults ts
    → HonestAmongOthers meaning keys done ts calls last keys'
    → (one : AsOneServerAmongOthers meaning keys done ts calls last keys')
    → run_turns (calls_now one.served) last ≡ run_turns calls last
