-- A run of calls answers like one server: the claim, whole. It can be read from here to its end.
--
-- Someone hands a list of calls to `play`, and `play` makes them one after another over links to the nodes of
-- a cluster. What it shows of each call are its answer and its requests. Suppose what `HonestCluster` says
-- below. Then one server that is given the same commands, unsplit, one after another, may respond so that
-- each call's answer is what its responses say, and it leaves the keys that the nodes leave. Of a call that
-- was refused it is given what was done of it, and nothing else. Nothing is supposed of the slot map, the
-- order of replies, redirects, how bytes are cut into reads, what a strategy for reads picks, or how many
-- redirects are followed.
--
-- Where others use the keys too, PlayedAmongOthers says what remains, and this claim is the case of it with
-- no step of others.
--
-- How to read it: `(x : T) →` is 'for every x of T'; `A → B` is 'if A, then B'; `≡` is 'equals'; a record is
-- a list of facts that hold together. A record's field can be a value too, which then exists; later fields
-- speak of it.
--
-- Each word, and the file that has it:
--
-- of the client
--   Call           a refresh, a query, a pipeline, a transaction, a command to several nodes, a call on streams
--                  (Calls/Call)
--   World          a client: its nodes with their links, its slot map, its settings, the log of the last call
--                  (Links/World)
--   Plays          all that `play` promises: it made the first of the calls, all of them unless memory was
--                  refused for what one was to show; what it shows stands behind what stood there; and the
--                  calls made are a run (Links/Play)
--   run            the calls that were made, each with its answer and its requests, and each begun where the
--                  one before left the client. A call makes requests that are legal for it and its replies,
--                  answers what a written function makes of these, and sends to each node these requests and
--                  nothing else (`IsRun` of Links/Run; `IsLegalCall` of Calls/Legal, `answer_of` of
--                  Calls/Answer)
--   is_run.events  what came in over the links in the meantime (`taken_of` of Links/Events)
--   with_replies   the calls, each request with its reply: the next one that came from its node
--                  (OneServer/Headline, Links/Log)
--
-- of the keys
--   Keyspace       for each of the slots a cell, which stands for all of its keys (OneServer/Keyspace)
--   Meaning        what a server may do: the steps that it may make, each on one slot, with its response and
--                  the cell before and after (OneServer/Meaning)
--   command_logs   the requests of all calls but refreshes, each with its reply and its call
--                  (OneServer/Headline)
--
-- of the claim
--   HadMemory      no call was refused for want of memory (Links/Run)
--   is_on_slots    whether a call is a refresh, or commands with keys, whole or split by them
--                  (OneServer/Commands)
--   HonestRun      the nodes did what they answered, in the order of the log, and no one else changed a key
--                  (OneServer/Honest)
--   AsOneServer    one server may respond so, and leaves these keys (OneServer/Headline)
use Rattle.std.specs.Prelude.{◌≡◌, ℕ, Bool, true, Option, List}
use Rattle.std.specs.List.{AllByRecursion}
use Rattle.cluster_routing.specs.Choice.{Strategy}
use Rattle.cluster_calls.specs.Calls.Call.{Call}
use Rattle.cluster_calls.specs.Links.Events.{taken_of}
use Rattle.cluster_calls.specs.Links.Play.{Plays, Shown}
use Rattle.cluster_calls.specs.Links.Run.{HadMemory}
use Rattle.cluster_calls.specs.Links.World.{World}
use Rattle.cluster_calls.specs.OneServer.Commands.{is_on_slots}
use Rattle.cluster_calls.specs.OneServer.Headline.{RepliedCall, with_replies, command_logs, AsOneServer}
use Rattle.cluster_calls.specs.OneServer.Honest.{HonestRun}
use Rattle.cluster_calls.specs.OneServer.Keyspace.{Keyspace}
use Rattle.cluster_calls.specs.OneServer.Meaning.{Meaning}

-- the calls that were made, each with the replies to its requests
abbrev pub replied : {strategy : Option Strategy} {old new : World} {calls : List Call}
    {before after : List Shown} {all : Bool}
    → Plays strategy old new calls before after all → List RepliedCall
replied played = with_replies (taken_of played.is_run.events) played.run

-- What is supposed of the calls that were played, of memory, and of the nodes. The nodes' keys are `keys`
-- before the run and `keys'` behind it. Of the requests that got no reply `done` says which were done all the
-- same, by their place in the log of the whole run.
pub record HonestCluster {strategy : Option Strategy} {old new : World} {calls : List Call}
    {before after : List Shown} {all : Bool}
    (played : Plays strategy old new calls before after all) (meaning : Meaning) (keys : Keyspace)
    (done : ℕ → Bool) (keys' : Keyspace) : Type 0 where
  -- no call was refused because the client had no memory for it
  pub had_memory : HadMemory played.run
  -- No call is to several nodes, and none is a command that any node may serve, as TIME. So each is a
  -- refresh, or made of commands with keys, or is refused before anything is sent.
  pub on_slots : AllByRecursion (λ call. is_on_slots call ≡ true) calls
  -- The nodes are honest. Each request that was answered with data was done once, as its command means, and
  -- its reply is what came of that. So was each that got no reply and that `done` names. No other request
  -- changed a key, and no one else did. So another client's write breaks this, and so does a reply that was
  -- still to come when the run began, where it is not what came of the request that it is read for.
  pub honest : HonestRun meaning keys done (command_logs (replied played)) keys'

-- The claim. Whatever the strategy, the client before and behind, the calls, and what was shown before and
-- behind: where `play` keeps its promise and the cluster is honest, the run is as on one server.
abbrev pub PlayedAsOnOneServer : Type 0
PlayedAsOnOneServer = (strategy : Option Strategy) (old new : World) (calls : List Call)
    (before after : List Shown) (all : Bool)
    → (played : Plays strategy old new calls before after all)
    → (meaning : Meaning) (keys keys' : Keyspace) (done : ℕ → Bool)
    → HonestCluster played meaning keys done keys'
    → AsOneServer meaning keys done (replied played) keys'
