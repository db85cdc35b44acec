-- What a pipeline tells of each of its positions: its reply, or the error that it is; or by what the link call
-- of its node was refused.
-- Source: the Redis protocol specification (a server answers the requests of a connection in their order).
use Rattle.std.specs.Prelude.{if◌then◌else◌, List, [], ◌∷◌, ◌++◌, map, filter, Option, Some, None, Result, Ok, Err}
use Rattle.resp_core.specs.Trees.{Tree, nil, server_error}
use Rattle.resp_core.specs.Errors.{Refusal, by_server, server_kind}
use Rattle.resp_core.specs.declared.errors.server_error.ServerErrorKind.{ServerErrorKind}
use Rattle.resp_core.specs.declared.errors.server_error.ServerErrorKind.TheVariants as kinds
use Rattle.cluster_routing.specs.Address.{Address, same_address}
use Rattle.cluster_routing.specs.Lists.{front, rest}
use Rattle.cluster_calls.specs.Links.Log.{Exchange, has_lost}
use Rattle.cluster_calls.specs.Links.PipeReplies.{pipeline_result}
use Rattle.cluster_calls.specs.Calls.Call.{Entry}
use Rattle.cluster_calls.specs.Calls.Parts.{unless}
use Rattle.cluster_calls.specs.Calls.Plan.{Dispatch}
use Rattle.cluster_calls.specs.Calls.Replies.{in_pipeline_order, reply_or_nil}
use Rattle.cluster_calls.specs.Calls.Task.{first_refusal}

-- ---- the exchange of each position

-- the exchanges with a node, in the order of the log
abbrev pub exchanges_with : List Exchange → Address → List Exchange
exchanges_with xs node = filter (λ (x : Exchange). same_address x.request.node node) xs

abbrev pub without_first_with : Address → (Address → List Exchange) → Address → List Exchange
without_first_with node queues a = if same_address node a then rest (queues a) else queues a

-- for each of these nodes the next exchange with it
abbrev pub by_nodes : List Address → (Address → List Exchange) → List Exchange
by_nodes [] queues = []
by_nodes (node ∷ nodes) queues = front (queues node) ++ by_nodes nodes (without_first_with node queues)

abbrev pub nodes_of : List Dispatch → List Address
nodes_of ds = map (λ (d : Dispatch). d.node) ds

-- the exchanges in the order of the positions
abbrev pub position_exchanges : List Dispatch → List Exchange → List Exchange
position_exchanges ds xs = by_nodes (nodes_of ds) (exchanges_with xs)

-- ---- the outcome of each position

-- a reply that is itself an error refuses; one that holds an error deeper inside is a value
abbrev pub reply_outcome : Tree → Result Tree Refusal
reply_outcome (server_error e) = Err (by_server e)
reply_outcome tree = Ok tree

-- of a node with a lost request no reply is told
abbrev pub outcome_of : (Address → Refusal) → List Exchange → Exchange → Result Tree Refusal
outcome_of refusals xs x = if has_lost x.request.node xs then Err (refusals x.request.node)
    else reply_outcome (reply_or_nil x)

-- by the commands in order, the log, and by what the link calls were refused
abbrev pub told_each : (Address → Refusal) → List Entry → List Exchange → List (Result Tree Refusal)
told_each refusals entries xs = map (outcome_of refusals xs) (in_pipeline_order entries xs)

-- the same by the dispatches of the commands
abbrev pub each_of : (Address → Refusal) → List Dispatch → List Exchange → List (Result Tree Refusal)
each_of refusals ds xs = map (outcome_of refusals xs) (position_exchanges ds xs)

-- ---- what became of a position's command

pub data Fate : Type 0 where
  -- its node answered it: with a value, or with an error that is no redirect
  answered : Fate
  -- its node sent it on to another, where it was not sent
  redirected : Fate
  -- its request was written down, and its link call was refused: it may have been done, or not
  lost : Fate

abbrev pub fate_by_kind : Option ServerErrorKind → Fate
fate_by_kind (Some kinds.Moved) = redirected
fate_by_kind (Some kinds.Ask) = redirected
fate_by_kind _ = answered

-- what became of a position's command, by its outcome
abbrev pub fate_of : Result Tree Refusal → Fate
fate_of (Ok tree) = answered
fate_of (Err (by_server e)) = fate_by_kind (server_kind e.code)
fate_of (Err _) = lost

-- ---- the one answer of the whole pipeline

abbrev pub refusal_where : Fate → Refusal → Option Refusal
refusal_where lost refusal = Some refusal
refusal_where _ refusal = None

-- by what a position's link call was refused
abbrev pub link_refusal : Result Tree Refusal → Option Refusal
link_refusal (Ok tree) = None
link_refusal (Err refusal) = refusal_where (fate_of (Err refusal)) refusal

-- the reply that an outcome tells
abbrev pub reply_in : Result Tree Refusal → Tree
reply_in (Ok tree) = tree
reply_in (Err (by_server e)) = server_error e
reply_in (Err _) = nil

-- the refusal of the link call that was refused, else all errors that replies are or hold, with their
-- positions, else the array of the replies that are not ignored
abbrev pub answer_of_each : List Entry → List (Result Tree Refusal) → Result Tree Refusal
answer_of_each entries outcomes = unless (first_refusal (map link_refusal outcomes))
    (pipeline_result entries (map reply_in outcomes))
