-- What a call comes down to: a command or a read of streams part by part, a pipeline, a transaction, a
-- command to several nodes or to one, or a request for the slot map.
use Rattle.std.specs.Prelude.{ℕ, Bool, false, not, ◌&&◌, ◌||◌, ◌==◌, nat_eq, nat_lt, bytes_eq, if◌then◌else◌, List, [], ◌∷◌, map, length, Option, Some, None, is_none, codes}
use Rattle.resp_core.specs.Errors.{Refusal, by_cause}
use Rattle.resp_core.specs.declared.errors.redis_error.Cause.{Cause}
use Rattle.resp_core.specs.declared.errors.redis_error.Cause.TheVariants.{NoKeys, SeveralSlots, BadGroupName, ClaimsIdsAlone}
use Rattle.resp_args.specs.Command.{Command}
use Rattle.cluster_routing.specs.Address.{Address}
use Rattle.cluster_routing.specs.Command.{is_one_of}
use Rattle.cluster_routing.specs.HashSlot.{hash_slot}
use Rattle.cluster_routing.specs.Lists.{firsts, is_distinct}
use Rattle.stream_commands.specs.Settings.{GroupNames, ReadSettings}
use Rattle.stream_commands.specs.Commands as commands
use Rattle.stream_commands.specs.Commands.{plain_command}
use Rattle.cluster_calls.specs.Calls.Call.{Entry, Stream, StreamCall, Xadd, Xtrim, Xread, Xrange, Xclaim, Xautoclaim, Xpending, XinfoStream, XinfoGroups, XinfoConsumers, XdelEx, Call, Refresh, Query, Ordered, Pipeline, Each, FanOut, At, Transaction, OnStreams}

-- ---- sentences of calls on streams

-- the keys of some streams
abbrev pub stream_keys : List Stream → List (List ℕ)
stream_keys streams = map (λ (s : Stream). s.key) streams

abbrev pub stream_ids : List Stream → List (List ℕ)
stream_ids streams = map (λ (s : Stream). s.id) streams

-- the arguments that a call on streams is sent as
abbrev pub sentence : StreamCall → List (List ℕ)
sentence (Xadd key options id fields) = commands.xadd key options id fields
sentence (Xtrim key options) = commands.xtrim key options
sentence (Xread streams options) = commands.xread options (stream_keys streams) (stream_ids streams)
sentence (Xrange key start end) = commands.xrange key start end
sentence (Xclaim c ids options) = commands.xclaim c.key c.group c.consumer c.min_idle ids options
sentence (Xautoclaim c start options) = commands.xautoclaim c.key c.group c.consumer c.min_idle start options
sentence (Xpending key group) = commands.xpending key group
sentence (XinfoStream key) = commands.xinfo_stream key
sentence (XinfoGroups key) = commands.xinfo_groups key
sentence (XinfoConsumers key group) = commands.xinfo_consumers key group
sentence (XdelEx key ids policy) = commands.xdelex key policy ids

-- ---- the checks of calls on streams, before all others

abbrev pub refuse_if : Bool → Cause → Option Refusal
refuse_if unmet cause = if unmet then Some (by_cause cause) else None

abbrev pub first_refusal : List (Option Refusal) → Option Refusal
first_refusal [] = None
first_refusal (Some refusal ∷ checks) = Some refusal
first_refusal (None ∷ checks) = first_refusal checks

abbrev pub are_of_one_slot : List (List ℕ) → Bool
are_of_one_slot keys = nat_lt (length (firsts nat_eq (map hash_slot keys))) 2

-- a read without group and block of keys that all differ is one of each key by itself
abbrev pub is_by_key : ReadSettings → List (List ℕ) → Bool
is_by_key options keys = is_none options.group && is_none options.block && is_distinct bytes_eq keys

-- the name of a group or of a consumer is one argument, and not the word behind which the keys stand
abbrev pub is_name : List (List ℕ) → Bool
is_name (name ∷ []) = not (is_one_of (codes "STREAMS" ∷ []) name)
is_name _ = false

abbrev pub has_bad_names : Option GroupNames → Bool
has_bad_names None = false
has_bad_names (Some names) = not (is_name names.group) || not (is_name names.consumer)

abbrev pub read_refusal : List (List ℕ) → ReadSettings → Option Refusal
read_refusal keys options = first_refusal (
    refuse_if (length keys == 0) NoKeys
    ∷ refuse_if (not (are_of_one_slot keys) && not (is_by_key options keys)) SeveralSlots
    ∷ refuse_if (has_bad_names options.group) BadGroupName
    ∷ [])

abbrev pub stream_refusal : StreamCall → Option Refusal
stream_refusal (Xclaim claimant ids options) = refuse_if options.justid ClaimsIdsAlone
stream_refusal (Xread streams options) = read_refusal (stream_keys streams) options
stream_refusal _ = None

abbrev pub early_refusal : Call → Option Refusal
early_refusal (OnStreams call) = stream_refusal call
early_refusal _ = None

-- ---- tasks

pub data Task : Type 0 where
  slot_map_of : (node : Address) → Task
  -- in parts, sent in an order of their numbers, or as they first appear
  one_command : (command : Command) → (number : ℕ) → (order : Option (List ℕ)) → Task
  pipeline_of : (entries : List Entry) → Task
  -- commands of which each is told by itself, split ones in their parts
  positions_of : (entries : List Entry) → Task
  several_nodes : (command : Command) → Task
  -- as it is, to a node that the caller names
  one_node : (node : Address) → (command : Command) → Task
  -- commands of one slot, done as one
  transaction_of : (commands : List Command) → Task
  -- streams, one part for each slot of their keys, as they first appear
  read_of : (options : ReadSettings) → (streams : List Stream) → Task

-- a call as the one command that it is sent as
abbrev pub sentence_task : StreamCall → Task
sentence_task call = one_command (plain_command (sentence call)) 0 None

abbrev pub stream_task : StreamCall → Task
stream_task (Xread streams options) = if is_by_key options (stream_keys streams) then read_of options streams
    else sentence_task (Xread streams options)
stream_task call = sentence_task call

abbrev pub task_of : Call → Task
task_of (Refresh node) = slot_map_of node
task_of (Query command number) = one_command command number None
task_of (Ordered command order number) = one_command command number (Some order)
task_of (Pipeline entries) = pipeline_of entries
task_of (Each entries) = positions_of entries
task_of (FanOut command) = several_nodes command
task_of (At node command) = one_node node command
task_of (Transaction commands) = transaction_of commands
task_of (OnStreams call) = stream_task call
