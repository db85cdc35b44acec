-- What a call answers, or why it is refused.
use Rattle.std.specs.Prelude.{◌≡◌, ◌≢◌, ℕ, ℤ, List, [], filter, Option, Some, None, option_map, option_and_then, Result, Ok, Err}
use Rattle.std.specs.List.{AllByRecursion}
use Rattle.resp_core.specs.Trees.{Tree, nil}
use Rattle.resp_core.specs.Parts.{or_else}
use Rattle.resp_core.specs.Errors.{Refusal, by_cause}
use Rattle.resp_core.specs.declared.errors.redis_error.Cause.TheVariants.{Memory}
use Rattle.resp_args.specs.Packed.{sent}
use Rattle.cluster_routing.specs.Address.{Address}
use Rattle.cluster_routing.specs.Policies.{or_bad_reply}
use Rattle.stream_commands.specs.Shapes.{a_text, a_count, perhaps, list_of}
use Rattle.stream_commands.specs.Entries.{Entry}
use Rattle.stream_commands.specs.EntryReplies.{range_reply, claim_reply}
use Rattle.stream_commands.specs.ReadReply.{Row, read_reply}
use Rattle.stream_commands.specs.AutoClaim as autoclaims
use Rattle.stream_commands.specs.Pending as pendings
use Rattle.stream_commands.specs.StreamInfo.{StreamInfo, info_stream_reply}
use Rattle.stream_commands.specs.Groups.{Group, groups_reply}
use Rattle.stream_commands.specs.Consumers.{Consumer, consumers_reply}
use Rattle.stream_commands.specs.StatusCodes.{status}
use Rattle.cluster_calls.specs.Links.Log.{Exchange, is_answered}
use Rattle.cluster_calls.specs.Calls.Call.{StreamCall, Xadd, Xtrim, Xread, Xrange, Xclaim, Xautoclaim, Xpending, XinfoStream, XinfoGroups, XinfoConsumers, XdelEx, Call, Refresh, Each, OnStreams}
use Rattle.cluster_calls.specs.Calls.Task.{Task, slot_map_of, one_command, pipeline_of, positions_of, several_nodes, one_node, read_of, transaction_of, task_of}
use Rattle.cluster_calls.specs.Calls.Parts.{result_then, unless}
use Rattle.cluster_calls.specs.Calls.EachInParts.{AreTold, positions_told}
use Rattle.cluster_calls.specs.Calls.Plan.{Client, plan}
use Rattle.cluster_calls.specs.Links.Faults.{LinkFault, refusal_by_fault}
use Rattle.cluster_calls.specs.Calls.Replies.{part_replies, reply_of_parts, only_reply, pipeline_reply, several_reply, transaction_reply}
use Rattle.cluster_calls.specs.Calls.Reads.{read_rows}
use Rattle.cluster_calls.specs.Calls.Refusals.{refusal_in, sent_refusal}

-- what became of an entry that was to be deleted
pub data Deletion : Type 0 where
  not_found : Deletion
  deleted : Deletion
  still_referenced : Deletion

-- What a call answers: that a refresh was accepted, the one reply, what a call on streams is read as, or the
-- outcomes of a pipeline's positions.
pub data Answer : Type 0 where
  Refreshed : Answer
  Value : Tree → Answer
  Added : (id : Option (List ℕ)) → Answer
  Trimmed : ℤ → Answer
  Read : List Row → Answer
  Range : List Entry → Answer
  Claim : List Entry → Answer
  AutoClaim : autoclaims.AutoClaim → Answer
  Pending : pendings.Pending → Answer
  Stream : StreamInfo → Answer
  Groups : List Group → Answer
  Consumers : List Consumer → Answer
  Deleted : List Deletion → Answer
  -- of each position its value, or why there is none
  Told : List (Result Tree Refusal) → Answer

-- ---- one reply as an answer

-- the record that a reply to a call on streams spells
abbrev pub stream_answer : StreamCall → Tree → Option Answer
stream_answer (Xadd key options id fields) tree = option_map Added (perhaps a_text tree)
stream_answer (Xtrim key options) tree = option_map Trimmed (a_count tree)
stream_answer (Xread streams options) tree = option_map Read (read_reply tree)
stream_answer (Xrange key start end) tree = option_map Range (range_reply tree)
stream_answer (Xclaim claimant ids options) tree = option_map Claim (claim_reply tree)
stream_answer (Xautoclaim claimant start options) tree = option_map AutoClaim
    (autoclaims.autoclaim_reply tree)
stream_answer (Xpending key group) tree = option_map Pending (pendings.pending_reply tree)
stream_answer (XinfoStream key) tree = option_map Stream (info_stream_reply tree)
stream_answer (XinfoGroups key) tree = option_map Groups (groups_reply tree)
stream_answer (XinfoConsumers key group) tree = option_map Consumers (consumers_reply tree)
stream_answer (XdelEx key ids policy) tree = option_map Deleted
    (list_of (status not_found deleted still_referenced) tree)

abbrev pub answer_in : Call → Tree → Option Answer
answer_in (Refresh node) tree = Some Refreshed
answer_in (OnStreams call) tree = stream_answer call tree
answer_in _ tree = Some (Value tree)

-- ---- a call's answer

abbrev pub tree_in : {A : Type 0} → Result A Refusal → Option A
tree_in (Ok a) = Some a
tree_in (Err refusal) = None

-- One reply from those of all requests, where none of them refuses the call. That of a refresh is not looked
-- at; a read in parts has none, nor has a pipeline that tells of each position.
abbrev pub reply_of : (Address → LinkFault) → Task → List Exchange → Option Tree
reply_of faults (slot_map_of node) xs = Some nil
reply_of faults (one_command command number order) xs = reply_of_parts (sent command) (part_replies xs)
reply_of faults (pipeline_of entries) xs = Some (pipeline_reply entries xs)
reply_of faults (positions_of entries) xs = None
reply_of faults (several_nodes command) xs = tree_in (several_reply faults command xs)
reply_of faults (one_node node command) xs = only_reply xs
reply_of faults (read_of options streams) xs = None
reply_of faults (transaction_of commands) xs = transaction_reply commands xs

abbrev pub task_answer : (Address → LinkFault) → Call → Task → List Exchange → Option Answer
task_answer faults call (read_of options streams) xs = option_map Read
    (read_rows options streams (filter is_answered xs))
task_answer faults call (positions_of entries) xs = Some
    (Told (positions_told (λ node. refusal_by_fault (faults node)) entries xs))
task_answer faults call task xs = option_and_then (answer_in call) (reply_of faults task xs)

abbrev pub call_answer : (Address → LinkFault) → Call → List Exchange → Option Answer
call_answer faults call xs = task_answer faults call (task_of call) xs

-- the first check before sending that is not met, then why a part or a node refused, then a reply of another
-- shape; else the answer
abbrev pub answer_of : Client → List Address → (Address → LinkFault) → Call → List Exchange
    → Result Answer Refusal
answer_of client picks faults call xs =
    result_then (plan client picks call)
    (λ ds. unless (sent_refusal client faults (task_of call) xs)
    (or_bad_reply (call_answer faults call xs)))

-- The answer is that of the exchanges. Where one value is made of several, memory may be refused for it, and its
-- position tells that.
abbrev pub IsAnswerOf : Client → List Address → (Address → LinkFault) → Call → List Exchange
    → Result Answer Refusal → Type 0
IsAnswerOf client picks faults (Each entries) xs (Ok (Told outcomes)) =
    (refusal_in (plan client picks (Each entries)) ≡ None)
    × AreTold (λ node. refusal_by_fault (faults node)) entries xs outcomes
IsAnswerOf client picks faults call xs answer = answer ≡ answer_of client picks faults call xs

-- want of memory is told neither by the call nor by a position of it
abbrev pub outcomes_in : Result Answer Refusal → List (Result Tree Refusal)
outcomes_in (Ok (Told outcomes)) = outcomes
outcomes_in _ = []

abbrev pub TellsNoMemory : Result Answer Refusal → Type 0
TellsNoMemory answer = (answer ≢ Err (by_cause Memory))
    × AllByRecursion (λ outcome. outcome ≢ Err (by_cause Memory)) (outcomes_in answer)

-- why a call is refused, or none
abbrev pub kind : Client → List Address → (Address → LinkFault) → Call → List Exchange → Option Refusal
kind client picks faults call xs =
    or_else (refusal_in (plan client picks call))
    (or_else (sent_refusal client faults (task_of call) xs)
    (refusal_in (or_bad_reply (call_answer faults call xs))))
