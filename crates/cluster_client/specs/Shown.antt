-- The code's calls and answers, and what is shown of a call, as plain data.
use Rattle.std.specs.Prelude.{ℕ, pos, List, map, option_map, Result, Ok, Err, string_bytes, Vec}
use Rattle.std.specs.declared.alloc.Global.{Global}
use Rattle.resp_core.specs.Errors.{Refusal}
use Rattle.resp_core.specs.View.{view}
use Rattle.cluster_routing.specs.Info.{texts}
use Rattle.cluster_routing.specs.Seen.{address}
use Rattle.stream_commands.specs.InfoViews.{consumer_view, group_view, pending_view, stream_info_view}
use Rattle.stream_commands.specs.RecordViews.{autoclaim_view, entries_view, rows_view}
use Rattle.cluster_calls.specs.Calls.Answer as answer
use Rattle.cluster_calls.specs.Calls.Answer.{Answer, Refreshed, Value, Added, Trimmed, Read, Range, Claim, AutoClaim, Pending, Groups, Consumers, Deleted, Told}
use Rattle.cluster_calls.specs.Calls.Call.{Call, Refresh, Query, Ordered, Pipeline, Each, FanOut, At, Transaction, OnStreams, Stream, Claimant, Xadd, Xtrim, Xread, Xrange, Xclaim, Xautoclaim, Xpending, XinfoStream, XinfoGroups, XinfoConsumers, XdelEx}
use Rattle.cluster_calls.specs.Links.Typed.{deletion_of}
use Rattle.cluster_calls.specs.Links.Play.{Shown}
use Rattle.cluster_calls.specs.Links.World.{tree_result}
use Rattle.cluster_client.specs.declared.client.play.Call.{Call as CodeCall}
use Rattle.cluster_client.specs.declared.client.play.Call.TheVariants as calls
use Rattle.cluster_client.specs.declared.client.play.Answer.{Answer as CodeAnswer}
use Rattle.cluster_client.specs.declared.client.play.Answer.TheVariants as answers
use Rattle.cluster_client.specs.declared.client.play.Played.{Played as CodePlayed}
use Rattle.cluster_client.specs.declared.streams.Claimant.{Claimant as CodeClaimant}
use Rattle.cluster_client.specs.Streams.{fields_by}

abbrev pub pairs : List (Vec ℕ Global × Vec ℕ Global) → List (List ℕ × List ℕ)
pairs ps = fields_by (λ v. v.items) (λ v. v.items) ps

abbrev pub streams_in : List (Vec ℕ Global × Vec ℕ Global) → List Stream
streams_in ps = map (λ p. record { key = p.0.items; id = p.1.items }) ps

abbrev pub claimant_in : CodeClaimant (Vec ℕ Global) (Vec ℕ Global) (Vec ℕ Global) → Claimant
claimant_in c = record
    { key = c.key.items; group = c.group.items; consumer = c.consumer.items; min_idle = c.min_idle }

-- the code's call
abbrev pub call_in : CodeCall → Call
call_in (calls.Refresh node) = Refresh (address node)
call_in (calls.Query command number) = Query command number
call_in (calls.Ordered command order number) = Ordered command order.items number
call_in (calls.Pipeline entries) = Pipeline entries
call_in (calls.Each entries) = Each entries
call_in (calls.FanOut command) = FanOut command
call_in (calls.At node command) = At (address node) command
call_in (calls.Transaction commands) = Transaction commands.items
call_in (calls.Xadd key options id fields) = OnStreams (Xadd key.items options id.items (pairs fields.items))
call_in (calls.Xtrim key options) = OnStreams (Xtrim key.items options)
call_in (calls.Xread streams options) = OnStreams (Xread (streams_in streams.items) options)
call_in (calls.Xrange key start end) = OnStreams (Xrange key.items start.items end.items)
call_in (calls.Xclaim claimant ids options) = OnStreams
    (Xclaim (claimant_in claimant) (texts ids.items) options)
call_in (calls.Xautoclaim claimant start options) = OnStreams
    (Xautoclaim (claimant_in claimant) start.items options)
call_in (calls.Xpending key group) = OnStreams (Xpending key.items group.items)
call_in (calls.XinfoStream key) = OnStreams (XinfoStream key.items)
call_in (calls.XinfoGroups key) = OnStreams (XinfoGroups key.items)
call_in (calls.XinfoConsumers key group) = OnStreams (XinfoConsumers key.items group.items)
call_in (calls.XdelEx key ids policy) = OnStreams (XdelEx key.items (texts ids.items) policy)

abbrev pub answer_in : CodeAnswer → Answer
answer_in answers.Refreshed = Refreshed
answer_in (answers.Value value) = Value (view value)
answer_in (answers.Added id) = Added (option_map string_bytes id)
answer_in (answers.Trimmed count) = Trimmed (pos count)
answer_in (answers.Read reply) = Read (rows_view reply.keys.items)
answer_in (answers.Range reply) = Range (entries_view reply.ids.items)
answer_in (answers.Claim reply) = Claim (entries_view reply.ids.items)
answer_in (answers.AutoClaim reply) = AutoClaim (autoclaim_view reply)
answer_in (answers.Pending reply) = Pending (pending_view reply)
answer_in (answers.Stream reply) = answer.Stream (stream_info_view reply)
answer_in (answers.Groups reply) = Groups (map group_view reply.groups.items)
answer_in (answers.Consumers reply) = Consumers (map consumer_view reply.consumers.items)
answer_in (answers.Deleted codes) = Deleted (map deletion_of codes.items)
answer_in (answers.Each outcomes) = Told (map (tree_result view) outcomes.items)

abbrev pub answer_result : Result CodeAnswer Refusal → Result Answer Refusal
answer_result (Ok answer) = Ok (answer_in answer)
answer_result (Err refusal) = Err refusal

-- what `play` shows of a call
abbrev pub shown : CodePlayed → Shown
shown p = record { answer = answer_result p.answer; log = p.asked.items }
