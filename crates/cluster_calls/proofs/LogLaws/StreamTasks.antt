-- What a call on streams comes down to: a command, or a read in parts.
use Rattle.std.proofs.Common.{ℕ, Bool, true, false, cond, List, Option, None}
use Rattle.resp_args.specs.Command.{Command}
use Rattle.stream_commands.specs.Commands.{plain_command}
use Rattle.stream_commands.specs.Settings.{ReadSettings}
use Rattle.cluster_calls.specs.Calls.Call.{Stream, StreamCall, Xadd, Xtrim, Xread, Xrange, Xclaim, Xautoclaim, Xpending, XinfoStream, XinfoGroups, XinfoConsumers, XdelEx}
use Rattle.cluster_calls.specs.Calls.Task.{Task, one_command, read_of, sentence, sentence_task, is_by_key, stream_keys, stream_task}

pub stream_tasks : (P : Task → Type 0) → ((command : Command) (number : ℕ) (order : Option (List ℕ)) → P (one_command command number order)) → ((options : ReadSettings) (streams : List Stream) → P (read_of options streams))
    → (call : StreamCall) → P (stream_task call)
stream_tasks P command read (Xadd key options id fields) = command (plain_command (sentence (Xadd key options id fields))) 0 None
stream_tasks P command read (Xtrim key options) = command (plain_command (sentence (Xtrim key options))) 0 None
stream_tasks P command read (Xread streams options) = by (is_by_key options (stream_keys streams))
  where
    by : (b : Bool) → P (cond b (read_of options streams) (sentence_task (Xread streams options)))
    by true = read options streams
    by false = command (plain_command (sentence (Xread streams options))) 0 None
stream_tasks P command read (Xrange key start end) = command (plain_command (sentence (Xrange key start end))) 0 None
stream_tasks P command read (Xclaim claimant ids options) = command (plain_command (sentence (Xclaim claimant ids options))) 0 None
stream_tasks P command read (Xautoclaim claimant start options) = command (plain_command (sentence (Xautoclaim claimant start options))) 0 None
stream_tasks P command read (Xpending key group) = command (plain_command (sentence (Xpending key group))) 0 None
stream_tasks P command read (XinfoStream key) = command (plain_command (sentence (XinfoStream key))) 0 None
stream_tasks P command read (XinfoGroups key) = command (plain_command (sentence (XinfoGroups key))) 0 None
stream_tasks P command read (XinfoConsumers key group) = command (plain_command (sentence (XinfoConsumers key group))) 0 None
stream_tasks P command read (XdelEx key ids policy) = command (plain_command (sentence (XdelEx key ids policy))) 0 None
