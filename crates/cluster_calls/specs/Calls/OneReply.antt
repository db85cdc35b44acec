-- Whether the one reply is there that a call's answer is made of.
use Rattle.std.specs.Prelude.{◌&&◌, Bool, false, not, List}
use Rattle.std.specs.List.{list_any}
use Rattle.cluster_routing.specs.Split.{has_split_word}
use Rattle.cluster_calls.specs.Links.Log.{Exchange, is_answered}
use Rattle.cluster_calls.specs.Calls.OneSlot.{args_of}
use Rattle.cluster_calls.specs.Calls.Task.{Task, one_command, one_node, transaction_of}
use Rattle.cluster_calls.specs.Calls.Transactions.{exec_answers, last_attempt, replies_in}

-- To a command that goes whole, and to one for a node that the caller names: a reply without an error. To a
-- transaction: that of its last attempt's EXEC, where it is the answer. Where an answer is made of several
-- replies there is no such one.
abbrev pub has_reply : Task → List Exchange → Bool
has_reply (one_command command number order) xs = not (has_split_word command.args) && list_any is_answered xs
has_reply (one_node node command) xs = list_any is_answered xs
has_reply (transaction_of commands) xs = exec_answers (replies_in (last_attempt (args_of commands) xs))
has_reply _ xs = false
