-- Runs of calls over a cluster, and the single server that they are as good as.
use Rattle.std.specs.Prelude.{◌≡◌, ℕ, ◌+◌, Bool, true, ⊤, List, [], ◌∷◌, map, length, Option, Result}
use Rattle.std.specs.List.{AllByRecursion}
use Rattle.resp_core.specs.Trees.{Tree}
use Rattle.resp_core.specs.Errors.{Refusal}
use Rattle.cluster_routing.specs.Address.{Address}
use Rattle.cluster_routing.specs.Choice.{Strategy}
use Rattle.cluster_routing.specs.Lists.{concat, Pairwise}
use Rattle.cluster_calls.specs.Links.Request.{Request}
use Rattle.cluster_calls.specs.Links.Log.{Exchange, exchanges, left_after_all, replies}
use Rattle.cluster_calls.specs.Calls.Call.{Call}
use Rattle.cluster_calls.specs.Calls.OneSlot.{args_of}
use Rattle.cluster_calls.specs.Calls.Task.{Task, slot_map_of, task_of, transaction_of}
use Rattle.cluster_calls.specs.Calls.Transactions.{attempt_log, last_attempt}
use Rattle.cluster_calls.specs.Calls.Plan.{Client}
use Rattle.cluster_calls.specs.Calls.Picks.{ArePicks}
use Rattle.cluster_calls.specs.Calls.Legal.{IsLegalCall}
use Rattle.cluster_calls.specs.Links.Faults.{LinkFault}
use Rattle.cluster_calls.specs.Calls.Refusals.{refusal_in}
use Rattle.cluster_calls.specs.Calls.Answer.{Answer, answer_of, kind}
use Rattle.cluster_calls.specs.Calls.After.{client_after}
use Rattle.cluster_calls.specs.OneServer.Keyspace.{Keyspace}
use Rattle.cluster_calls.specs.OneServer.Meaning.{Meaning, OneServer}
use Rattle.cluster_calls.specs.OneServer.Honest.{HonestRun}
use Rattle.cluster_calls.specs.OneServer.Commands.{is_on_slots, counting, IsAnswerBy}
use Rattle.cluster_calls.specs.OneServer.Operations.{Operation, Response}

-- ---- runs

-- a call of a run as `play` shows it: the picks that were made for it, what it answered, and its requests
pub record PlayedCall : Type 0 where
  pub call : Call
  pub picks : List Address
  pub answer : Result Answer Refusal
  pub log : List Request

-- the same with the replies
pub record RepliedCall : Type 0 where
  pub call : Call
  pub picks : List Address
  pub answer : Result Answer Refusal
  pub log : List Exchange

-- each request of the run with its reply: the next one that was taken from its node and not by a request
-- before
abbrev pub with_replies_from : (Address → List Tree) → ℕ → List PlayedCall → List RepliedCall
with_replies_from queues place [] = []
with_replies_from queues place (t ∷ ts) =
    record { call = t.call; picks = t.picks; answer = t.answer; log = exchanges queues place t.log }
    ∷ with_replies_from (left_after_all queues t.log) (place + length t.log) ts

-- over what link calls took from each node
abbrev pub with_replies : (Address → List Tree) → List PlayedCall → List RepliedCall
with_replies taken calls = with_replies_from (replies taken) 0 calls

-- each call is legal where the ones before it left the client, and answers what its replies give
abbrev pub IsPlayedFrom : Option Strategy → Client → (Address → LinkFault) → List RepliedCall → Type 0
IsPlayedFrom strategy client faults [] = ⊤
IsPlayedFrom strategy client faults (t ∷ ts) =
    ArePicks strategy client t.call t.picks
    × IsLegalCall client t.picks t.call t.log
    × (t.answer ≡ answer_of client t.picks faults t.call t.log)
    × IsPlayedFrom strategy (client_after client t.call t.log) faults ts

-- ---- one server

-- the exchanges of commands: those of refreshes change no key, and of a transaction nothing was done by an
-- attempt that is followed by another
abbrev pub task_log : Task → List Exchange → List Exchange
task_log (slot_map_of node) xs = []
task_log (transaction_of commands) xs = attempt_log (last_attempt (args_of commands) xs)
task_log _ xs = xs

-- each with its call
abbrev pub command_log : RepliedCall → List (Call × Exchange)
command_log t = map (λ x. (t.call, x)) (task_log (task_of t.call) t.log)

abbrev pub command_logs : List RepliedCall → List (Call × Exchange)
command_logs ts = concat (map command_log ts)

abbrev pub all_counting : (ℕ → Bool) → List RepliedCall → List Operation
all_counting done ts = concat (map (λ (t : RepliedCall). counting done t.call t.answer t.log) ts)

-- The answers and the keyspace are those of one server that is given the operations that count, one after
-- another. Of a call that was answered all operations count; of one that was refused those that were done, and so
-- of one that tells of each position.
pub record AsOneServer (meaning : Meaning) (keys : Keyspace) (done : ℕ → Bool) (ts : List RepliedCall)
    (keys' : Keyspace) : Type 0 where
  -- what the server responds, call by call
  pub responses : List (List Response)
  -- each call has as many responses as operations that count
  pub counts : Pairwise
      (λ (t : RepliedCall) here. length here ≡ length (counting done t.call t.answer t.log)) ts responses
  -- given all these operations, the server may respond so, and it leaves these keys
  pub served : OneServer meaning keys (all_counting done ts) (concat responses) keys'
  -- the answer of each call that was not refused is what its responses say
  pub answers : Pairwise (λ (t : RepliedCall) here. IsAnswerBy done t.call t.log t.answer here) ts responses

abbrev pub AreOnSlots : List RepliedCall → Type 0
AreOnSlots ts = AllByRecursion (λ (t : RepliedCall). is_on_slots t.call ≡ true) ts

-- Over honest servers a run of calls on slots has the answers, and leaves the keyspace, of one server that is
-- given the operations that count.
abbrev pub AnswersAndKeyspace : Type 0
AnswersAndKeyspace =
    (strategy : Option Strategy) (client : Client) (faults : Address → LinkFault) (ts : List RepliedCall)
    (meaning : Meaning) (keys keys' : Keyspace) (done : ℕ → Bool)
    → AreOnSlots ts → IsPlayedFrom strategy client faults ts
    → HonestRun meaning keys done (command_logs ts) keys' → AsOneServer meaning keys done ts keys'

-- each call is refused exactly where and as its kind says
abbrev pub RefusedByKind : Client → (Address → LinkFault) → List RepliedCall → Type 0
RefusedByKind client faults [] = ⊤
RefusedByKind client faults (t ∷ ts) =
    (refusal_in t.answer ≡ kind client t.picks faults t.call t.log)
    × RefusedByKind (client_after client t.call t.log) faults ts

-- in a run each call is refused exactly where and as `kind` says
abbrev pub Refusals : Type 0
Refusals = (strategy : Option Strategy) (client : Client) (faults : Address → LinkFault)
    (ts : List RepliedCall) → IsPlayedFrom strategy client faults ts → RefusedByKind client faults ts
