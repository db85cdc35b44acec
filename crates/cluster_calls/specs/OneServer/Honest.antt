-- Nodes that serve their requests as parts of one keyspace, which no one else changes.
use Rattle.std.specs.Prelude.{◌≡◌, ℕ, ◌||◌, ◌&&◌, Bool, List, [], IfSome, MatchBool}
use Rattle.cluster_routing.specs.Lists.{concat, Pairwise}
use Rattle.cluster_calls.specs.Links.Log.{Exchange, is_answered, is_unanswered}
use Rattle.cluster_calls.specs.Calls.Call.{Call}
use Rattle.cluster_calls.specs.Calls.Task.{task_of}
use Rattle.cluster_calls.specs.Calls.Transactions.{is_array}
use Rattle.cluster_calls.specs.OneServer.Keyspace.{Keyspace, Step, History}
use Rattle.cluster_calls.specs.OneServer.Meaning.{Meaning, DoOperation, AreAllowed}
use Rattle.cluster_calls.specs.OneServer.Operations.{Operation, RunAsOne, Response, task_operation, response_by}

-- the requests that count for the keyspace: the answered ones, and of the unanswered ones those that were
-- done
abbrev pub is_counted : (ℕ → Bool) → Exchange → Bool
is_counted done x = is_answered x || (is_unanswered x && done x.place)

-- what counts of an operation's requests: of commands that are done as one also an array, whatever it holds
abbrev pub counts : (ℕ → Bool) → Operation → Exchange → Bool
counts done (RunAsOne commands) x = is_array x.reply || is_counted done x
counts done _ x = is_counted done x

-- the operation that a request of the call asks for
abbrev pub operation_of : Call → Exchange → Operation
operation_of call x = task_operation (task_of call) x.request.args

-- the steps do the operation, and where the request got a reply, that comes to the response
pub record IsDoneBy (meaning : Meaning) (operation : Operation) (x : Exchange)
    (steps : List Step) : Type 0 where
  pub response : Response
  pub reply : IfSome x.reply (λ tree. response_by operation tree ≡ response)
  pub done : DoOperation operation steps response
  pub allowed : AreAllowed meaning steps

-- a counted request of the call has steps that do what it asks for, and another one changes nothing
abbrev pub Accounts : Meaning → (ℕ → Bool) → Call → Exchange → List Step → Type 0
Accounts meaning done call x steps = MatchBool (counts done (operation_of call x) x)
    (IsDoneBy meaning (operation_of call x) x steps) (steps ≡ [])

-- over the requests of one call
abbrev pub Honest : Meaning → Keyspace → (ℕ → Bool) → Call → List Exchange → Keyspace → Type 0
Honest meaning keys done call xs keys' =
    (steps : List (List Step)) × Pairwise (Accounts meaning done call) xs steps
    × History keys (concat steps) keys'

-- over the requests of a run, each with its call
abbrev pub AccountsFor : Meaning → (ℕ → Bool) → Call × Exchange → List Step → Type 0
AccountsFor meaning done x steps = Accounts meaning done x.0 x.1 steps

abbrev pub HonestRun : Meaning → Keyspace → (ℕ → Bool) → List (Call × Exchange) → Keyspace → Type 0
HonestRun meaning keys done xs keys' =
    (steps : List (List Step)) × Pairwise (AccountsFor meaning done) xs steps
    × History keys (concat steps) keys'
