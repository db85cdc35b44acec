-- The link calls of a run, one after another. A link call sends some requests to one node and takes their
-- replies.
use Rattle.std.specs.Prelude.{◌≡◌, ◌≢◌, ℕ, suc, ◌+◌, ◌&&◌, Bool, true, false, if◌then◌else◌, List, [], ◌∷◌, ◌++◌, length, drop, slice_get, Some, ⊤}
use Rattle.std.specs.List.{list_any}
use Rattle.resp_core.specs.Trees.{Tree}
use Rattle.resp_core.specs.Errors.{Refusal, by_cause}
use Rattle.resp_core.specs.declared.errors.redis_error.Cause.TheVariants.{Io}
use Rattle.resp_link.specs.Replies.{replies_of}
use Rattle.resp_link.specs.Call.{Seen, Answers, SendFails, ReadFails}
use Rattle.cluster_routing.specs.Address.{Address, same_address}
use Rattle.cluster_calls.specs.Links.Request.{Request, bytes_of, skipped}
use Rattle.cluster_calls.specs.Links.Log.{Exchange, is_moved}
use Rattle.cluster_calls.specs.Links.World.{Node, link_at, set_link}
use Rattle.cluster_calls.specs.Links.Faults.{LinkFault, io, no_memory, refusal_by_fault}

-- how a link call ended: with replies, or by what it failed
pub data Ending : Type 0 where
  answers : (replies : List Tree) → Ending
  fails : LinkFault → Ending

-- a link call: its node, its requests, the values that it took, and how it ended
pub record Event : Type 0 where
  pub node : Address
  pub requests : List Request
  pub taken : List Tree
  pub ending : Ending

-- how many replies requests have: one each, and one more behind ASKING
abbrev pub reply_count : List Request → ℕ
reply_count [] = 0
reply_count (q ∷ qs) = (skipped q.asking + 1) + reply_count qs

-- ---- one link call

-- the link answered as its contract says, and these are the values that it took
pub record AnswersFrom (old new : Seen) (bytes : List ℕ) (count : ℕ)
    (taken replies : List Tree) : Type 0 where
  pub offset : ℕ
  pub size : ℕ
  pub whole : offset + size ≡ count
  pub contract : Answers old new bytes offset size replies
  pub values : contract.takes.reads.trees ≡ taken

-- the link failed as its contract says: in sending it took nothing, in receiving the values before the
-- failure
pub data FailsFrom (old new : Seen) (bytes : List ℕ) (count : ℕ) (taken : List Tree)
    (refusal : Refusal) : Type 0 where
  in_sending : SendFails old new bytes → refusal ≡ by_cause Io → taken ≡ []
      → FailsFrom old new bytes count taken refusal
  in_receiving : (contract : ReadFails old new bytes count refusal) → contract.lacks.ends.trees ≡ taken
      → FailsFrom old new bytes count taken refusal

abbrev pub EndsBy : Seen → Seen → List Request → List Tree → Ending → Type 0
EndsBy old new qs taken (answers replies) = AnswersFrom old new (bytes_of qs) (reply_count qs) taken replies
EndsBy old new qs taken (fails fault) = FailsFrom old new (bytes_of qs) (reply_count qs) taken
    (refusal_by_fault fault)

abbrev pub AllTo : Address → List Request → Type 0
AllTo node [] = ⊤
AllTo node (q ∷ qs) = (q.node ≡ node) × AllTo node qs

-- ---- runs of link calls

-- one link call among the nodes: its node's link did so, and all others stay
pub record LinkCalled (old new : List Node) (x : Event) : Type 0 where
  pub before : Seen
  pub after : Seen
  pub found : link_at old x.node ≡ Some before
  pub now : new ≡ set_link old x.node after
  pub some : x.requests ≢ []
  pub to_node : AllTo x.node x.requests
  pub ends : EndsBy before after x.requests x.taken x.ending

abbrev pub Runs : List Node → List Node → List Event → Type 0
Runs old new [] = new ≡ old
Runs old new (x ∷ xs) = (mid : List Node) × LinkCalled old mid x × Runs mid new xs

-- ---- what a run of link calls adds up to

abbrev pub log_of : List Event → List Request
log_of [] = []
log_of (x ∷ xs) = x.requests ++ log_of xs

abbrev pub taken_of : List Event → Address → List Tree
taken_of [] a = []
taken_of (x ∷ xs) a = if same_address x.node a then x.taken ++ taken_of xs a else taken_of xs a

-- the requests of each link call to a node
abbrev pub calls_of : List Event → Address → List (List Request)
calls_of [] a = []
calls_of (x ∷ xs) a = if same_address x.node a then x.requests ∷ calls_of xs a else calls_of xs a

-- requests of one link call, each with its reply
abbrev pub pair_up : List Tree → ℕ → List Request → List Exchange
pair_up trees place [] = []
pair_up trees place (q ∷ qs) =
    record { request = q; place = place; reply = slice_get trees (skipped q.asking) }
    ∷ pair_up (drop (skipped q.asking + 1) trees) (suc place) qs

abbrev pub exchanges_at : ℕ → Event → List Exchange
exchanges_at place x = pair_up (replies_of x.taken) place x.requests

abbrev pub exchanges_of : ℕ → List Event → List Exchange
exchanges_of place [] = []
exchanges_of place (x ∷ xs) = exchanges_at place x ++ exchanges_of (place + length x.requests) xs

-- each failed link call has its node's fault
abbrev pub AgreesAt : (Address → LinkFault) → Address → Ending → Type 0
AgreesAt faults node (fails fault) = faults node ≡ fault
AgreesAt faults node _ = ⊤

abbrev pub Agrees : (Address → LinkFault) → List Event → Type 0
Agrees faults [] = ⊤
Agrees faults (x ∷ xs) = AgreesAt faults x.node x.ending × Agrees faults xs

abbrev pub fault_by : Ending → LinkFault → LinkFault
fault_by (fails fault) later = fault
fault_by _ later = later

abbrev pub faults_of : List Event → Address → LinkFault
faults_of [] a = io
faults_of (x ∷ xs) a = if same_address x.node a then fault_by x.ending (faults_of xs a) else faults_of xs a

-- whether a link call lacked memory
abbrev pub is_memory_ending : Ending → Bool
is_memory_ending (fails no_memory) = true
is_memory_ending _ = false

abbrev pub lack_memory : List Event → Bool
lack_memory xs = list_any (λ (x : Event). is_memory_ending x.ending) xs

-- behind a link call that lacked memory there is no other
abbrev pub StopsAtMemory : List Event → Type 0
StopsAtMemory [] = ⊤
StopsAtMemory (x ∷ xs) = (is_memory_ending x.ending ≡ true → xs ≡ []) × StopsAtMemory xs

-- whether a link call answered MOVED
abbrev pub is_answer_ending : Ending → Bool
is_answer_ending (answers replies) = true
is_answer_ending _ = false

abbrev pub answered_moved : List Event → Bool
answered_moved xs = list_any
    (λ (x : Event). is_answer_ending x.ending && list_any is_moved (exchanges_at 0 x)) xs
