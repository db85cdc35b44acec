-- What the examples are made of: two nodes, slot maps, commands, and what was taken from the nodes.
use Rattle.std.specs.Prelude.{ℕ, true, false, if◌then◌else◌, List, [], ◌∷◌, Some, codes, pos, Result}
use Rattle.resp_core.specs.Trees.{Tree, ErrorText, server_error, bulk, int}
use Rattle.resp_core.specs.Errors.{Refusal}
use Rattle.cluster_routing.specs.Address.{Address, same_address}
use Rattle.cluster_routing.specs.SlotMap.{SlotEntries}
use Rattle.cluster_routing.specs.Examples.{first_node as n1, second_node as n2, halves, alone}
use Rattle.cluster_calls.specs.Links.Request.{Request}
use Rattle.cluster_calls.specs.Links.Log.{Exchange, exchanges, replies}
use Rattle.cluster_calls.specs.Calls.Call.{Call, Query}
use Rattle.stream_commands.specs.Commands.{plain_command}
use Rattle.cluster_calls.specs.Calls.Plan.{Client, Dispatch}
use Rattle.cluster_calls.specs.Links.Faults.{LinkFault, io}
use Rattle.cluster_calls.specs.Calls.Answer.{Answer, answer_of}

abbrev pub both : List Address
both = n1 ∷ n2 ∷ []

-- all slots at n1
abbrev pub all_at_n1 : SlotEntries
all_at_n1 = (16383, (0, alone n1)) ∷ []

abbrev pub client : ℕ → SlotEntries → List Address → Client
client budget entries links = record
    { settings = record { budget = budget; read_only = [] }; entries = entries; links = links }

-- slots by halves at two linked nodes, and all slots at n1 with two linked nodes
abbrev pub on_halves : Client
on_halves = client 1 halves both

abbrev pub on_n1 : ℕ → Client
on_n1 budget = client budget all_at_n1 both

abbrev pub a_fault : Address → LinkFault
a_fault node = io

-- what was taken from n1 and from n2
abbrev pub taken : List Tree → List Tree → Address → List Tree
taken first second node = if same_address node n1 then first
    else (if same_address node n2 then second else [])

-- words as a call and as requests
abbrev pub query : List (List ℕ) → Call
query args = Query (plain_command args) 0

abbrev pub plain : Address → List (List ℕ) → Request
plain node args = record { node = node; args = args; asking = false }

abbrev pub behind_asking : Address → List (List ℕ) → Request
behind_asking node args = record { node = node; args = args; asking = true }

abbrev pub goes_to : Address → List (List ℕ) → Dispatch
goes_to node args = record { node = node; args = args }

-- the requests with their replies
abbrev pub log_over : List Tree → List Tree → List Request → List Exchange
log_over first second requests = exchanges (replies (taken first second)) 0 requests

abbrev pub answer_on : Client → Call → List Exchange → Result Answer Refusal
answer_on client call xs = answer_of client [] a_fault call xs

abbrev pub w : List ℕ → List (List ℕ)
w word = word ∷ []

-- replies
abbrev pub text : List ℕ → Tree
text t = bulk t

abbrev pub one : Tree
one = int (pos 1)

abbrev pub error_text : List ℕ → List ℕ → ErrorText
error_text code detail = record { code = code; detail = Some detail }

abbrev pub error : List ℕ → List ℕ → Tree
error code detail = server_error (error_text code detail)

abbrev pub moved_to_n1 : ErrorText
moved_to_n1 = error_text (codes "MOVED") (codes "15495 n1:7001")

abbrev pub moved_to_n2 : ErrorText
moved_to_n2 = error_text (codes "MOVED") (codes "15495 n2:7002")

abbrev pub ask_n2 : ErrorText
ask_n2 = error_text (codes "ASK") (codes "15495 n2:7002")
