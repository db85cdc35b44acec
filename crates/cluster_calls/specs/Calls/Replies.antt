-- One reply from those of a call's requests.
use Rattle.std.specs.Prelude.{ℕ, if◌then◌else◌, List, [], ◌∷◌, map, filter, ◌==◌, Option, Some, None, option_and_then, unwrap_or, Result, Ok, Err}
use Rattle.resp_core.specs.Trees.{Tree, array, nil, no_trees}
use Rattle.resp_core.specs.Errors.{Refusal, by_server}
use Rattle.resp_core.specs.Parts.{first_error}
use Rattle.resp_args.specs.Packed.{sent}
use Rattle.resp_args.specs.Command.{Command}
use Rattle.resp_args.specs.declared.cmd.Arg.TheVariants.{Simple}
use Rattle.cluster_routing.specs.Address.{Address}
use Rattle.cluster_routing.specs.Parts.{Tuple, tuple_slot}
use Rattle.cluster_routing.specs.Routing.{Destination, to_route, to_all_nodes, to_all_primaries, destination}
use Rattle.cluster_routing.specs.declared.policy.ResponsePolicy.{ResponsePolicy}
use Rattle.cluster_routing.specs.Lists.{draw}
use Rattle.cluster_routing.specs.Split.{Split, split_of}
use Rattle.cluster_routing.specs.Combine.{PartReply, combine, array_of}
use Rattle.cluster_routing.specs.Policies.{Outcome, bad_reply, combine_outcomes}
use Rattle.cluster_calls.specs.Links.Log.{Exchange, is_answered, last_of}
use Rattle.cluster_calls.specs.Calls.Call.{Entry}
use Rattle.cluster_calls.specs.Links.Faults.{LinkFault, refusal_by_fault}

-- the slot that arguments name: that of the first key of a split command, else that of the route
abbrev pub first_tuple_slot : List Tuple → ℕ
first_tuple_slot [] = 0
first_tuple_slot (t ∷ ts) = tuple_slot t

abbrev pub route_slot : Option Destination → ℕ
route_slot (Some (to_route route)) = route.slot
route_slot _ = 0

abbrev pub slot_by : List (List ℕ) → Option Split → ℕ
slot_by args (Some s) = first_tuple_slot s.tuples
slot_by args None = route_slot (destination (map (λ bytes. Simple bytes) args) [])

abbrev pub args_slot : List (List ℕ) → ℕ
args_slot args = slot_by args (split_of args)

abbrev pub exchange_slot : Exchange → ℕ
exchange_slot x = args_slot x.request.args

abbrev pub reply_or_nil : Exchange → Tree
reply_or_nil x = unwrap_or x.reply nil

-- ---- one command

-- the answers of the parts, each with its slot
abbrev pub part_replies : List Exchange → List PartReply
part_replies xs = map (λ x. record { slot = exchange_slot x; tree = reply_or_nil x }) (filter is_answered xs)

abbrev pub reply_by_split : Option Split → List PartReply → Option Tree
reply_by_split (Some s) replies = combine s replies
reply_by_split None (r ∷ []) = Some r.tree
reply_by_split None _ = None

-- the reply to a command from those of its parts
abbrev pub reply_of_parts : List (List ℕ) → List PartReply → Option Tree
reply_of_parts args replies = reply_by_split (split_of args) replies

-- ---- one node

-- the reply to the only request
abbrev pub only_reply : List Exchange → Option Tree
only_reply xs = option_and_then (λ (x : Exchange). x.reply) (last_of xs)

-- ---- transactions

-- the reply to the last request, which is EXEC; no commands are answered by an empty array
abbrev pub transaction_reply : List Command → List Exchange → Option Tree
transaction_reply [] xs = Some (array no_trees)
transaction_reply (c ∷ cs) xs = only_reply xs

-- ---- pipelines

-- the exchanges of a pipeline in the order of its commands: for each command the next one with its slot
abbrev pub with_slot : ℕ → List Exchange → List Exchange
with_slot slot xs = filter (λ x. slot == exchange_slot x) xs

abbrev pub in_pipeline_order : List Entry → List Exchange → List Exchange
in_pipeline_order entries xs = draw (map (λ (e : Entry). args_slot (sent e.command)) entries)
    (λ slot. with_slot slot xs)

-- the trees at the positions that are not ignored
abbrev pub not_ignored : List Entry → List Tree → List Tree
not_ignored (e ∷ es) (t ∷ ts) = if e.ignored then not_ignored es ts else t ∷ not_ignored es ts
not_ignored _ _ = []

abbrev pub pipeline_reply : List Entry → List Exchange → Tree
pipeline_reply entries xs = array_of (not_ignored entries (map reply_or_nil (in_pipeline_order entries xs)))

-- ---- several nodes

-- a reply that holds an error counts as a refusal, and so does a link's fault
abbrev pub unless_error : Tree → Option Refusal → Result Tree Refusal
unless_error tree None = Ok tree
unless_error tree (Some refusal) = Err refusal

abbrev pub reply_error : Tree → Option Refusal
reply_error tree = option_and_then (λ e. Some (by_server e)) (first_error tree)

abbrev pub outcome_by : LinkFault → Option Tree → Result Tree Refusal
outcome_by fault None = Err (refusal_by_fault fault)
outcome_by fault (Some tree) = unless_error tree (reply_error tree)

abbrev pub outcomes : (Address → LinkFault) → List Exchange → List Outcome
outcomes faults xs = map (λ (x : Exchange). (x.request.node, outcome_by (faults x.request.node) x.reply)) xs

abbrev pub policy_in : Option Destination → Option ResponsePolicy
policy_in (Some (to_all_nodes policy)) = policy
policy_in (Some (to_all_primaries policy)) = policy
policy_in _ = None

abbrev pub reply_by_outcomes : Option ResponsePolicy → List Outcome → Result Tree Refusal
reply_by_outcomes None os = Err bad_reply
reply_by_outcomes (Some policy) os = combine_outcomes policy os

-- the reply to a command that went to several nodes
abbrev pub several_reply : (Address → LinkFault) → Command → List Exchange → Result Tree Refusal
several_reply faults command xs = reply_by_outcomes (policy_in (destination command.args []))
    (outcomes faults xs)
