-- Why a call that was sent is refused, before its replies are made one.
use Rattle.std.specs.Prelude.{ℕ, suc, ◌-◌, if◌then◌else◌, List, [], ◌∷◌, length, Option, Some, None, option_and_then, Result, Ok, Err}
use Rattle.resp_core.specs.Trees.{Tree, ErrorText}
use Rattle.resp_core.specs.Errors.{Refusal, by_cause, by_servers}
use Rattle.resp_core.specs.Parts.{first_error}
use Rattle.resp_core.specs.declared.errors.redis_error.Cause.TheVariants.{NoLink}
use Rattle.cluster_routing.specs.Address.{Address}
use Rattle.cluster_calls.specs.Links.Log.{Exchange, is_unanswered, last_of, behind_answers}
use Rattle.cluster_calls.specs.Calls.Task.{Task, slot_map_of, one_command, pipeline_of, positions_of, several_nodes, one_node, read_of, transaction_of}
use Rattle.cluster_calls.specs.Calls.Plan.{Client}
use Rattle.cluster_calls.specs.Calls.Redirects.{Next, Lost, next_of}
use Rattle.cluster_calls.specs.Calls.Transactions.{commands_answer}
use Rattle.cluster_calls.specs.Links.Faults.{LinkFault, refusal_by_fault}
use Rattle.cluster_calls.specs.Calls.Replies.{reply_or_nil, reply_error, in_pipeline_order, several_reply}

abbrev pub refusal_in : {A : Type 0} → Result A Refusal → Option Refusal
refusal_in (Ok a) = None
refusal_in (Err refusal) = Some refusal

-- ---- one command

-- the refusal by a reply that is not followed: its redirect leads to no open link, or it is or holds an error
abbrev pub stop_refusal : Next → Tree → Option Refusal
stop_refusal Lost tree = Some (by_cause NoLink)
stop_refusal _ tree = reply_error tree

-- why a part whose last reply this is was not answered, after so many requests
abbrev pub last_refusal : Client → ℕ → LinkFault → Option Tree → Option Refusal
last_refusal client count fault None = Some (refusal_by_fault fault)
last_refusal client count fault (Some tree) = stop_refusal
    (next_of client.links (suc client.settings.budget - count) (Some tree)) tree

-- by the requests of the part that was not answered
abbrev pub part_refusal : Client → (Address → LinkFault) → List Exchange → Option Refusal
part_refusal client faults xs = option_and_then
    (λ (x : Exchange). last_refusal client (length xs) (faults x.request.node) x.reply) (last_of xs)

-- ---- refreshes, and commands to one node: no redirect is followed, and each error in the reply refuses

abbrev pub direct_refusal : LinkFault → Option Tree → Option Refusal
direct_refusal fault None = Some (refusal_by_fault fault)
direct_refusal fault (Some tree) = reply_error tree

-- by the last request, which is the only one
abbrev pub only_refusal : (Address → LinkFault) → List Exchange → Option Refusal
only_refusal faults xs = option_and_then
    (λ (x : Exchange). direct_refusal (faults x.request.node) x.reply) (last_of xs)

-- ---- pipelines: the first link's fault, else all positions whose reply holds an error, each with its first

abbrev pub with_error : ℕ → Option ErrorText → List (ℕ × ErrorText) → List (ℕ × ErrorText)
with_error position None later = later
with_error position (Some e) later = (position, e) ∷ later

abbrev pub errors_from : ℕ → List Exchange → List (ℕ × ErrorText)
errors_from position [] = []
errors_from position (x ∷ xs) = with_error position (first_error (reply_or_nil x))
    (errors_from (suc position) xs)

abbrev pub errors_refusal : List (ℕ × ErrorText) → Option Refusal
errors_refusal [] = None
errors_refusal (e ∷ es) = Some (by_servers e es)

abbrev pub pipeline_refusal : (Address → LinkFault) → List Exchange → List (ℕ × ErrorText) → Option Refusal
pipeline_refusal faults [] errors = errors_refusal errors
pipeline_refusal faults (x ∷ xs) errors = if is_unanswered x
    then Some (refusal_by_fault (faults x.request.node)) else pipeline_refusal faults xs errors

-- ---- all

abbrev pub sent_refusal : Client → (Address → LinkFault) → Task → List Exchange → Option Refusal
sent_refusal client faults (slot_map_of node) xs = only_refusal faults xs
sent_refusal client faults (one_command command number order) xs = part_refusal client faults
    (behind_answers xs)
sent_refusal client faults (pipeline_of entries) xs = pipeline_refusal faults xs
    (errors_from 0 (in_pipeline_order entries xs))
sent_refusal client faults (positions_of entries) xs = None
sent_refusal client faults (several_nodes command) xs = refusal_in (several_reply faults command xs)
sent_refusal client faults (one_node node command) xs = only_refusal faults xs
sent_refusal client faults (read_of options streams) xs = part_refusal client faults (behind_answers xs)
sent_refusal client faults (transaction_of commands) xs = refusal_in
    (commands_answer client faults commands xs)
