-- Transactions, computed: done, sent again behind MOVED, ASK and by EXEC's own reply, and never behind one
-- that may have been done.
use Rattle.std.specs.Prelude.{◌≡◌, ℕ, true, false, List, [], ◌∷◌, ◌++◌, map, Result, Ok, Err, codes, pos, refl}
use Rattle.std.specs.Fmt.{digits}
use Rattle.std.specs.Str.{is_utf8, chars}
use lib.Utf8.{encode}
use Rattle.resp_core.specs.Trees.{Tree, array, int, nil, no_trees, okay, server_error, simple}
use Rattle.resp_core.specs.Errors.{Refusal, at_position, by_cause, by_server, server_kind}
use Rattle.resp_core.specs.Parts.{first_error}
use Rattle.resp_core.specs.declared.errors.redis_error.Cause.TheVariants.{Io, NoLink, NoNode}
use Rattle.resp_args.specs.Command.{Command}
use Rattle.cluster_routing.specs.Address.{Address}
use Rattle.cluster_routing.specs.Combine.{array_of}
use Rattle.cluster_routing.specs.Examples.{first_node as n1, second_node as n2}
use Rattle.cluster_routing.specs.HashSlot.{hash_slot}
use Rattle.cluster_routing.specs.Routing.{destination}
use Rattle.cluster_routing.specs.Split.{splitting_of}
use Rattle.cluster_routing.specs.Table.{rule_of, table}
use Rattle.stream_commands.specs.Commands.{plain_command}
use Rattle.cluster_calls.specs.Links.Log.{Exchange}
use Rattle.cluster_calls.specs.Links.Request.{Request, bytes_of}
use Rattle.cluster_calls.specs.Calls.OneSlot.{args_of}
use Rattle.cluster_calls.specs.Calls.Answer.{Answer, Value, answer_of}
use Rattle.cluster_calls.specs.Calls.Call.{Transaction}
use Rattle.cluster_calls.specs.Calls.Legal.{IsLegalCall}
use Rattle.cluster_calls.specs.Calls.Parts.{result_then}
use Rattle.cluster_calls.specs.Calls.Plan.{Dispatch, plan}
use Rattle.cluster_calls.specs.Calls.Transactions.{attempt}
use Rattle.cluster_calls.specs.WholeCalls.Base.{a_fault, client, error, error_text, log_over, moved_to_n2, ask_n2, on_n1}

abbrev pub commands : List Command
commands = map plain_command ((codes "SET" ∷ codes "a" ∷ codes "1" ∷ []) ∷ (codes "INCR" ∷ codes "a" ∷ [])
    ∷ [])

-- an attempt at a node, and one behind ASKING
abbrev pub at_node : Address → List Request
at_node node = attempt (record { node = node; asking = false }) (args_of commands)

abbrev pub behind_asking : Address → List Request
behind_asking node = attempt (record { node = node; asking = true }) (args_of commands)

abbrev pub queued : Tree
queued = simple (codes "QUEUED")

abbrev pub ran : Tree
ran = array_of (okay ∷ int (pos 2) ∷ [])

abbrev pub moved : Tree
moved = server_error moved_to_n2

abbrev pub asks : Tree
asks = server_error ask_n2

abbrev pub aborted : Tree
aborted = error (codes "EXECABORT") (codes "x")

abbrev pub answer : ℕ → List Exchange → Result Answer Refusal
answer budget xs = answer_of (on_n1 budget) [] a_fault (Transaction commands) xs

-- the log is legal, and this is its answer
abbrev pub Answers : ℕ → List Exchange → Result Answer Refusal → Type 0
Answers budget xs told = IsLegalCall (on_n1 budget) [] (Transaction commands) xs × (answer budget xs ≡ told)

-- ---- done

abbrev pub done_log : List Exchange
done_log = log_over (okay ∷ queued ∷ queued ∷ ran ∷ []) [] (at_node n1)

pub the_array_of_one_attempt_answers : Answers 1 done_log (Ok (Value ran))
unfolding destination rule_of table hash_slot splitting_of digits first_error is_utf8 chars encode server_kind
the_array_of_one_attempt_answers = ((refl, refl), refl)

-- errors inside the array are of single commands, and a MOVED among them is not followed
abbrev pub moved_inside : Tree
moved_inside = array_of (okay ∷ moved ∷ [])

pub an_error_inside_is_no_redirect_and_in_the_answer : Answers 1
    (log_over (okay ∷ queued ∷ queued ∷ moved_inside ∷ []) [] (at_node n1)) (Ok (Value moved_inside))
unfolding destination rule_of table hash_slot splitting_of digits first_error is_utf8 chars encode server_kind
an_error_inside_is_no_redirect_and_in_the_answer = ((refl, refl), refl)

-- ---- MOVED, and then done

abbrev pub moved_log : List Exchange
moved_log = log_over (okay ∷ moved ∷ moved ∷ aborted ∷ []) (okay ∷ queued ∷ queued ∷ ran ∷ [])
    (at_node n1 ++ at_node n2)

pub moved_is_followed_and_the_second_attempt_answers : Answers 1 moved_log (Ok (Value ran))
unfolding destination rule_of table hash_slot splitting_of digits first_error is_utf8 chars encode server_kind
moved_is_followed_and_the_second_attempt_answers = ((refl, refl), refl)

-- ---- ASK, and then done: ASKING goes before MULTI

abbrev pub ask_log : List Exchange
ask_log = log_over (okay ∷ queued ∷ asks ∷ aborted ∷ []) (okay ∷ okay ∷ queued ∷ queued ∷ ran ∷ [])
    (at_node n1 ++ behind_asking n2)

pub ask_is_followed_and_the_attempt_behind_asking_answers : Answers 1 ask_log (Ok (Value ran))
unfolding destination rule_of table hash_slot splitting_of digits first_error is_utf8 chars encode server_kind
ask_is_followed_and_the_attempt_behind_asking_answers = ((refl, refl), refl)

abbrev pub get_behind_asking : List Request
get_behind_asking = attempt (record { node = n2; asking = true }) ((codes "GET" ∷ codes "a" ∷ []) ∷ [])

pub asking_goes_before_multi : bytes_of get_behind_asking
    ≡ codes "*1\r\n$6\r\nASKING\r\n*1\r\n$5\r\nMULTI\r\n*2\r\n$3\r\nGET\r\n$1\r\na\r\n*1\r\n$4\r\nEXEC\r\n"
unfolding digits
asking_goes_before_multi = refl

-- ---- EXEC itself MOVED

abbrev pub exec_moved_log : List Exchange
exec_moved_log = log_over (okay ∷ queued ∷ queued ∷ moved ∷ []) (okay ∷ queued ∷ queued ∷ ran ∷ [])
    (at_node n1 ++ at_node n2)

pub moved_by_exec_is_followed : IsLegalCall (on_n1 1) [] (Transaction commands) exec_moved_log
unfolding destination rule_of table hash_slot splitting_of digits first_error is_utf8 chars encode server_kind
moved_by_exec_is_followed = (refl, refl)

-- ---- MULTI refused: the commands were done one by one, and EXEC may say EXECABORT all the same

abbrev pub refused : Tree
refused = error (codes "NOPERM") (codes "x")

abbrev pub unbegun_log : List Exchange
unbegun_log = log_over (refused ∷ okay ∷ moved ∷ aborted ∷ []) [] (at_node n1)

pub without_multi_nothing_is_sent_again_and_its_error_is_told : Answers 1 unbegun_log
    (Err (by_server (error_text (codes "NOPERM") (codes "x"))))
unfolding destination rule_of table hash_slot splitting_of digits first_error is_utf8 chars encode server_kind
without_multi_nothing_is_sent_again_and_its_error_is_told = ((refl, refl), refl)

-- ---- EXEC's reply is lost: it may have been done

abbrev pub lost_log : List Exchange
lost_log = log_over (okay ∷ moved ∷ queued ∷ []) [] (at_node n1)

pub without_exec_nothing_is_sent_again_and_the_fault_is_told : Answers 1 lost_log (Err (by_cause Io))
unfolding destination rule_of table hash_slot splitting_of digits first_error is_utf8 chars encode server_kind
without_exec_nothing_is_sent_again_and_the_fault_is_told = ((refl, refl), refl)

-- ---- the budget is out

abbrev pub out_log : List Exchange
out_log = log_over (okay ∷ moved ∷ moved ∷ aborted ∷ []) [] (at_node n1)

pub without_budget_nothing_is_sent_again_and_moved_is_told : Answers 0 out_log (Err (by_server moved_to_n2))
unfolding destination rule_of table hash_slot splitting_of digits first_error is_utf8 chars encode server_kind
without_budget_nothing_is_sent_again_and_moved_is_told = (refl, refl)

-- ---- nil, and a node without a link

pub nil_answers : answer 1 (log_over (okay ∷ queued ∷ queued ∷ nil ∷ []) [] (at_node n1)) ≡ Ok (Value nil)
unfolding destination rule_of table hash_slot splitting_of digits first_error is_utf8 chars encode server_kind
nil_answers = refl

pub an_unknown_node_has_no_link : answer 1
    (log_over (okay ∷ error (codes "MOVED") (codes "15495 n9:1") ∷ queued ∷ aborted ∷ []) [] (at_node n1))
    ≡ Err (by_cause NoLink)
unfolding destination rule_of table hash_slot splitting_of digits first_error is_utf8 chars encode server_kind
an_unknown_node_has_no_link = refl

-- ---- the checks before the first byte

abbrev pub nodes_in : Result (List Dispatch) Refusal → Result (List Address) Refusal
nodes_in plans = result_then plans (λ ds. Ok (map (λ (d : Dispatch). d.node) ds))

abbrev pub planned : List (List (List ℕ)) → Result (List Address) Refusal
planned all = nodes_in (plan (on_n1 1) [] (Transaction (map plain_command all)))

abbrev pub set_a : List (List ℕ)
set_a = codes "SET" ∷ codes "a" ∷ codes "1" ∷ []

pub another_slot_is_refused : planned (set_a ∷ set_a ∷ (codes "GET" ∷ codes "b" ∷ []) ∷ [])
    ≡ Err (at_position 2)
unfolding destination rule_of table hash_slot splitting_of digits
another_slot_is_refused = refl

pub a_blocking_word_is_refused : planned (set_a ∷ (codes "blpop" ∷ codes "a" ∷ codes "0" ∷ []) ∷ [])
    ≡ Err (at_position 1)
unfolding destination rule_of table hash_slot splitting_of digits
a_blocking_word_is_refused = refl

pub a_watch_is_refused : planned ((codes "WATCH" ∷ codes "a" ∷ []) ∷ set_a ∷ [])
    ≡ Err (at_position 0)
unfolding destination rule_of table hash_slot splitting_of digits
a_watch_is_refused = refl

pub a_blocking_read_is_refused : planned
    ((codes "XREAD" ∷ codes "block" ∷ codes "5" ∷ codes "STREAMS" ∷ codes "a" ∷ codes "0" ∷ []) ∷ [])
    ≡ Err (at_position 0)
unfolding destination rule_of table hash_slot splitting_of digits
a_blocking_read_is_refused = refl

pub another_read_is_none : planned
    ((codes "XREAD" ∷ codes "STREAMS" ∷ codes "a" ∷ codes "BLOCK" ∷ []) ∷ []) ≡ Ok (n1 ∷ n1 ∷ n1 ∷ [])
unfolding destination rule_of table hash_slot splitting_of digits
another_read_is_none = refl

pub without_a_map_there_is_no_node : plan (client 1 [] (n1 ∷ [])) [] (Transaction commands)
    ≡ Err (by_cause NoNode)
unfolding destination rule_of table hash_slot splitting_of digits
without_a_map_there_is_no_node = refl

pub no_commands_answer_an_empty_array : answer_of (client 1 [] []) [] a_fault (Transaction []) []
    ≡ Ok (Value (array no_trees))
no_commands_answer_an_empty_array = refl
