-- Redirects of whole calls, computed: ASKING, budgets, what is no redirect; and picks of a strategy.
use Rattle.std.specs.Prelude.{◌≡◌, ℕ, true, false, if◌then◌else◌, List, [], ◌∷◌, Option, Some, Ok, codes, refl}
use Rattle.std.specs.Fmt.{digits}
use Rattle.std.specs.Str.{is_utf8, chars}
use lib.Utf8.{encode}
use Rattle.resp_core.specs.Trees.{Tree, nil, okay, server_error}
use Rattle.resp_core.specs.Errors.{Refusal, by_cause, by_server, server_kind}
use Rattle.resp_core.specs.Parts.{first_error}
use Rattle.resp_core.specs.declared.errors.redis_error.Cause.TheVariants.{NoLink}
use Rattle.cluster_routing.specs.Address.{Address, same_address}
use Rattle.cluster_routing.specs.Candidates.{any_node, replicas_only}
use Rattle.cluster_routing.specs.Choice.{Strategy}
use Rattle.cluster_routing.specs.HashSlot.{hash_slot}
use Rattle.cluster_routing.specs.Table.{rule_of, table}
use Rattle.cluster_routing.specs.Routing.{destination}
use Rattle.cluster_routing.specs.Examples.{first_node as n1, second_node as n2}
use Rattle.cluster_calls.specs.Links.Request.{bytes_of}
use Rattle.cluster_routing.specs.Split.{splitting_of}
use Rattle.cluster_routing.specs.Combine.{array_of}
use Rattle.cluster_calls.specs.Links.Log.{Exchange, exchanges, replies}
use Rattle.cluster_calls.specs.Calls.Call.{Call}
use Rattle.cluster_calls.specs.Calls.Plan.{Client, plan}
use Rattle.cluster_calls.specs.Calls.Picks.{ArePicks}
use Rattle.cluster_calls.specs.Calls.Legal.{IsLegalCall}
use Rattle.cluster_calls.specs.Calls.Answer.{Value, answer_of, kind}
use Rattle.cluster_calls.specs.Calls.After.{flag_after}
use Rattle.cluster_calls.specs.WholeCalls.Base.{on_halves, on_n1, a_fault, query, plain, behind_asking, goes_to, log_over, answer_on, one, error, error_text, moved_to_n1, moved_to_n2, ask_n2}

abbrev pub get : List (List ℕ)
get = codes "GET" ∷ codes "a" ∷ []

abbrev pub get_a : Call
get_a = query get

-- ---- behind ASKING the second reply answers, whatever the first is

abbrev pub asked_log : Tree → List Exchange
asked_log first = log_over (server_error ask_n2 ∷ []) (first ∷ one ∷ [])
    (plain n1 get ∷ behind_asking n2 get ∷ [])

pub ask_is_legal : IsLegalCall (on_n1 1) [] get_a (asked_log okay)
unfolding destination rule_of table hash_slot splitting_of digits first_error is_utf8 chars encode server_kind
ask_is_legal = (refl, (refl, refl))

pub ask_answers : answer_on (on_n1 1) get_a (asked_log okay) ≡ Ok (Value one)
unfolding destination rule_of table hash_slot splitting_of digits first_error is_utf8 chars encode server_kind
ask_answers = refl

pub an_error_to_asking_is_passed_over : answer_on (on_n1 1) get_a
    (asked_log (error (codes "ERR") (codes "x"))) ≡ Ok (Value one)
unfolding destination rule_of table hash_slot splitting_of digits first_error is_utf8 chars encode server_kind
an_error_to_asking_is_passed_over = refl

pub ask_wants_no_refresh : flag_after false get_a (asked_log okay) ≡ false
unfolding server_kind first_error
ask_wants_no_refresh = refl

pub asking_goes_first : bytes_of (behind_asking n2 get ∷ [])
    ≡ codes "*1\r\n$6\r\nASKING\r\n*2\r\n$3\r\nGET\r\n$1\r\na\r\n"
unfolding digits
asking_goes_first = refl

-- ---- what is not followed

abbrev pub stays_log : Tree → List Exchange
stays_log reply = log_over (reply ∷ []) [] (plain n1 get ∷ [])

abbrev pub kind_of_reply : ℕ → Tree → Option Refusal
kind_of_reply budget reply = kind (on_n1 budget) [] a_fault get_a (stays_log reply)

pub without_budget_moved_refuses : kind_of_reply 0 (server_error moved_to_n2) ≡ Some (by_server moved_to_n2)
unfolding destination rule_of table hash_slot splitting_of digits first_error is_utf8 chars encode server_kind
without_budget_moved_refuses = refl

pub without_budget_one_request_is_legal : IsLegalCall (on_n1 0) [] get_a
    (stays_log (server_error moved_to_n2))
unfolding destination rule_of table hash_slot splitting_of digits first_error is_utf8 chars encode server_kind
without_budget_one_request_is_legal = (refl, refl)

pub moved_wants_a_refresh_all_the_same : flag_after false get_a (stays_log (server_error moved_to_n2)) ≡ true
unfolding server_kind
moved_wants_a_refresh_all_the_same = refl

pub without_host_moved_refuses : kind_of_reply 1 (error (codes "MOVED") (codes "15495 :7002"))
    ≡ Some (by_server (error_text (codes "MOVED") (codes "15495 :7002")))
unfolding destination rule_of table hash_slot splitting_of digits first_error is_utf8 chars encode server_kind
without_host_moved_refuses = refl

pub an_unknown_node_has_no_link : kind_of_reply 1 (error (codes "MOVED") (codes "15495 n9:1"))
    ≡ Some (by_cause NoLink)
unfolding destination rule_of table hash_slot splitting_of digits first_error is_utf8 chars encode server_kind
an_unknown_node_has_no_link = refl

pub no_number_refuses : kind_of_reply 1 (error (codes "MOVED") (codes "99999 n2:7002"))
    ≡ Some (by_server (error_text (codes "MOVED") (codes "99999 n2:7002")))
unfolding destination rule_of table hash_slot splitting_of digits first_error is_utf8 chars encode server_kind
no_number_refuses = refl

pub moved_inside_is_an_error : kind on_halves [] a_fault get_a
    (log_over [] (array_of (server_error moved_to_n1 ∷ []) ∷ []) (plain n2 get ∷ []))
    ≡ Some (by_server moved_to_n1)
unfolding destination rule_of table hash_slot splitting_of digits first_error is_utf8 chars encode server_kind
moved_inside_is_an_error = refl

pub moved_inside_wants_no_refresh : flag_after false get_a
    (log_over [] (array_of (server_error moved_to_n1 ∷ []) ∷ []) (plain n2 get ∷ [])) ≡ false
unfolding server_kind first_error
moved_inside_wants_no_refresh = refl

-- ---- a number that is no slot, with a word behind the address

pub later_words_say_nothing : IsLegalCall (on_n1 1) [] get_a
    (log_over (error (codes "MOVED") (codes "20000 n2:7002 more") ∷ []) (nil ∷ [])
    (plain n1 get ∷ plain n2 get ∷ []))
unfolding destination rule_of table hash_slot splitting_of digits first_error is_utf8 chars encode server_kind
later_words_say_nothing = (refl, (refl, refl))

-- ---- ASK, then MOVED: the third request is plain again

abbrev pub twice_log : List Exchange
twice_log = log_over (server_error ask_n2 ∷ one ∷ []) (okay ∷ server_error moved_to_n1 ∷ [])
    (plain n1 get ∷ behind_asking n2 get ∷ plain n1 get ∷ [])

pub two_redirects_are_legal : IsLegalCall (on_n1 2) [] get_a twice_log
unfolding destination rule_of table hash_slot splitting_of digits first_error is_utf8 chars encode server_kind
two_redirects_are_legal = (refl, (refl, (refl, refl)))

pub two_redirects_answer : answer_on (on_n1 2) get_a twice_log ≡ Ok (Value one)
unfolding destination rule_of table hash_slot splitting_of digits first_error is_utf8 chars encode server_kind
two_redirects_answer = refl

pub two_redirects_want_a_refresh : flag_after false get_a twice_log ≡ true
unfolding server_kind first_error
two_redirects_want_a_refresh = refl

-- ---- a strategy picks among a primary and its replicas

abbrev pub n3 : Address
n3 = record { host = codes "n3"; port = 7003 }

abbrev pub n4 : Address
n4 = record { host = codes "n4"; port = 7004 }

abbrev pub with_replicas : Client
with_replicas = record {
  settings = record { budget = 1; read_only = codes "GET" ∷ [] };
  entries = (16383, (0, record { primary = n1; replicas = n3 ∷ n4 ∷ [] })) ∷ [];
  links = n1 ∷ n2 ∷ n3 ∷ n4 ∷ [];
}

abbrev pub only : Address → Strategy
only node (any_node slot nodes) a = same_address a node
only node (replicas_only slot replicas) a = false

pub a_pick_is_gone_to : plan with_replicas (n4 ∷ []) get_a ≡ Ok (goes_to n4 get ∷ [])
unfolding destination rule_of table hash_slot splitting_of digits
a_pick_is_gone_to = refl

pub another_pick_is_gone_to : plan with_replicas (n3 ∷ []) get_a ≡ Ok (goes_to n3 get ∷ [])
unfolding destination rule_of table hash_slot splitting_of digits
another_pick_is_gone_to = refl

pub without_a_pick_the_primary_is : plan with_replicas [] get_a ≡ Ok (goes_to n1 get ∷ [])
unfolding destination rule_of table hash_slot splitting_of digits
without_a_pick_the_primary_is = refl

pub the_pick_is_left_out_of_no_call : ArePicks (Some (only n4)) with_replicas get_a [] → ⊥
unfolding destination rule_of table hash_slot splitting_of digits
the_pick_is_left_out_of_no_call = λ h. absurd h.0

pub a_write_has_no_pick : ArePicks (Some (only n4)) with_replicas
    (query (codes "SET" ∷ codes "a" ∷ codes "1" ∷ [])) []
unfolding destination rule_of table hash_slot splitting_of digits
a_write_has_no_pick = (tt, refl)

-- n4 sends the request back to n1
abbrev pub back_log : List Exchange
back_log = exchanges
    (replies (λ node. if same_address node n4 then server_error moved_to_n1 ∷ []
    else (if same_address node n1 then one ∷ [] else []))) 0 (plain n4 get ∷ plain n1 get ∷ [])

pub a_replica_may_redirect : IsLegalCall with_replicas (n4 ∷ []) get_a back_log
unfolding destination rule_of table hash_slot splitting_of digits first_error is_utf8 chars encode server_kind
a_replica_may_redirect = (refl, (refl, refl))

pub a_redirect_of_a_replica_answers : answer_of with_replicas (n4 ∷ []) a_fault get_a back_log
    ≡ Ok (Value one)
unfolding destination rule_of table hash_slot splitting_of digits first_error is_utf8 chars encode server_kind
a_redirect_of_a_replica_answers = refl
