-- Whole split calls, computed: plan, legality, answer, what is kept.
use Rattle.std.specs.Prelude.{◌≡◌, ℕ, true, false, List, [], ◌∷◌, Some, Ok, Err, codes, pos, ◌^◌, ◌-◌, refl}
use Rattle.std.specs.Fmt.{digits}
use Rattle.std.specs.Str.{is_utf8, chars}
use lib.Utf8.{encode}
use Rattle.resp_core.specs.Trees.{Tree, nil, int, okay, push, invalidate, no_trees, server_error}
use Rattle.resp_core.specs.Errors.{by_cause, by_server, server_kind}
use Rattle.resp_core.specs.Parts.{first_error}
use Rattle.resp_core.specs.declared.errors.redis_error.Cause.TheVariants.{NoLink}
use Rattle.cluster_routing.specs.HashSlot.{hash_slot}
use Rattle.cluster_routing.specs.Table.{rule_of, table}
use Rattle.cluster_routing.specs.Routing.{destination}
use Rattle.cluster_routing.specs.Examples.{first_node as n1, second_node as n2, halves}
use Rattle.cluster_calls.specs.Links.Request.{bytes_of}
use Rattle.cluster_routing.specs.Split.{splitting_of}
use Rattle.cluster_routing.specs.Combine.{array_of}
use Rattle.cluster_routing.specs.Policies.{bad_reply}
use Rattle.cluster_calls.specs.Links.Log.{Exchange}
use Rattle.cluster_calls.specs.Calls.Call.{Call, Ordered}
use Rattle.stream_commands.specs.Commands.{plain_command}
use Rattle.cluster_calls.specs.Calls.Plan.{plan}
use Rattle.cluster_calls.specs.Calls.Legal.{IsLegalCall}
use Rattle.cluster_calls.specs.Calls.Answer.{Value, kind}
use Rattle.cluster_calls.specs.Calls.After.{flag_after}
use Rattle.cluster_calls.specs.OneServer.Commands.{kept}
use Rattle.cluster_calls.specs.OneServer.Operations.{RunCommand}
use Rattle.cluster_calls.specs.WholeCalls.Base.{client, on_halves, on_n1, a_fault, query, plain, goes_to, log_over, answer_on, text, one, error, error_text, moved_to_n2}

-- ---- MGET a b c d: four parts, joined in argument order

abbrev pub mget : Call
mget = query (codes "MGET" ∷ codes "a" ∷ codes "b" ∷ codes "c" ∷ codes "d" ∷ [])

abbrev pub mget_of : List ℕ → List (List ℕ)
mget_of key = codes "MGET" ∷ key ∷ []

abbrev pub item : Tree → Tree
item t = array_of (t ∷ [])

pub mget_plan : plan on_halves [] mget
    ≡ Ok (goes_to n2 (mget_of (codes "a")) ∷ goes_to n1 (mget_of (codes "b"))
    ∷ goes_to n1 (mget_of (codes "c")) ∷ goes_to n2 (mget_of (codes "d")) ∷ [])
unfolding destination rule_of table hash_slot splitting_of digits
mget_plan = refl

abbrev pub mget_log : List Exchange
mget_log = log_over (item (text (codes "2")) ∷ item (text (codes "3")) ∷ [])
    (item (text (codes "1")) ∷ item nil ∷ [])
    (plain n2 (mget_of (codes "a")) ∷ plain n1 (mget_of (codes "b")) ∷ plain n1 (mget_of (codes "c"))
    ∷ plain n2 (mget_of (codes "d")) ∷ [])

pub mget_is_legal : IsLegalCall on_halves [] mget mget_log
unfolding destination rule_of table hash_slot splitting_of digits first_error
mget_is_legal = (refl, (refl, (refl, (refl, refl))))

pub mget_answers_in_order : answer_on on_halves mget mget_log
    ≡ Ok (Value (array_of (text (codes "1") ∷ text (codes "2") ∷ text (codes "3") ∷ nil ∷ [])))
unfolding destination rule_of table hash_slot splitting_of digits first_error
mget_answers_in_order = refl

-- a push before n2's replies is no reply
pub a_push_changes_nothing : log_over (item (text (codes "2")) ∷ item (text (codes "3")) ∷ [])
    (push invalidate no_trees ∷ item (text (codes "1")) ∷ item nil ∷ [])
    (plain n2 (mget_of (codes "a")) ∷ plain n1 (mget_of (codes "b")) ∷ plain n1 (mget_of (codes "c"))
    ∷ plain n2 (mget_of (codes "d")) ∷ []) ≡ mget_log
a_push_changes_nothing = refl

-- ---- DEL a b a: a part has its tuples with repeats

abbrev pub del : List (List ℕ) → List (List ℕ)
del keys = codes "DEL" ∷ keys

abbrev pub del_aba : Call
del_aba = query (del (codes "a" ∷ codes "b" ∷ codes "a" ∷ []))

abbrev pub del_aba_log : List Exchange
del_aba_log = log_over (one ∷ []) (one ∷ [])
    (plain n2 (del (codes "a" ∷ codes "a" ∷ [])) ∷ plain n1 (del (codes "b" ∷ [])) ∷ [])

pub repeats_stay_in_their_part : IsLegalCall on_halves [] del_aba del_aba_log
unfolding destination rule_of table hash_slot splitting_of digits first_error
repeats_stay_in_their_part = (refl, (refl, refl))

pub del_aba_sums : answer_on on_halves del_aba del_aba_log ≡ Ok (Value (int (pos 2)))
unfolding destination rule_of table hash_slot splitting_of digits first_error
del_aba_sums = refl

pub del_aba_is_sent : bytes_of (plain n2 (del (codes "a" ∷ codes "a" ∷ [])) ∷ [])
    ≡ codes "*3\r\n$3\r\nDEL\r\n$1\r\na\r\n$1\r\na\r\n"
unfolding digits
del_aba_is_sent = refl

-- ---- DEL a b with a redirect between the parts

abbrev pub del_ab : Call
del_ab = query (del (codes "a" ∷ codes "b" ∷ []))

abbrev pub del_a : List (List ℕ)
del_a = del (codes "a" ∷ [])

abbrev pub del_b : List (List ℕ)
del_b = del (codes "b" ∷ [])

abbrev pub del_moved_log : List Exchange
del_moved_log = log_over (server_error moved_to_n2 ∷ one ∷ []) (one ∷ [])
    (plain n1 del_a ∷ plain n2 del_a ∷ plain n1 del_b ∷ [])

pub a_redirect_between_parts_is_legal : IsLegalCall (on_n1 1) [] del_ab del_moved_log
unfolding destination rule_of table hash_slot splitting_of digits first_error is_utf8 chars encode server_kind
a_redirect_between_parts_is_legal = (refl, (refl, (refl, refl)))

pub a_redirect_between_parts_answers : answer_on (on_n1 1) del_ab del_moved_log ≡ Ok (Value (int (pos 2)))
unfolding destination rule_of table hash_slot splitting_of digits first_error is_utf8 chars encode server_kind
a_redirect_between_parts_answers = refl

pub a_redirect_between_parts_wants_a_refresh : flag_after false del_ab del_moved_log ≡ true
unfolding server_kind
a_redirect_between_parts_wants_a_refresh = refl

-- ---- DEL a b in the order 1, 0: the first part that is refused ends the call, and what was answered counts

abbrev pub del_turned : Call
del_turned = Ordered (plain_command (del (codes "a" ∷ codes "b" ∷ []))) (1 ∷ 0 ∷ []) 0

abbrev pub del_turned_log : List Exchange
del_turned_log = log_over (one ∷ []) (error (codes "TRYAGAIN") (codes "x") ∷ [])
    (plain n1 del_b ∷ plain n2 del_a ∷ [])

pub an_order_is_kept : IsLegalCall on_halves [] del_turned del_turned_log
unfolding destination rule_of table hash_slot splitting_of digits first_error server_kind
an_order_is_kept = (refl, (refl, refl))

pub a_refused_part_refuses : kind on_halves [] a_fault del_turned del_turned_log
    ≡ Some (by_server (error_text (codes "TRYAGAIN") (codes "x")))
unfolding destination rule_of table hash_slot splitting_of digits first_error server_kind
a_refused_part_refuses = refl

pub the_answered_part_counts : kept (λ place. false) del_turned del_turned_log ≡ RunCommand del_b ∷ []
unfolding destination rule_of table hash_slot splitting_of digits first_error server_kind
the_answered_part_counts = refl

-- the later part is not sent behind a refused one
pub nothing_goes_behind_a_refusal : IsLegalCall on_halves [] del_ab
    (log_over (one ∷ []) (error (codes "TRYAGAIN") (codes "x") ∷ []) (plain n2 del_a ∷ plain n1 del_b ∷ []))
    → ⊥
unfolding destination rule_of table hash_slot splitting_of digits first_error server_kind
nothing_goes_behind_a_refusal = λ h. let (a, b) = h in cc

-- ---- replies that make none

pub a_sum_past_the_bound_is_bad : kind on_halves [] a_fault del_ab
    (log_over (one ∷ []) (int (pos (2 ^ 63 - 1)) ∷ []) (plain n2 del_a ∷ plain n1 del_b ∷ []))
    ≡ Some bad_reply
unfolding destination rule_of table hash_slot splitting_of digits first_error
a_sum_past_the_bound_is_bad = refl

abbrev pub mset : Call
mset = query (codes "MSET" ∷ codes "a" ∷ codes "1" ∷ codes "b" ∷ codes "2" ∷ [])

abbrev pub mset_of : List ℕ → List ℕ → List (List ℕ)
mset_of key value = codes "MSET" ∷ key ∷ value ∷ []

pub a_number_for_okay_is_bad : kind on_halves [] a_fault mset
    (log_over (one ∷ []) (okay ∷ [])
    (plain n2 (mset_of (codes "a") (codes "1")) ∷ plain n1 (mset_of (codes "b") (codes "2")) ∷ []))
    ≡ Some bad_reply
unfolding destination rule_of table hash_slot splitting_of digits first_error
a_number_for_okay_is_bad = refl

pub mset_answers_okay : answer_on on_halves mset
    (log_over (okay ∷ []) (okay ∷ [])
    (plain n2 (mset_of (codes "a") (codes "1")) ∷ plain n1 (mset_of (codes "b") (codes "2")) ∷ []))
    ≡ Ok (Value okay)
unfolding destination rule_of table hash_slot splitting_of digits first_error
mset_answers_okay = refl

pub a_long_reply_is_bad : kind on_halves [] a_fault (query (codes "MGET" ∷ codes "a" ∷ codes "b" ∷ []))
    (log_over (item nil ∷ []) (array_of (text (codes "1") ∷ text (codes "2") ∷ []) ∷ [])
    (plain n2 (mget_of (codes "a")) ∷ plain n1 (mget_of (codes "b")) ∷ [])) ≡ Some bad_reply
unfolding destination rule_of table hash_slot splitting_of digits first_error
a_long_reply_is_bad = refl

-- ---- all links are looked at first

pub a_later_link_is_looked_at_first : plan (client 1 halves (n2 ∷ [])) [] del_ab ≡ Err (by_cause NoLink)
unfolding destination rule_of table hash_slot splitting_of digits
a_later_link_is_looked_at_first = refl
