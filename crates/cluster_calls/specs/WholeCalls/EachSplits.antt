-- Split commands in pipelines that tell of each position, computed: what goes out for them, what is told of
-- them, and what counts; and pipelines that are refused before the first byte.
use Rattle.std.specs.Prelude.{◌≡◌, ◌==◌, ℕ, true, List, [], ◌∷◌, Ok, Err, codes, pos, refl}
use Rattle.std.specs.Fmt.{digits}
use Rattle.resp_core.specs.Trees.{Tree, int, nil, server_error}
use Rattle.resp_core.specs.Errors.{at_position, by_cause, by_server, server_kind}
use Rattle.resp_core.specs.Parts.{first_error}
use Rattle.resp_core.specs.declared.errors.redis_error.Cause.TheVariants.{NoLink, UnexpectedReturnType}
use Rattle.cluster_routing.specs.Combine.{array_of}
use Rattle.cluster_routing.specs.Examples.{first_node as n1, second_node as n2, halves}
use Rattle.cluster_routing.specs.HashSlot.{hash_slot}
use Rattle.cluster_routing.specs.Routing.{destination}
use Rattle.cluster_routing.specs.Split.{splitting_of}
use Rattle.cluster_routing.specs.Table.{rule_of, table}
use Rattle.cluster_calls.specs.Links.Log.{Exchange}
use Rattle.cluster_calls.specs.Calls.Answer.{IsAnswerOf, TellsNoMemory}
use Rattle.cluster_calls.specs.Calls.Call.{Call, Each}
use Rattle.cluster_calls.specs.Calls.Legal.{IsLegalCall}
use Rattle.cluster_calls.specs.Calls.Plan.{plan}
use Rattle.cluster_calls.specs.OneServer.Commands.{by_position, counting, kept}
use Rattle.cluster_calls.specs.OneServer.Operations.{RunCommand}
use Rattle.cluster_calls.specs.WholeCalls.Base.{client, on_halves, a_fault, plain, goes_to, log_over, answer_on, text, one, error, error_text, moved_to_n1}
use Rattle.cluster_calls.specs.WholeCalls.Checks.{ab_read}
use Rattle.cluster_calls.specs.WholeCalls.EachRuns.{Outcome, told, lost_link, sent_on, wanting_memory, three, half_lost_outcomes, erring_outcomes}
use Rattle.cluster_calls.specs.WholeCalls.KeyRuns.{get_a, none_done}
use Rattle.cluster_calls.specs.WholeCalls.MixedRun.{del, try_again}
use Rattle.cluster_calls.specs.WholeCalls.Pipelines.{entry}
use Rattle.cluster_calls.specs.WholeCalls.Splits.{mget_of, item}

-- ---- DEL a b in its two parts, and GET a

abbrev pub del_ab : List (List ℕ)
del_ab = del (codes "a" ∷ codes "b" ∷ [])

abbrev pub del_a : List (List ℕ)
del_a = del (codes "a" ∷ [])

abbrev pub del_b : List (List ℕ)
del_b = del (codes "b" ∷ [])

abbrev pub split_and_get : Call
split_and_get = Each (entry del_ab ∷ entry get_a ∷ [])

abbrev pub split_log : List Tree → List Tree → List Exchange
split_log first second = log_over first second (plain n2 del_a ∷ plain n2 get_a ∷ plain n1 del_b ∷ [])

abbrev pub split_fine : List Exchange
split_fine = split_log (one ∷ []) (one ∷ nil ∷ [])

pub each_part_goes_to_its_node : IsLegalCall on_halves [] split_and_get split_fine
unfolding destination rule_of table hash_slot splitting_of digits
each_part_goes_to_its_node = refl

pub the_parts_replies_make_one : answer_on on_halves split_and_get split_fine
    ≡ told (Ok (int (pos 2)) ∷ Ok nil ∷ [])
unfolding destination rule_of table hash_slot splitting_of digits first_error server_kind
the_parts_replies_make_one = refl

pub and_count_as_one : counting none_done split_and_get (told (Ok (int (pos 2)) ∷ Ok nil ∷ [])) split_fine
    ≡ RunCommand del_ab ∷ RunCommand get_a ∷ []
unfolding destination rule_of table hash_slot splitting_of digits first_error server_kind
and_count_as_one = refl

-- memory may be refused for the one value
pub it_is_made_with_memory : IsAnswerOf on_halves [] a_fault split_and_get split_fine
    (told (Ok (int (pos 2)) ∷ Ok nil ∷ []))
unfolding destination rule_of table hash_slot splitting_of digits first_error server_kind
it_is_made_with_memory = (refl, (λ had. refl, (refl, refl)))

pub memory_may_be_refused_for_it : IsAnswerOf on_halves [] a_fault split_and_get split_fine
    (told (wanting_memory ∷ Ok nil ∷ []))
unfolding destination rule_of table hash_slot splitting_of digits first_error server_kind
memory_may_be_refused_for_it = (refl, (λ had. absurd (had refl), (refl, refl)))

-- ---- MGET b a, whose second part is answered first: its items stand at their keys' places

abbrev pub mget_ba : Call
mget_ba = Each (entry get_a ∷ entry (codes "MGET" ∷ codes "b" ∷ codes "a" ∷ []) ∷ [])

abbrev pub mget_log : List Exchange
mget_log = log_over (item nil ∷ []) (text (codes "1") ∷ item (text (codes "1")) ∷ [])
    (plain n2 get_a ∷ plain n2 (mget_of (codes "a")) ∷ plain n1 (mget_of (codes "b")) ∷ [])

pub its_parts_go_to_their_nodes : IsLegalCall on_halves [] mget_ba mget_log
unfolding destination rule_of table hash_slot splitting_of digits
its_parts_go_to_their_nodes = refl

pub its_items_stand_at_their_places : answer_on on_halves mget_ba mget_log
    ≡ told (Ok (text (codes "1")) ∷ Ok (array_of (nil ∷ text (codes "1") ∷ [])) ∷ [])
unfolding destination rule_of table hash_slot splitting_of digits first_error server_kind
its_items_stand_at_their_places = refl

-- an item that is an error is told in its place, and the part that holds it does not count
abbrev pub no_item : Tree
no_item = error (codes "ERR") (codes "x")

abbrev pub mget_erring : List Exchange
mget_erring = log_over (item no_item ∷ []) (text (codes "1") ∷ item (text (codes "1")) ∷ [])
    (plain n2 get_a ∷ plain n2 (mget_of (codes "a")) ∷ plain n1 (mget_of (codes "b")) ∷ [])

pub an_item_may_be_an_error : answer_on on_halves mget_ba mget_erring
    ≡ told (Ok (text (codes "1")) ∷ Ok (array_of (no_item ∷ text (codes "1") ∷ [])) ∷ [])
unfolding destination rule_of table hash_slot splitting_of digits first_error server_kind
an_item_may_be_an_error = refl

pub whose_part_does_not_count : kept none_done mget_ba mget_erring
    ≡ RunCommand get_a ∷ RunCommand (mget_of (codes "a")) ∷ []
unfolding destination rule_of table hash_slot splitting_of digits first_error server_kind
whose_part_does_not_count = refl

-- ---- keys of one slot: the command goes whole

abbrev pub del_tagged : List (List ℕ)
del_tagged = del (codes "a" ∷ codes "{a}x" ∷ [])

pub keys_of_one_slot_are_not_split : plan on_halves [] (Each (entry del_tagged ∷ []))
    ≡ Ok (goes_to n2 del_tagged ∷ [])
unfolding destination rule_of table hash_slot splitting_of digits
keys_of_one_slot_are_not_split = refl

-- ---- n1 ends before it answers DEL b: half of DEL a b is done, and it may be all of it

abbrev pub split_lost : List Exchange
split_lost = split_log [] (one ∷ nil ∷ [])

abbrev pub split_lost_outcomes : List Outcome
split_lost_outcomes = lost_link ∷ Ok nil ∷ []

pub a_lost_part_is_in_the_log : IsLegalCall on_halves [] split_and_get split_lost
unfolding destination rule_of table hash_slot splitting_of digits
a_lost_part_is_in_the_log = refl

pub a_lost_part_is_told_of_the_whole : answer_on on_halves split_and_get split_lost
    ≡ told split_lost_outcomes
unfolding destination rule_of table hash_slot splitting_of digits first_error server_kind
a_lost_part_is_told_of_the_whole = refl

pub which_is_its_answer : IsAnswerOf on_halves [] a_fault split_and_get split_lost (told split_lost_outcomes)
unfolding destination rule_of table hash_slot splitting_of digits first_error server_kind
which_is_its_answer = (refl, (refl, (refl, refl)))

pub the_answered_part_counts : by_position none_done (entry del_ab ∷ entry get_a ∷ []) split_lost
    ≡ (RunCommand del_a ∷ []) ∷ (RunCommand get_a ∷ []) ∷ []
unfolding destination rule_of table hash_slot splitting_of digits first_error server_kind
the_answered_part_counts = refl

pub all_of_it_counts_where_the_lost_part_was_done : by_position (λ place. place == 2)
    (entry del_ab ∷ entry get_a ∷ []) split_lost
    ≡ (RunCommand del_ab ∷ []) ∷ (RunCommand get_a ∷ []) ∷ []
unfolding destination rule_of table hash_slot splitting_of digits first_error server_kind
all_of_it_counts_where_the_lost_part_was_done = refl

pub so_it_is_where_it_is_kept : kept none_done split_and_get split_lost
    ≡ RunCommand del_a ∷ RunCommand get_a ∷ []
unfolding destination rule_of table hash_slot splitting_of digits first_error server_kind
so_it_is_where_it_is_kept = refl

-- ---- a part that was answered beside one that was sent on has no reply of one shape

abbrev pub moved_b : Tree
moved_b = error (codes "MOVED") (codes "3300 n2:7002")

pub a_part_that_was_sent_on_leaves_half : answer_on on_halves split_and_get
    (split_log (moved_b ∷ []) (one ∷ nil ∷ [])) ≡ told (Err (by_cause UnexpectedReturnType) ∷ Ok nil ∷ [])
unfolding destination rule_of table hash_slot splitting_of digits first_error server_kind
a_part_that_was_sent_on_leaves_half = refl

pub parts_that_were_all_sent_on_are_told_by_the_first : answer_on on_halves split_and_get
    (split_log (moved_b ∷ []) (server_error moved_to_n1 ∷ nil ∷ [])) ≡ told (sent_on ∷ Ok nil ∷ [])
unfolding destination rule_of table hash_slot splitting_of digits first_error server_kind
parts_that_were_all_sent_on_are_told_by_the_first = refl

pub its_answered_part_counts : by_position (λ place. true) (entry del_ab ∷ entry get_a ∷ [])
    (split_log (moved_b ∷ []) (one ∷ nil ∷ [])) ≡ (RunCommand del_a ∷ []) ∷ (RunCommand get_a ∷ []) ∷ []
unfolding destination rule_of table hash_slot splitting_of digits first_error server_kind
its_answered_part_counts = refl

-- ---- a part that its node refused: each was answered, so the error is told, and the other part counts

abbrev pub split_refused : List Exchange
split_refused = split_log (try_again ∷ []) (one ∷ nil ∷ [])

pub a_refused_part_refuses_its_position : answer_on on_halves split_and_get split_refused
    ≡ told (Err (by_server (error_text (codes "TRYAGAIN") (codes "x"))) ∷ Ok nil ∷ [])
unfolding destination rule_of table hash_slot splitting_of digits first_error server_kind
a_refused_part_refuses_its_position = refl

pub and_the_other_part_counts : by_position (λ place. true) (entry del_ab ∷ entry get_a ∷ []) split_refused
    ≡ (RunCommand del_a ∷ []) ∷ (RunCommand get_a ∷ []) ∷ []
unfolding destination rule_of table hash_slot splitting_of digits first_error server_kind
and_the_other_part_counts = refl

-- ---- a part that was not done beside one that was lost: the lost one is told, since it may have been done

abbrev pub refused_and_lost : List Exchange
refused_and_lost = split_log [] (try_again ∷ nil ∷ [])

pub a_lost_part_is_told_before_an_error : answer_on on_halves split_and_get refused_and_lost
    ≡ told split_lost_outcomes
unfolding destination rule_of table hash_slot splitting_of digits first_error server_kind
a_lost_part_is_told_before_an_error = refl

pub and_before_a_redirect : answer_on on_halves split_and_get
    (split_log [] (server_error moved_to_n1 ∷ nil ∷ [])) ≡ told split_lost_outcomes
unfolding destination rule_of table hash_slot splitting_of digits first_error server_kind
and_before_a_redirect = refl

pub it_counts_alone_where_it_was_done : by_position (λ place. true) (entry del_ab ∷ entry get_a ∷ [])
    refused_and_lost ≡ (RunCommand del_b ∷ []) ∷ (RunCommand get_a ∷ []) ∷ []
unfolding destination rule_of table hash_slot splitting_of digits first_error server_kind
it_counts_alone_where_it_was_done = refl

pub else_nothing_of_it_does : by_position none_done (entry del_ab ∷ entry get_a ∷ []) refused_and_lost
    ≡ [] ∷ (RunCommand get_a ∷ []) ∷ []
unfolding destination rule_of table hash_slot splitting_of digits first_error server_kind
else_nothing_of_it_does = refl

-- ---- before the first byte: commands that go to no slot, and links that are closed

abbrev pub with_time : Call
with_time = Each (entry get_a ∷ entry (codes "TIME" ∷ []) ∷ entry (codes "PING" ∷ []) ∷ [])

pub a_command_for_any_node_is_refused : plan on_halves [] with_time ≡ Err (at_position 1)
unfolding destination rule_of table hash_slot splitting_of digits
a_command_for_any_node_is_refused = refl

pub so_is_one_for_all_nodes : plan on_halves [] (Each (entry (codes "PING" ∷ []) ∷ [])) ≡ Err (at_position 0)
unfolding destination rule_of table hash_slot splitting_of digits
so_is_one_for_all_nodes = refl

pub so_is_a_split_command_with_a_broken_tuple : plan on_halves []
    (Each (entry get_a ∷ entry del_ab ∷ entry (codes "MSET" ∷ codes "a" ∷ []) ∷ [])) ≡ Err (at_position 2)
unfolding destination rule_of table hash_slot splitting_of digits
so_is_a_split_command_with_a_broken_tuple = refl

pub so_is_a_read_of_several_slots : plan on_halves [] (Each (entry del_ab ∷ entry ab_read ∷ []))
    ≡ Err (at_position 1)
unfolding destination rule_of table hash_slot splitting_of digits
so_is_a_read_of_several_slots = refl

pub it_sends_nothing : IsLegalCall on_halves [] with_time []
unfolding destination rule_of table hash_slot splitting_of digits
it_sends_nothing = refl

pub and_tells_its_position : IsAnswerOf on_halves [] a_fault with_time [] (Err (at_position 1))
unfolding destination rule_of table hash_slot splitting_of digits
and_tells_its_position = refl

pub a_closed_link_refuses : plan (client 1 halves (n2 ∷ [])) [] three ≡ Err (by_cause NoLink)
unfolding destination rule_of table hash_slot splitting_of digits
a_closed_link_refuses = refl

pub a_later_parts_link_refuses_too : plan (client 1 halves (n2 ∷ [])) [] split_and_get ≡ Err (by_cause NoLink)
unfolding destination rule_of table hash_slot splitting_of digits
a_later_parts_link_refuses_too = refl

-- ---- none of this tells want of memory

pub faults_tell_no_memory : TellsNoMemory (told half_lost_outcomes)
faults_tell_no_memory = (λ e. cc, (λ e. cc, (λ e. cc, (λ e. cc, tt))))

pub nor_do_redirects : TellsNoMemory (told erring_outcomes)
nor_do_redirects = (λ e. cc, (λ e. cc, (λ e. cc, (λ e. cc, tt))))
