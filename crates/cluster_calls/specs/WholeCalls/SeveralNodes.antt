-- Calls that any node or several nodes may serve, computed.
use Rattle.std.specs.Prelude.{◌≡◌, ℕ, false, List, [], ◌∷◌, Some, Ok, Err, codes, pos, refl}
use Rattle.std.specs.Fmt.{digits}
use Rattle.resp_core.specs.Trees.{Tree, nil, int, okay, simple, map as map_tree, pair, no_pairs}
use Rattle.resp_core.specs.Errors.{by_cause}
use Rattle.resp_core.specs.Parts.{first_error}
use Rattle.resp_core.specs.declared.errors.redis_error.Cause.TheVariants.{NoLink, NoNode, NoRoute, Io}
use Rattle.cluster_routing.specs.HashSlot.{hash_slot}
use Rattle.cluster_routing.specs.Table.{rule_of, table}
use Rattle.cluster_routing.specs.Routing.{destination}
use Rattle.cluster_routing.specs.Examples.{first_node as n1, second_node as n2, halves}
use Rattle.cluster_routing.specs.declared.policy.ResponsePolicy.TheVariants.{OneSucceeded, AllSucceeded, FirstSucceededNonEmptyOrAllEmpty, AggregateLogical, CombineArrays, CombineMaps, Special}
use Rattle.cluster_routing.specs.declared.policy.LogicalAggregateOp.TheVariants.{And}
use Rattle.cluster_routing.specs.Split.{splitting_of}
use Rattle.cluster_routing.specs.Combine.{array_of}
use Rattle.cluster_routing.specs.Policies.{combine_outcomes, bad_reply}
use Rattle.cluster_calls.specs.Links.Log.{Exchange}
use Rattle.cluster_calls.specs.Calls.Call.{Call, Query, FanOut}
use Rattle.stream_commands.specs.Commands.{plain_command}
use Rattle.cluster_calls.specs.Calls.Plan.{plan}
use Rattle.cluster_calls.specs.Calls.Legal.{IsLegalCall}
use Rattle.cluster_calls.specs.Calls.Answer.{Value, kind}
use Rattle.cluster_calls.specs.Calls.After.{links_after}
use Rattle.cluster_calls.specs.OneServer.Commands.{is_on_slots}
use Rattle.cluster_calls.specs.WholeCalls.Base.{both, client, on_halves, a_fault, query, plain, goes_to, log_over, answer_on, text, one}

abbrev pub word : List ℕ → List (List ℕ)
word name = name ∷ []

-- ---- any node: the one with the call's number, modulo their count

abbrev pub time : ℕ → Call
time number = Query (plain_command (word (codes "TIME"))) number

pub five_of_two_is_the_second : plan on_halves [] (time 5) ≡ Ok (goes_to n2 (word (codes "TIME")) ∷ [])
unfolding destination rule_of table hash_slot splitting_of digits
five_of_two_is_the_second = refl

pub of_no_node_there_is_none : plan (client 1 [] both) [] (time 5) ≡ Err (by_cause NoNode)
unfolding destination rule_of table hash_slot splitting_of digits
of_no_node_there_is_none = refl

pub no_keyspace_is_spoken_of : is_on_slots (time 5) ≡ false
unfolding destination rule_of table
no_keyspace_is_spoken_of = refl

-- ---- several nodes: DBSIZE

abbrev pub size : Call
size = FanOut (plain_command (word (codes "DBSIZE")))

abbrev pub size_log : List Tree → List Tree → List Exchange
size_log first second = log_over first second
    (plain n1 (word (codes "DBSIZE")) ∷ plain n2 (word (codes "DBSIZE")) ∷ [])

pub each_primary_is_asked_once : IsLegalCall on_halves [] size
    (size_log (int (pos 3) ∷ []) (int (pos 4) ∷ []))
unfolding destination rule_of table hash_slot splitting_of digits
each_primary_is_asked_once = refl

pub sizes_are_added : answer_on on_halves size (size_log (int (pos 3) ∷ []) (int (pos 4) ∷ []))
    ≡ Ok (Value (int (pos 7)))
unfolding destination rule_of table hash_slot splitting_of digits first_error
sizes_are_added = refl

pub a_closed_link_refuses : plan (client 1 halves (n2 ∷ [])) [] size ≡ Err (by_cause NoLink)
unfolding destination rule_of table hash_slot splitting_of digits
a_closed_link_refuses = refl

-- a fault is that node's error, and the others are asked all the same
pub a_fault_stops_nothing : IsLegalCall on_halves [] size (size_log [] (int (pos 4) ∷ []))
unfolding destination rule_of table hash_slot splitting_of digits
a_fault_stops_nothing = refl

pub a_fault_refuses : kind on_halves [] a_fault size (size_log [] (int (pos 4) ∷ [])) ≡ Some (by_cause Io)
unfolding destination rule_of table hash_slot splitting_of digits first_error
a_fault_refuses = refl

pub a_fault_closes_its_node : links_after both (size_log [] (int (pos 4) ∷ [])) ≡ n2 ∷ []
a_fault_closes_its_node = refl

pub a_query_asks_one_node_alone : plan on_halves [] (query (word (codes "DBSIZE"))) ≡ Err (by_cause NoRoute)
unfolding destination rule_of table hash_slot splitting_of digits
a_query_asks_one_node_alone = refl

pub a_key_has_no_several_nodes : plan on_halves [] (FanOut (plain_command (codes "GET" ∷ codes "a" ∷ [])))
    ≡ Err (by_cause NoRoute)
unfolding destination rule_of table hash_slot splitting_of digits
a_key_has_no_several_nodes = refl

-- ---- RANDOMKEY

abbrev pub random_log : List Exchange
random_log = log_over (nil ∷ []) (text (codes "k") ∷ [])
    (plain n1 (word (codes "RANDOMKEY")) ∷ plain n2 (word (codes "RANDOMKEY")) ∷ [])

pub the_first_that_is_not_nil_answers : answer_on on_halves
    (FanOut (plain_command (word (codes "RANDOMKEY")))) random_log ≡ Ok (Value (text (codes "k")))
unfolding destination rule_of table hash_slot splitting_of digits first_error
the_first_that_is_not_nil_answers = refl

-- ---- policies

pub an_error_is_passed_over : combine_outcomes OneSucceeded ((n1, Err (by_cause Io)) ∷ (n2, Ok okay) ∷ [])
    ≡ Ok okay
an_error_is_passed_over = refl

pub the_last_refusal_is_answered : combine_outcomes OneSucceeded
    ((n1, Err (by_cause Io)) ∷ (n2, Err (by_cause NoLink)) ∷ []) ≡ Err (by_cause NoLink)
the_last_refusal_is_answered = refl

pub nil_and_a_refusal_refuse : combine_outcomes FirstSucceededNonEmptyOrAllEmpty
    ((n1, Err (by_cause Io)) ∷ (n2, Ok nil) ∷ []) ≡ Err (by_cause Io)
nil_and_a_refusal_refuse = refl

pub the_first_refusal_is_answered : combine_outcomes AllSucceeded
    ((n1, Err (by_cause Io)) ∷ (n2, Err (by_cause NoLink)) ∷ []) ≡ Err (by_cause Io)
the_first_refusal_is_answered = refl

pub each_place_is_one_where_all_are : combine_outcomes (AggregateLogical And)
    ((n1, Ok (array_of (one ∷ int (pos 0) ∷ []))) ∷ (n2, Ok (array_of (one ∷ one ∷ []))) ∷ [])
    ≡ Ok (array_of (one ∷ int (pos 0) ∷ []))
each_place_is_one_where_all_are = refl

pub counts_are_added_by_key : combine_outcomes CombineMaps
    ((n1, Ok (array_of (text (codes "b") ∷ one ∷ simple (codes "a") ∷ one ∷ [])))
    ∷ (n2, Ok (map_tree (pair (text (codes "b")) one no_pairs))) ∷ [])
    ≡ Ok (map_tree (pair (text (codes "a")) one (pair (text (codes "b")) (int (pos 2)) no_pairs)))
counts_are_added_by_key = refl

pub replies_stand_by_address : combine_outcomes Special ((n1, Ok okay) ∷ (n2, Ok nil) ∷ [])
    ≡ Ok (map_tree (pair (text (codes "n1:7001")) okay (pair (text (codes "n2:7002")) nil no_pairs)))
unfolding digits
replies_stand_by_address = refl

pub another_shape_is_bad : combine_outcomes CombineArrays ((n1, Ok (array_of [])) ∷ (n2, Ok okay) ∷ [])
    ≡ Err bad_reply
another_shape_is_bad = refl
