-- Examples of routes, parts and shards, each checked by computation; what is called wrong is another
-- definition that they tell apart.
use Rattle.std.specs.Prelude.{◌≡◌, ℕ, Bool, false, if◌then◌else◌, is_some, nat_lt, List, [], ◌∷◌, map, length, Some, None, codes, refl, bytes_eq}
use Rattle.std.specs.List.{list_any}
use Rattle.std.specs.Str.{is_utf8, chars}
use lib.Utf8.{encode}
use Rattle.resp_args.specs.declared.cmd.Arg.TheVariants.{Simple, Cursor}
use Rattle.cluster_routing.specs.HashSlot.{hash_slot}
use Rattle.cluster_routing.specs.Lists.{firsts}
use Rattle.cluster_routing.specs.Address.{Address, same_address}
use Rattle.cluster_routing.specs.AllNodes.{ascending, all_primaries}
use Rattle.cluster_routing.specs.SlotMap.{Nodes, SlotEntries, put_all}
use Rattle.cluster_routing.specs.Command.{Args}
use Rattle.cluster_routing.specs.Table.{Row, rule_of, table}
use Rattle.cluster_routing.specs.Parts.{groups}
use Rattle.cluster_routing.specs.Routing.{to_any_node, to_route, to_parts, route_to, destination}
use Rattle.cluster_routing.specs.Topology.{shards_of, shard_at}
use Rattle.cluster_routing.specs.declared.route.SlotAddr.TheVariants.{Master, ReplicaOptional}
use Rattle.cluster_routing.specs.declared.policy.ResponsePolicy.TheVariants.{CombineArrays, AllSucceeded}
use Rattle.cluster_routing.specs.declared.policy.MultiSlotArgPattern.TheVariants.{KeysOnly, KeyValuePairs}
use Rattle.cluster_routing.specs.Examples.{first_node as n1, second_node as n2, alone}

abbrev pub words : List (List ℕ) → Args
words texts = map Simple texts

-- ---- single nodes

pub a_stream_is_the_key_behind_the_word_streams : destination
    (words (codes "XREAD" ∷ codes "COUNT" ∷ codes "5" ∷ codes "STREAMS" ∷ codes "a" ∷ codes "0" ∷ [])) []
    ≡ Some (to_route (route_to Master 15495))
unfolding destination rule_of table hash_slot is_utf8 chars encode
a_stream_is_the_key_behind_the_word_streams = refl

pub a_family_has_its_key_third : destination (words (codes "xinfo" ∷ codes "stream" ∷ codes "a" ∷ [])) []
    ≡ Some (to_route (route_to Master 15495))
unfolding destination rule_of table hash_slot is_utf8 chars encode
a_family_has_its_key_third = refl

pub no_keys_of_a_script_go_to_any_node : destination (words (codes "EVAL" ∷ codes "s" ∷ codes "0" ∷ [])) []
    ≡ Some to_any_node
unfolding destination rule_of table hash_slot is_utf8 chars encode
no_keys_of_a_script_go_to_any_node = refl

pub a_script_goes_to_its_first_key : destination
    (words (codes "EVAL" ∷ codes "s" ∷ codes "1" ∷ codes "a" ∷ [])) []
    ≡ Some (to_route (route_to Master 15495))
unfolding destination rule_of table hash_slot is_utf8 chars encode
a_script_goes_to_its_first_key = refl

pub a_pop_without_keys_goes_nowhere : destination
    (words (codes "LMPOP" ∷ codes "0" ∷ codes "a" ∷ codes "LEFT" ∷ [])) [] ≡ None
unfolding destination rule_of table hash_slot is_utf8 chars encode
a_pop_without_keys_goes_nowhere = refl

pub a_family_alone_goes_nowhere : destination (words (codes "OBJECT" ∷ [])) [] ≡ None
unfolding destination rule_of table
a_family_alone_goes_nowhere = refl

pub a_read_may_go_to_any_node_of_its_slot : destination (words (codes "get" ∷ codes "a" ∷ []))
    (codes "Get" ∷ []) ≡ Some (to_route (route_to ReplicaOptional 15495))
unfolding destination rule_of table hash_slot
a_read_may_go_to_any_node_of_its_slot = refl

-- names compared by the letter
abbrev pub is_listed_by_the_letter : List Row → List ℕ → Bool
is_listed_by_the_letter rows name = list_any
    (λ (r : Row). list_any (λ listed. bytes_eq listed name) r.names) rows

pub a_name_is_known_in_any_case : destination (words (codes "time" ∷ codes "a" ∷ [])) [] ≡ Some to_any_node
unfolding destination rule_of table
a_name_is_known_in_any_case = refl

pub it_would_not_be_by_a_wrong_rule : is_listed_by_the_letter table (codes "time") ≡ false
unfolding table
it_would_not_be_by_a_wrong_rule = refl

-- ---- parts

pub keys_of_one_slot_go_to_its_node : destination (words (codes "MGET" ∷ codes "a" ∷ codes "{a}x" ∷ [])) []
    ≡ Some (to_route (route_to Master 15495))
unfolding destination rule_of table hash_slot
keys_of_one_slot_go_to_its_node = refl

pub parts_stand_in_order_of_first_appearance : destination
    (words (codes "MGET" ∷ codes "a" ∷ codes "b" ∷ codes "a" ∷ [])) []
    ≡ Some (to_parts ((route_to Master 15495, 0 ∷ 2 ∷ []) ∷ (route_to Master 3300, 1 ∷ []) ∷ []) KeysOnly
    (Some CombineArrays))
unfolding destination rule_of table hash_slot
parts_stand_in_order_of_first_appearance = refl

pub a_value_stands_with_its_key : destination
    (words (codes "MSET" ∷ codes "a" ∷ codes "1" ∷ codes "b" ∷ codes "2" ∷ [])) []
    ≡ Some (to_parts ((route_to Master 15495, 0 ∷ 1 ∷ []) ∷ (route_to Master 3300, 2 ∷ 3 ∷ []) ∷ [])
    KeyValuePairs (Some AllSucceeded))
unfolding destination rule_of table hash_slot
a_value_stands_with_its_key = refl

pub a_gap_goes_nowhere : destination (Simple (codes "MGET") ∷ Simple (codes "a") ∷ Cursor ∷ []) [] ≡ None
unfolding destination rule_of table hash_slot
a_gap_goes_nowhere = refl

pub a_broken_tuple_goes_nowhere : destination (words (codes "MSET" ∷ codes "a" ∷ [])) [] ≡ None
unfolding destination rule_of table hash_slot
a_broken_tuple_goes_nowhere = refl

-- parts by ascending slots
abbrev pub wrong_groups : List ℕ → List (ℕ × List ℕ)
wrong_groups (a ∷ b ∷ []) = if nat_lt b a then groups (b ∷ a ∷ []) else groups (a ∷ b ∷ [])
wrong_groups slots = groups slots

abbrev pub first_slot : List (ℕ × List ℕ) → ℕ
first_slot [] = 0
first_slot (g ∷ gs) = g.0

pub the_first_part_is_that_of_the_first_key : first_slot (groups (15495 ∷ 3300 ∷ [])) ≡ 15495
the_first_part_is_that_of_the_first_key = refl

pub the_least_slot_would_be_by_a_wrong_rule : first_slot (wrong_groups (15495 ∷ 3300 ∷ [])) ≡ 3300
the_least_slot_would_be_by_a_wrong_rule = refl

-- ---- shards and lists of addresses

abbrev pub with_replica : Address → Address → Nodes
with_replica a b = record { primary = a; replicas = b ∷ [] }

-- two ranges of n1, between them one of n1 with n2 as its replica
abbrev pub three_ranges : SlotEntries
three_ranges = put_all []
    (record { start = 0; last = 9; nodes = alone n1 }
    ∷ record { start = 10; last = 19; nodes = with_replica n1 n2 }
    ∷ record { start = 30; last = 39; nodes = alone n1 } ∷ [])

pub equal_nodes_are_one_shard : shards_of three_ranges
    ≡ record { ranges = (0, 9) ∷ (30, 39) ∷ []; nodes = alone n1 }
    ∷ record { ranges = (10, 19) ∷ []; nodes = with_replica n1 n2 } ∷ []
equal_nodes_are_one_shard = refl

-- shards by their primaries alone
abbrev pub wrong_shards : SlotEntries → List Nodes
wrong_shards entries = firsts (λ (a b : Nodes). same_address a.primary b.primary) (map (λ e. e.1.1) entries)

pub they_would_be_one_by_a_wrong_rule : length (wrong_shards three_ranges) ≡ 1
they_would_be_one_by_a_wrong_rule = refl

pub a_gap_has_no_shard : is_some (shard_at 25 (shards_of three_ranges)) ≡ false
a_gap_has_no_shard = refl

pub a_primary_stands_once : all_primaries three_ranges ≡ n1 ∷ []
a_primary_stands_once = refl

pub addresses_ascend : ascending (n2 ∷ n1 ∷ n2 ∷ []) ≡ n1 ∷ n2 ∷ []
addresses_ascend = refl
