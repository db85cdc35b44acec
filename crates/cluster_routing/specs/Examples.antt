-- Examples of the definitions, each checked by computation; what is called wrong is another definition that
-- they tell apart.
use Rattle.std.specs.Prelude.{◌≡◌, ℕ, ℤ, pos, ◌==◌, ◌+◌, ◌&&◌, nat_le, not, false, if◌then◌else◌, List, [], ◌∷◌, ◌++◌, length, drop, take_while, replicate, Option, Some, None, codes, refl}
use Rattle.std.specs.List.{flat_map}
use Rattle.std.specs.Fmt.{digits}
use Rattle.std.specs.Ordering.{nat_cmp}
use Rattle.std.specs.Cmp.Lexicographic.{slice_cmp}
use Rattle.std.specs.declared.cmp.Ordering.TheVariants.{Less, Greater}
use Rattle.resp_core.specs.Trees.{Tree, Trees, nil, int, bulk, array, no_trees, tree}
use Rattle.cluster_routing.specs.HashSlot.{hash_slot, byte_bits, remainder, bits_value, hashed}
use Rattle.cluster_routing.specs.Address.{Address, address_cmp, address_of, address_read, written}
use Rattle.cluster_routing.specs.SlotMap.{Nodes, Range, SlotEntries, put_all, nodes_at}
use Rattle.cluster_routing.specs.SlotsReply.{ranges}

-- ---- slots

pub slot_of_a_word : hash_slot (codes "foo") ≡ 12182
unfolding hash_slot
slot_of_a_word = refl

pub slot_of_digits : hash_slot (codes "123456789") ≡ 12739
unfolding hash_slot
slot_of_digits = refl

pub slot_of_nothing : hash_slot [] ≡ 0
unfolding hash_slot
slot_of_nothing = refl

pub slot_of_a_tag : hash_slot (codes "{a}x") ≡ 15495
unfolding hash_slot
slot_of_a_tag = refl

pub slot_of_its_inside : hash_slot (codes "a") ≡ 15495
unfolding hash_slot
slot_of_its_inside = refl

pub an_empty_tag_is_none : hashed (codes "{}x") ≡ codes "{}x"
an_empty_tag_is_none = refl

-- the whole key, with its tag or without one
abbrev pub wrong_slot : List ℕ → ℕ
wrong_slot key =
    let bits = flat_map byte_bits key in
    bits_value (drop 2 (remainder (length bits) (bits ++ replicate 16 false)))

pub the_tag_counts : (wrong_slot (codes "{a}x") == 15495) ≡ false
the_tag_counts = refl

-- ---- addresses

abbrev pub first_node : Address
first_node = record { host = codes "n1"; port = 7001 }

abbrev pub second_node : Address
second_node = record { host = codes "n2"; port = 7002 }

pub reads_an_address : address_read (codes "n1:7001") ≡ Some first_node
reads_an_address = refl

pub reads_brackets_and_zeros : address_read (codes "[n1]:+07001") ≡ Some first_node
reads_brackets_and_zeros = refl

pub reads_no_port_above : address_read (codes "n1:65536") ≡ None
reads_no_port_above = refl

pub reads_no_empty_host : address_read (codes ":7001") ≡ None
reads_no_empty_host = refl

-- ---- the slot map

abbrev pub alone : Address → Nodes
alone a = record { primary = a; replicas = [] }

abbrev pub halves : SlotEntries
halves = put_all [] (record { start = 0; last = 8191; nodes = alone first_node }
    ∷ record { start = 8200; last = 16383; nodes = alone second_node } ∷ [])

pub the_end_is_in_the_range : nodes_at 8191 halves ≡ Some (alone first_node)
the_end_is_in_the_range = refl

pub a_gap_has_no_node : nodes_at 8195 halves ≡ None
a_gap_has_no_node = refl

pub the_second_range_serves : nodes_at 12739 halves ≡ Some (alone second_node)
the_second_range_serves = refl

-- a later range takes the place of one with an equal end; the range with the least end not below the slot
-- decides alone
abbrev pub wide_and_narrow : SlotEntries
wide_and_narrow = put_all []
    (record { start = 0; last = 500; nodes = alone first_node }
    ∷ record { start = 150; last = 160; nodes = alone second_node } ∷ [])

pub a_narrow_range_hides_slots_before_it : nodes_at 100 wide_and_narrow ≡ None
a_narrow_range_hides_slots_before_it = refl

pub it_serves_its_own : nodes_at 155 wide_and_narrow ≡ Some (alone second_node)
it_serves_its_own = refl

pub slots_behind_it_are_the_wide_ones : nodes_at 170 wide_and_narrow ≡ Some (alone first_node)
slots_behind_it_are_the_wide_ones = refl

-- any range that contains the slot, the first one
abbrev pub wrong_nodes_at : ℕ → SlotEntries → Option Nodes
wrong_nodes_at slot [] = None
wrong_nodes_at slot (e ∷ es) = if nat_le e.1.0 slot && nat_le slot e.0 then Some e.1.1
    else wrong_nodes_at slot es

pub a_hidden_slot_would_be_served_by_a_wrong_rule : wrong_nodes_at 100 wide_and_narrow
    ≡ Some (alone first_node)
a_hidden_slot_would_be_served_by_a_wrong_rule = refl

-- ---- the text of an address, cut at its last colon

pub reads_a_host_with_colons : address_read (codes "[::1]:7001")
    ≡ Some (record { host = codes "::1"; port = 7001 })
reads_a_host_with_colons = refl

pub writes_it_without_brackets : written (record { host = codes "::1"; port = 7001 }) ≡ codes "::1:7001"
unfolding digits
writes_it_without_brackets = refl

abbrev pub wrong_address_read : List ℕ → Option Address
wrong_address_read text =
    let host = take_while (λ b. not (b == 58)) text in
    address_of (host, drop (length host + 1) text)

pub it_would_not_be_read_by_a_wrong_rule : wrong_address_read (codes "[::1]:7001") ≡ None
it_would_not_be_read_by_a_wrong_rule = refl

-- ---- the order of addresses, by ports as numbers

pub a_small_port_comes_first : address_cmp (record { host = codes "n1"; port = 999 })
    (record { host = codes "n1"; port = 10000 }) ≡ Less
a_small_port_comes_first = refl

pub its_text_does_not : slice_cmp nat_cmp (written (record { host = codes "n1"; port = 999 }))
    (written (record { host = codes "n1"; port = 10000 })) ≡ Greater
unfolding digits
its_text_does_not = refl

-- ---- a reply to CLUSTER SLOTS: rows that are skipped, and where the reading stops

abbrev pub trees_of : List Tree → Trees
trees_of [] = no_trees
trees_of (t ∷ ts) = tree t (trees_of ts)

abbrev pub listed : List Tree → Tree
listed ts = array (trees_of ts)

abbrev pub row_of : ℤ → ℤ → Tree → ℤ → Tree
row_of start last host port = listed (int start ∷ int last ∷ listed (host ∷ int port ∷ []) ∷ [])

pub one_range_of_five_items :
    ranges (listed (row_of (pos 0) (pos 99) (bulk []) (pos 7001)
    ∷ row_of (pos 100) (pos 70000) (bulk (codes "n2")) (pos 7002)
    ∷ row_of (pos 200) (pos 300) (bulk (codes "?")) (pos 7002)
    ∷ int (pos 5) ∷ row_of (pos 400) (pos 500) (bulk (codes "n2")) (pos 7002) ∷ [])) (codes "n1")
    ≡ record { start = 0; last = 99; nodes = alone first_node } ∷ []
one_range_of_five_items = refl

-- a reading that goes on behind an item that is no row
abbrev pub wrong_ranges : List Tree → List ℕ → List Range
wrong_ranges [] asked = []
wrong_ranges (t ∷ ts) asked = ranges (listed (t ∷ [])) asked ++ wrong_ranges ts asked

pub it_would_find_a_second_by_a_wrong_rule : length
    (wrong_ranges (row_of (pos 0) (pos 99) nil (pos 7001) ∷ int (pos 5)
    ∷ row_of (pos 400) (pos 500) nil (pos 7002) ∷ []) (codes "n1")) ≡ 2
it_would_find_a_second_by_a_wrong_rule = refl

pub the_right_one_finds_one : length
    (ranges (listed (row_of (pos 0) (pos 99) nil (pos 7001) ∷ int (pos 5)
    ∷ row_of (pos 400) (pos 500) nil (pos 7002) ∷ [])) (codes "n1")) ≡ 1
the_right_one_finds_one = refl
