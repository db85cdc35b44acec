-- Laws of addresses, slots, range maps and routes, over the definitions alone.
use Rattle.std.specs.Prelude.{◌≡◌, ℕ, zero, suc, nat_eq, ◌<◌, ◌≤◌, ◌^◌, Bool, true, false, ◌&&◌, List, [], ◌∷◌, map, Some, None, option_map, slice_get, ◌↔◌, ⊤}
use Rattle.std.specs.List.{list_all}
use Rattle.std.specs.Str.{str_to_ascii_lowercase}
use Rattle.std.specs.declared.cmp.Ordering.TheVariants.{Less, Equal}
use Rattle.resp_args.specs.declared.cmd.Arg.TheVariants.{Simple}
use Rattle.resp_args.specs.Packed.{wire}
use Rattle.cluster_routing.specs.Address.{Address, address_cmp, address_read, is_plain, same_address, written}
use Rattle.cluster_routing.specs.AllNodes.{ascending}
use Rattle.cluster_routing.specs.Lists.{among}
use Rattle.cluster_routing.specs.Parts.{groups, places_from}
use Rattle.cluster_routing.specs.HashSlot.{hash_slot, tag}
use Rattle.cluster_routing.specs.Ranges.{Entry, IsAscending, value_at}
use Rattle.cluster_routing.specs.SlotMap.{SlotEntries, nodes_at}
use Rattle.cluster_routing.specs.Topology.{shard_at, shards_of}
use Rattle.cluster_routing.specs.Command.{Args}
use Rattle.cluster_routing.specs.Table.{Row, Rule, table, rule_of, same_rule}
use Rattle.cluster_routing.specs.Routing.{Destination, destination}

-- an address comes back from its text exactly where its host is plain
abbrev pub RoundTrip : Type 0
RoundTrip = (a : Address) → a.port < 2 ^ 16 → (address_read (written a) ≡ Some a) ↔ (is_plain a.host ≡ true)

-- the order tells two addresses equal exactly where they are the same
abbrev pub OrderAgrees : Type 0
OrderAgrees = (a b : Address) → (address_cmp a b ≡ Equal) ↔ (same_address a b ≡ true)

-- keys with an equal tag that is not empty have an equal slot
abbrev pub EqualTags : Type 0
EqualTags = (key other : List ℕ) (b : ℕ) (bs : List ℕ) → tag key ≡ Some (b ∷ bs) → tag other ≡ Some (b ∷ bs)
    → hash_slot key ≡ hash_slot other

-- the case of the word's ASCII letters changes no route
abbrev pub CaseOfTheWord : Type 0
CaseOfTheWord =
    (word other : List ℕ) (args : Args) (read_only : List (List ℕ))
    → str_to_ascii_lowercase word ≡ str_to_ascii_lowercase other
    → destination (Simple word ∷ args) read_only ≡ destination (Simple other ∷ args) read_only

-- a command that goes anywhere goes there with its gaps filled, as its arguments stand on the wire
abbrev pub RoutesAsOnTheWire : Type 0
RoutesAsOnTheWire =
    (args : Args) (cursor : ℕ) (read_only : List (List ℕ)) (to : Destination) → cursor < 2 ^ 64
    → destination args read_only ≡ Some to
    → destination (map (λ bytes. Simple bytes) (wire cursor args)) read_only ≡ Some to

-- no range is reversed, and each begins behind the end of the one before
abbrev pub BeginsBehind : {V : Type 0} → ℕ → List (Entry V) → Type 0
BeginsBehind end [] = ⊤
BeginsBehind end (e ∷ es) = end < e.1.0

abbrev pub AreApart : {V : Type 0} → List (Entry V) → Type 0
AreApart [] = ⊤
AreApart (e ∷ es) = (e.1.0 ≤ e.0) × BeginsBehind e.0 es × AreApart es

-- where ranges are apart, the value of a slot is that of the one range that holds it, if there is one
pub record OneRange (V : Type 0) : Type 0 where
  pub held : (entries : List (Entry V)) (i : ℕ) (e : Entry V) (slot : ℕ) → AreApart entries
      → slice_get entries i ≡ Some e → e.1.0 ≤ slot → slot ≤ e.0 → value_at slot entries ≡ Some e.1.1
  pub free : (entries : List (Entry V)) (slot : ℕ) → AreApart entries
      → ((i : ℕ) (e : Entry V) → slice_get entries i ≡ Some e → e.1.0 ≤ slot → e.0 < slot)
      → value_at slot entries ≡ None

-- each name of the table is routed by its own row, and by no other
abbrev pub is_routed_by : Rule → List ℕ → Bool
is_routed_by rule name = same_rule (rule_of name true) rule && same_rule (rule_of name false) rule

-- each name of the table is routed by its own row
abbrev pub EachNameHasItsRow : Type 0
EachNameHasItsRow = list_all (λ (r : Row). list_all (is_routed_by r.rule) r.names) table ≡ true

-- each address is below the next one
abbrev pub IsBelowFirst : Address → List Address → Type 0
IsBelowFirst a [] = ⊤
IsBelowFirst a (b ∷ bs) = address_cmp a b ≡ Less

abbrev pub AddressesAscend : List Address → Type 0
AddressesAscend [] = ⊤
AddressesAscend (a ∷ as') = IsBelowFirst a as' × AddressesAscend as'

-- `ascending` answers a list that ascends, so that no address stands there twice, and that has the same
-- addresses
pub record EachAddressOnce : Type 0 where
  pub ascends : (addresses : List Address) → AddressesAscend (ascending addresses)
  pub same : (addresses : List Address) (a : Address)
      → among same_address a (ascending addresses) ≡ among same_address a addresses

-- a map's topology has a shard for a slot exactly where the map has nodes for it, and these are its nodes
pub record TopologyServes : Type 0 where
  pub nodes : (entries : SlotEntries) (slot : ℕ) → IsAscending entries
      → option_map (λ s. s.nodes) (shard_at slot (shards_of entries)) ≡ nodes_at slot entries
  pub primary : (entries : SlotEntries) (slot : ℕ) → IsAscending entries
      → option_map (λ s. s.nodes.primary) (shard_at slot (shards_of entries))
      ≡ option_map (λ n. n.primary) (nodes_at slot entries)

-- whether this place of a list holds the number
abbrev pub holds_at : List ℕ → ℕ → ℕ → Bool
holds_at [] place n = false
holds_at (x ∷ xs) zero n = nat_eq n x
holds_at (x ∷ xs) (suc place) n = holds_at xs place n

abbrev pub IsBelowNumbers : ℕ → List ℕ → Type 0
IsBelowNumbers n [] = ⊤
IsBelowNumbers n (x ∷ xs) = n < x

abbrev pub NumbersAscend : List ℕ → Type 0
NumbersAscend [] = ⊤
NumbersAscend (x ∷ xs) = IsBelowNumbers x xs × NumbersAscend xs

-- each number stands in the list once
abbrev pub StandOnce : List ℕ → Type 0
StandOnce [] = ⊤
StandOnce (x ∷ xs) = (among nat_eq x xs ≡ false) × StandOnce xs

-- the parts of a split share its places: each place stands in the part of its own slot and in no other,
-- places ascend, each slot has its part, and no slot has two
pub record PartsShareThePlaces : Type 0 where
  pub own : (slots : List ℕ) (slot place : ℕ)
      → among nat_eq place (places_from slot 0 slots) ≡ holds_at slots place slot
  pub ascending : (slots : List ℕ) (slot : ℕ) → NumbersAscend (places_from slot 0 slots)
  pub each : (slots : List ℕ) (slot : ℕ)
      → among nat_eq slot (map (λ g. g.0) (groups slots)) ≡ among nat_eq slot slots
  pub once : (slots : List ℕ) → StandOnce (map (λ g. g.0) (groups slots))
