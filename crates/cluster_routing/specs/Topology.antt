-- The shards of a map of slots (documentation of the crate `redis`).
use Rattle.std.specs.Prelude.{ℕ, suc, Bool, ◌&&◌, List, [], ◌∷◌, map, filter, Option}
use Rattle.std.specs.Cmp.Lexicographic.{pointwise}
use Rattle.cluster_routing.specs.Address.{same_address}
use Rattle.cluster_routing.specs.AllNodes.{node_sets}
use Rattle.cluster_routing.specs.Lists.{firsts}
use Rattle.cluster_routing.specs.Ranges.{Entry, put, value_at}
use Rattle.cluster_routing.specs.SlotMap.{Nodes, SlotEntries}

-- ranges of slots, each by start and end, and the nodes that serve them
pub record ShardOf : Type 0 where
  pub ranges : List (ℕ × ℕ)
  pub nodes : Nodes

-- each of the ranges put in with one value
abbrev pub put_ranges : {V : Type 0} → List (Entry V) → List (ℕ × ℕ) → V → List (Entry V)
put_ranges entries [] v = entries
put_ranges entries (r ∷ rs) v = put_ranges (put entries (r.1, (r.0, v))) rs v

-- each range of each shard put in with its shard
abbrev pub put_shards : List (Entry ShardOf) → List ShardOf → List (Entry ShardOf)
put_shards entries [] = entries
put_shards entries (s ∷ ss) = put_shards (put_ranges entries s.ranges s) ss

-- the shard that serves a slot
abbrev pub shard_at : ℕ → List ShardOf → Option ShardOf
shard_at slot shards = value_at slot (put_shards [] shards)

-- the shard's place for each of its slots, counted from n
abbrev pub put_places : ℕ → List (Entry ℕ) → List ShardOf → List (Entry ℕ)
put_places n entries [] = entries
put_places n entries (s ∷ ss) = put_places (suc n) (put_ranges entries s.ranges n) ss

-- equal primaries, and equal replicas in equal order
abbrev pub same_nodes : Nodes → Nodes → Bool
same_nodes a b = same_address a.primary b.primary && pointwise same_address a.replicas b.replicas

-- start and end of a range
abbrev pub span : Entry Nodes → ℕ × ℕ
span e = (e.1.0, e.0)

-- the ranges that these nodes serve
abbrev pub spans_of : Nodes → SlotEntries → List (ℕ × ℕ)
spans_of nodes entries = map span (filter (λ e. same_nodes nodes e.1.1) entries)

abbrev pub shard_with : SlotEntries → Nodes → ShardOf
shard_with entries nodes = record { ranges = spans_of nodes entries; nodes = nodes }

-- the shards of a map: its sets of nodes in order of first appearance, each with its ranges by ascending ends
abbrev pub shards_of : SlotEntries → List ShardOf
shards_of entries = map (shard_with entries) (firsts same_nodes (node_sets entries))
