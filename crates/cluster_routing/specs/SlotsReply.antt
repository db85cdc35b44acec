-- What a reply to CLUSTER SLOTS lists (Redis command documentation, CLUSTER SLOTS).
use Rattle.std.specs.Prelude.{ℕ, pos, ◌^◌, nat_lt, if◌then◌else◌, List, [], ◌∷◌, filter_map, Option, Some, None, option_map, option_and_then, bytes_eq}
use Rattle.std.specs.Str.Lossy.{utf8_lossy}
use Rattle.resp_core.specs.Trees.{Tree, Trees, nil, int, bulk, array, tree, no_trees}
use Rattle.cluster_routing.specs.Address.{Address}
use Rattle.cluster_routing.specs.SlotMap.{Range}

abbrev pub items : Trees → List Tree
items no_trees = []
items (tree t ts) = t ∷ items ts

abbrev pub array_items : Tree → Option (List Tree)
array_items (array ts) = Some (items ts)
array_items _ = None

-- an integer from 0 to 65535
abbrev pub small_number : Tree → Option ℕ
small_number (int (pos n)) = if nat_lt n (2 ^ 16) then Some n else None
small_number _ = None

-- the host that a node is listed with: that of the node that answers where it is left out; none where it is
-- unknown
abbrev pub host_in : List ℕ → List ℕ → Option (List ℕ)
host_in asked [] = Some asked
host_in asked (b ∷ bs) = if bytes_eq (b ∷ bs) (63 ∷ []) then None else Some (utf8_lossy (b ∷ bs))

abbrev pub listed_host : List ℕ → Tree → Option (List ℕ)
listed_host asked nil = Some asked
listed_host asked (bulk bytes) = host_in asked bytes
listed_host asked _ = None

-- a node: host, port, and what is further told of it
abbrev pub node_of : Option (List ℕ) → Option ℕ → Option Address
node_of host port = option_and_then (λ h. option_map (λ n. record { host = h; port = n }) port) host

abbrev pub node_in : List ℕ → List Tree → Option Address
node_in asked (host ∷ port ∷ more) = node_of (listed_host asked host) (small_number port)
node_in asked _ = None

abbrev pub listed_node : List ℕ → Tree → Option Address
listed_node asked node = option_and_then (node_in asked) (array_items node)

-- the nodes of a row, without those that are left out
abbrev pub listed_nodes : List ℕ → List Tree → List Address
listed_nodes asked nodes = filter_map (listed_node asked) nodes

-- a range whose first node is the primary; none without a node
abbrev pub range_with : ℕ → ℕ → List Address → Option Range
range_with start last [] = None
range_with start last (a ∷ as') = Some
    (record { start = start; last = last; nodes = record { primary = a; replicas = as' } })

abbrev pub range_of : Option ℕ → Option ℕ → List Address → Option Range
range_of start last nodes = option_and_then (λ s. option_and_then (λ l. range_with s l nodes) last) start

-- a row: start, end, and nodes; none where the row is skipped
abbrev pub listed_range : List ℕ → List Tree → Option Range
listed_range asked (start ∷ last ∷ nodes) = range_of (small_number start) (small_number last)
    (listed_nodes asked nodes)
listed_range asked _ = None

abbrev pub with_range : Option Range → List Range → List Range
with_range None ranges = ranges
with_range (Some r) ranges = r ∷ ranges

abbrev pub rows_from : List ℕ → Option (List Tree) → List Range → List Range
rows_from asked None rest = []
rows_from asked (Some row) rest = with_range (listed_range asked row) rest

-- the rows up to the first item that is no array
abbrev pub listed_ranges : List ℕ → List Tree → List Range
listed_ranges asked [] = []
listed_ranges asked (row ∷ rows) = rows_from asked (array_items row) (listed_ranges asked rows)

-- the ranges that a reply lists, asked of the node with this host; none where it is no array
abbrev pub rows_in : List ℕ → Option (List Tree) → List Range
rows_in asked None = []
rows_in asked (Some rows) = listed_ranges asked rows

-- the ranges that a reply to CLUSTER SLOTS lists, asked of the node with this host
abbrev pub ranges : Tree → List ℕ → List Range
ranges reply asked = rows_in asked (array_items reply)
