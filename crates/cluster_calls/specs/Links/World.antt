-- A client as plain data: its nodes with what is seen of their links, its slot map, its settings and its log.
use Rattle.std.specs.Prelude.{◌≡◌, ℕ, ◌+◌, Bool, false, not, ◌||◌, if◌then◌else◌, List, [], ◌∷◌, map, filter, Option, Some, None, Result, Ok, Err, MatchResult, slice_get, slice_set, option_map, Vec}
use Rattle.std.specs.List.{list_any}
use Rattle.std.specs.declared.alloc.Global.{Global}
use Rattle.resp_core.specs.Trees.{Tree}
use Rattle.resp_core.specs.Errors.{Refusal}
use Rattle.resp_link.specs.Call.{Seen, Answers, Fails}
use Rattle.cluster_routing.specs.Address.{Address, same_address}
use Rattle.cluster_routing.specs.Seen.{address}
use Rattle.cluster_routing.specs.SlotMap.{SlotEntries}
use Rattle.cluster_routing.specs.declared.address.NodeAddress.{NodeAddress}
use Rattle.cluster_calls.specs.Links.Request.{Request}

-- a node's address and what is seen of the link to it
pub record Node : Type 0 where
  pub address : Address
  pub link : Seen

-- what a client is made with: how many redirects a request follows, and the names of the commands that only
-- read
pub record Settings : Type 0 where
  pub budget : ℕ
  pub read_only : List (List ℕ)

pub record World : Type 0 where
  pub nodes : List Node
  pub entries : SlotEntries
  pub settings : Settings
  pub needs_refresh : Bool
  -- the requests of the last call, and what a strategy answered in it
  pub log : List Request
  pub picked : List Address

-- links with their addresses, as plain data
abbrev pub nodes : {L : Type 0} → (L → Seen) → List (NodeAddress × L) → List Node
nodes seen links = map (λ pair. record { address = address pair.0; link = seen pair.1 }) links

-- a client that was just made: without a slot map, and with an empty log
abbrev pub new_world : List Node → Settings → World
new_world ns settings = record
    { nodes = ns; entries = []; settings = settings; needs_refresh = false; log = []; picked = [] }

-- the addresses of nodes
abbrev pub addresses_of : List Node → List Address
addresses_of ns = map (λ (n : Node). n.address) ns

-- whether an address stands twice
abbrev pub has_repeats : List Address → Bool
has_repeats [] = false
has_repeats (a ∷ as') = list_any (λ b. same_address b a) as' || has_repeats as'

-- the place of a node
abbrev pub place_at : List Node → Address → Option ℕ
place_at [] a = None
place_at (n ∷ ns) a = if same_address n.address a then Some 0 else option_map (λ i. i + 1) (place_at ns a)

-- the link to a node
abbrev pub link_at : List Node → Address → Option Seen
link_at [] a = None
link_at (n ∷ ns) a = if same_address n.address a then Some n.link else link_at ns a

-- the nodes with another link to this one
abbrev pub set_link : List Node → Address → Seen → List Node
set_link [] a link = []
set_link (n ∷ ns) a link = if same_address n.address a then record { address = n.address; link = link } ∷ ns
    else n ∷ set_link ns a link

abbrev pub is_usable : Option Seen → Bool
is_usable None = false
is_usable (Some link) = link.usable

-- the addresses of the open links
abbrev pub open_links : List Node → List Address
open_links [] = []
open_links (n ∷ ns) =
    let others = filter (λ a. not (same_address a n.address)) (open_links ns) in
    if n.link.usable then n.address ∷ others else others

-- whether a node is among those with an open link
abbrev pub is_linked : List Address → Address → Bool
is_linked links node = list_any (λ known. same_address known node) links

-- ---- one link call

-- one link call, as the link's own contract says
abbrev pub Called : Seen → Seen → List ℕ → ℕ → ℕ → Result (List Tree) Refusal → Type 0
Called old new bytes offset count result = MatchResult result
    (λ replies. Answers old new bytes offset count replies) (λ e. Fails old new bytes (offset + count) e)

-- replies as their trees
abbrev pub tree_results : {V : Type 0} → (V → Tree) → Result (Vec V Global) Refusal
    → Result (List Tree) Refusal
tree_results view (Ok replies) = Ok (map view replies.items)
tree_results view (Err e) = Err e

-- a reply as its tree
abbrev pub tree_result : {V : Type 0} → (V → Tree) → Result V Refusal → Result Tree Refusal
tree_result view (Ok v) = Ok (view v)
tree_result view (Err e) = Err e

-- a tree as the one reply of a link call
abbrev pub one_reply : Result Tree Refusal → Result (List Tree) Refusal
one_reply (Ok tree) = Ok (tree ∷ [])
one_reply (Err e) = Err e

-- the link at this place did so, and all others stay
pub record CallsLink (old new : List Node) (index : ℕ) (Call : Seen → Seen → Type 0) : Type 0 where
  pub before : Node
  pub after : Node
  pub found : slice_get old index ≡ Some before
  pub others : new ≡ slice_set old index after
  pub address : after.address ≡ before.address
  pub call : Call before.link after.link
