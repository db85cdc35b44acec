-- Nodes beside their places.
use Rattle.std.proofs.Common.{◌≡◌, ℕ, zero, Bool, ◌||◌, Bor, true, false, unwrap_or, None, suc, ◌+◌, ◌<◌, List, [], ◌∷◌, ◌++◌, Option, Some, length, map, take, get_or, slice_get, option_and_then, option_copied, option_map, flat_map, refl, sym, ap, ◌∙◌, add-one}
use Rattle.std.specs.Ordering.{is_lt}
use Rattle.std.proofs.Math.Seq.{take-suc}
use Rattle.std.proofs.lemmas.List.{append-nil, map-append}
use Rattle.std.proofs.lemmas.List.Sums.{fold-append}
use Rattle.std.proofs.lemmas.Grind.{flat_map-append}
use Rattle.std.proofs.lemmas.List.Elements.{All-head, All-tail}
use Rattle.std.proofs.lemmas.Option.{slice_get-get_or, slice_get-map}
use Rattle.cluster_routing.specs.Address.{Address, address_cmp, same_address}
use Rattle.cluster_routing.specs.AllNodes.{ascending, node_list, node_sets, put_address, put_addresses}
use Rattle.cluster_routing.specs.Lists.{among}
use Rattle.cluster_routing.specs.NodePlaces.{AreAt, node_at}
use Rattle.cluster_routing.specs.Ranges.{Entry}
use Rattle.cluster_routing.specs.Seen.{address}
use Rattle.cluster_routing.specs.SlotMap.{Nodes, SlotEntries}
use Rattle.cluster_routing.specs.contracts.address.NodeAddressOrd.TheImpl.{ghosts}
use Rattle.cluster_routing.specs.declared.address.NodeAddress.{NodeAddress}
use Rattle.cluster_routing.specs.declared.node_places.NodePlace.{NodePlace}
use Rattle.cluster_routing.specs.declared.node_places.PlacedNode.{PlacedNode}
use Rattle.cluster_routing.proofs.AllNodes.{order_is}
use Rattle.cluster_routing.proofs.DistinctNodes.{address_same, address_same_of}
use Rattle.cluster_routing.proofs.OnceSorted.{is_last}

abbrev pub node_of : PlacedNode → Address
node_of p = address p.node.now

-- more addresses put in, one list behind the other
put_both : (sorted xs ys : List Address) → put_addresses sorted (xs ++ ys) ≡ put_addresses (put_addresses sorted xs) ys
put_both sorted xs ys = fold-append (λ s a. put_address a s) sorted xs ys

-- one replica more put in behind the others
pub replica_behind : (sorted : List Address) (first : Address) (nodes : List NodeAddress) (n : ℕ) (a : NodeAddress) → n < length nodes → a ≡ get_or nodes n a
    → put_address (address a) (put_addresses sorted (first ∷ map address (take n nodes))) ≡ put_addresses sorted (first ∷ map address (take (n + 1) nodes))
replica_behind sorted first nodes n a within is =
    let more : take (n + 1) nodes ≡ take n nodes ++ a ∷ [] = rw add-one (take-suc nodes n a within ∙ ap (λ x. take n nodes ++ x ∷ []) (sym is)) in
    sym (put_both sorted (first ∷ map address (take n nodes)) (address a ∷ []))
    ∙ ap (λ xs. put_addresses sorted (first ∷ xs)) (sym (map-append address (take n nodes) (a ∷ [])))
    ∙ ap (λ xs. put_addresses sorted (first ∷ map address xs)) (sym more)

-- it stands at the place behind its number
pub replica_at : (first : Address) (nodes : List NodeAddress) (n : ℕ) (a : NodeAddress) → n < length nodes → a ≡ get_or nodes n a → slice_get (first ∷ map address nodes) (n + 1) ≡ Some (address a)
replica_at first nodes n a within is =
    ap (slice_get (first ∷ map address nodes)) (add-one n)
    ∙ slice_get-map address nodes n
    ∙ ap (option_map address) (slice_get-get_or nodes n a within)
    ∙ ap (λ x. Some (address x)) (sym is)

-- the nodes of one range more put in behind the others
pub range_behind : (entries : SlotEntries) (n : ℕ) (e : Entry Nodes) → n < length entries → e ≡ get_or entries n e → put_addresses (ascending (flat_map node_list (node_sets (take n entries)))) (node_list e.1.1) ≡ ascending (flat_map node_list (node_sets (take (n + 1) entries)))
range_behind entries n e within is =
    let more : take (n + 1) entries ≡ take n entries ++ e ∷ [] = rw add-one (take-suc entries n e within ∙ ap (λ a. take n entries ++ a ∷ []) (sym is)) in
    sym (put_both [] (flat_map node_list (node_sets (take n entries))) (node_list e.1.1))
    ∙ ap (λ xs. ascending (flat_map node_list (node_sets (take n entries)) ++ xs)) (sym (append-nil (node_list e.1.1)))
    ∙ ap ascending (sym (flat_map-append node_list (node_sets (take n entries)) (e.1.1 ∷ [])))
    ∙ ap (λ xs. ascending (flat_map node_list xs)) (sym (map-append (λ (x : Entry Nodes). x.1.1) (take n entries) (e ∷ [])))
    ∙ ap (λ xs. ascending (flat_map node_list (node_sets xs))) (sym more)

-- its nodes stand at its places
pub range_at : (entries : SlotEntries) (n : ℕ) (e : Entry Nodes) → n < length entries → e ≡ get_or entries n e → (k : ℕ) → node_at entries (record { range = n; node = k }) ≡ slice_get (node_list e.1.1) k
range_at entries n e within is k =
    ap (option_and_then (λ (x : Entry Nodes). slice_get (node_list x.1.1) k)) (slice_get-get_or entries n e within)
    ∙ ap (λ (x : Entry Nodes). slice_get (node_list x.1.1) k) (sym is)

-- the order of their addresses puts lower ones first
pub lower_first : (x y : PlacedNode) → is_lt (address_cmp (node_of x) (node_of y)) ≡ true → is_lt (ghosts.cmp x.node.now y.node.now) ≡ true
lower_first x y h = ap is_lt (order_is x.node.now y.node.now) ∙ h

-- the last one by what is seen of it
pub last_by : (last : Option (Bor NodeAddress)) (a : Address) → unwrap_or (option_map (λ l. same_address (address l.now) a) last) false ≡ is_last (option_map (λ l. address l.now) last) a
last_by None a = refl
last_by (Some l) a = refl

-- where each stands, it is found
pub found : (at : NodePlace → Option Address) (ps : List PlacedNode) → AreAt at ps → map at (map (λ p. p.place) ps) ≡ map (λ a. Some a) (map node_of ps)
found at [] h = refl
found at (p ∷ ps) h = ap (λ o. o ∷ map at (map (λ (q : PlacedNode). q.place) ps)) (All-head (λ (q : PlacedNode). at q.place ≡ Some (node_of q)) p ps h) ∙ ap (λ os. Some (node_of p) ∷ os) (found at ps (All-tail (λ (q : PlacedNode). at q.place ≡ Some (node_of q)) p ps h))

-- a replica by its number
pub replica_of : (r : Option (Bor NodeAddress)) (nodes : List NodeAddress) (n : ℕ) → option_copied r ≡ slice_get nodes n → option_map (λ a. address a.now) r ≡ slice_get (map address nodes) n
replica_of r nodes n h = seen r ∙ ap (option_map address) h ∙ sym (slice_get-map address nodes n)
  where
    seen : (o : Option (Bor NodeAddress)) → option_map (λ a. address a.now) o ≡ option_map address (option_copied o)
    seen None = refl
    seen (Some a) = refl

-- what stands at an index is among them
pub there : (ps : List PlacedNode) (i : ℕ) (p : PlacedNode) → Some p ≡ slice_get ps i → among same_address (node_of p) (map node_of ps) ≡ true
there [] i p h = cc
there (q ∷ ps) zero p h = ap (λ b. b || among same_address (node_of p) (map node_of ps)) (address_same_of (node_of p) (node_of q) (ap node_of (inside p q h)))
  where
    inside : (x y : PlacedNode) → Some x ≡ Some y → x ≡ y
    inside x y e = cc
there (q ∷ ps) (suc i) p h = ap (λ b. same_address (node_of p) (node_of q) || b) (there ps i p h) ∙ or_true (same_address (node_of p) (node_of q))
  where
    or_true : (b : Bool) → (b || true) ≡ true
    or_true true = refl
    or_true false = refl

-- and so is an address that is the same
pub there_by : (ps : List PlacedNode) (i : ℕ) (p : PlacedNode) (a : Address) → Some p ≡ slice_get ps i → same_address (node_of p) a ≡ true → among same_address a (map node_of ps) ≡ true
there_by ps i p a h e = ap (λ x. among same_address x (map node_of ps)) (sym (address_same (node_of p) a e)) ∙ there ps i p h
