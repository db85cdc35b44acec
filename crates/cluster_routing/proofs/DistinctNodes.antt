-- Sets of nodes told apart, each gathered once.
use Rattle.std.proofs.Common.{◌≡◌, ℕ, Bool, true, false, ◌&&◌, ◌==◌, List, [], ◌∷◌, ◌++◌, map, refl, sym, ap, ◌∙◌, append_assoc, Bor}
use Rattle.std.specs.Cmp.{nat_eq_equiv}
use Rattle.std.specs.Cmp.Lexicographic.{pointwise, bytes_decides, nat_list_eq_equiv, pointwise_decides}
use Rattle.std.specs.Str.{bytes_eq}
use Rattle.std.proofs.lemmas.Bool.{and_parts, and_from, eqb-true, eq-eqb}
use Rattle.std.proofs.lemmas.List.{map-append}
use Rattle.cluster_routing.specs.Address.{Address, same_address}
use Rattle.cluster_routing.specs.AllNodes.{node_sets}
use Rattle.cluster_routing.specs.Seen.{address, addresses}
use Rattle.cluster_routing.specs.declared.address.NodeAddress.{NodeAddress}
use Rattle.cluster_routing.specs.Lists.{among, firsts}
use Rattle.cluster_routing.specs.SlotMap.{Nodes, SlotEntries}
use Rattle.cluster_routing.specs.Topology.{same_nodes}
use Rattle.cluster_routing.proofs.Distinct.{Tells, to_come_by, none_seen, seen_front, new_front}

pub address_same : (a b : Address) → same_address a b ≡ true → a ≡ b
address_same a b h =
    let e = and_parts (bytes_eq a.host b.host) (a.port == b.port) h in
    ap (λ (n : List ℕ). let r : Address = record { host = n; port = a.port } in r) ((bytes_decides a.host b.host).0 e.0) ∙ ap (λ (n : ℕ). let r : Address = record { host = b.host; port = n } in r) (eqb-true a.port b.port e.1)

pub address_same_of : (a b : Address) → a ≡ b → same_address a b ≡ true
address_same_of a b e = and_from (bytes_eq a.host b.host) (a.port == b.port) ((bytes_decides a.host b.host).1 (ap (λ c. c.host) e)) (eq-eqb a.port b.port (ap (λ c. c.port) e))

address_turned : (a b : Address) → same_address a b ≡ same_address b a
address_turned a b = ap (λ s. s && a.port == b.port) (nat_list_eq_equiv.symm a.host b.host) ∙ ap (λ s. bytes_eq b.host a.host && s) (nat_eq_equiv.symm a.port b.port)

list_turned : (as' bs : List Address) → pointwise same_address as' bs ≡ pointwise same_address bs as'
list_turned [] [] = refl
list_turned [] (b ∷ bs) = refl
list_turned (a ∷ as') [] = refl
list_turned (a ∷ as') (b ∷ bs) = ap (λ s. s && pointwise same_address as' bs) (address_turned a b) ∙ ap (λ s. same_address b a && s) (list_turned as' bs)

list_same : (as' bs : List Address) → pointwise same_address as' bs ≡ true → as' ≡ bs
list_same as' bs h = (pointwise_decides (λ a b. (address_same a b, address_same_of a b)) as' bs).0 h

nodes_same : (a b : Nodes) → same_nodes a b ≡ true → a ≡ b
nodes_same a b h =
    let e = and_parts (same_address a.primary b.primary) (pointwise same_address a.replicas b.replicas) h in
    ap (λ (p : Address). let r : Nodes = record { primary = p; replicas = a.replicas } in r) (address_same a.primary b.primary e.0)
    ∙ ap (λ (rs : List Address). let r : Nodes = record { primary = b.primary; replicas = rs } in r) (list_same a.replicas b.replicas e.1)

pub nodes_tell : Tells same_nodes
nodes_tell = record {
  same = nodes_same;
  turned = λ a b. ap (λ s. s && pointwise same_address a.replicas b.replicas) (address_turned a.primary b.primary) ∙ ap (λ s. same_address b.primary a.primary && s) (list_turned a.replicas b.replicas);
}

pub nodes_own : (a : Nodes) → same_nodes a a ≡ true
nodes_own a =
    and_from (same_address a.primary a.primary) (pointwise same_address a.replicas a.replicas) (address_same_of a.primary a.primary refl)
    ((pointwise_decides (λ b c. (address_same b c, address_same_of b c)) a.replicas a.replicas).1 refl)

-- one walk over the sets of nodes
pub none_gathered : (entries : SlotEntries) (items : List (Bor Nodes)) (it : List Nodes) → items ≡ [] → it ≡ node_sets entries
    → firsts same_nodes (node_sets entries) ≡ map (λ n. n.now) items ++ to_come_by same_nodes (map (λ n. n.now) items) it
none_gathered entries items it e f =
    none_seen same_nodes (node_sets entries) ∙ ap (to_come_by same_nodes []) (sym f) ∙ ap (λ (is : List (Bor Nodes)). map (λ n. n.now) is ++ to_come_by same_nodes (map (λ n. n.now) is) it) (sym e)

pub passed_by : (all : List Nodes) (items : List (Bor Nodes)) (it rest : List Nodes) (n : Nodes) → all ≡ map (λ n. n.now) items ++ to_come_by same_nodes (map (λ n. n.now) items) it → it ≡ n ∷ rest
    → among same_nodes n (map (λ n. n.now) items) ≡ true → all ≡ map (λ n. n.now) items ++ to_come_by same_nodes (map (λ n. n.now) items) rest
passed_by all items it rest n h e a =
    h ∙ ap (λ i. map (λ n. n.now) items ++ to_come_by same_nodes (map (λ n. n.now) items) i) e
    ∙ ap (λ ys. map (λ n. n.now) items ++ ys) (seen_front same_nodes n (map (λ n. n.now) items) rest nodes_tell a)

pub gathered_one : (all : List Nodes) (items more : List (Bor Nodes)) (it rest : List Nodes) (x : Bor Nodes) → all ≡ map (λ n. n.now) items ++ to_come_by same_nodes (map (λ n. n.now) items) it → it ≡ x.now ∷ rest
    → among same_nodes x.now (map (λ n. n.now) items) ≡ false → more ≡ items ++ x ∷ [] → all ≡ map (λ n. n.now) more ++ to_come_by same_nodes (map (λ n. n.now) more) rest
gathered_one all items more it rest x h e a m =
    h ∙ ap (λ i. map (λ n. n.now) items ++ to_come_by same_nodes (map (λ n. n.now) items) i) e
    ∙ ap (λ ys. map (λ n. n.now) items ++ ys) (new_front same_nodes x.now (map (λ n. n.now) items) rest nodes_tell a)
    ∙ sym (append_assoc (map (λ n. n.now) items) (x.now ∷ []) _)
    ∙ ap (λ (s : List Nodes). s ++ to_come_by same_nodes s rest) (sym (ap (map (λ n. n.now)) m ∙ map-append (λ n. n.now) items (x ∷ [])))

pub same_list : (eq : NodeAddress → NodeAddress → Bool) → ((x y : NodeAddress) → eq x y ≡ same_address (address x) (address y)) → (xs ys : List NodeAddress) → pointwise eq xs ys ≡ pointwise same_address (addresses xs) (addresses ys)
same_list eq h [] [] = refl
same_list eq h [] (y ∷ ys) = refl
same_list eq h (x ∷ xs) [] = refl
same_list eq h (x ∷ xs) (y ∷ ys) = ap (λ s. s && pointwise eq xs ys) (h x y) ∙ ap (λ s. same_address (address x) (address y) && s) (same_list eq h xs ys)
