use Rattle.std.proofs.Common.{◌≡◌, ◌∙◌, ◌++◌, ◌∷◌, ◌+◌, [], ℕ, List, Some, None, Option, drop, map, option_map, sym, subst, ap, arith, rules}
use Rattle.std.proofs.lemmas.List.{drop_all, drop_more, map-append}
use Rattle.std.proofs.lemmas.List.Elements.{All-push, All-same}
use Rattle.std.proofs.lemmas.List.Sorted.{All-permutation, answers_always}
use Rattle.cluster_routing.specs.Address.{Address}
use Rattle.cluster_routing.specs.Seen.{address}
use Rattle.cluster_routing.specs.contracts.address.NodeAddressOrd.TheImpl.{ghosts}
use Rattle.cluster_routing.specs.declared.node_places.PlacedNode.{PlacedNode}
use Rattle.cluster_routing.proofs.NodePlaces.{last_by, lower_first, node_of}
use Rattle.cluster_routing.proofs.OnceSorted.{leaves, taken, taken_once, takes}
use Rattle.cluster_routing.proofs.node_places.once_ascending.Goals as goal
use Rattle.cluster_routing.proofs.node_places.once_ascending.Goals.{then-not-is_last+in_ok-push, else-not-is_last}

pub nodes-preserved : goal.nodes-preserved
nodes-preserved c =
    let sorted : List PlacedNode = c.deref-placed-items.result.now in
    let i : ℕ = c.nodes.placed-index in
    let p : PlacedNode = c.placed-item.result in
    let left : drop i sorted ≡ p ∷ drop (i + 1) sorted = drop_more sorted i p c.nodes-test.true ∙ ap (λ x. x ∷ drop (i + 1) sorted) (sym c.placed-item.is) in
    let last : Option Address = option_map (λ a. address a.now) c.nodes.last in
    let before = c.nodes.invariant.addresses ∙ ap (λ ps. taken (map node_of c.nodes.once.items) last (map node_of ps)) left in
    let rest = map node_of (drop (i + 1) sorted) in
    let by = sym (last_by c.nodes.last (node_of p)) ∙ sym c.is_last.ensures in
    elim c.if-not-is_last.branch [
      | then-not-is_last+in_ok-push w ↦
          let grown : map node_of c.if-not-is_last.once.items ≡ map node_of c.nodes.once.items ++ node_of p ∷ [] =
          ap (λ v. map node_of v.items) w.once-is ∙ ap (map node_of) w.in_ok-push.ensures.items ∙ map-append node_of c.nodes.once.items (p ∷ []) in
          record {
            addresses = before ∙ takes (map node_of c.nodes.once.items) last (node_of p) rest (by ∙ w.if-not-is_last.true)
                ∙ ap (λ o. taken (map node_of c.nodes.once.items ++ node_of p ∷ []) o rest) (sym (ap (option_map (λ a. address a.now)) w.last-is))
                ∙ ap (λ d. taken d (option_map (λ a. address a.now) c.if-not-is_last.last) rest) (sym grown);
            places = λ at h.
                All-same (λ (q : PlacedNode). at q.place ≡ Some (node_of q)) c.if-not-is_last.once.items _ (ap (λ v. v.items) w.once-is ∙ w.in_ok-push.ensures.items)
                (All-push (λ (q : PlacedNode). at q.place ≡ Some (node_of q)) c.nodes.once.items p (c.nodes.invariant.places at h)
                (subst (λ (q : PlacedNode). at q.place ≡ Some (node_of q)) (sym c.placed-item.is) (h i p c.nodes-test.true)));
          }
      | else-not-is_last w ↦ record {
        addresses = before ∙ leaves (map node_of c.nodes.once.items) last (node_of p) rest (by ∙ w.if-not-is_last.false)
            ∙ ap (λ o. taken (map node_of c.nodes.once.items) (option_map (λ a. address a.now) o) rest) (sym w.last-is)
            ∙ ap (λ v. taken (map node_of v.items) (option_map (λ a. address a.now) c.if-not-is_last.last) rest) (sym w.once-is);
        places = λ at h.
            All-same (λ (q : PlacedNode). at q.place ≡ Some (node_of q)) c.if-not-is_last.once.items c.nodes.once.items (ap (λ v. v.items) w.once-is) (c.nodes.invariant.places at h);
      }
    ]

pub returns-clause-addresses : goal.returns-clause-addresses
returns-clause-addresses c =
    let sorted = c.deref-placed-items.result.now in
    let is : sorted ≡ c.sort_unstable_by_key.new.self.items = cc in
    let left = drop_all c.nodes.placed-index sorted (omega arith) in
    sym (c.nodes.invariant.addresses ∙ ap (λ ns. taken (map node_of c.nodes.once.items) (option_map (λ a. address a.now) c.nodes.last) (map node_of ns)) left)
    ∙ ap (λ ns. taken [] None (map node_of ns)) is
    ∙ taken_once node_of (λ (x y : PlacedNode). ghosts.cmp x.node.now y.node.now) lower_first c.args.nodes.items c.sort_unstable_by_key.new.self.items c.sort_unstable_by_key.ensures.permutation (c.sort_unstable_by_key.ensures.sorted (λ (p : PlacedNode). p.node) (answers_always _ _ _ (λ f a r q k. search rules)))

pub returns-clause-places : goal.returns-clause-places
returns-clause-places c = λ at h.
    let is : c.deref-placed-items.result.now ≡ c.sort_unstable_by_key.new.self.items = cc in
    c.nodes.invariant.places at (All-same (λ (q : PlacedNode). at q.place ≡ Some (node_of q)) c.deref-placed-items.result.now c.sort_unstable_by_key.new.self.items is
    (All-permutation (λ (q : PlacedNode). at q.place ≡ Some (node_of q)) c.args.nodes.items c.sort_unstable_by_key.new.self.items c.sort_unstable_by_key.ensures.permutation h))
