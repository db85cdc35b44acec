use Rattle.std.proofs.Common.{◌≡◌, ◌∙◌, ap, sym, map, length, true}
use Rattle.std.proofs.lemmas.List.{length-map}
use Rattle.resp_core.specs.View.{view}
use Rattle.cluster_routing.specs.Combine.{are_lists_of}
use Rattle.cluster_routing.specs.Lists.{concat}
use Rattle.cluster_routing.proofs.Placed.{as_many}
use Rattle.cluster_routing.proofs.combine.places.items_by_place.Goals as goal

pub by_place-requires-clause-same : goal.by_place-requires-clause-same
by_place-requires-clause-same c =
    let ls = map (λ v. v.items) c.in_ok-lists.lists.items in
    let fits : are_lists_of ls (map view c.args.values.items) ≡ true =
    ap (λ l. are_lists_of (map (λ v. v.items) l) (map view c.args.values.items)) (sym c.deref.ensures.value) ∙ ap (λ vs. are_lists_of (map (λ v. v.items) c.deref.result.now) (map view vs)) (sym c.deref-2.ensures.value) ∙ sym c.are_lists_of.ensures ∙ c.if-not-are_lists_of.false
    in
    sym (length-map c.in_ok-items.items.items view) ∙ ap length c.in_ok-items.ensures ∙ sym (as_many ls (map view c.args.values.items) fits)
    ∙ ap (λ l. length (concat (map (λ v. v.items) l))) (sym c.deref-3.ensures.value)
    ∙ ap length (sym c.in_ok-places.ensures) ∙ ap length (sym c.deref-5.ensures.value)
