use Rattle.std.specs.Prelude.{nat_eq}
use Rattle.std.proofs.Common.{◌∙◌, ap, sym, map}
use Rattle.std.proofs.lemmas.List.{length-map}
use Rattle.resp_core.specs.View.{view}
use Rattle.cluster_routing.specs.Combine.{are_lists_of}
use Rattle.cluster_routing.proofs.Placed.{all_passed, no_list_left}
use Rattle.cluster_routing.proofs.combine.places.are_lists_of.Goals as goal

pub returns : goal.returns
returns c =
    let ls = map (λ v. v.items) c.values.rest.now in
    c.is_empty.ensures ∙ ap (λ n. nat_eq n 0) (sym (length-map c.values.rest.now (λ v. v.items))) ∙ sym (no_list_left ls)
    ∙ ap (λ vs. are_lists_of ls (map view vs)) (sym (all_passed c.args.values.now c.values.value-index c.values-test.false))
    ∙ sym c.values.invariant
