use Rattle.std.specs.Prelude.{option_map, Some}
use Rattle.std.proofs.Common.{◌∙◌, ap, map, sym}
use Rattle.cluster_routing.specs.Info.{shown_part, shown_split}
use Rattle.cluster_calls.specs.Links.Orders.{routes_in_order}
use Rattle.cluster_calls.proofs.LinkLaws.Ordering.{made_in_order}
use Rattle.cluster_steps.proofs.order.split_in_order.Goals as goal

pub returns : goal.returns
returns c =
    let order = Some c.args.order.now in
    ap (λ routes. Some (record { routes = routes; splitting = record { pattern = c.in-Some.split.pattern; policy = c.in-Some.split.policy } }))
    (ap (map shown_part) c.in_ok-routes.ensures ∙ made_in_order shown_part order c.in-Some.split.routes.items)
    ∙ ap (λ o. option_map (routes_in_order order) (option_map shown_split o)) (sym c.in-Some.is)
