use Rattle.std.proofs.Common.{◌≡◌, map, length, option_map, List}
use Rattle.std.specs.Prelude.{IfOk}
use Rattle.resp_core.specs.View.{view}
use Rattle.cluster_routing.specs.Combine.{item_at}
use Rattle.cluster_routing.specs.Lists.{numbers_below}
use Rattle.std.proofs.Common.{subst}
use Rattle.resp_core.specs.Trees.{Tree}
use Rattle.cluster_routing.proofs.Placed.{kept}
use Rattle.cluster_routing.proofs.combine.places.by_place.Goals as goal

pub returns : goal.returns
returns c =
    let P : List Tree → Type 0 = λ ts. IfOk c.items_of_table.result (λ v. map view v.items ≡ ts) in
    subst P (kept (option_map view) (item_at c.args.places.now (map view c.args.items.items)) c.fill.result.items (numbers_below (length c.args.places.now)) c.fill.ensures) c.items_of_table.ensures
