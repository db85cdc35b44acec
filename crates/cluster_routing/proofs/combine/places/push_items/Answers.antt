use Rattle.std.proofs.Common.{◌∙◌, ap, sym}
use Rattle.resp_core.specs.View.{view}
use Rattle.cluster_routing.specs.Combine.{items_or_none}
use Rattle.cluster_routing.proofs.Placed.{appended, array_items}
use Rattle.cluster_routing.proofs.combine.places.push_items.Goals as goal

pub returns-in-Array : goal.returns-in-Array
returns-in-Array c =
    appended c.append.result c.args.items.now.items c.in-Array.more.items c.append.new.self.items _ c.append.ensures.items (sym (array_items c.in-Array.more) ∙ ap (λ v. items_or_none (view v)) (sym c.in-Array.is))
