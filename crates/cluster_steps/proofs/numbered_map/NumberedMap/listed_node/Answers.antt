use Rattle.std.proofs.Common.{◌∙◌, ap}
use Rattle.cluster_routing.specs.NodePlaces.{node_at}
use Rattle.cluster_routing.specs.SlotMap.{SlotEntries}
use Rattle.cluster_steps.proofs.NumberedPlaces.{numbered}
use Rattle.cluster_steps.proofs.numbered_map.NumberedMap.listed_node.Goals as goal

pub returns : goal.returns
returns c =
    c.node_at.ensures
    ∙ ap (λ (entries : SlotEntries). node_at entries c.in_ok-item_among.field-0.now) c.self.view_is
    ∙ numbered c.args.self.now c.args.all.now c.args.number c.in_ok-item_among.field-0.now c.requires c.in_ok-item_among.ensures
