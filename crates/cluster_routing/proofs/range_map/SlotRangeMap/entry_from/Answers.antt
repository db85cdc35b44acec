use Rattle.std.proofs.Common.{◌∙◌, ap, slice_get}
use Rattle.cluster_routing.proofs.RangeMaps.{reached}
use Rattle.cluster_routing.proofs.Replies.{got}
use Rattle.cluster_routing.proofs.range_map.SlotRangeMap.entry_from.Goals as goal

pub returns : goal.returns
returns g c =
    got c.deref.result.now c.place_from.result c.get.result c.get.ensures.lookup
    ∙ ap (λ l. slice_get l c.place_from.result) (c.deref.ensures.value ∙ c.self.view_is)
    ∙ ap (slice_get c.args.self.now) c.place_from.ensures ∙ reached c.args.slot c.args.self.now
