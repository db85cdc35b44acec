use Rattle.std.proofs.Common.{◌∙◌, ap, map}
use Rattle.cluster_routing.specs.Info.{shown_part}
use Rattle.cluster_routing.specs.Routing.{put_place}
use Rattle.cluster_routing.proofs.Gathered.{put_slot}
use Rattle.cluster_routing.proofs.tuples.parts_of_many.Goals as goal

pub slots-preserved : goal.slots-preserved
slots-preserved c =
    record {
      seen = c.in_ok-put_place.ensures.seen;
      made =
          c.in_ok-put_place.ensures.parts
          ∙ ap (λ r. put_place r c.slots.place (map shown_part c.slots.all.items)) c.new.ensures
          ∙ put_slot c.args.role c.args.slots.now c.slots.place _ c.slots-test.true c.slots.invariant.made;
    }
