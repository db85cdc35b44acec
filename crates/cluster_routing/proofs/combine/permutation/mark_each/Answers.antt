use Rattle.std.proofs.Common.{◌∙◌, sym, length-set}
use Rattle.cluster_routing.proofs.Marks.{fresh_step, marked_step}
use Rattle.cluster_routing.proofs.combine.permutation.mark_each.Goals as goal

pub places-preserved : goal.places-preserved
places-preserved c =
    let free = sym c.is_taken.ensures ∙ c.if-is_taken.false in
    record {
      fresh = c.places.invariant.fresh ∙ fresh_step c.places.marks c.args.places.now c.places.place-index c.places-test.true free;
      marked = λ p. c.places.invariant.marked p ∙ marked_step c.places.marks c.args.places.now c.places.place-index p c.places-test.true free;
      len = length-set _ _ _ ∙ c.places.invariant.len;
    }
