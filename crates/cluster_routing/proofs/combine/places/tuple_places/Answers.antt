use Rattle.std.proofs.Common.{◌∙◌, ap}
use Rattle.cluster_routing.proofs.Placed.{step_taken, step_passed}
use Rattle.cluster_routing.proofs.combine.places.tuple_places.Goals as goal
use Rattle.cluster_routing.proofs.combine.places.tuple_places.Goals.{then-skip-eq0+in_ok-push, else-skip-eq0}

pub positions-preserved : goal.positions-preserved
positions-preserved c =
    c.positions.invariant
    ∙ elim c.if-skip-eq0.branch [
      | then-skip-eq0+in_ok-push w ↦
          step_taken c.args.width c.positions.skip c.if-skip-eq0.skip c.positions.position-index c.args.positions.now c.positions.places.items c.if-skip-eq0.places.items c.positions-test.true w.if-skip-eq0.true (ap (λ v. v.items) w.places-is ∙ w.in_ok-push.ensures.items) w.skip-is
      | else-skip-eq0 w ↦
          step_passed c.args.width c.positions.skip c.if-skip-eq0.skip c.positions.position-index c.args.positions.now c.positions.places.items c.if-skip-eq0.places.items c.positions-test.true w.if-skip-eq0.false (ap (λ v. v.items) w.places-is) w.skip-is
    ]
