use Rattle.std.proofs.Common.{◌≡◌}
use Rattle.std.specs.Prelude.{slice_get}
use Rattle.cluster_routing.proofs.routable.arg_at.Given as goal

abbrev pub invariant-loop-arg : goal.invariant-loop-arg
invariant-loop-arg l = slice_get l.fn.args l.idx ≡ slice_get l.arg-iterator l.before
