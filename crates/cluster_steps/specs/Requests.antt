-- The code's requests: the parts of a command, and the same with their hops.
use Rattle.cluster_steps.specs.declared.hop.Hop.{Hop}
use Rattle.cluster_steps.specs.declared.request.Request.{Request}
use Rattle.cluster_steps.specs.declared.route.Target.{Target}

abbrev pub CodePart : Type 0
CodePart = Request Target

abbrev pub CodeDispatch : Type 0
CodeDispatch = Request Hop
