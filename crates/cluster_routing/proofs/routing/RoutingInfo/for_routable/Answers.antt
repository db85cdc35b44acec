use Rattle.std.proofs.Common.{◌≡◌, ◌∙◌}
use Rattle.cluster_routing.specs.Info.{texts}
use Rattle.cluster_routing.proofs.DirectionViews.{destination_told}
use Rattle.cluster_routing.proofs.routing.RoutingInfo.for_routable.Goals as goal

pub returns : goal.returns
returns g c = c.info_of.ensures ∙ destination_told _ (g.R.Routable.args c.args.r.now) (texts c.args.read_only.now) c.in_ok-direction.ensures
