use Rattle.cluster_routing.proofs.PartPlaces.{nothing_there}
use Rattle.cluster_routing.proofs.split.write_at.Goals as goal

pub returns-in-None : goal.returns-in-None
returns-in-None c = nothing_there c.args.cmd.now c.args.args.now c.args.place c.in-None.ensures.lookup
