use Rattle.cluster_routing.proofs.TuplesInTurn.{lent-slice}
use Rattle.cluster_routing.proofs.tuples.tuple_at.Goals as goal

pub returns-clause-tuple : goal.returns-clause-tuple
returns-clause-tuple c = lent-slice c.args.args.now c.args.start c.args.width
