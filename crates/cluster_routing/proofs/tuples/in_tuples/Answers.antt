use Rattle.cluster_routing.proofs.TuplesInTurn.{lent-front}
use Rattle.cluster_routing.proofs.tuples.in_tuples.Goals as goal

pub returns : goal.returns
returns c = lent-front c.args.pattern c.args.args.now c.len_in_tuples.result c.len_in_tuples.ensures.count
