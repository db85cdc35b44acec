use Rattle.cluster_routing.proofs.Lengths.{by_rows}
use Rattle.cluster_routing.proofs.table.rule_for.Goals as goal

pub returns : goal.returns
returns c = by_rows c.rows_of_length.ensures c.rule_among.ensures c.args.family c.other_rule.ensures
