use Rattle.std.proofs.Common.{refl}
use Rattle.cluster_routing.specs.Table.{rule_of, table}
use Rattle.cluster_routing.proofs.laws.each_name_has_its_row.Goals as goal

pub returns : goal.returns
unfolding rule_of table
returns c = refl
