use Rattle.std.proofs.Common.{◌≡◌, drop}
use Rattle.cluster_routing.specs.Table.{rule_in}
use Rattle.cluster_routing.specs.Rows.{shown_rows, shown_rule}
use Rattle.cluster_routing.proofs.table.rule_among.Given as goal

abbrev pub invariant-loop-row : goal.invariant-loop-row
invariant-loop-row l = rule_in (shown_rows l.rows) l.name (shown_rule l.other) ≡ rule_in (shown_rows (drop l.row-index l.rows)) l.name (shown_rule l.other)
