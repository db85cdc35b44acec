use Rattle.std.proofs.Common.{◌≡◌, ◌++◌, map, drop}
use Rattle.resp_core.specs.View.{view}
use Rattle.cluster_routing.specs.SlotsReply.{listed_ranges}
use Rattle.cluster_routing.proofs.slots_reply.rows_of.Given as goal

abbrev pub invariant-loop-row : goal.invariant-loop-row
invariant-loop-row l = listed_ranges l.host (map view l.rows) ≡ l.listed.items ++ listed_ranges l.host (map view (drop l.row-index l.rows))
