use Rattle.std.proofs.Common.{◌≡◌, ◌++◌, drop, map}
use Rattle.std.specs.Prelude.{filter_map}
use Rattle.cluster_routing.specs.Info.{shown_parts}
use Rattle.cluster_steps.specs.CodeParts.{route_target}
use Rattle.cluster_servers.specs.Slots.{slot_at}
use Rattle.cluster_servers.proofs.command.slots_at.Given as goal

abbrev pub invariant-routes : goal.invariant-routes
invariant-routes l = l.slots.items ++ filter_map slot_at (map route_target (shown_parts (drop l.route-index l.routes))) ≡ filter_map slot_at (map route_target (shown_parts l.routes))
