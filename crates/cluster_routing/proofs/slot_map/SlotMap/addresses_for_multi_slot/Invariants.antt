use Rattle.std.proofs.Common.{map, option_map}
use Rattle.cluster_routing.specs.Seen.{address}
use Rattle.cluster_routing.proofs.Choices.{Answered}
use Rattle.cluster_routing.proofs.slot_map.SlotMap.addresses_for_multi_slot.Given as goal

abbrev pub invariant-routes : goal.invariant-routes
invariant-routes g l = Answered (option_map (λ s. (goal.ReadRoutingStrategy-dyn g s.now).admits s.now.1) l.strategy) l.pick l.self l.routes l.route-index (map (λ o. option_map (λ a. address a.now) o) l.answers.items)
