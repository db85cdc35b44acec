use Rattle.cluster_routing.proofs.Choices.{answered_more, answered_all}
use Rattle.cluster_routing.proofs.slot_map.SlotMap.addresses_for_multi_slot.Goals as goal

pub routes-preserved : goal.routes-preserved
routes-preserved g c =
    answered_more _ _ c.slot_addr_for_route.result c.route-item.result c.routes.invariant c.routes-test.true c.in_ok-push.ensures.items c.route-item.is c.slot_addr_for_route.ensures

pub returns : goal.returns
returns g c = answered_all c.routes.invariant c.routes-test.false
