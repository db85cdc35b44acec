use Rattle.std.specs.List.{AllByRecursion}
use Rattle.std.proofs.Common.{◌≡◌, ◌++◌, map, option_map}
use Rattle.cluster_routing.specs.Seen.{addresses}
use Rattle.cluster_steps.specs.Dispatches.{IsPlaced, client_with, dispatch_of}
use Rattle.cluster_steps.specs.FirstPlaces.{part_of}
use Rattle.cluster_calls.specs.Links.World.{Settings}
use Rattle.cluster_steps.proofs.Dispatching.{Loop}
use Rattle.cluster_steps.proofs.dispatch.dispatches.Given as goal

abbrev pub invariant-parts : goal.invariant-parts
invariant-parts g l = record {
  split : l.fn.parts.items ≡ l.yielded ++ l.part-iterator.rest.items;
  loop : (settings : Settings) → Loop (option_map (λ s. (goal.ReadRoutingStrategy-dyn g s.now).admits s.now.1) l.fn.picker.strategy) (client_with settings l.fn.slots (g.K.NodeLinks.nodes l.links))
      (map part_of l.yielded) (addresses l.picker.picked.items) (map dispatch_of l.all.items);
  stays : l.slots ≡ l.fn.slots;
  kept : l.picker.strategy ≡ l.fn.picker.strategy;
  placed : AllByRecursion (IsPlaced (g.K.NodeLinks.nodes l.links)) l.all.items;
}
