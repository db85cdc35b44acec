use Rattle.std.specs.List.{AllByRecursion}
use Rattle.std.proofs.Common.{◌≡◌, ◌++◌, [], map, Option}
use Rattle.resp_args.specs.Packed.{sent}
use Rattle.cluster_routing.specs.Choice.{Strategy}
use Rattle.cluster_routing.specs.Seen.{address}
use Rattle.cluster_calls.specs.Calls.Plan.{Client}
use Rattle.cluster_steps.specs.Dispatches.{IsPlaced, dispatch_of}
use Rattle.cluster_client.specs.NodeRuns.{parts_to_nodes}
use Rattle.cluster_calls.specs.Links.World.{nodes, open_links}
use Rattle.cluster_steps.proofs.Dispatching.{Loop}
use Rattle.cluster_client.proofs.fan_out.dispatches_to.Given as goal

abbrev pub invariant-nodes : goal.invariant-nodes
invariant-nodes g l = record {
  split : l.fn.addresses.items ≡ l.yielded ++ l.node-iterator.rest.items;
  loop : (strategy : Option Strategy) (client : Client) → client.links ≡ open_links (nodes g.L.ConnectionLike.seen l.links.nodes.items)
      → Loop strategy client (parts_to_nodes (sent l.cmd) (map (λ a. address a.now) l.yielded)) [] (map dispatch_of l.all.items);
  placed : AllByRecursion (IsPlaced (nodes g.L.ConnectionLike.seen l.links.nodes.items)) l.all.items;
}
