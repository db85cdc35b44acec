use Rattle.std.proofs.Common.{◌≡◌, drop, map, take}
use Rattle.cluster_routing.specs.Address.{same_address}
use Rattle.cluster_routing.specs.Lists.{is_distinct}
use Rattle.cluster_routing.specs.Seen.{address, addresses}
use Rattle.cluster_steps.proofs.DistinctKeys.{are_new}
use Rattle.cluster_steps.proofs.KnownLinks.{of_links}
use Rattle.cluster_steps.proofs.links.table_of.Given as goal

abbrev pub invariant-links : goal.invariant-links
invariant-links g l = record {
  differ : is_distinct same_address (map (λ link. address link.0) l.links) ≡ are_new same_address (map address l.seen.keys) (map (λ link. address link.0) (drop l.link-index l.links));
  keys : addresses l.seen.keys ≡ of_links (take l.link-index l.links);
}
