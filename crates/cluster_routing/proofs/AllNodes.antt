-- The order of addresses.
use Rattle.std.proofs.Common.{◌≡◌, refl}
use Rattle.std.specs.Ordering.{match_ordering, nat_cmp, ordering_then}
use Rattle.std.specs.Cmp.Lexicographic.{slice_cmp}
use Rattle.std.specs.String.{string_bytes}
use Rattle.std.specs.declared.cmp.Ordering.{Ordering}
use Rattle.std.specs.declared.cmp.Ordering.TheVariants.{Less, Equal, Greater}
use Rattle.cluster_routing.specs.Address.{address_cmp}
use Rattle.cluster_routing.specs.Seen.{address}
use Rattle.cluster_routing.specs.declared.address.NodeAddress.{NodeAddress}

pub then_is : (o p : Ordering) → ordering_then o p ≡ match_ordering o Less p Greater
then_is Less p = refl
then_is Equal p = refl
then_is Greater p = refl

pub order_is : (a b : NodeAddress) → ordering_then (slice_cmp nat_cmp (string_bytes a.host) (string_bytes b.host)) (nat_cmp a.port b.port) ≡ address_cmp (address a) (address b)
order_is a b = then_is (slice_cmp nat_cmp (string_bytes a.host) (string_bytes b.host)) (nat_cmp a.port b.port)
