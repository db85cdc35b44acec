use Rattle.std.specs.Vec.Iter.{into_iter_items}
use Rattle.std.specs.Prelude.{fold}
use Rattle.std.proofs.Common.{◌≡◌, ◌++◌, ◌*◌, ◌^◌, [], length}
use Rattle.cluster_routing.specs.Counted.{shown_counts, AreWithin}
use Rattle.cluster_routing.specs.Policies.{add_count}
use Rattle.cluster_routing.proofs.combine.maps.sums_of.Given as goal

abbrev pub invariant-counts : goal.invariant-counts
invariant-counts l = record {
  all : l.fn.counts.items ≡ l.yielded ++ into_iter_items l.count-iterator;
  so_far : fold (λ sums c. add_count c sums) [] (shown_counts l.fn.counts.items) ≡ fold (λ sums c. add_count c sums) (shown_counts l.sums.entries) (shown_counts (into_iter_items l.count-iterator));
  within : AreWithin (length l.yielded * 2 ^ 63) (shown_counts l.sums.entries);
}
