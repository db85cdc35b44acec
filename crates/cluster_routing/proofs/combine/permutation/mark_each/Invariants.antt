use Rattle.std.specs.Prelude.{nat_eq, not, slice_index_or}
use Rattle.std.specs.List.{list_all}
use Rattle.std.proofs.Common.{◌≡◌, ℕ, ◌&&◌, ◌||◌, true, drop, length}
use Rattle.cluster_routing.specs.Lists.{among, is_distinct}
use Rattle.cluster_routing.proofs.combine.permutation.mark_each.Given as goal

abbrev pub invariant-places : goal.invariant-places
invariant-places l = record {
  fresh : (list_all (λ p. not (slice_index_or l.fn.marks p true)) l.places && is_distinct nat_eq l.places) ≡ (list_all (λ p. not (slice_index_or l.marks p true)) (drop l.place-index l.places) && is_distinct nat_eq (drop l.place-index l.places));
  marked : (p : ℕ) → (slice_index_or l.fn.marks p true || among nat_eq p l.places) ≡ (slice_index_or l.marks p true || among nat_eq p (drop l.place-index l.places));
  len : length l.marks ≡ length l.fn.marks;
}
