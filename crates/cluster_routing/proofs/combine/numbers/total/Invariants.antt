use Rattle.std.specs.Prelude.{◌+ℤ◌, ◌≤ℤ◌, pos, neg_ℤ, ◌*◌, ◌^◌}
use Rattle.std.proofs.Common.{◌≡◌, map, drop, option_map}
use Rattle.resp_core.specs.View.{view}
use Rattle.cluster_routing.specs.Combine.{sum_of}
use Rattle.cluster_routing.proofs.combine.numbers.total.Given as goal

abbrev pub invariant-values : goal.invariant-values
invariant-values l = record {
  so_far : sum_of (map view l.values) ≡ option_map (λ m. l.sum +ℤ m) (sum_of (map view (drop l.value-index l.values)));
  low : neg_ℤ (pos (l.value-index * 2 ^ 63)) ≤ℤ l.sum;
  high : l.sum ≤ℤ pos (l.value-index * 2 ^ 63);
}
