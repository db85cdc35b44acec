use Rattle.std.specs.Prelude.{ℤ, ◌+ℤ◌, ◌^◌}
use Rattle.std.proofs.Common.{◌≡◌, ◌<◌, ◌∙◌, ap, arith, rules, to_z, w64, SFits}
use Rattle.std.specs.Int.{w128}
use Rattle.std.proofs.lemmas.Int.{ints}
use Rattle.cluster_routing.proofs.Totals.{total_step, wide, low_step, high_step}
use Rattle.cluster_routing.proofs.combine.numbers.total.Goals as goal

pub values-preserved : goal.values-preserved
values-preserved c =
    let n : ℤ = c.in_ok-int_in.field-0 in
    let k = c.values.value-index in
    let small : k < 2 ^ 64 = omega arith in
    let fits : SFits w64 n = search rules in
    let same : c.from.result ≡ n = omega (arith, ints, c.from.ensures, fits) in
    let more = wide (to_z w128 c.values.sum-bits) c.from.result n k c.values.invariant.low c.values.invariant.high small c.from.ensures in
    record {
      so_far = c.values.invariant.so_far ∙ total_step c.args.values.now k c.value-item.result (to_z w128 c.values.sum-bits) n _ c.values-test.true c.value-item.is (c.in_ok-int_in.ensures) (more ∙ ap (λ m. to_z w128 c.values.sum-bits +ℤ m) same);
      low = low_step (to_z w128 c.values.sum-bits) c.from.result n _ k c.values.invariant.low c.from.ensures more;
      high = high_step (to_z w128 c.values.sum-bits) c.from.result n _ k c.values.invariant.high c.from.ensures more;
    }
