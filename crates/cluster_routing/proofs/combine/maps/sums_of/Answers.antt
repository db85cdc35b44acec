use Rattle.std.specs.Prelude.{◌≤ℤ◌, ℤ, neg_ℤ, pos, ◌^◌, fold}
use Rattle.std.specs.Vec.Iter.{into_iter_items}
use Rattle.std.proofs.Common.{◌≡◌, ◌+◌, ◌*◌, ◌≤◌, ◌∙◌, [], ◌∷◌, ◌++◌, ap, sym, subst, arith, rules, append_assoc, length, length-append, SFits, w64, to_z, of_z}
use Rattle.std.proofs.lemmas.Int.{ints}
use Rattle.cluster_routing.specs.Counted.{shown_counts, AreWithin}
use Rattle.cluster_routing.specs.Policies.{add_count}
use Rattle.cluster_routing.proofs.Counting.{wider, within_more}
use Rattle.cluster_routing.proofs.combine.maps.sums_of.Goals as goal

pub add_count-requires : goal.add_count-requires
add_count-requires c =
    let parts : length c.args.counts.items ≡ length c.counts.yielded + length (into_iter_items c.counts.count-iterator) = ap length c.counts.invariant.all ∙ length-append c.counts.yielded (into_iter_items c.counts.count-iterator) in
    let below : length c.counts.yielded * 2 ^ 63 ≤ 2 ^ 126 = omega (arith, parts, c.args.counts.ok.0, c.args.counts.ok.1, c.args.counts.small) in
    wider (length c.counts.yielded * 2 ^ 63) (2 ^ 126) (shown_counts c.counts.sums.entries) below c.counts.invariant.within

pub counts-preserved : goal.counts-preserved
counts-preserved c =
    let n : ℤ = to_z w64 (of_z w64 c.in-Some.count.1) in
    let low : neg_ℤ (pos (2 ^ 63)) ≤ℤ n = omega (arith, ints) in
    let high : n ≤ℤ pos (2 ^ 63) = omega (arith, ints) in
    let len : length (c.counts.yielded ++ c.in-Some.count ∷ []) ≡ length c.counts.yielded + 1 = length-append c.counts.yielded (c.in-Some.count ∷ []) in
    let fits : SFits w64 c.in-Some.count.1 = search rules in
    let same : n ≡ c.in-Some.count.1 = omega (arith, ints, fits) in
    let added : shown_counts c.add_count.new.sums.entries ≡ add_count (c.in-Some.count.0.items, n) (shown_counts c.counts.sums.entries) = c.in_ok-add_count.ensures in
    let bound : length c.counts.yielded * 2 ^ 63 + 2 ^ 63 ≡ length (c.counts.yielded ++ c.in-Some.count ∷ []) * 2 ^ 63 = omega (arith, len) in
    let more : AreWithin (length c.counts.yielded * 2 ^ 63 + 2 ^ 63) (add_count (c.in-Some.count.0.items, n) (shown_counts c.counts.sums.entries)) = within_more (length c.counts.yielded * 2 ^ 63) c.in-Some.count.0.items n (shown_counts c.counts.sums.entries) low high c.counts.invariant.within in
    record {
      all = c.counts.invariant.all ∙ ap (λ cs. c.counts.yielded ++ cs) c.in-Some.ensures.steps.0 ∙ sym (append_assoc c.counts.yielded (c.in-Some.count ∷ []) (into_iter_items c.next.new.self));
      so_far =
          c.counts.invariant.so_far
          ∙ ap (λ cs. fold (λ sums c. add_count c sums) (shown_counts c.counts.sums.entries) (shown_counts cs)) c.in-Some.ensures.steps.0
          ∙ ap (λ sums. fold (λ sums c. add_count c sums) sums (shown_counts (into_iter_items c.next.new.self))) (ap (λ m. add_count (c.in-Some.count.0.items, m) (shown_counts c.counts.sums.entries)) (sym same) ∙ sym added);
      within = subst (λ b. AreWithin b (shown_counts c.add_count.new.sums.entries)) bound (subst (λ cs. AreWithin (length c.counts.yielded * 2 ^ 63 + 2 ^ 63) cs) (sym added) more);
    }
