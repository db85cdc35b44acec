use Rattle.std.specs.Prelude.{ℤ, ◌+ℤ◌, ◌^◌, pos, unwrap_or}
use Rattle.std.specs.Cmp.Lexicographic.{slice_cmp}
use Rattle.std.specs.Map.{lookup}
use Rattle.std.specs.Ordering.{is_eq, nat_cmp}
use Rattle.std.proofs.Common.{◌∙◌, ap, List, SFits, w64, rules}
use Rattle.cluster_routing.specs.Counted.{shown_counts}
use Rattle.cluster_routing.proofs.Counting.{Key, added, sum_fits, sum_is, sum_within}
use Rattle.cluster_routing.proofs.combine.maps.add_count.Goals as goal

pub overflow_add-sum : goal.overflow_add-sum
overflow_add-sum c = sum_fits c.sum_under.result c.from.result c.args.n (sum_within (2 ^ 126) _ c.args.sums.now.entries c.sum_under.result c.requires c.sum_under.ensures) c.from.ensures

pub returns : goal.returns
returns c =
    let fits : SFits w64 c.args.n = search rules in
    let es : List (Key × ℤ) = c.args.sums.now.entries in
    ap shown_counts c.in_ok-insert.ensures.entries
    ∙ added es c.args.key c.args.n _ c.insert.ensures.was_ordered (
    sum_is c.sum_under.result c.from.result c.args.n (sum_within (2 ^ 126) _ es c.sum_under.result c.requires c.sum_under.ensures) c.from.ensures fits
    ∙ ap (λ s. s +ℤ c.args.n) (c.sum_under.ensures ∙ ap (λ bytes. unwrap_or (lookup (λ (k : Key). is_eq (slice_cmp nat_cmp bytes k.items)) es) (pos 0)) c.deref.ensures.value)
    )
