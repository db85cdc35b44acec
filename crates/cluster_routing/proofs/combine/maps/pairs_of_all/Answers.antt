use Rattle.std.specs.Prelude.{ℤ}
use Rattle.std.proofs.Common.{◌∙◌, ap, sym, map, Global, Vec, option_map}
use Rattle.std.proofs.lemmas.Result.{IfOk-weaker}
use Rattle.resp_core.specs.View.{view}
use Rattle.cluster_routing.specs.Counted.{shown_counts}
use Rattle.cluster_routing.proofs.Counting.{Key, made, unmade}
use Rattle.cluster_routing.proofs.combine.maps.pairs_of_all.Goals as goal

pub returns-in_ok-sums_of-in-Some : goal.returns-in_ok-sums_of-in-Some
returns-in_ok-sums_of-in-Some c =
    let found = ap (option_map (λ (v : Vec (Key × ℤ) Global). shown_counts v.items)) (sym c.in-Some.is) ∙ c.in_ok-counts.ensures in
    IfOk-weaker c.pairs_of.result _ _ (λ o h. made (map view c.args.values.items) (shown_counts c.in-Some.counts.items) (shown_counts c.in_ok-sums_of-in-Some.field-0.entries) o found c.in_ok-sums_of-in-Some.ensures h) c.pairs_of.ensures

pub returns-in-None : goal.returns-in-None
returns-in-None c = unmade (map view c.args.values.items) (ap (option_map (λ (v : Vec (Key × ℤ) Global). shown_counts v.items)) (sym c.in-None.is) ∙ c.in_ok-counts.ensures)
