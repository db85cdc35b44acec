use Rattle.std.specs.Prelude.{Ok}
use Rattle.std.proofs.Common.{◌∙◌, ap, sym, option_map}
use Rattle.cluster_routing.specs.Policies.{or_bad_reply}
use Rattle.cluster_routing.proofs.Counting.{as_map, map_view}
use Rattle.cluster_routing.proofs.combine.maps.combine_map_results.Goals as goal

pub returns-in-Some : goal.returns-in-Some
returns-in-Some c memory = ap (λ t. Ok t) (map_view c.in-Some.pairs) ∙ ap or_bad_reply (ap (option_map as_map) (sym c.in-Some.is) ∙ c.in_ok-pairs.ensures)
