use Rattle.std.proofs.Common.{refl, ◌∙◌}
use Rattle.cluster_routing.proofs.DistinctNodes.{same_list}
use Rattle.cluster_routing.proofs.shards.same_addresses.Goals as goal

pub returns : goal.returns
returns c = c.eq.ensures ∙ same_list _ (λ x y. refl) c.args.a.now c.args.b.now
