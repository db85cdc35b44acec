use Rattle.std.proofs.Common.{◌≡◌, ◌++◌, List, ℕ, map, subst}
use Rattle.std.specs.Result.{IfOk}
use Rattle.cluster_routing.specs.declared.route.Route.{Route}
use Rattle.cluster_steps.specs.CodeParts.{routed_part}
use Rattle.cluster_steps.specs.FirstPlaces.{part_of}
use Rattle.cluster_steps.proofs.route.push_split.Goals as goal

pub returns : goal.returns
returns c =
    subst (λ (routed : List (Route × List (List ℕ))). IfOk c.push_parts.result (λ x. map part_of c.push_parts.new.parts.items ≡ map part_of c.args.parts.now.items ++ map routed_part routed)) c.in_ok-routed.ensures c.push_parts.ensures
