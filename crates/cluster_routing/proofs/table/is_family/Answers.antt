use Rattle.std.proofs.Common.{refl, ◌∙◌}
use Rattle.cluster_routing.proofs.table.is_family.Goals as goal

pub returns : goal.returns
returns c = c.is_listed.ensures ∙ c.families_of_length.ensures.serve c.args.word.now refl
