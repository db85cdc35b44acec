use Rattle.std.proofs.Common.{◌∙◌, sym}
use Rattle.cluster_routing.proofs.Gathered.{part_found, part_missed}
use Rattle.cluster_routing.proofs.tuples.part_at.Goals as goal

pub returns-in-Some : goal.returns-in-Some
returns-in-Some c = part_found c.args.parts.now c.args.slot c.in-Some.part (sym c.first_part.ensures ∙ c.in-Some.is)

pub returns-in-None : goal.returns-in-None
returns-in-None c = part_missed c.args.parts.now c.args.slot (sym c.first_part.ensures ∙ c.in-None.is)
