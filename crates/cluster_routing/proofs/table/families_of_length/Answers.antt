use Rattle.std.proofs.Common.{refl}
use Rattle.cluster_routing.proofs.Lengths.{served_names, served_names_whole}
use Rattle.cluster_routing.proofs.table.families_of_length.Goals as goal

pub returns-in-3 : goal.returns-in-3
returns-in-3 c = served_names c.in-3.is refl

pub returns-in-5 : goal.returns-in-5
returns-in-5 c = served_names c.in-5.is refl

pub returns-in-6 : goal.returns-in-6
returns-in-6 c = served_names c.in-6.is refl

pub returns-in-7 : goal.returns-in-7
returns-in-7 c = served_names c.in-7.is refl

pub returns-in-8 : goal.returns-in-8
returns-in-8 c = served_names c.in-8.is refl

pub returns-in_default : goal.returns-in_default
returns-in_default c = served_names_whole refl
