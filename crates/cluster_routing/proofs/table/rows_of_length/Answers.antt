use Rattle.std.proofs.Common.{refl}
use Rattle.cluster_routing.specs.Table.{table}
use Rattle.cluster_routing.proofs.Lengths.{served_rows, served_rows_whole}
use Rattle.cluster_routing.proofs.table.rows_of_length.Goals as goal

pub returns-in-3 : goal.returns-in-3
unfolding table
returns-in-3 c = served_rows c.in-3.is refl

pub returns-in-4 : goal.returns-in-4
unfolding table
returns-in-4 c = served_rows c.in-4.is refl

pub returns-in-5 : goal.returns-in-5
unfolding table
returns-in-5 c = served_rows c.in-5.is refl

pub returns-in-6 : goal.returns-in-6
unfolding table
returns-in-6 c = served_rows c.in-6.is refl

pub returns-in-7 : goal.returns-in-7
unfolding table
returns-in-7 c = served_rows c.in-7.is refl

pub returns-in-8 : goal.returns-in-8
unfolding table
returns-in-8 c = served_rows c.in-8.is refl

pub returns-in-9 : goal.returns-in-9
unfolding table
returns-in-9 c = served_rows c.in-9.is refl

pub returns-in-10 : goal.returns-in-10
unfolding table
returns-in-10 c = served_rows c.in-10.is refl

pub returns-in-11 : goal.returns-in-11
unfolding table
returns-in-11 c = served_rows c.in-11.is refl

pub returns-in-12 : goal.returns-in-12
unfolding table
returns-in-12 c = served_rows c.in-12.is refl

pub returns-in-13 : goal.returns-in-13
unfolding table
returns-in-13 c = served_rows c.in-13.is refl

pub returns-in-14 : goal.returns-in-14
unfolding table
returns-in-14 c = served_rows c.in-14.is refl

pub returns-in-15 : goal.returns-in-15
unfolding table
returns-in-15 c = served_rows c.in-15.is refl

pub returns-in-16 : goal.returns-in-16
unfolding table
returns-in-16 c = served_rows c.in-16.is refl

pub returns-in-18 : goal.returns-in-18
unfolding table
returns-in-18 c = served_rows c.in-18.is refl

pub returns-in-21 : goal.returns-in-21
unfolding table
returns-in-21 c = served_rows c.in-21.is refl

pub returns-in_default : goal.returns-in_default
unfolding table
returns-in_default c = served_rows_whole refl
