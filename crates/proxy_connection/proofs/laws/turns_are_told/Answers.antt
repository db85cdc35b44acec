use Rattle.proxy_connection.proofs.Served.{turn_told}
use Rattle.proxy_connection.proofs.laws.turns_are_told.Goals as goal

pub returns : goal.returns
returns g c = turn_told _
