use Rattle.std.proofs.Common.{sym}
use Rattle.proxy_connection.proofs.Served.{read_first}
use Rattle.proxy_connection.proofs.laws.reads_in_order.Goals as goal

pub returns : goal.returns
returns g c = λ d q h s. rw (sym s.limits) (read_first d.requests s.commands d.pending h.fed s.reads)
