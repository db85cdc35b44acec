use Rattle.std.proofs.Common.{◌≤◌, length, ap, arith}
use Rattle.proxy_connection.proofs.Served.{bytes_written, rest_behind}
use Rattle.proxy_connection.proofs.connection.Connection.wrote.Goals as goal

pub returns-in-Some-clause-rest : goal.returns-in-Some-clause-rest
returns-in-Some-clause-rest g c =
    let bytes = g.V.Written.written c.in-Some.reply in
    let same = ap length c.written.ensures in
    let fits = c.written.type_inv.0 in
    let small : length bytes ≤ 18446744073709551615 = omega arith in
    rw (← c.self.view_is, c.in-Some.is)
    (rest_behind bytes c.self.inside.count c.args.count c.saturating_add.result c.min-self-inside.result 18446744073709551615 c.saturating_add.ensures (rw c.written.ensures at c.min-self-inside.ensures) small)

pub returns-in-Some-clause-goes : goal.returns-in-Some-clause-goes
returns-in-Some-clause-goes g c =
    let rest = rw (← c.self.view_is) at (returns-in-Some-clause-rest g c) in
    rw (← c.self.view_is) (λ q h s. bytes_written _ _ q h c.args.count _ rest s)
