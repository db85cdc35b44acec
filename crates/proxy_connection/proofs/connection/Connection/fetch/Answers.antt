use Rattle.std.proofs.Common.{sym, ◌∙◌}
use Rattle.proxy_connection.proofs.Served.{empty_is, reply_taken}
use Rattle.proxy_connection.proofs.connection.Connection.fetch.Goals as goal

pub returns-in-Some-clause-goes : goal.returns-in-Some-clause-goes
returns-in-Some-clause-goes g c =
    let written = rw (← c.self.view_is) at (sym c.output.ensures ∙ empty_is _ (sym c.if-not-is_empty.ensures)) in
    rw (← c.self.view_is) (λ h s. reply_taken _ _ _ _ h c.in-Some.reply written c.in-Some.ensures.taken.1 s)
