use Rattle.std.proofs.Common.{refl}
use Rattle.std.proofs.lemmas.Result.{on_ok_weaker}
use Rattle.proxy_frontend.specs.State.{state_of}
use Rattle.proxy_frontend.proofs.Served.{told_all}
use Rattle.proxy_frontend.proofs.frontend.Frontend.turn.Goals as goal

pub returns-clause-ok : goal.returns-clause-ok
returns-clause-ok g c =
    let self = c.self.inside in
    let old = state_of self.connections.items self.proxy self.limits in
    let new = state_of self.connections.items c.turn.new.self self.limits in
    rw (← c.self.view_is)
    (on_ok_weaker c.turn.result (λ t. (t.0, t.1, t.2, t.3, t.4, told_all _ old new t.0 t.1 refl c.turn.ensures.openings t.4)) c.turn.ensures.ok)
