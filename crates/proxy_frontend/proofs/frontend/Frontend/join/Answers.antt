use Rattle.std.proofs.Common.{Some, true, refl}
use Rattle.proxy_connection.specs.History.{beginning}
use Rattle.proxy_frontend.specs.State.{State, state_of}
use Rattle.proxy_frontend.proofs.Served.{renewed, room, refused, refused_queues}
use Rattle.proxy_frontend.proofs.frontend.Frontend.join.Given.{Over}
use Rattle.proxy_frontend.proofs.frontend.Frontend.join.Goals as goal

pub returns-in-Ok-clause-ok : goal.returns-in-Ok-clause-ok
returns-in-Ok-clause-ok g c = rw (← c.self.view_is) (λ histories s.
    let self = c.self.inside in
    let guest = c.in_ok-guest.guest in
    let old = state_of self.connections.items self.proxy self.limits in
    let new = state_of c.place_at.new.connections.items c.join.new.self self.limits in
    let joins = c.in_ok-guest.ensures in
    let places = c.in-Ok.ensures.ok (room _ old new histories s guest joins.number) in
    renewed _ old new guest (Some c.new-connection.result) true (Some (beginning self.limits c.args.translator)) joins.ok places (refl, c.new-connection.ensures.guest, c.new-connection.ensures.begins) histories s)

-- where there is no place for its connection: the frontend before, with the guest, and when it left again
abbrev old : (g : Over) → goal.After-leave g → State g.row.T.Denot g.row.C.Denot g.row.V.Denot
old g c = state_of c.self.inside.connections.items c.self.inside.proxy c.self.inside.limits

abbrev mid : (g : Over) → goal.After-leave g → State g.row.T.Denot g.row.C.Denot g.row.V.Denot
mid g c = state_of c.self.inside.connections.items c.join.new.self c.self.inside.limits

abbrev new : (g : Over) → goal.After-leave g → State g.row.T.Denot g.row.C.Denot g.row.V.Denot
new g c = state_of c.place_at.new.connections.items c.leave.new.self c.self.inside.limits

pub returns-in-Err-clause-err : goal.returns-in-Err-clause-err
returns-in-Err-clause-err g c =
    let e = c.in-Err.ensures in
    rw (← c.self.view_is) (refused _ (old g c) (new g c) c.in_ok-guest.guest (mid g c) e.err e.due c.in_ok-guest.ensures.ok c.leave.ensures.ended)

pub returns-in-Err-clause-queues : goal.returns-in-Err-clause-queues
returns-in-Err-clause-queues g c =
    let e = c.in-Err.ensures in
    rw (← c.self.view_is) (refused_queues _ (old g c) (new g c) c.in_ok-guest.guest (mid g c) e.err e.due c.in_ok-guest.ensures.ok c.leave.ensures.ended)
