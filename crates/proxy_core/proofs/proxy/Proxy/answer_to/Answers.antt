use Rattle.std.proofs.Common.{refl, sym, ◌∙◌, ap, subst}
use Rattle.proxy_core.specs.declared.queue.Entry.{Entry}
use Rattle.proxy_core.specs.Guests.{queue_at, is_open_at}
use Rattle.proxy_core.specs.Moves.{IsPutDue}
use Rattle.proxy_core.specs.declared.play.Call.TheVariants as calls
use Rattle.proxy_core.specs.Steps.{Joined, NotJoined, Put, NotPut, Took, NotTook, Left, Turned, NotTurned}
use Rattle.proxy_core.proofs.proxy.Proxy.answer_to.Goals as goal

pub returns-in-Ok : goal.returns-in-Ok
returns-in-Ok g c =
    let e = c.in-Ok.ensures in (Joined c.in-Ok.guest, c.in-Join.is, refl, (e.number, e.within, e.ok, refl))

pub returns-in-Err : goal.returns-in-Err
returns-in-Err g c =
    let e = c.in-Err.ensures in (NotJoined c.in-Err.why, c.in-Join.is, refl, (e.why, (e.err, (e.still_open, e.limits)), refl))

pub returns-in-Ok-put : goal.returns-in-Ok-put
returns-in-Ok-put g c =
    let e = c.in-Ok-put.ensures in
    (Put c.in-Put.guest c.in-Put.entry, c.in-Put.is, refl, (e.is_open, e.ok, e.bounded, e.bytes_bounded, (e.openings, e.limits), refl))

pub returns-in-Err-put : goal.returns-in-Err-put
returns-in-Err-put g c =
    let e = c.in-Err-put.ensures in
    let r = c.in-Err-put.refused in
    let old = c.args.self.now in
    let why = subst (λ (x : Entry g.row.C.Denot g.row.V.Denot). IsPutDue g.C.Bytes.bytes g.V.Bytes.bytes old.limits.share (queue_at old.queues c.in-Put.guest) x (is_open_at old.openings c.in-Put.guest) r.why) (sym e.entry) e.why in
    (NotPut c.in-Put.guest r.value r.why, c.in-Put.is ∙ ap (calls.Put c.in-Put.guest) (sym e.entry), refl, (why, (e.err, (e.openings, e.limits)), refl))

pub returns-in-Some : goal.returns-in-Some
returns-in-Some g c =
    let e = c.in-Some.ensures in (Took c.in-Take.guest c.in-Some.reply, c.in-Take.is, refl, (e.taken, (e.openings, e.limits), refl))

pub returns-in-None : goal.returns-in-None
returns-in-None g c =
    let e = c.in-None.ensures in (NotTook c.in-Take.guest, c.in-Take.is, refl, (sym e.first, (e.taken, (e.openings, e.limits)), refl))

pub returns-in-Leave : goal.returns-in-Leave
returns-in-Leave g c =
    let e = c.leave.ensures in (Left c.in-Leave.guest, c.in-Leave.is, refl, (e.ended, refl))

pub returns-in-Ok-turn : goal.returns-in-Ok-turn
returns-in-Ok-turn g c =
    let e = c.in-Ok-turn.ensures in
    (Turned e.ok.0 e.ok.1, c.in-Turn.is, refl, (e.ok.2, e.ok.3, e.ok.4, (e.openings, e.limits)))

pub returns-in-Err-turn : goal.returns-in-Err-turn
returns-in-Err-turn g c =
    let e = c.in-Err-turn.ensures in (NotTurned, c.in-Turn.is, refl, ((e.err, (e.openings, e.limits)), e.unasked))
