use Rattle.std.proofs.Common.{List, ℕ, ◌<◌, length, refl, subst}
use Rattle.proxy_connection.specs.Ways.{ways}
use Rattle.proxy_frontend.specs.Histories.{heard}
use Rattle.proxy_frontend.specs.Serving.{AllGo}
use Rattle.proxy_frontend.specs.Steps.{Joined, NotJoined, Heard, NotHeard, NotAdvanced, WroteNothing, NotWritten, Left, Turned, NotTurned}
use Rattle.proxy_frontend.proofs.Running.{advanced, written, of_call}
use Rattle.proxy_frontend.proofs.frontend.Frontend.answer_to.Goals as goal

pub returns-in-Ok : goal.returns-in-Ok
returns-in-Ok g c =
    let e = c.in-Ok.ensures in (Joined c.in-Ok.guest c.in-Join.translator, c.in-Join.is, refl, (e.ok, (e.limits, e.shares), (e.number, e.within, refl)))

pub returns-in-Join : goal.returns-in-Join
returns-in-Join g c =
    let e = c.in-Err.ensures in (NotJoined c.in-Join.translator c.in-Err.why, c.in-Join.is, refl, (e.err, (e.limits, e.shares), (e.why, refl)))

pub returns-in-Ok-hear : goal.returns-in-Ok-hear
returns-in-Ok-hear g c =
    let old = c.args.self.now in
    let new = c.hear.new.self in
    let e = c.in-Ok-hear.ensures in
    let w = ways g.C.Command.overlaps g.V.Written.written g.T.Translator in
    let goes = subst (λ (bytes : List ℕ). AllGo w old new (heard c.in-Hear.guest bytes)) c.deref.ensures.value e.ok in
    (Heard c.in-Hear.guest c.in-Hear.bytes, c.in-Hear.is, refl, (goes, (e.limits, e.shares), refl))

pub returns-in-Hear : goal.returns-in-Hear
returns-in-Hear g c =
    let e = c.in-Err-hear.ensures in
    let some = subst (λ (bytes : List ℕ). 0 < length bytes) c.deref.ensures.value e.some in
    (NotHeard c.in-Hear.guest c.in-Hear.bytes, c.in-Hear.is, refl, (e.err, (e.limits, e.shares), (e.due, some, refl)))

pub returns-in-Ok-advance : goal.returns-in-Ok-advance
returns-in-Ok-advance g c =
    let old = c.args.self.now in
    let new = c.advance.new.self in
    let e = c.in-Ok-advance.ensures in
    of_call _ _ _ _ c.in-Advance.is (advanced _ _ _ _ c.in-Advance.guest c.in-Ok-advance.progress old new _ _ refl (e.limits, e.shares) e.ok)

pub returns-in-Advance : goal.returns-in-Advance
returns-in-Advance g c =
    let e = c.in-Err-advance.ensures in
    (NotAdvanced c.in-Advance.guest, c.in-Advance.is, refl, (e.err, (e.limits, e.shares), (e.due, e.under_way, refl)))

pub returns-in-Ok-Some : goal.returns-in-Ok-Some
returns-in-Ok-Some g c =
    let old = c.args.self.now in
    let new = c.next_of.new.self in
    let e = c.in-Ok-Some.ensures in
    of_call _ _ _ _ c.in-Write.is (written _ _ _ _ c.in-Write.guest c.in-Ok-Some.bytes old new _ _ refl (e.limits, e.shares) (rw c.in-Ok-Some.field-0-is at e.ok))

pub returns-in-Ok-None : goal.returns-in-Ok-None
returns-in-Ok-None g c =
    let e = c.in-Ok-None.ensures in
    let nothing = rw c.in-Ok-None.field-0-is at e.ok in
    (WroteNothing c.in-Write.guest, c.in-Write.is, refl, (nothing.1, (e.limits, e.shares), (nothing.2, refl)))

pub returns-in-Write : goal.returns-in-Write
returns-in-Write g c =
    let e = c.in-Err-next_of.ensures in
    (NotWritten c.in-Write.guest, c.in-Write.is, refl, (e.err, (e.limits, e.shares), (e.due, refl)))

pub returns-in-Leave : goal.returns-in-Leave
returns-in-Leave g c =
    let e = c.leave.ensures in (Left c.in-Leave.guest, c.in-Leave.is, refl, (e.ended, (e.limits, e.shares), refl))

pub returns-in-Ok-turn : goal.returns-in-Ok-turn
returns-in-Ok-turn g c =
    let e = c.in-Ok-turn.ensures in
    (Turned e.ok.0 e.ok.1, c.in-Turn.is, refl, (e.ok.5, (e.limits, e.shares), (e.ok.2, e.ok.3, e.ok.4)))

pub returns : goal.returns
returns g c =
    let e = c.in-Err-turn.ensures in (NotTurned, c.in-Turn.is, refl, (e.err, (e.limits, e.shares), e.unasked))
