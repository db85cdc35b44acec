use Rattle.std.proofs.Common.{◌≡◌, ◌∙◌, refl, subst}
use Rattle.std.proofs.lemmas.Result.{IfOk-weaker, err_from_is_err_and}
use Rattle.proxy_core.specs.Guests.{is_open_at, queue_at}
use Rattle.proxy_connection.specs.Moves.{Advances}
use Rattle.proxy_connection.specs.Ways.{ways}
use Rattle.proxy_connection.proofs.Served.{advances_behind, rests_advances}
use Rattle.proxy_connection.proofs.connection.Connection.advance.Goals as goal

pub returns-in-Some-clause-ok : goal.returns-in-Some-clause-ok
returns-in-Some-clause-ok g c =
    rests_advances _ _ _ _ _ _ c.args.self.now c.hear.new.self _ _ c.in-Some.progress (rw c.in-Some.is at c.in_ok-progress.ensures.none) c.hear.ensures.stays refl

pub returns-clause-ok : goal.returns-clause-ok
returns-clause-ok g c =
    let w = ways g.C.Command.overlaps g.V.Written.written g.T.Translator in
    let old = c.args.proxy.now in
    let same : c.understand.new.self.guest ≡ c.args.self.now.guest = c.understand.ensures.guest ∙ c.hear.ensures.guest in
    IfOk-weaker c.put.result _ _
    (λ progress did.
    let put = subst (λ n. Advances w g.C.Bytes.bytes g.V.Bytes.bytes old.limits.share (is_open_at old.openings n) n c.understand.new.self c.put.new.self
    old.queues c.put.new.proxy.queues progress) same did in
    advances_behind _ _ _ _ _ _ c.understand.new.self c.put.new.self _ _ c.args.self.now progress
    (λ q h s. c.understand.ensures.stays q h (c.hear.ensures.stays q h s)) put)
    c.put.ensures.ok

pub returns-in_err-progress-clause-due : goal.returns-in_err-progress-clause-due
returns-in_err-progress-clause-due g c =
    let e = err_from_is_err_and c.from_residual.result c.from_residual.ensures.1 in
    let old = c.args.proxy.now in
    let n = c.args.self.now.guest in
    rw e.1 (c.in_err-progress.ensures.due old.limits.share (is_open_at old.openings n) (queue_at old.queues n))

pub returns-in_err-understand-clause-due : goal.returns-in_err-understand-clause-due
returns-in_err-understand-clause-due g c =
    let e = err_from_is_err_and c.from_residual-in_err-understand.result c.from_residual-in_err-understand.ensures.1 in
    let old = c.args.proxy.now in
    let n = c.args.self.now.guest in
    rw e.1 (c.in_err-understand.ensures.due old.limits.share (is_open_at old.openings n) (queue_at old.queues n))
