use Rattle.std.proofs.Common.{arith}
use Rattle.std.proofs.lemmas.Result.{IfOk-weaker, on_err_weaker}
use Rattle.proxy_frontend.proofs.Writing.{keeps_at, writes_at}
use Rattle.proxy_frontend.proofs.frontend.Frontend.write.Goals as goal

pub returns-in-Some-clause-ok : goal.returns-in-Some-clause-ok
returns-in-Some-clause-ok g c =
    rw (← c.self.view_is)
    (IfOk-weaker c.write_next.result _ _ (writes_at _ c.self.inside.connections.items c.self.inside.proxy c.write_next.new.proxy c.self.inside.limits c.args.guest _ c.in-Some.connection c.write_next.new.connection c.index_mut.ensures.value c.in-Some.is (omega arith) c.write_next.ensures.guest c.write_next.ensures.openings _ _) c.write_next.ensures.ok)

pub returns-in-Some-clause-err : goal.returns-in-Some-clause-err
returns-in-Some-clause-err g c =
    rw (← c.self.view_is)
    (on_err_weaker c.write_next.result (keeps_at _ c.self.inside.connections.items c.self.inside.proxy c.write_next.new.proxy c.self.inside.limits c.args.guest _ c.in-Some.connection c.write_next.new.connection c.index_mut.ensures.value c.in-Some.is (omega arith) c.write_next.ensures.guest c.write_next.ensures.openings) c.write_next.ensures.err)
