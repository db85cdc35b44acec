use Rattle.std.proofs.Common.{arith}
use Rattle.std.proofs.lemmas.Result.{IfOk-weaker, on_err_weaker}
use Rattle.proxy_frontend.proofs.Advancing.{advances_at, under_way_at}
use Rattle.proxy_frontend.proofs.frontend.Frontend.advance.Goals as goal

pub returns-in-Some-clause-ok : goal.returns-in-Some-clause-ok
returns-in-Some-clause-ok g c =
    rw (← c.self.view_is)
    (IfOk-weaker c.advance.result _ _ (advances_at _ _ _ c.self.inside.connections.items c.self.inside.proxy c.advance.new.proxy c.self.inside.limits c.args.guest _ c.in-Some.connection c.advance.new.self c.index_mut.ensures.value c.in-Some.is (omega arith) c.advance.ensures.guest c.advance.ensures.openings) c.advance.ensures.ok)

pub returns-in-Some-clause-under_way : goal.returns-in-Some-clause-under_way
returns-in-Some-clause-under_way g c =
    rw (← c.self.view_is)
    (on_err_weaker c.advance.result (under_way_at _ _ _ c.self.inside.connections.items c.self.inside.proxy c.advance.new.proxy c.self.inside.limits c.args.guest _ c.in-Some.connection c.advance.new.self c.index_mut.ensures.value c.in-Some.is (omega arith) c.advance.ensures.guest c.advance.ensures.openings) c.advance.ensures.due)
