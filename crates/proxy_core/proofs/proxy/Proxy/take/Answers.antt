use Rattle.std.proofs.Common.{arith}
use Rattle.proxy_core.proofs.GuestLemmas.{openings_keep, take_ok}
use Rattle.proxy_core.proofs.proxy.Proxy.take.Goals as goal

pub returns-clause-taken : goal.returns-clause-taken
returns-clause-taken g c =
    rw (← c.self.view_is)
    (take_ok c.take.result c.self.inside.guests.items c.args.guest c.take.new.self _ (omega arith) c.index_mut.ensures.value c.take.ensures.first c.take.ensures.rest)

pub returns-clause-openings : goal.returns-clause-openings
returns-clause-openings g c =
    rw (← c.self.view_is) (openings_keep c.self.inside.guests.items c.args.guest c.take.new.self _ c.index_mut.ensures.value c.take.ensures.still_open)
