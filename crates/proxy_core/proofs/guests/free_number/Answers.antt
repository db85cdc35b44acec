use Rattle.std.proofs.Common.{sym, ◌∙◌}
use Rattle.proxy_core.proofs.GuestLemmas.{free_here, free_next}
use Rattle.proxy_core.proofs.guests.free_number.Goals as goal

pub returns-then-not-guests-i-clause-number : goal.returns-then-not-guests-i-clause-number
returns-then-not-guests-i-clause-number g c =
    sym (free_here c.args.guests.now c.guests.i c.index-guests-i.result c.guests-test.true c.if-not-guests-i.true) ∙ c.guests.invariant

pub guests-preserved : goal.guests-preserved
guests-preserved g c =
    free_next c.args.guests.now c.guests.i c.index-guests-i.result c.guests-test.true c.if-not-guests-i.false ∙ c.guests.invariant
