use Rattle.std.proofs.Common.{◌≡◌, drop}
use Rattle.proxy_core.specs.Guests.{openings, free_from}
use Rattle.proxy_core.proofs.guests.free_number.Given as goal

abbrev pub invariant-guests : goal.invariant-guests
invariant-guests g l = free_from l.i (drop l.i (openings l.guests)) ≡ free_from 0 (openings l.guests)
