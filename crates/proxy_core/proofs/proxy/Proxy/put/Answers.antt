use Rattle.std.proofs.Common.{arith}
use Rattle.std.proofs.ByRecursion.{All-set}
use Rattle.proxy_core.specs.Guests.{IsCounted, entry_bytes}
use Rattle.proxy_core.proofs.GuestLemmas.{counted_read, openings_keep, put_ok, put_err, put_bounded, put_bytes, put_counted, why_read}
use Rattle.proxy_core.proofs.proxy.Proxy.put.Given.{Over}
use Rattle.proxy_core.proofs.proxy.Proxy.put.Goals.{After-put}
use Rattle.proxy_core.proofs.proxy.Proxy.put.Goals as goal

-- the bytes of the guest's queue are counted before and after
was_counted : (g : Over) (c : After-put g) → IsCounted g.C.Bytes.bytes g.V.Bytes.bytes c.index_mut.result.now
was_counted g c = counted_read g.C.Bytes.bytes g.V.Bytes.bytes c.self.inside.guests.items c.args.guest _ (omega arith) c.index_mut.ensures.value c.self.invariant

is_counted : (g : Over) (c : After-put g) → IsCounted g.C.Bytes.bytes g.V.Bytes.bytes c.put.new.self
is_counted g c = put_counted g.C.Bytes.bytes g.V.Bytes.bytes c.put.result c.index_mut.result.now c.put.new.self c.args.entry (was_counted g c) c.put.ensures.entries c.put.ensures.bytes

pub invariant_of-self : goal.invariant_of-self
invariant_of-self g c =
    All-set (IsCounted g.C.Bytes.bytes g.V.Bytes.bytes) c.self.inside.guests.items c.args.guest c.put.new.self (is_counted g (goal.at.invariant_of-self g c).After-put) c.self.invariant

pub returns-clause-ok : goal.returns-clause-ok
returns-clause-ok g c =
    rw (← c.self.view_is) (put_ok c.put.result c.self.inside.guests.items c.args.guest c.put.new.self _ c.args.entry (omega arith) c.index_mut.ensures.value c.put.ensures.entries)

pub returns-clause-bounded : goal.returns-clause-bounded
returns-clause-bounded g c =
    rw (← c.self.view_is) (put_bounded c.put.result c.self.inside.guests.items c.args.guest _ c.put.new.self (omega arith) c.put.ensures.bounded)

pub returns-clause-bytes_bounded : goal.returns-clause-bytes_bounded
returns-clause-bytes_bounded g c =
    rw (← c.self.view_is)
    (put_bytes g.C.Bytes.bytes g.V.Bytes.bytes c.put.result c.self.inside.guests.items c.args.guest _ c.put.new.self (omega arith) (is_counted g (goal.at.returns-clause-bytes_bounded g c).After-put) c.put.ensures.bytes_bounded)

pub returns-clause-err : goal.returns-clause-err
returns-clause-err g c =
    rw (← c.self.view_is) (put_err c.put.result c.self.inside.guests.items c.args.guest c.put.new.self _ c.args.entry c.index_mut.ensures.value c.put.ensures.entries)

pub returns-clause-openings : goal.returns-clause-openings
returns-clause-openings g c =
    rw (← c.self.view_is) (openings_keep c.self.inside.guests.items c.args.guest c.put.new.self _ c.index_mut.ensures.value c.put.ensures.still_open)
