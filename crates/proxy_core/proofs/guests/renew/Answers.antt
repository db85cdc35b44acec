use Rattle.std.proofs.Common.{[], refl, sym, ap}
use Rattle.std.proofs.ByRecursion.{All-set}
use Rattle.proxy_core.specs.declared.guest_queue.GuestQueue.{GuestQueue}
use Rattle.proxy_core.specs.Guests.{IsCounted, queue_bytes}
use Rattle.proxy_core.proofs.GuestLemmas.{queues_put, openings_put}
use Rattle.proxy_core.proofs.guests.renew.Goals as goal

pub returns-clause-queues : goal.returns-clause-queues
returns-clause-queues g c =
    let y : GuestQueue g.row.C.Denot g.row.V.Denot = record { «open» = c.args.is_there; bytes = 0; entries = c.new.result } in
    queues_put c.args.guests.now c.args.guest y [] c.new.ensures.items

pub returns-clause-openings : goal.returns-clause-openings
returns-clause-openings g c =
    let y : GuestQueue g.row.C.Denot g.row.V.Denot = record { «open» = c.args.is_there; bytes = 0; entries = c.new.result } in
    openings_put c.args.guests.now c.args.guest y c.args.is_there refl

pub returns-clause-counted : goal.returns-clause-counted
returns-clause-counted g c =
    let y : GuestQueue g.row.C.Denot g.row.V.Denot = record { «open» = c.args.is_there; bytes = 0; entries = c.new.result } in
    All-set (IsCounted g.C.Bytes.bytes g.V.Bytes.bytes) c.args.guests.now c.args.guest y (ap (queue_bytes g.C.Bytes.bytes g.V.Bytes.bytes) (sym c.new.ensures.items)) c.requires.counted
