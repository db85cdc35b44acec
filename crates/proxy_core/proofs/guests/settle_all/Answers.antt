use Rattle.std.proofs.Common.{◌<◌, length, get_or, ◌∙◌, arith}
use Rattle.std.proofs.ByRecursion.{All-set}
use Rattle.std.proofs.lemmas.List.{get_or_default}
use Rattle.proxy_core.specs.Batch.{all_settled}
use Rattle.proxy_core.specs.Guests.{IsCounted, queues}
use Rattle.proxy_core.proofs.BatchLemmas.{settle_more_behind, settle_more_done, openings_set}
use Rattle.proxy_core.proofs.guests.settle_all.Goals as goal

pub guests-preserved : goal.guests-preserved
guests-preserved g c =
    let inv = c.guests.invariant in
    let x = get_or c.guests.guests c.guests.i c.index-guests-i.result in
    let y = c.settle_guest.new.guest in
    let h : c.guests.i < length c.guests.guests = omega arith in
    record {
      openings = openings_set c.guests.guests c.guests.i y c.index-guests-i.result c.settle_guest.ensures.still_open ∙ inv.openings;
      behind = settle_more_behind c.guests.guests c.args.guests.now c.guests.i y inv.behind;
      done = settle_more_done g.C.Command.overlaps c.guests.guests c.args.guests.now c.guests.i x y c.guests.left.items c.settle_guest.new.outcomes.items (all_settled g.C.Command.overlaps (queues c.args.guests.now) c.args.outcomes.items) h (get_or_default c.guests.guests c.guests.i c.index-guests-i.result x h) inv.behind c.settle_guest.ensures.entries c.settle_guest.ensures.outcomes inv.done;
      counted = All-set (IsCounted g.C.Bytes.bytes g.V.Bytes.bytes) c.guests.guests c.guests.i y c.settle_guest.ensures.counted inv.counted;
    }
