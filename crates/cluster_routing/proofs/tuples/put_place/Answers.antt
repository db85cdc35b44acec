use Rattle.std.specs.Prelude.{nat_eq}
use Rattle.std.specs.List.{position_or_len}
use Rattle.std.proofs.Common.{◌≡◌, ◌∙◌, ap, sym, map}
use Rattle.indexmap.specs.IndexSet.{insert_key}
use Rattle.cluster_routing.specs.Info.{shown_part}
use Rattle.cluster_routing.specs.Routing.{part_slots}
use Rattle.cluster_routing.proofs.Gathered.{put_slots}
use Rattle.cluster_routing.proofs.tuples.put_place.Goals as goal

pub put_into-requires : goal.put_into-requires
put_into-requires c = c.in_ok-part.ensures.index ∙ ap (λ s. position_or_len (nat_eq s) c.args.seen.now.keys) c.slot.ensures ∙ ap (position_or_len (nat_eq c.args.route.slot)) c.requires

pub returns-clause-seen : goal.returns-clause-seen
returns-clause-seen c =
    c.in_ok-part.ensures.keys
    ∙ ap (insert_key nat_eq c.args.seen.now.keys) c.slot.ensures
    ∙ ap (λ ks. insert_key nat_eq ks c.args.route.slot) c.requires
    ∙ sym (put_slots (map shown_part c.args.parts.now.items) c.args.route c.args.place)
    ∙ ap part_slots (sym c.in_ok-put_into.ensures)
