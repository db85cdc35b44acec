use Rattle.std.proofs.Common.{◌∙◌, ap, sym, map, Some}
use Rattle.resp_core.specs.View.{view}
use Rattle.cluster_routing.specs.SlotsReply.{array_items}
use Rattle.cluster_routing.proofs.Replies.{items-Array}
use Rattle.cluster_routing.proofs.slots_reply.items_of.Goals as goal

pub returns-in-Array : goal.returns-in-Array
returns-in-Array c =
    ap (λ xs. Some (map view xs)) c.deref.ensures.value ∙ sym (items-Array c.in-Array.items) ∙ ap (λ v. array_items (view v)) (sym c.in-Array.is)
