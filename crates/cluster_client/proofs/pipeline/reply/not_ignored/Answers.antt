use Rattle.std.specs.Vec.Iter.{into_iter_items}
use Rattle.std.proofs.Common.{◌≡◌, ◌∙◌, ◌++◌, [], map, sym, ap, append-nil}
use Rattle.std.proofs.lemmas.List.{nil_from_length}
use Rattle.resp_core.specs.View.{view}
use Rattle.cluster_calls.proofs.LinkLaws.PipeErrors.{none_left}
use Rattle.cluster_client.proofs.pipeline.reply.not_ignored.Goals as goal

pub returns : goal.returns
returns c =
    let none : into_iter_items c.replies.reply-iterator ≡ [] = nil_from_length _ (sym c.replies.reply-iterator.rest.ok.0 ∙ c.in-None.ensures.steps.0) in
    sym (append-nil (map view c.replies.kept.items)) ∙ ap (λ ts. map view c.replies.kept.items ++ ts) (sym (none_left c.replies.left.now)) ∙ (rw none at c.replies.invariant)
