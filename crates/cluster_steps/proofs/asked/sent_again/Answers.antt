use Rattle.std.proofs.Common.{◌≡◌, ◌∙◌, map, ap}
use Rattle.cluster_calls.specs.Links.Request.{Request}
use Rattle.cluster_calls.proofs.LinkLaws.ChainLoop.{last_read}
use Rattle.cluster_steps.proofs.asked.sent_again.Goals as goal

pub returns-clause-args : goal.returns-clause-args
returns-clause-args c = λ q e.
    let read : c.index-log-log.result ≡ q = last_read c.args.log.now q c.index-log-log.result e c.index-log-log.is in
    c.in_ok-copied.ensures ∙ ap (λ xs. map (λ arg. arg.items) xs) c.deref.ensures.value ∙ ap (λ (r : Request). r.args) (c.last.view_is ∙ read)
