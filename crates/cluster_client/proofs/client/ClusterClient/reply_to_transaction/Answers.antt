use Rattle.std.proofs.Common.{◌∙◌, ap, subst, None}
use Rattle.std.proofs.lemmas.Result.{err_from_is_err_and}
use Rattle.resp_core.specs.View.{view}
use Rattle.cluster_calls.specs.Calls.OneSlot.{args_of}
use Rattle.cluster_calls.specs.Links.AttemptRuns.{AttemptsMade}
use Rattle.cluster_calls.specs.Links.World.{World, tree_result}
use Rattle.cluster_calls.proofs.LinkLaws.Transacted.{transaction_empty, transaction_made, transaction_refused}
use Rattle.cluster_client.specs.Whole.{whole}
use Rattle.cluster_client.proofs.client.ClusterClient.reply_to_transaction.Goals as goal

pub returns-in_err-attempt-clause-made : goal.returns-in_err-attempt-clause-made
returns-in_err-attempt-clause-made g c =
    let p = err_from_is_err_and c.from_residual.result c.from_residual.ensures.1 in
    let told = c.in_err-attempt.ensures in
    rw (p.1, p.2) (transaction_refused None _ _ _ told.stays _ (λ m. told.planned (λ k. m (cc k))))

pub returns-in_err-attempt-clause-picks : goal.returns-in_err-attempt-clause-picks
returns-in_err-attempt-clause-picks g c = ap (λ (w : World). w.picked) c.in_err-attempt.ensures.stays

pub returns-in-Some-clause-made : goal.returns-in-Some-clause-made
returns-in-Some-clause-made g c =
    let told = c.in_ok-attempt.ensures in
    let plan = rw c.in-Some.is at (told.planned (λ k. cc k)) in
    let first = rw c.in-Some.is at told.attempt in
    let made = subst (λ h. AttemptsMade (whole g.L.ConnectionLike.seen c.first_attempt.new.self) (whole g.L.ConnectionLike.seen c.follow_attempts.new.self) h (args_of c.args.commands.now) (tree_result view c.follow_attempts.result)) first.1 c.follow_attempts.ensures in
    transaction_made None _ _ _ _ _ _ told.stays plan made

pub returns-in-Some-clause-picks : goal.returns-in-Some-clause-picks
returns-in-Some-clause-picks g c = c.follow_attempts.ensures.picked ∙ ap (λ (w : World). w.picked) c.in_ok-attempt.ensures.stays

pub returns-in-None-clause-made : goal.returns-in-None-clause-made
returns-in-None-clause-made g c =
    let told = c.in_ok-attempt.ensures in
    let plan = rw c.in-None.is at (told.planned (λ k. cc k)) in
    rw c.no_replies.ensures (transaction_empty None _ _ _ told.stays plan)

pub returns-in-None-clause-picks : goal.returns-in-None-clause-picks
returns-in-None-clause-picks g c = ap (λ (w : World). w.picked) c.in_ok-attempt.ensures.stays
