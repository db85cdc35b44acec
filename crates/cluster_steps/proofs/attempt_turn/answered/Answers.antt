use Rattle.std.proofs.Common.{refl, sym}
use Rattle.std.proofs.lemmas.Result.{err_from_is_err_and}
use Rattle.cluster_steps.proofs.attempt_turn.answered.Goals as goal

pub returns-in_err-answer-clause-turns : goal.returns-in_err-answer-clause-turns
returns-in_err-answer-clause-turns c =
    let p = err_from_is_err_and c.from_residual.result c.from_residual.ensures.1 in
    rw (p.1, p.2) (refl, sym c.in_err-answer.ensures)

pub returns-clause-turns : goal.returns-clause-turns
returns-clause-turns c = (refl, sym c.in_ok-answer.ensures)
