use Rattle.std.proofs.Common.{map, subst}
use Rattle.resp_core.specs.View.{view}
use Rattle.cluster_calls.proofs.LogLaws.ExecAnswers.{lacks_unanswered}
use Rattle.cluster_steps.specs.Attempts.{AttemptTurnsBy, heard}
use Rattle.cluster_steps.proofs.attempt_turn.attempt_turn.Goals as goal

pub returns-in-Stay-clause-turns : goal.returns-in-Stay-clause-turns
returns-in-Stay-clause-turns g c m =
    let next = rw (c.in-Stay.is, c.deref.ensures.value) at c.in_ok-next_attempt.ensures.next in
    subst (λ n. AttemptTurnsBy n (heard (map view c.args.replies.items)) c.answered.result) next c.answered.ensures.turns

pub returns-in-Stay-clause-unanswered : goal.returns-in-Stay-clause-unanswered
returns-in-Stay-clause-unanswered g c lacks =
    let turns = rw lacks at c.answered.ensures.turns in
    lacks_unanswered (heard (map view c.args.replies.items)) turns.1
