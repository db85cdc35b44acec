use Rattle.std.proofs.Common.{◌∙◌, sym, ap}
use Rattle.resp_core.specs.View.{view}
use Rattle.cluster_calls.proofs.ServerLaws.Counted.{tree_answered}
use Rattle.cluster_steps.specs.Turns.{next_by}
use Rattle.cluster_steps.proofs.turn.turn_by.Goals as goal

pub returns-in_ok-extract_error-in-Stay-clause-turns : goal.returns-in_ok-extract_error-in-Stay-clause-turns
returns-in_ok-extract_error-in-Stay-clause-turns g c m =
    let whole = c.in_ok-extract_error-in-Stay.ensures.unchanged in
    (sym c.in_ok-next_place.ensures.next ∙ ap next_by c.in-Stay.is, ap view whole.0, tree_answered _ whole.1)
