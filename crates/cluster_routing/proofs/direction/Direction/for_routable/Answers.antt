use Rattle.std.proofs.Common.{◌≡◌, IfOk, subst}
use Rattle.cluster_routing.specs.Directions.{shown_direction}
use Rattle.cluster_routing.specs.Info.{texts}
use Rattle.cluster_routing.proofs.DirectionRules.{no_word, some_word}
use Rattle.cluster_routing.proofs.direction.Direction.for_routable.Goals as goal

pub returns-in-None : goal.returns-in-None
returns-in-None g c = no_word (g.R.Routable.args c.args.r.now) (texts c.args.read_only.now) (rw c.in-None.is at c.arg_idx.ensures)

pub returns-in-Some : goal.returns-in-Some
returns-in-Some g c =
    subst (λ d. IfOk c.direction_by_word.result (λ direction. shown_direction direction ≡ d))
    (some_word c.in-Some.word.now (g.R.Routable.args c.args.r.now) (texts c.args.read_only.now) (rw c.in-Some.is at c.arg_idx.ensures))
    c.direction_by_word.ensures
