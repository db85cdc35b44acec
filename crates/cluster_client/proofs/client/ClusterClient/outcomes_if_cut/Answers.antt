use Rattle.std.proofs.Common.{◌≡◌, [], refl}
use Rattle.std.proofs.lemmas.Result.{err_from_is_err_and}
use Rattle.cluster_calls.specs.Links.Run.{with_log}
use Rattle.cluster_client.specs.Whole.{whole}
use Rattle.cluster_client.proofs.InParts.{each_before, unplaced}
use Rattle.cluster_client.proofs.client.ClusterClient.outcomes_if_cut.Goals as goal

pub returns-in_err-all : goal.returns-in_err-all
returns-in_err-all g c strategy entries cut =
    let seen = g.L.ConnectionLike.seen in
    let old = whole seen c.args.self.now in
    let mid = whole seen (record c.args.self.now { asked = c.begin.new.asked; picked = c.begin.new.picked }) in
    let stays : mid ≡ with_log old [] [] = rw (c.begin.ensures.asked, c.begin.ensures.picked) refl in
    let p = err_from_is_err_and c.from_residual.result c.from_residual.ensures.1 in
    rw (p.1, p.2) (unplaced strategy old mid entries _ stays (rw c.in_err-all.was at cut))

pub outcomes_in_parts-requires-clause-emptied : goal.outcomes_in_parts-requires-clause-emptied
outcomes_in_parts-requires-clause-emptied g c = rw (c.begin.ensures.asked, c.begin.ensures.picked) refl

pub outcomes_in_parts-requires-clause-parts : goal.outcomes_in_parts-requires-clause-parts
outcomes_in_parts-requires-clause-parts g c = (c.requires.0, rw c.in_ok-all.was at c.requires.1)

pub returns : goal.returns
returns g c strategy entries cut =
    let seen = g.L.ConnectionLike.seen in
    let old = whole seen c.args.self.now in
    let mid = whole seen (record c.args.self.now { asked = c.begin.new.asked; picked = c.begin.new.picked }) in
    let stays : mid ≡ with_log old [] [] = rw (c.begin.ensures.asked, c.begin.ensures.picked) refl in
    each_before strategy old mid (whole seen c.outcomes_in_parts.new.self) entries _ stays (c.outcomes_in_parts.ensures strategy entries (rw c.in_ok-all.was at cut))
