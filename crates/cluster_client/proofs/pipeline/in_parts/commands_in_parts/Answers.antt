use Rattle.std.proofs.Common.{◌≡◌, ◌∙◌, false, suc, Some, add-one, drop, sym, ap, subst}
use Rattle.std.proofs.lemmas.Result.{err_from_is_err_and}
use Rattle.cluster_calls.specs.Calls.InParts.{goes_to_slots}
use Rattle.cluster_client.specs.InParts.{IsAdded}
use Rattle.cluster_client.proofs.InParts.{Added, added_more, added_none}
use Rattle.cluster_client.proofs.PipeParts.{next_entry}
use Rattle.cluster_client.proofs.pipeline.in_parts.commands_in_parts.Goals as goal

pub commands-preserved : goal.commands-preserved
commands-preserved c =
    let all = c.args.commands.now in
    let at = c.commands.position in
    let x = c.index-commands-position.result in
    let next = next_entry all at x c.commands-test.true c.index-commands-position.is in
    subst (λ n. Added all n (drop n all) c.add.new.self) (sym (add-one at))
    (added_more all at x (drop (suc at) all) c.commands.all c.add.new.self (subst (λ es. Added all at es c.commands.all) next c.commands.invariant) (subst (λ e. IsAdded at e c.commands.all c.add.new.self) c.command.view_is (c.in_ok-add.ensures.added c.command.inside.ignored)))

pub returns-in_err-add : goal.returns-in_err-add
returns-in_err-add c =
    let all = c.args.commands.now in
    let at = c.commands.position in
    let x = c.index-commands-position.result in
    let next = next_entry all at x c.commands-test.true c.index-commands-position.is in
    let p = err_from_is_err_and c.from_residual-in_err-add.result c.from_residual-in_err-add.ensures.1 in
    rw (p.1, p.2) (λ m. let told = c.in_err-add.ensures.refused m in
    added_none all at x (drop (suc at) all) c.commands.all (subst (λ es. Added all at es c.commands.all) next c.commands.invariant) (subst (λ e. goes_to_slots e ≡ false) c.command.view_is told.0) ∙ ap Some (sym told.1))
