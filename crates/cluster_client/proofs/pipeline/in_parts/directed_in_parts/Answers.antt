use Rattle.std.specs.List.{AllByRecursion}
use Rattle.std.proofs.Common.{◌∙◌, suc, false, Some, add-one, drop, map, sym, ap, subst}
use Rattle.std.proofs.lemmas.Result.{err_from_is_err_and}
use Rattle.cluster_client.specs.InParts.{IsDirected, entry_of}
use Rattle.cluster_client.proofs.InParts.{Added, added_more, added_none}
use Rattle.cluster_client.proofs.PipeParts.{next_entry}
use Rattle.cluster_client.proofs.pipeline.in_parts.directed_in_parts.Goals as goal

pub add-requires : goal.add-requires
add-requires c =
    c.in_ok-direction.ensures ∙
    (subst (AllByRecursion IsDirected) (next_entry c.args.commands.now c.commands.position c.index-commands-position.result c.commands-test.true c.index-commands-position.is) c.commands.invariant.1).0

pub commands-preserved : goal.commands-preserved
commands-preserved c =
    let commands = c.args.commands.now in
    let all = map entry_of commands in
    let at = c.commands.position in
    let x = c.index-commands-position.result in
    let next = next_entry commands at x c.commands-test.true c.index-commands-position.is in (
      subst (λ n. Added all n (map entry_of (drop n commands)) c.add.new.self) (sym (add-one at))
          (added_more all at (entry_of x) (map entry_of (drop (suc at) commands)) c.commands.all c.add.new.self (subst (λ ds. Added all at (map entry_of ds) c.commands.all) next c.commands.invariant.0) (c.in_ok-add.ensures.added false)),
      subst (λ n. AllByRecursion IsDirected (drop n commands)) (sym (add-one at)) ((subst (AllByRecursion IsDirected) next c.commands.invariant.1).1),
    )

pub returns-in_err-add : goal.returns-in_err-add
returns-in_err-add c =
    let commands = c.args.commands.now in
    let all = map entry_of commands in
    let at = c.commands.position in
    let x = c.index-commands-position.result in
    let next = next_entry commands at x c.commands-test.true c.index-commands-position.is in
    let p = err_from_is_err_and c.from_residual-in_err-add.result c.from_residual-in_err-add.ensures.1 in
    rw (p.1, p.2) (λ m. let told = c.in_err-add.ensures.refused m in
    added_none all at (entry_of x) (map entry_of (drop (suc at) commands)) c.commands.all (subst (λ ds. Added all at (map entry_of ds) c.commands.all) next c.commands.invariant.0) told.0 ∙ ap Some (sym told.1))
