use Rattle.std.specs.Prelude.{◌==◌}
use Rattle.std.proofs.Common.{◌≡◌, false, rules}
use Rattle.std.proofs.lemmas.Bool.{ne_eqb}
use Rattle.resp_core.specs.Trees.{server_error}
use Rattle.resp_core.specs.View.{view, error_text}
use Rattle.resp_core.specs.declared.errors.server_error.ServerError.{ServerError}
use Rattle.resp_core.specs.declared.value.Value.{the_lemmas}
use Rattle.resp_core.specs.declared.value.Value as values
use Rattle.cluster_steps.proofs.turn.next_place.Goals as goal

view-ServerError : (e : ServerError) → view (values.ServerError e) ≡ server_error (error_text e)
view-ServerError e = search (rules, the_lemmas)

pub returns-in-ServerError-clause-next : goal.returns-in-ServerError-clause-next
returns-in-ServerError-clause-next g c =
    let some : (c.args.redirects == 0) ≡ false = ne_eqb c.args.redirects 0 c.if-redirects-eq0.false in
    rw (some, c.in-ServerError.is, view-ServerError c.in-ServerError.error) c.behind_error.ensures.next
