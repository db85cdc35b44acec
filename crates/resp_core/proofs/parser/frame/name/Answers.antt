use Rattle.std.proofs.Common.{◌≡◌, ◌+◌, ◌-◌, ◌*◌, ◌/◌, ℕ, suc, List, [], ◌∷◌, ◌++◌, map, Some, None, Ok, Err, refl, sym, ap, subst, ◌∙◌, arith}
use Rattle.std.proofs.lemmas.Result.{err_from_is_err_and}
use Rattle.resp_core.specs.Trees.{Tree, push}
use Rattle.resp_core.specs.View.{view, kind_view}
use Rattle.resp_core.proofs.Rows.{names, names_none, row_whole, row_next}
use Rattle.resp_core.proofs.Views.{view-Push}
use Rattle.resp_core.proofs.parser.frame.name.Goals as goal

pub returns-in_err-kind-clause-names : goal.returns-in_err-kind-clause-names
returns-in_err-kind-clause-names c k bs =
    let r = err_from_is_err_and c.from_residual.result c.from_residual.ensures.1 in
    rw (r.1, r.2) (names_none k (view c.args.value) c.in_err-kind.field-0.0 c.args.to_come bs c.in_err-kind.ensures)

pub returns-then-to_come-eq0-clause-names : goal.returns-then-to_come-eq0-clause-names
returns-then-to_come-eq0-clause-names c k bs =
    let kind = c.in_ok-kind.kind in
    let empty : map view c.new-items.result.items ≡ [] = rw c.new-items.ensures.items refl in
    names k (view c.args.value) (kind_view kind) c.args.to_come bs c.in_ok-kind.ensures
    ∙ row_whole k (push (kind_view kind)) [] _ c.args.to_come bs empty c.if-to_come-eq0.true ∙ ap (λ (x : Tree). Ok (x, bs)) (sym (view-Push kind c.new-items.result))

pub returns-clause-names : goal.returns-clause-names
returns-clause-names c k bs =
    let kind = c.in_ok-kind.kind in
    let empty : map view c.new-items.result.items ≡ [] = rw c.new-items.ensures.items refl in
    names k (view c.args.value) (kind_view kind) c.args.to_come bs c.in_ok-kind.ensures
    ∙ row_next k (push (kind_view kind)) [] _ c.args.to_come (c.args.to_come - 1) bs empty (omega arith)
