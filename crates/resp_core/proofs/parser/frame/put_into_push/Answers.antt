use Rattle.std.proofs.Common.{◌≡◌, ◌+◌, ◌-◌, ◌*◌, ◌/◌, ℕ, suc, List, [], ◌∷◌, ◌++◌, map, Some, None, Ok, Err, refl, sym, ap, subst, ◌∙◌, arith}
use Rattle.resp_core.specs.Trees.{Tree, push}
use Rattle.resp_core.specs.View.{view, kind_view}
use Rattle.resp_core.proofs.Rows.{one_seen, row_whole, row_next}
use Rattle.resp_core.proofs.Views.{view-Push}
use Rattle.resp_core.proofs.parser.frame.put_into_push.Goals as goal

pub returns-then-to_come-eq0 : goal.returns-then-to_come-eq0
returns-then-to_come-eq0 c k bs =
    let a = c.args in
    rw (c.replace-kind.ensures.value, c.replace-items.ensures.value) (row_whole k (push (kind_view a.kind.now)) _ _ a.to_come.now bs (one_seen _ _ _ c.in_ok-push.ensures.items) c.if-to_come-eq0.true ∙ ap (λ (x : Tree). Ok (x, bs)) (sym (view-Push a.kind.now c.push.new.self)))

pub returns : goal.returns
returns c k bs =
    let a = c.args in
    row_next k (push (kind_view a.kind.now)) _ _ a.to_come.now (a.to_come.now - 1) bs (one_seen _ _ _ c.in_ok-push.ensures.items) (omega arith)
