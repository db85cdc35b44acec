use Rattle.std.proofs.Common.{ap, ◌∙◌}
use Rattle.std.proofs.lemmas.Result.{err_from_is_err_and}
use Rattle.resp_core.proofs.WrittenTexts.{behind, behind_key, no_items_yet, no_pairs_yet, items_next, pairs_next, attribute_written}
use Rattle.resp_core.proofs.Views.{view-Attribute}
use Rattle.resp_core.specs.View.{view, pairs_view}
use Rattle.resp_core.proofs.value.write.put.+put.Goals as goal

pub put_items-items-init : goal.put_items-items-init
put_items-items-init t c = no_items_yet c.args.protocol c.args.out.now.items

pub put_items-returns-in_err-put_value : goal.put_items-returns-in_err-put_value
put_items-returns-in_err-put_value t c =
    let p = err_from_is_err_and c.from_residual.result c.from_residual.ensures.1 in
    rw p.1 (behind _ _ _ _ c.items.invariant c.in_err-put_value.ensures)

pub put_items-items-preserved : goal.put_items-items-preserved
put_items-items-preserved t c =
    items_next c.args.protocol c.deref-item-items.result.now c.items.item-index c.item-item.result _ _ _ c.items-test.true c.item-item.is c.items.invariant c.in_ok-put_value.ensures

pub put_pairs-pairs-init : goal.put_pairs-pairs-init
put_pairs-pairs-init t c = no_pairs_yet c.args.protocol c.args.out.now.items

pub put_pairs-returns-in_err-put_value : goal.put_pairs-returns-in_err-put_value
put_pairs-returns-in_err-put_value t c =
    let p = err_from_is_err_and c.from_residual.result c.from_residual.ensures.1 in
    rw p.1 (behind _ _ _ _ c.pairs.invariant c.in_err-put_value.ensures)

pub put_pairs-returns-in_err-put_value-2 : goal.put_pairs-returns-in_err-put_value-2
put_pairs-returns-in_err-put_value-2 t c =
    let p = err_from_is_err_and c.from_residual-in_err-put_value-2.result c.from_residual-in_err-put_value-2.ensures.1 in
    rw p.1 (behind_key _ _ _ _ _ _ c.pairs.invariant c.in_ok-put_value.ensures c.in_err-put_value-2.ensures)

pub put_pairs-pairs-preserved : goal.put_pairs-pairs-preserved
put_pairs-pairs-preserved t c =
    pairs_next c.args.protocol c.deref-pair-items.result.now c.pairs.pair-index c.pair-item.result _ _ _ _ c.pairs-test.true c.pair-item.is c.pairs.invariant c.in_ok-put_value.ensures c.in_ok-put_value-2.ensures

pub put_value-returns-in_ok-put_beside-in-Attribute : goal.put_value-returns-in_ok-put_beside-in-Attribute
put_value-returns-in_ok-put_beside-in-Attribute t c =
    let old = c.in-Attribute in
    attribute_written c.put_value.result c.args.protocol _ (view old.inner.value) _ (pairs_view old.attributes.items) _ _ _ (ap view c.deref-in-Attribute.ensures)
    (ap view old.is ∙ view-Attribute old.inner old.attributes) c.in_ok-put_beside-in-Attribute.ensures c.put_value.ensures
