use Rattle.std.proofs.Common.{true, false, sym, ap, ◌∙◌}
use Rattle.resp_core.specs.View.{view, trees_view, pairs_view}
use Rattle.resp_core.specs.Written.{fits, fits_in, fits_all, fits_pairs}
use Rattle.resp_core.proofs.Views.{view-Attribute}
use Rattle.resp_core.proofs.WrittenTexts.{attribute_fits, fits_next, fits_end, pair_fits_key, pair_fits_next, pair_fits_end}
use Rattle.resp_core.proofs.value.write.fitting.+fitting.Goals as goal

pub fits_within-returns-then-beside_fits : goal.fits_within-returns-then-beside_fits
fits_within-returns-then-beside_fits t c =
    let old = c.in-Attribute in
    let p = c.args.protocol in
    let below = c.args.below in
    attribute_fits p below (view old.inner.value) (pairs_view old.attributes.items) _ c.if-beside_fits.ensures
    (c.value_fits.ensures ∙ ap (λ v. fits p below (view v)) c.deref.ensures)
    ∙ sym (ap (fits_in p below) (ap view old.is ∙ view-Attribute old.inner old.attributes))

pub items_fit-returns-then-not-value_fits : goal.items_fit-returns-then-not-value_fits
items_fit-returns-then-not-value_fits t c =
    sym (ap (λ l. fits_all c.args.protocol c.args.levels (trees_view l)) (sym c.deref-item-items.ensures.value) ∙ c.items.invariant
    ∙ fits_next c.args.protocol c.args.levels c.deref-item-items.result.now c.items.item-index c.item-item.result false c.items-test.true c.item-item.is c.if-not-value_fits.ensures)

pub items_fit-items-preserved : goal.items_fit-items-preserved
items_fit-items-preserved t c =
    c.items.invariant ∙ fits_next c.args.protocol c.args.levels c.deref-item-items.result.now c.items.item-index c.item-item.result true c.items-test.true c.item-item.is c.if-not-value_fits.ensures

pub items_fit-returns : goal.items_fit-returns
items_fit-returns t c =
    sym (ap (λ l. fits_all c.args.protocol c.args.levels (trees_view l)) (sym c.deref-item-items.ensures.value) ∙ c.items.invariant
    ∙ fits_end c.args.protocol c.args.levels c.deref-item-items.result.now c.items.item-index c.items-test.false)

pub pairs_fit-returns-then-not-value_fits : goal.pairs_fit-returns-then-not-value_fits
pairs_fit-returns-then-not-value_fits t c =
    sym (ap (λ l. fits_pairs c.args.protocol c.args.levels (pairs_view l)) (sym c.deref-pair-items.ensures.value) ∙ c.pairs.invariant
    ∙ pair_fits_key c.args.protocol c.args.levels c.deref-pair-items.result.now c.pairs.pair-index c.pair-item.result c.pairs-test.true c.pair-item.is c.if-not-value_fits.ensures)

pub pairs_fit-returns-then-not-value_fits-2 : goal.pairs_fit-returns-then-not-value_fits-2
pairs_fit-returns-then-not-value_fits-2 t c =
    sym (ap (λ l. fits_pairs c.args.protocol c.args.levels (pairs_view l)) (sym c.deref-pair-items.ensures.value) ∙ c.pairs.invariant
    ∙ pair_fits_next c.args.protocol c.args.levels c.deref-pair-items.result.now c.pairs.pair-index c.pair-item.result true false c.pairs-test.true c.pair-item.is c.if-not-value_fits.ensures c.if-not-value_fits-2.ensures)

pub pairs_fit-pairs-preserved : goal.pairs_fit-pairs-preserved
pairs_fit-pairs-preserved t c =
    c.pairs.invariant ∙ pair_fits_next c.args.protocol c.args.levels c.deref-pair-items.result.now c.pairs.pair-index c.pair-item.result true true c.pairs-test.true c.pair-item.is c.if-not-value_fits.ensures c.if-not-value_fits-2.ensures

pub pairs_fit-returns : goal.pairs_fit-returns
pairs_fit-returns t c =
    sym (ap (λ l. fits_pairs c.args.protocol c.args.levels (pairs_view l)) (sym c.deref-pair-items.ensures.value) ∙ c.pairs.invariant
    ∙ pair_fits_end c.args.protocol c.args.levels c.deref-pair-items.result.now c.pairs.pair-index c.pairs-test.false)
