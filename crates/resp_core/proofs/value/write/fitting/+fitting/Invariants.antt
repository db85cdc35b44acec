use Rattle.std.proofs.Common.{◌≡◌, drop}
use Rattle.resp_core.specs.View.{trees_view, pairs_view}
use Rattle.resp_core.specs.Written.{fits_all, fits_pairs}
use Rattle.resp_core.proofs.value.write.fitting.+fitting.Given as goal

abbrev pub invariant-items_fit-items : goal.invariant-items_fit-items
invariant-items_fit-items l = fits_all l.protocol l.levels (trees_view l.item-items) ≡ fits_all l.protocol l.levels (trees_view (drop l.item-index l.item-items))

abbrev pub invariant-pairs_fit-pairs : goal.invariant-pairs_fit-pairs
invariant-pairs_fit-pairs l = fits_pairs l.protocol l.levels (pairs_view l.pair-items) ≡ fits_pairs l.protocol l.levels (pairs_view (drop l.pair-index l.pair-items))
