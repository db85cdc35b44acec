use Rattle.std.proofs.Common.{◌≡◌, ◌++◌, take}
use Rattle.resp_core.specs.View.{trees_view, pairs_view}
use Rattle.resp_core.specs.Written.{written_all, written_pairs}
use Rattle.resp_core.proofs.value.write.put.+put.Given as goal

abbrev pub invariant-put_items-items : goal.invariant-put_items-items
invariant-put_items-items l = l.out.items ≡ l.fn.out.items ++ written_all l.protocol (trees_view (take l.item-index l.item-items))

abbrev pub invariant-put_pairs-pairs : goal.invariant-put_pairs-pairs
invariant-put_pairs-pairs l = l.out.items ≡ l.fn.out.items ++ written_pairs l.protocol (pairs_view (take l.pair-index l.pair-items))
