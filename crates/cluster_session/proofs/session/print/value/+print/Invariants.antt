use Rattle.std.proofs.Common.{◌≡◌, ◌++◌, take, flat_map, string_bytes}
use Rattle.cluster_session.proofs.Words.{value_words, entry_words}
use Rattle.cluster_session.proofs.session.print.value.+print.Given as goal

abbrev pub invariant-print_each-loop-item : goal.invariant-print_each-loop-item
invariant-print_each-loop-item l =
    string_bytes l.output ≡ string_bytes l.initial.output ++ flat_map value_words (take l.item-index l.items)

abbrev pub invariant-print_each_pair-loop-pair : goal.invariant-print_each_pair-loop-pair
invariant-print_each_pair-loop-pair l =
    string_bytes l.output ≡ string_bytes l.initial.output ++ flat_map entry_words (take l.pair-index l.pairs)
