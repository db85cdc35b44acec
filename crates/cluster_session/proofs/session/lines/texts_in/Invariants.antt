use Rattle.std.proofs.Common.{◌≡◌, ◌++◌, drop, option_map}
use Rattle.cluster_routing.specs.Info.{texts}
use Rattle.cluster_session.specs.Lines.{each_read, bytes_word}
use Rattle.cluster_session.specs.LinesRead.{words_in}
use Rattle.cluster_session.proofs.session.lines.texts_in.Given as goal

abbrev pub invariant-loop-word : goal.invariant-loop-word
invariant-loop-word l =
    option_map (λ later. texts l.texts.items ++ later) (each_read bytes_word (words_in (drop l.word-index l.words)))
    ≡ each_read bytes_word (words_in l.words)
