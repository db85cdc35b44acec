use Rattle.std.proofs.Common.{◌≡◌, ◌++◌, drop, option_map}
use Rattle.cluster_session.specs.Lines.{each_read, number_word}
use Rattle.cluster_session.specs.LinesRead.{words_in}
use Rattle.cluster_session.proofs.session.lines.parts_of.Given as goal

abbrev pub invariant-loop-word : goal.invariant-loop-word
invariant-loop-word l =
    option_map (λ later. l.parts.items ++ later) (each_read number_word (words_in (drop l.word-index l.words)))
    ≡ each_read number_word (words_in l.words)
