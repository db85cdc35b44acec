use Rattle.std.proofs.Common.{◌≡◌, ◌++◌, drop, map, option_map}
use Rattle.resp_args.specs.declared.cmd.Arg.TheVariants.{Simple}
use Rattle.cluster_session.specs.Lines.{each_read, bytes_word, command_of}
use Rattle.cluster_session.specs.LinesRead.{words_in}
use Rattle.cluster_session.proofs.session.lines.command_with.Given as goal

abbrev pub invariant-loop-word : goal.invariant-loop-word
invariant-loop-word l =
    option_map (λ later. record l.command { args = l.command.args ++ map Simple later }) (each_read bytes_word (words_in (drop l.word-index l.args)))
    ≡ option_map command_of (each_read bytes_word (words_in l.args))
