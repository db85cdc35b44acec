use Rattle.std.proofs.Common.{◌≡◌, ℕ, List, [], ◌∷◌, ◌++◌, map, codes, ap, ◌∙◌}
use Rattle.stream_commands.specs.Commands.{plain_command}
use Rattle.stream_commands.specs.Sentences.{read_sentence}
use Rattle.stream_commands.proofs.WholeCommands.{then_args}
use Rattle.stream_commands.proofs.commands.xread.Goals as goal

pub returns : goal.returns
returns g c =
    let begun = λ (word : List ℕ). (word ∷ []) ++ read_sentence c.args.options.now ++ codes "STREAMS" ∷ [] in
    let first = begun c.read_word.result.now in
    let keys = map (λ s. g.K.ToSingleRedisArg.arg s.0) c.args.streams.now in
    let ids = map (λ s. g.I.ToSingleRedisArg.arg s.1) c.args.streams.now in
    then_args _ _ (first ++ keys) ids (then_args _ _ first keys c.in_ok-cmd.ensures c.in_ok-add_keys.ensures) c.in_ok-add_ids_of.ensures
    ∙ ap (λ word. plain_command ((begun word ++ keys) ++ ids)) c.read_word.ensures
