use Rattle.std.proofs.Common.{◌≡◌, ◌++◌, map, take, codes, string_bytes}
use Rattle.std.specs.List.{flat_map}
use Rattle.cluster_session.specs.Printed.{hex_word}
use Rattle.cluster_session.proofs.session.print.print_args.Given as goal

abbrev pub invariant-loop-arg : goal.invariant-loop-arg
invariant-loop-arg l =
    string_bytes l.output ≡ string_bytes l.initial.output ++ flat_map (λ arg. codes " " ++ hex_word arg) (map (λ arg. arg.items) (take l.arg-index l.args))
