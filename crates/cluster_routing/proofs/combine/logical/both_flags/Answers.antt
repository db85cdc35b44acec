use Rattle.std.proofs.Common.{◌∙◌, ◌++◌, ap, sym, option_map}
use Rattle.cluster_routing.proofs.Flags.{none_beside}
use Rattle.cluster_routing.proofs.combine.logical.both_flags.Goals as goal

pub returns-in-empty : goal.returns-in-empty
returns-in-empty c = sym (c.flags.invariant ∙ ap (option_map (λ rest. c.flags.both.items ++ rest)) (none_beside c.args.flags.now c.flags.left.now c.flags.flag-index c.flags-test.true c.in-empty.len_below))
