use Rattle.std.proofs.Common.{◌≡◌, ◌++◌, drop, option_map}
use Rattle.cluster_routing.specs.Policies.{both_flags}
use Rattle.cluster_routing.proofs.combine.logical.both_flags.Given as goal

abbrev pub invariant-flags : goal.invariant-flags
invariant-flags l = both_flags l.flags l.others ≡ option_map (λ rest. l.both.items ++ rest) (both_flags (drop l.flag-index l.flags) l.left)
