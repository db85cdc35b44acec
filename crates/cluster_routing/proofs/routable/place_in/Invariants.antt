use Rattle.std.proofs.Common.{◌≡◌, ◌+◌, ◌<◌, ◌^◌, option_map}
use Rattle.std.specs.Prelude.{position}
use Rattle.cluster_routing.specs.Command.{is_word}
use Rattle.cluster_routing.proofs.routable.place_in.Given as goal

abbrev pub invariant-loop-arg : goal.invariant-loop-arg
invariant-loop-arg l = record {
  fits : l.place < 2 ^ 64;
  passed : position (is_word l.word) l.fn.args ≡ option_map (λ k. l.place + k) (position (is_word l.word) l.arg-iterator);
}
