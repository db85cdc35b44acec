use Rattle.std.proofs.Common.{length, refl}
use Rattle.resp_args.proofs.Tables.{Ascends-gap, args_from-gap}
use Rattle.resp_args.proofs.arguments.Arguments.push_gap.Goals as goal

pub invariant_of-self-2 : goal.invariant_of-self-2
invariant_of-self-2 c = rw c.in_ok-push.ensures.items (Ascends-gap 0 c.self.inside.ends.items (length c.self.inside.buffer.items) c.self.invariant)

pub returns : goal.returns
returns c = rw (c.in_ok-push.ensures.items, args_from-gap c.self.inside.buffer.items 0 c.self.inside.ends.items, ← c.self.view_is) refl
