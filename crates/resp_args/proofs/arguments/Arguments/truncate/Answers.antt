use Rattle.std.proofs.Common.{length, refl, ◌≡◌, ◌≤◌, take, rules, arith}
use Rattle.resp_args.specs.Table.{end_of}
use Rattle.resp_args.proofs.Tables.{Ascends-take, args_from-take, end_of-le, length_take_at}
use Rattle.resp_args.proofs.arguments.Arguments.truncate.Goals as goal

pub invariant_of-self : goal.invariant_of-self
invariant_of-self c =
    let ends : c.truncate.new.self.items ≡ take c.args.len c.self.inside.ends.items = c.truncate.ensures.items in
    let end : c.last_end-end.result ≡ end_of 0 (take c.args.len c.self.inside.ends.items) = search rules in
    rw (c.truncate-2.ensures.items, end, ends, length_take_at (end_of 0 (take c.args.len c.self.inside.ends.items)) c.self.inside.buffer.items (end_of-le 0 c.self.inside.ends.items (length c.self.inside.buffer.items) c.args.len c.self.invariant)) (Ascends-take 0 c.self.inside.ends.items (length c.self.inside.buffer.items) c.args.len c.self.invariant)

pub returns : goal.returns
returns c =
    let ends : c.truncate.new.self.items ≡ take c.args.len c.self.inside.ends.items = c.truncate.ensures.items in
    let end : c.last_end-end.result ≡ end_of 0 (take c.args.len c.self.inside.ends.items) = search rules in
    let same : end_of 0 (take c.args.len c.self.inside.ends.items) ≤ end_of 0 (take c.args.len c.self.inside.ends.items) = omega arith in
    rw (c.truncate-2.ensures.items, end, ends, args_from-take c.self.inside.buffer.items 0 c.self.inside.ends.items (length c.self.inside.buffer.items) c.args.len (end_of 0 (take c.args.len c.self.inside.ends.items)) c.self.invariant same, ← c.self.view_is) refl
