use Rattle.std.proofs.Common.{length, refl, ◌≡◌, ◌+◌, rules}
use Rattle.resp_args.proofs.Tables.{Ascends-push, args_from-push}
use Rattle.resp_args.proofs.arguments.ArgumentsRedisWrite.write_arg.Goals as goal

pub invariant_of-self-in-Ok : goal.invariant_of-self-in-Ok
invariant_of-self-in-Ok c =
    let end : c.len-end.result ≡ length c.self.inside.buffer.items + length c.args.arg.now = search rules in
    rw (c.in_ok-append.ensures.items, c.in-Ok.ensures.items, end) (Ascends-push c.self.inside.buffer.items c.args.arg.now 0 c.self.inside.ends.items c.self.invariant)

pub returns-in-Ok : goal.returns-in-Ok
returns-in-Ok c =
    let end : c.len-end.result ≡ length c.self.inside.buffer.items + length c.args.arg.now = search rules in
    rw (c.in_ok-append.ensures.items, c.in-Ok.ensures.items, end, args_from-push c.self.inside.buffer.items c.args.arg.now 0 c.self.inside.ends.items c.self.invariant, ← c.self.view_is) (record { writes = refl; keeps = refl })
