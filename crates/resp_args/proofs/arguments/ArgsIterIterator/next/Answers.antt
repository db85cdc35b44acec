use Rattle.std.proofs.Common.{rules, length, ◌≡◌, ◌∷◌, ◌≤◌, subst}
use Rattle.resp_args.specs.declared.cmd.Arg.TheVariants.{Simple}
use Rattle.resp_args.specs.Table.{Ascends}
use Rattle.resp_args.proofs.Tables.{Ascends-le}
use Rattle.resp_args.proofs.arguments.ArgsIterIterator.next.Goals as goal

pub slice_bounds-bytes-end : goal.slice_bounds-bytes-end
slice_bounds-bytes-end c =
    let ends : c.self.inside.ends.now ≡ Simple c.in-Simple.end ∷ c.in_ok-first.rest.now = search rules in
    let at = subst (λ l. Ascends c.self.inside.start l (length c.self.inside.buffer.now)) ends c.self.invariant in
    let last : c.in-Simple.end ≤ length c.self.inside.buffer.now = Ascends-le c.in-Simple.end c.in_ok-first.rest.now (length c.self.inside.buffer.now) at.1 in
    search (rules, last)
