use Rattle.std.specs.Prelude.{is_none, nat_eq, slice_index_or}
use Rattle.std.specs.List.{list_any}
use Rattle.std.proofs.Common.{◌≡◌, ◌<◌, ◌&&◌, ◌∙◌, ap, sym, arith, length, None, true}
use Rattle.stream_commands.proofs.Gather.{at_default, not_none}
use Rattle.stream_commands.proofs.GatherSteps.{is_within}
use Rattle.stream_commands.proofs.join.put_row.Goals as goal

pub index-requires : goal.index-requires
index-requires c =
    let h : c.args.place < length c.args.table.now.items = is_within (length c.args.table.now.items) c.args.place c.args.own.now.keys c.requires (sym c.contains.ensures ∙ c.if-not-contains.false) in
    omega (arith, h, c.args.table.now.ok.0)

pub index_mut-requires : goal.index_mut-requires
index_mut-requires c =
    let h : c.args.place < length c.args.table.now.items = is_within (length c.args.table.now.items) c.args.place c.args.own.now.keys c.requires (sym c.contains.ensures ∙ c.if-not-contains.false) in
    omega (arith, h, c.args.table.now.ok.0)

pub returns-then-is_some-clause-free : goal.returns-then-is_some-clause-free
returns-then-is_some-clause-free c =
    let own : list_any (nat_eq c.args.place) c.args.own.now.keys ≡ true = sym c.contains.ensures ∙ c.if-not-contains.false in
    let h : c.args.place < length c.args.table.now.items = is_within (length c.args.table.now.items) c.args.place c.args.own.now.keys c.requires own in
    sym (
    ap (λ b. b && is_none (slice_index_or c.args.table.now.items c.args.place None)) own
    ∙ ap is_none (at_default c.args.table.now.items c.args.place None c.index.result.now h ∙ sym c.index.ensures)
    ∙ not_none c.index.result.now (sym c.is_some.ensures ∙ c.if-is_some.true)
    )
