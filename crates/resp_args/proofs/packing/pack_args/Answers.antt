use Rattle.std.proofs.Common.{length, map, codes, decimal, ◌++◌}
use Rattle.std.proofs.lemmas.List.{length-map}
use Rattle.resp_args.specs.Packed.{packed_args}
use Rattle.resp_args.proofs.Packings.{Appends-then}
use Rattle.resp_args.proofs.packing.pack_args.Goals as goal

pub returns : goal.returns
returns c =
    let args = map (λ a. a.items) c.args.args.now in
    let head = rw (← length-map c.args.args.now (λ a. a.items)) at c.in_ok-write_count.ensures in
    Appends-then c.pack_each.result c.args.out.now.items c.write_count.new.out.items c.pack_each.new.out.items (codes "*" ++ decimal (length args) ++ codes "\r\n") (packed_args args) head c.pack_each.ensures
