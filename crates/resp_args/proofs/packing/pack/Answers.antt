use Rattle.std.proofs.Common.{length, codes, decimal, ◌++◌, ◌≡◌, sym, ◌∙◌}
use Rattle.std.proofs.lemmas.List.{length-map}
use Rattle.resp_args.specs.Packed.{wire, wire_arg, packed_args}
use Rattle.resp_args.proofs.Packings.{Appends-then}
use Rattle.resp_args.proofs.packing.pack.Goals as goal

pub returns : goal.returns
returns c =
    let len : c.len-count.result ≡ length (wire c.args.cursor c.args.args.now) = c.len-count.ensures ∙ sym (length-map c.args.args.now (wire_arg c.args.cursor)) in
    let head = rw (len, c.reserve.ensures.items) at c.in_ok-write_count.ensures in
    Appends-then c.pack_all.result c.args.out.now.items c.write_count.new.out.items c.pack_all.new.out.items (codes "*" ++ decimal (length (wire c.args.cursor c.args.args.now)) ++ codes "\r\n") (packed_args (wire c.args.cursor c.args.args.now)) head (rw c.iter.ensures at c.pack_all.ensures)
