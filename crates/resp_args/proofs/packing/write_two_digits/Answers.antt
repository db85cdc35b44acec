use Rattle.std.proofs.Common.{◌+◌, ◌/◌, ◌%◌, ◌∷◌, []}
use Rattle.resp_args.proofs.Digits.{appends_line, two_digits}
use Rattle.resp_args.proofs.packing.write_two_digits.Goals as goal

pub returns : goal.returns
returns c = appends_line c.extend_from_slice.result c.args.out.now.items c.extend_from_slice.new.self.items ((48 + c.args.count / 10) ∷ (48 + c.args.count % 10) ∷ []) c.args.kind c.args.count (two_digits c.args.count c.requires.0 c.requires.1) c.extend_from_slice.ensures.items
