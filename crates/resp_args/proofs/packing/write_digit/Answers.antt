use Rattle.std.proofs.Common.{◌+◌, ◌∷◌, []}
use Rattle.resp_args.proofs.Digits.{appends_line, digit}
use Rattle.resp_args.proofs.packing.write_digit.Goals as goal

pub returns : goal.returns
returns c = appends_line c.extend_from_slice.result c.args.out.now.items c.extend_from_slice.new.self.items ((48 + c.args.count) ∷ []) c.args.kind c.args.count (digit c.args.count c.requires) c.extend_from_slice.ensures.items
