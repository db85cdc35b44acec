use Rattle.std.proofs.Common.{◌<◌, ◌-◌, length, drop, refl, arith, length-drop}
use Rattle.resp_core.proofs.CountedBytes.{bytes_missing}
use Rattle.resp_core.proofs.Machine.{bytes_wait}
use Rattle.resp_core.proofs.parser.Parser.lacks_bytes.Goals as goal

pub returns-clause-waits : goal.returns-clause-waits
returns-clause-waits c _ levels =
    let p = c.args.self.now in
    let bytes = drop p.front p.buffer.items in
    let few : length bytes < c.in-Bytes.count = omega (arith, length-drop p.front p.buffer.items) in
    record {
      short = rw c.in-Bytes.is (bytes_wait levels p.frames.items bytes c.in-Bytes.field-0 c.in-Bytes.count (bytes_missing c.in-Bytes.field-0 c.in-Bytes.count bytes few));
      same = λ more. refl;
      all = omega arith;
    }
