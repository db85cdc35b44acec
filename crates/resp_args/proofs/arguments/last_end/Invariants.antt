use Rattle.std.proofs.Common.{◌≡◌, take}
use Rattle.resp_args.specs.Table.{end_of}
use Rattle.resp_args.proofs.arguments.last_end.Given as goal

abbrev pub invariant-loop-end : goal.invariant-loop-end
invariant-loop-end l = l.last ≡ end_of 0 (take l.end-index l.ends)
