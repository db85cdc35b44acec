use Rattle.std.proofs.Common.{◌≡◌, ◌++◌, map, take}
use Rattle.resp_args.specs.declared.cmd.Arg.TheVariants.{Simple}
use Rattle.stream_commands.proofs.commands.add_each.Given as goal

abbrev pub invariant-loop-item : goal.invariant-loop-item
invariant-loop-item g l = l.cmd ≡ record l.initial.cmd { args = l.initial.cmd.args ++ map Simple (map g.T.ToSingleRedisArg.arg (take l.item-index l.items)) }
