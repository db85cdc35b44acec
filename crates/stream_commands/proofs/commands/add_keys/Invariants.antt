use Rattle.std.proofs.Common.{◌≡◌, ◌++◌, map, take}
use Rattle.resp_args.specs.declared.cmd.Arg.TheVariants.{Simple}
use Rattle.stream_commands.proofs.commands.add_keys.Given as goal

abbrev pub invariant-loop-stream : goal.invariant-loop-stream
invariant-loop-stream g l = l.cmd ≡ record l.initial.cmd { args = l.initial.cmd.args ++ map Simple (map (λ s. g.K.ToSingleRedisArg.arg s.0) (take l.stream-index l.streams)) }
