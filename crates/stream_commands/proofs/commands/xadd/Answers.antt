use Rattle.std.proofs.Common.{◌≡◌, IfOk, subst}
use Rattle.stream_commands.specs.Commands.{plain_command}
use Rattle.stream_commands.proofs.WholeCommands.{xadd_args}
use Rattle.stream_commands.proofs.commands.xadd.Goals as goal

pub returns : goal.returns
returns g c =
    let is = xadd_args g.F.ToRedisArgs.args g.F.ToSingleRedisArg.arg g.V.ToRedisArgs.args g.V.ToSingleRedisArg.arg g.met.F.ToSingleRedisArg.one_argument g.met.V.ToSingleRedisArg.one_argument c.args.fields.now c.args.options.now _ _ _ _ (g.met.K.ToSingleRedisArg.one_argument c.args.key.now) (g.met.I.ToSingleRedisArg.one_argument c.args.id.now) in
    subst (λ args. IfOk c.command_of.result (λ k. k ≡ plain_command args)) is c.command_of.ensures
