use Rattle.resp_args.proofs.laws.one_argument.Goals as goal

pub returns : goal.returns
returns g c = g.met.T.ToSingleRedisArg.one_argument
