use Rattle.cluster_calls.proofs.ServerLaws.Determined.{determined}
use Rattle.cluster_calls.proofs.laws.one_server_is_determined.Goals as goal

pub returns : goal.returns
returns c = λ meaning keys left right commands ts us one h k. determined meaning one commands h.0 k.0 ts us keys left right h.1 k.1 h.2 k.2
