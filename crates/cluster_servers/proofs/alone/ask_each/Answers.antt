use Rattle.std.proofs.Common.{◌≡◌, drop, length, arith}
use Rattle.std.proofs.lemmas.Grind.{common_steps}
use Rattle.cluster_client.specs.Whole.{whole}
use Rattle.proxy_core.specs.Batch.{batch_of}
use Rattle.cluster_servers.specs.Alone.{AreAskedAlone}
use Rattle.cluster_servers.proofs.Telling.{alone_end}
use Rattle.cluster_servers.proofs.alone.ask_each.Goals as goal

pub returns : goal.returns
returns g c =
    let seen = g.L.ConnectionLike.seen in
    let left = drop c.batch.asked-index c.args.batch.now in
    let none : length left ≡ 0 = grind (arith, common_steps, c.batch-test.false) in
    alone_end c.args.patient (whole seen c.batch.client) left c.batch.outcomes.items
    (λ os. AreAskedAlone c.args.patient (whole seen c.args.client.now) (whole seen c.batch.client) (batch_of c.args.batch.now) os)
    none (c.batch.invariant.asked (whole seen c.batch.client))
