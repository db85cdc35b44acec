use Rattle.std.proofs.Common.{◌≤◌, ◌+◌, ◌++◌, List, drop, length, vec_capacity, vec_len}
use Rattle.cluster_calls.specs.Links.World.{World}
use Rattle.cluster_client.specs.Whole.{whole}
use Rattle.proxy_core.specs.Batch.{batch_of}
use Rattle.proxy_core.specs.declared.outcome.Outcome.{Outcome}
use Rattle.cluster_servers.specs.declared.reply.Reply.{Reply}
use Rattle.cluster_servers.specs.Alone.{AreAskedAlone}
use Rattle.cluster_servers.proofs.alone.ask_each.Given as goal

abbrev pub invariant-batch : goal.invariant-batch
invariant-batch g l = record {
  room : vec_len l.outcomes + length (drop l.asked-index l.batch) ≤ vec_capacity l.outcomes;
  asked : (w : World) (rest : List (Outcome Reply)) → AreAskedAlone l.patient (whole g.L.ConnectionLike.seen l.client) w (batch_of (drop l.asked-index l.batch)) rest
      → AreAskedAlone l.patient (whole g.L.ConnectionLike.seen l.fn.client) w (batch_of l.batch) (l.outcomes.items ++ rest);
}
