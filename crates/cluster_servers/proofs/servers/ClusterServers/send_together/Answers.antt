use Rattle.std.proofs.Common.{◌≡◌, ◌≢◌, ◌∙◌, None, map, refl, sym, ap, inr}
use Rattle.resp_core.specs.Errors.{by_cause}
use Rattle.resp_core.specs.declared.errors.redis_error.Cause.TheVariants.{Memory}
use Rattle.cluster_client.specs.InParts.{entry_of}
use Rattle.cluster_servers.specs.Seen.{cluster}
use Rattle.cluster_servers.proofs.Asking.{refused_asks}
use Rattle.cluster_servers.proofs.servers.ClusterServers.send_together.Goals as goal

pub returns-then-is_memory-clause-refused : goal.returns-then-is_memory-clause-refused
returns-then-is_memory-clause-refused g c =
    let made = rw c.in-Err.is at c.query_each_directed.ensures None in
    refused_asks (cluster g.L.ConnectionLike.seen c.args.self.now) _ made.told.stays refl refl

pub returns-clause-told : goal.returns-clause-told
returns-clause-told g c =
    let made = rw c.in-Err.is at c.query_each_directed.ensures None in
    let other : c.in-Err.error ≢ by_cause Memory = λ e. let yes = c.is_memory.ensures.1 e in absurd (cc (yes, c.if-is_memory.false)) in
    let entries = ap (map entry_of) c.deref.ensures.value ∙ c.in_ok-directed.ensures.entries in
    rw (sym entries) (inr (c.in-Err.error, other, made.told))
