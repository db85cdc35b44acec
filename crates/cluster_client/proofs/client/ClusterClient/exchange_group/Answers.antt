use Rattle.std.proofs.Common.{refl}
use Rattle.cluster_client.proofs.client.ClusterClient.exchange_group.Goals as goal

pub returns-clause-exchanged : goal.returns-clause-exchanged
returns-clause-exchanged g c = record { exchange = rw c.args.group.requests.ok.0 at c.exchange-replies.ensures.exchange; flag = c.refresh_needed_by-self.ensures; entries = refl; settings = refl; picked = refl }
