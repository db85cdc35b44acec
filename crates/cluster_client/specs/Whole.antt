-- A client as plain data.
use Rattle.resp_link.specs.Call.{Seen}
use Rattle.cluster_routing.specs.Seen.{addresses}
use Rattle.cluster_routing.specs.Info.{texts}
use Rattle.cluster_calls.specs.Links.World.{World}
use Rattle.cluster_steps.specs.Links.{nodes_of}
use Rattle.cluster_client.specs.declared.client.ClusterClient.{ClusterClient}

-- what a client stands for
abbrev pub whole : {L : Type 0} → (L → Seen) → ClusterClient L → World
whole seen client = record {
  nodes = nodes_of seen client.links;
  entries = client.slots;
  settings = record { budget = client.budget; read_only = texts client.read_only.items };
  needs_refresh = client.needs_refresh;
  log = client.asked.items;
  picked = addresses client.picked.items;
}
