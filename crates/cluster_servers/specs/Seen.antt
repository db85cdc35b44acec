-- The servers as plain data.
use Rattle.resp_link.specs.Call.{Seen}
use Rattle.cluster_client.specs.Whole.{whole}
use Rattle.cluster_servers.specs.declared.servers.ClusterServers.{ClusterServers}
use Rattle.cluster_servers.specs.Asked.{Cluster}

-- what the servers stand for: the client, whether the next batch goes command by command, and whether a command
-- that can not be sent waits
abbrev pub cluster : {L : Type 0} → (L → Seen) → ClusterServers L → Cluster
cluster seen servers = record
    { world = whole seen servers.client; alone = servers.alone; patient = servers.patient }
