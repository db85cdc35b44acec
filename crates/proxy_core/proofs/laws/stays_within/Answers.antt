use Rattle.proxy_core.proofs.WithinLemmas.{run_within}
use Rattle.proxy_core.proofs.laws.stays_within.Goals as goal

pub returns : goal.returns
returns g c = run_within g.C.Command.overlaps g.C.Bytes.bytes g.V.Bytes.bytes g.S.Servers.asks
