use Rattle.proxy_core.proofs.RunLemmas.{run_sees}
use Rattle.proxy_core.proofs.laws.each_sees_its_own.Goals as goal

pub returns : goal.returns
returns g c = run_sees g.C.Command.overlaps g.C.Bytes.bytes g.V.Bytes.bytes g.S.Servers.asks
