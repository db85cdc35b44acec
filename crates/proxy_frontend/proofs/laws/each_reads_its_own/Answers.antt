use Rattle.proxy_frontend.proofs.Running.{each_reads_its_own}
use Rattle.proxy_frontend.proofs.laws.each_reads_its_own.Goals as goal

pub returns : goal.returns
returns g c = each_reads_its_own _ g.C.Bytes.bytes g.V.Bytes.bytes g.S.Servers.asks
