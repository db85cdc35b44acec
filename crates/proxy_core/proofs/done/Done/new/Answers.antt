use Rattle.proxy_core.proofs.DoneLemmas.{none_done}
use Rattle.proxy_core.proofs.done.Done.new.Goals as goal

pub returns : goal.returns
returns c = none_done c.new.result c.new.ensures.empty
