use Rattle.resp_link.proofs.TwoCalls.{two_calls_are_one}
use Rattle.resp_link.proofs.laws.two_calls_are_one.Goals as goal

pub returns : goal.returns
returns c = two_calls_are_one
