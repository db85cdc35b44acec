use Rattle.resp_link.proofs.TwoCalls.{refused_sends_are_refused_calls}
use Rattle.resp_link.proofs.laws.refused_sends_are_refused_calls.Goals as goal

pub returns : goal.returns
returns c = refused_sends_are_refused_calls
