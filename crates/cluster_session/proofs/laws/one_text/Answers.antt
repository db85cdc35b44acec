use Rattle.cluster_session.proofs.OneText.{one_text}
use Rattle.cluster_session.proofs.laws.one_text.Goals as goal

pub returns : goal.returns
returns c = one_text
