use Rattle.cluster_calls.proofs.LogLaws.SentOnce as nodes
use Rattle.cluster_calls.proofs.laws.nodes_once_ascending.Goals as goal

pub returns : goal.returns
returns c = λ client picks call command xs t legal. nodes.nodes_once_ascending client picks call command xs t legal
