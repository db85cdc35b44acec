use Rattle.cluster_calls.proofs.LogLaws.AlikePlays.{plays_alike}
use Rattle.cluster_calls.proofs.laws.respelled_plays.Goals as goal

pub returns : goal.returns
returns c = λ strategy strategy' old new old' new' calls calls' before after before' after' all all' p q had had' same cs ps said. plays_alike strategy strategy' old new old' new' calls calls' before after before' after' all all' p q had had' same cs ps said
