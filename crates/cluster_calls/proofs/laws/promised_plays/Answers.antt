use Rattle.cluster_calls.proofs.LogLaws.PromisedPlays.{promised_plays}
use Rattle.cluster_calls.proofs.laws.promised_plays.Goals as goal

pub returns : goal.returns
returns c = λ old new new' calls before after after' p q promised had had' links links' room room'. promised_plays old new new' calls before after after' p q promised had had' links links' room room'
