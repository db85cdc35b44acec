use Rattle.cluster_routing.proofs.SplitWords.{split_words_are_names}
use Rattle.cluster_routing.proofs.laws.split_words_are_names.Goals as goal

pub returns : goal.returns
returns c = split_words_are_names
