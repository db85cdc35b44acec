use Rattle.cluster_calls.proofs.LogLaws.Gaps.{every_gap_names_no_key}
use Rattle.cluster_calls.proofs.laws.gaps_name_no_key.Goals as goal

pub returns : goal.returns
returns c = λ command read_only route e. every_gap_names_no_key command read_only route e
