use Rattle.cluster_calls.proofs.LogLaws.Gaps.{every_gap_names_no_key}
use Rattle.cluster_calls.proofs.ServerLaws.Alone.{run_served}
use Rattle.cluster_calls.proofs.laws.answers_and_keyspace.Goals as goal

pub returns : goal.returns
returns c = λ strategy client faults ts meaning keys keys' done on played honest. run_served strategy faults meaning done ts client keys keys' every_gap_names_no_key on played honest
