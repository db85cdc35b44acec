use Rattle.cluster_calls.proofs.LogLaws.Gaps.{every_gap_names_no_key}
use Rattle.cluster_calls.proofs.ServerLaws.AmongOthers.{served_among_others}
use Rattle.cluster_calls.proofs.laws.answers_among_others.Goals as goal

pub returns : goal.returns
returns c = λ strategy client faults ts meaning keys keys' done calls last on played honest. served_among_others strategy faults meaning done ts client keys keys' every_gap_names_no_key on played calls last honest
