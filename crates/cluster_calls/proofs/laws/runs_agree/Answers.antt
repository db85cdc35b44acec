use Rattle.cluster_calls.proofs.ServerLaws.AnyOrder.{runs_agree_in_any_order}
use Rattle.cluster_calls.proofs.laws.runs_agree.Goals as goal

pub returns : goal.returns
returns c = λ strategy strategy' client client' faults faults' ts us meaning keys left right done done' one same on a b played played' honest honest'.
    runs_agree_in_any_order strategy strategy' client client' faults faults' ts us meaning keys left right done done' one same on a b played played' honest honest'
