use Rattle.std.specs.Prelude.{IfOk}
use Rattle.std.proofs.Common.{◌≡◌, ◌++◌, ap, sym, subst, Option, Some, None, option_map, option_and_then, if◌then◌else◌}
use Rattle.resp_args.specs.Convert.{traverse}
use Rattle.cluster_routing.specs.Counted.{shown_counts}
use Rattle.cluster_routing.specs.Policies.{Counts, count_in}
use Rattle.cluster_routing.proofs.combine.maps.push_counts.Goals as goal

pub returns-in-Ok : goal.returns-in-Ok
returns-in-Ok c =
    let P : Option Counts → Type 0 = λ o. IfOk c.push_pairs.result (λ fits. (if fits then Some (shown_counts c.push_pairs.new.counts.items) else None) ≡ option_map (λ more. shown_counts c.args.counts.now.items ++ more) o) in
    subst P (sym (ap (option_and_then (λ ps. traverse count_in ps)) c.in-Ok.ensures)) c.push_pairs.ensures
