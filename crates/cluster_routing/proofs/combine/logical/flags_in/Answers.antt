use Rattle.std.specs.Prelude.{IfOk}
use Rattle.std.proofs.Common.{◌≡◌, ◌∙◌, ap, sym, subst, List, Option, Bool, option_map}
use Rattle.resp_core.specs.View.{view}
use Rattle.cluster_routing.specs.Policies.{flags_in}
use Rattle.cluster_routing.proofs.Flags.{array_flags}
use Rattle.cluster_routing.proofs.combine.logical.flags_in.Goals as goal

pub returns-in-Array : goal.returns-in-Array
returns-in-Array c =
    let P : Option (List Bool) → Type 0 = λ p. IfOk c.flags_of.result (λ o. option_map (λ v. v.items) o ≡ p) in
    subst P (array_flags _ _ c.deref.ensures.value ∙ ap (λ v. flags_in (view v)) (sym c.in-Array.is)) c.flags_of.ensures
