use Rattle.std.proofs.Common.{◌≡◌, ◌∙◌, List, Option, Some, ℕ, IfOk, Vec, Global, Bor, option_map, option_and_then, sym, ap, subst}
use Rattle.cluster_routing.specs.Command.{all_bytes}
use Rattle.cluster_routing.specs.Directions.{shown_direction, split_direction}
use Rattle.cluster_routing.specs.Info.{lent, shown_splitting}
use Rattle.cluster_routing.specs.Split.{Splitting, parts_by_role}
use Rattle.cluster_routing.proofs.direction.in_parts.Goals as goal

pub returns-in-Some : goal.returns-in-Some
returns-in-Some g c =
    let p : Splitting = shown_splitting (c.args.pattern, c.args.policy) in
    let bytes : Some (lent c.deref.result.now) ≡ all_bytes (g.R.Routable.args c.args.r.now) = ap (λ (xs : List (Bor (List ℕ))). Some (lent xs)) c.deref.ensures.value ∙ sym (ap (option_map (λ (v : Vec (Bor (List ℕ)) Global). lent v.items)) c.in-Some.is) ∙ c.in_ok-arguments.ensures in
    subst (λ (o : Option (List (List ℕ))). IfOk c.in_parts_of.result (λ d. shown_direction d ≡ split_direction o (option_and_then (parts_by_role c.args.role p) o))) bytes c.in_parts_of.ensures
