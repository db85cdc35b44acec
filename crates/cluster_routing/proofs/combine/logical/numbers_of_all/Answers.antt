use Rattle.std.proofs.Common.{◌∙◌, ap, sym, map, Bool, Global, Some, Vec, option_map}
use Rattle.cluster_routing.specs.Combine.{array_of}
use Rattle.cluster_routing.specs.Policies.{flag_tree}
use Rattle.cluster_routing.proofs.combine.logical.numbers_of_all.Goals as goal

pub returns-in_ok-numbers_of-in-Some : goal.returns-in_ok-numbers_of-in-Some
returns-in_ok-numbers_of-in-Some c =
    ap (λ ts. Some (array_of ts)) (c.in_ok-numbers_of-in-Some.ensures ∙ ap (map flag_tree) c.deref.ensures.value)
    ∙ ap (option_map (λ bs. array_of (map flag_tree bs))) (ap (option_map (λ (v : Vec Bool Global). v.items)) (sym c.in-Some.is) ∙ c.in_ok-flags.ensures)

pub returns-in-None : goal.returns-in-None
returns-in-None c = ap (option_map (λ bs. array_of (map flag_tree bs))) (ap (option_map (λ (v : Vec Bool Global). v.items)) (sym c.in-None.is) ∙ c.in_ok-flags.ensures)
