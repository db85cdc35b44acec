use Rattle.std.proofs.Common.{◌≡◌, ◌++◌, drop, option_map}
use Rattle.cluster_routing.specs.Info.{lent, lent_texts}
use Rattle.cluster_steps.specs.Reads.{each_or_none}
use Rattle.cluster_steps.proofs.pipeline_reads.each_or_none.Given as goal

abbrev pub invariant-texts : goal.invariant-texts
invariant-texts l = each_or_none (lent_texts l.args) ≡ option_map (λ rest. lent l.all.items ++ rest) (each_or_none (lent_texts (drop l.arg-index l.args)))
