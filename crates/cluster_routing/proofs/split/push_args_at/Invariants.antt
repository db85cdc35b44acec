use Rattle.std.proofs.Common.{◌≡◌, ◌++◌, drop}
use Rattle.std.specs.Prelude.{flat_map}
use Rattle.cluster_routing.specs.Info.{lent_texts, texts}
use Rattle.cluster_routing.specs.Split.{text_at}
use Rattle.cluster_routing.proofs.split.push_args_at.Given as goal

abbrev pub invariant-places : goal.invariant-places
invariant-places l = texts l.fn.list.items ++ flat_map (text_at (lent_texts l.args)) l.fn.places ≡ texts l.list.items ++ flat_map (text_at (lent_texts l.args)) (drop l.place-index l.places)
