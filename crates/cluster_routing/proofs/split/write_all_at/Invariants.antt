use Rattle.std.proofs.Common.{◌≡◌, drop}
use Rattle.std.specs.Prelude.{flat_map}
use Rattle.cluster_routing.specs.Info.{lent_texts}
use Rattle.cluster_routing.specs.Split.{text_at, with_texts}
use Rattle.cluster_routing.proofs.split.write_all_at.Given as goal

abbrev pub invariant-places : goal.invariant-places
invariant-places l = with_texts l.fn.cmd (flat_map (text_at (lent_texts l.args)) l.fn.places) ≡ with_texts l.cmd (flat_map (text_at (lent_texts l.args)) (drop l.place-index l.places))
