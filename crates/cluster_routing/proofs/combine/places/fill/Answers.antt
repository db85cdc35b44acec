use Rattle.std.specs.Prelude.{slice_index_or, slice_set}
use Rattle.std.proofs.Common.{◌≡◌, ◌<◌, ◌∙◌, ap, subst, length, arith, Some, ℕ}
use Rattle.cluster_routing.proofs.Placed.{filled_more, filled_place}
use Rattle.cluster_routing.proofs.combine.places.fill.Goals as goal

pub put-requires : goal.put-requires
put-requires c =
    let same : length c.pop.new.self.items ≡ c.len.result = omega (arith, c.len.ensures, c.pop.new.self.ok.0) in
    let P : ℕ → Type 0 = λ n. slice_index_or c.args.places.now n 0 < length c.items.table.items in
    subst P same (filled_place c.pop.new.self.items c.in-Some.item c.items.invariant c.in-Some.ensures.items c.requires.same c.requires.below)

pub items-preserved : goal.items-preserved
items-preserved c =
    let same : c.len.result ≡ length c.pop.new.self.items = omega (arith, c.len.ensures, c.pop.new.self.ok.0) in
    filled_more c.pop.new.self.items c.in-Some.item c.put.new.table.items c.items.invariant c.in-Some.ensures.items c.requires.same c.requires.below (c.put.ensures ∙ ap (λ n. slice_set c.items.table.items (slice_index_or c.args.places.now n 0) (Some c.in-Some.item)) same)
