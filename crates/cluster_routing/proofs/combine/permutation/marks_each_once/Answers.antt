use Rattle.std.specs.Prelude.{◌&&◌}
use Rattle.std.specs.List.{list_all}
use Rattle.std.proofs.Common.{◌∙◌, ap, sym, length}
use Rattle.cluster_routing.proofs.Marks.{permutes}
use Rattle.cluster_routing.proofs.combine.permutation.marks_each_once.Goals as goal

pub returns-then-mark_each : goal.returns-then-mark_each
returns-then-mark_each c =
    let tests = c.mark_each.ensures in
    c.are_all_marked.ensures ∙ ap (λ b. b && list_all (λ m. m) c.mark_each.new.marks) (sym c.if-mark_each.true)
    ∙ permutes (length c.args.marks.now) c.args.places.now c.args.marks.now c.mark_each.new.marks c.mark_each.result c.requires tests.fresh tests.marked tests.len

pub returns-else-mark_each : goal.returns-else-mark_each
returns-else-mark_each c =
    let tests = c.mark_each.ensures in
    c.if-mark_each.false ∙ ap (λ b. b && list_all (λ m. m) c.mark_each.new.marks) (sym c.if-mark_each.false)
    ∙ permutes (length c.args.marks.now) c.args.places.now c.args.marks.now c.mark_each.new.marks c.mark_each.result c.requires tests.fresh tests.marked tests.len
