use Rattle.std.proofs.Common.{◌||◌, ◌<◌, sym, ◌∙◌, ap, arith}
use Rattle.std.specs.Ordering.{nat_cmp}
use Rattle.std.specs.BTreeSet.{contains}
use Rattle.std.proofs.lemmas.Option.{slice_get_within}
use Rattle.proxy_core.proofs.DoneLemmas.{overtakes_at, none_more, none_ends}
use Rattle.proxy_core.proofs.done.Done.overtakes.Goals as goal
use Rattle.proxy_core.proofs.done.Done.overtakes.Goals.{then-self-via-then-self, then-self-via-else-self+then-contains}

pub returns-then-self : goal.returns-then-self
returns-then-self g c =
    sym (overtakes_at c.args.self.now (g.C.Command.slots c.args.command.now) c.slots.index c.in-Some.slot (sym c.slot.ensures.slot ∙ c.in-Some.is)
    (elim c.then-self.branch [
      | then-self-via-then-self w ↦ ap (λ b. b || contains nat_cmp c.args.self.now.slots c.in-Some.slot) w.if-self.true
      | then-self-via-else-self+then-contains w ↦ ap (λ b. b || contains nat_cmp c.args.self.now.slots c.in-Some.slot) w.if-self.false ∙ sym w.contains.ensures ∙ w.if-contains.true
    ]))

pub overflow_add-index : goal.overflow_add-index
overflow_add-index g c =
    let within = slice_get_within (g.C.Command.slots c.args.command.now) c.slots.index c.in-Some.slot (sym c.slot.ensures.slot ∙ c.in-Some.is) in
    omega (arith, c.slot.ensures.few)

pub slots-smaller : goal.slots-smaller
slots-smaller g c =
    let within = slice_get_within (g.C.Command.slots c.args.command.now) c.slots.index c.in-Some.slot (sym c.slot.ensures.slot ∙ c.in-Some.is) in
    omega arith

pub slots-preserved : goal.slots-preserved
slots-preserved g c =
    none_more c.args.self.now (g.C.Command.slots c.args.command.now) c.slots.index c.in-Some.slot (sym c.slot.ensures.slot ∙ c.in-Some.is)
    (ap (λ b. b || contains nat_cmp c.args.self.now.slots c.in-Some.slot) c.if-self.false ∙ sym c.contains.ensures ∙ c.if-contains.false) c.slots.invariant

pub returns-else-index-eq0 : goal.returns-else-index-eq0
returns-else-index-eq0 g c =
    let some : 0 < c.slots.index = omega arith in
    none_ends c.args.self.now (g.C.Command.slots c.args.command.now) c.slots.index (sym c.slot.ensures.slot ∙ c.in_default.is) c.slots.invariant some
