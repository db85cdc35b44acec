use Rattle.std.proofs.Common.{◌≡◌, ◌||◌, ◌==◌, true, refl, sym, ◌∙◌, ap, arith}
use Rattle.std.specs.Prelude.{slice_get, None}
use Rattle.std.specs.List.{list_any}
use Rattle.std.specs.Ordering.{nat_cmp}
use Rattle.std.specs.BTreeSet.{contains}
use Rattle.std.proofs.lemmas.Grind.{common_steps}
use Rattle.std.proofs.lemmas.Option.{slice_get_within}
use Rattle.proxy_core.proofs.DoneLemmas.{adds, has_more, is_empty, whole_of, none_if}
use Rattle.proxy_core.proofs.done.Done.add.Goals as goal
use Rattle.proxy_core.proofs.done.Done.add.Goals.{then-self, else-self}

pub slots-preserved : goal.slots-preserved
slots-preserved g c =
    let xs = g.C.Command.slots c.args.command.now in
    let at = sym c.slot.ensures.slot ∙ c.in-Some.is in
    let within = slice_get_within xs c.slots.index c.in-Some.slot at in
    record {
      within = omega arith;
      any = c.slots.invariant.any;
      any_without = c.slots.invariant.any_without;
      has = has_more (contains nat_cmp c.args.self.now.slots) (contains nat_cmp c.slots.self.slots) (contains nat_cmp c.insert.new.self)
          xs c.slots.index c.in-Some.slot at c.slots.invariant.has (λ q. grind (arith, common_steps, c.in_ok-insert.ensures.updates.0 q));
    }

pub returns : goal.returns
returns g c =
    let xs = g.C.Command.slots c.args.command.now in
    let at : slice_get xs c.slots.index ≡ None = sym c.slot.ensures.slot ∙ c.in_default.is in
    let whole = whole_of xs c.slots.index at in
    adds c.args.self.now (record { any = true; any_without = c.if-self.self; slots = c.slots.self.slots }) xs refl
    (elim c.if-self.branch [
      | then-self w ↦ w.self-is ∙ w.if-self.true ∙ ap (λ b. b || is_empty xs) (sym w.if-self.true ∙ c.slots.invariant.any_without)
      | else-self w ↦ w.self-is ∙ none_if xs c.slots.index at c.slots.invariant.within ∙ ap (λ b. b || is_empty xs) (sym w.if-self.false ∙ c.slots.invariant.any_without)
    ])
    (λ q. c.slots.invariant.has q ∙ ap (λ ys. list_any (λ s. s == q) ys || contains nat_cmp c.args.self.now.slots q) whole)
