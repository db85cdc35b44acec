use Rattle.std.proofs.Common.{◌∙◌, ◌∷◌, add-one, drop, drop-cons, get_or, arith, refl, sym, ap}
use Rattle.std.proofs.lemmas.List.{map-append}
use Rattle.std.proofs.lemmas.Grind.{common_steps}
use Rattle.cluster_steps.proofs.Telling.{told_more}
use Rattle.cluster_steps.proofs.each.tell_each.Goals as goal

pub numbers-preserved : goal.numbers-preserved
numbers-preserved c =
    let all = c.args.numbers.now in
    let i = c.numbers.number-index in
    let here = drop-cons all i 0 c.numbers-test.true ∙ ap (λ k. get_or all i 0 ∷ drop k all) (sym (add-one i)) in
    let within = rw here at c.numbers.invariant.within in
    let room = rw here at c.numbers.invariant.room in
    let told = rw here at c.numbers.invariant.told in
    record {
      within = rw c.next_outcome_of.ensures.len within.1;
      room = grind (arith, common_steps);
      told = rw (c.push.ensures.items, c.unwrap.ensures, map-append) (told_more _ _ _ _ _ _ _ _ told c.next_outcome_of.ensures.outcome c.next_outcome_of.ensures.rest refl);
    }
