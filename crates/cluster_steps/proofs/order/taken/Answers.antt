use Rattle.std.proofs.Common.{◌∙◌, refl, sym}
use Rattle.std.proofs.lemmas.Option.{slice_get_read}
use Rattle.cluster_calls.proofs.LinkLaws.Ordering.{taking_more, taking_within, with_one, with_none}
use Rattle.cluster_steps.proofs.order.taken.Goals as goal
use Rattle.cluster_steps.proofs.order.taken.Goals.{in-Some+in_ok-push, in_default}

pub numbers-preserved : goal.numbers-preserved
numbers-preserved g c =
    let within = taking_within _ c.numbers.invariant c.numbers-test.true refl in
    let there = slice_get_read _ _ _ _ refl within c.index_mut.ensures.value in
    elim c.match-take.branch [
      | in-Some+in_ok-push w ↦ taking_more _ _ _ _ c.numbers.invariant c.numbers-test.true refl there c.take.ensures.after
          (with_one c.numbers.all w.all-is w.in_ok-push.ensures.items (sym c.take.ensures.value ∙ w.in-Some.is))
      | in_default w ↦ taking_more _ _ _ _ c.numbers.invariant c.numbers-test.true refl there c.take.ensures.after
          (with_none c.numbers.all w.all-is (sym c.take.ensures.value ∙ w.in_default.is))
    ]
