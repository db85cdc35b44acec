use Rattle.std.proofs.Common.{◌≡◌, ◌∙◌, ◌∷◌, None, suc, add-one, drop, drop-cons, sym, ap, subst}
use Rattle.cluster_calls.specs.Calls.OneSlot.{common_slot}
use Rattle.cluster_client.proofs.Transacting.{known_at, slots_differ, slots_more, slots_stop}
use Rattle.cluster_client.proofs.transaction.slot.common_slot.Goals as goal
use Rattle.cluster_client.proofs.transaction.slot.common_slot.Goals.{in-Some, in-None}

pub own_slot-requires : goal.own_slot-requires
own_slot-requires c = elim c.match-directions.branch [
  | in-Some w ↦ rw w.known-is (known_at c.args.commands.now w.in-Some.all.now c.commands.position c.index-commands-position.result w.get-known.result (rw w.in-Some.is at c.requires) c.commands-test.true c.index-commands-position.is w.get-known.ensures.lookup.1)
  | in-None w ↦ rw w.known-is (tt {0})
]

pub returns-in_default : goal.returns-in_default
returns-in_default c = λ m.
    let all = c.args.commands.now in
    let next = drop-cons all c.commands.position c.index-commands-position.result c.commands-test.true ∙ ap (λ y. y ∷ drop (suc c.commands.position) all) (sym c.index-commands-position.is) in
    rw c.at_position.ensures (slots_stop all c.commands.position c.commands.common c.index-commands-position.result (drop (suc c.commands.position) all)
    (subst (λ cs. common_slot c.commands.position c.commands.common cs ≡ common_slot 0 None all) next c.commands.invariant)
    (sym c.in_ok-slot.ensures.slot ∙ c.in_default.is))

pub returns-then-not-agrees : goal.returns-then-not-agrees
returns-then-not-agrees c = λ m.
    let all = c.args.commands.now in
    let next = drop-cons all c.commands.position c.index-commands-position.result c.commands-test.true ∙ ap (λ y. y ∷ drop (suc c.commands.position) all) (sym c.index-commands-position.is) in
    rw c.at_position-then-not-agrees.ensures (slots_differ all c.commands.position c.commands.common c.index-commands-position.result (drop (suc c.commands.position) all) c.in-Some-2.slot
    (subst (λ cs. common_slot c.commands.position c.commands.common cs ≡ common_slot 0 None all) next c.commands.invariant)
    (sym c.in_ok-slot.ensures.slot ∙ c.in-Some-2.is)
    (sym c.agrees.ensures ∙ c.if-not-agrees.true))

pub commands-preserved : goal.commands-preserved
commands-preserved c =
    let all = c.args.commands.now in
    let next = drop-cons all c.commands.position c.index-commands-position.result c.commands-test.true ∙ ap (λ y. y ∷ drop (suc c.commands.position) all) (sym c.index-commands-position.is) in
    rw add-one (slots_more all c.commands.position c.commands.common c.index-commands-position.result (drop (suc c.commands.position) all) c.in-Some-2.slot
    (subst (λ cs. common_slot c.commands.position c.commands.common cs ≡ common_slot 0 None all) next c.commands.invariant)
    (sym c.in_ok-slot.ensures.slot ∙ c.in-Some-2.is)
    (sym c.agrees.ensures ∙ c.if-not-agrees.false))
