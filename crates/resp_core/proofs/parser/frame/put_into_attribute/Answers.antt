use Rattle.std.proofs.Common.{◌≡◌, ◌+◌, ◌-◌, ◌*◌, ◌/◌, ℕ, suc, List, [], ◌∷◌, ◌++◌, map, Some, None, Ok, Err, refl, sym, ap, subst, ◌∙◌, arith}
use Rattle.resp_core.specs.Trees.{Tree, attribute}
use Rattle.resp_core.specs.View.{view, pair_view, pairs_view}
use Rattle.resp_core.specs.Reading.{flat}
use Rattle.resp_core.specs.Frames.{attribute_of}
use Rattle.resp_core.proofs.Rows.{pair_seen, row_next, attribute_ends}
use Rattle.resp_core.proofs.Views.{view-Attribute}
use Rattle.resp_core.proofs.parser.frame.put_into_attribute.Goals as goal

pub returns-in-Some : goal.returns-in-Some
returns-in-Some c k bs =
    let a = c.args in
    let key : a.key.now ≡ Some c.in-Some.first = sym c.take.ensures.value ∙ c.in-Some.is in
    rw (key, c.take.ensures.after) (row_next k attribute_of _ _ (2 * a.to_come.now + 1) (2 * a.to_come.now) bs (pair_seen _ _ _ _ c.in_ok-push.ensures.items) (omega arith))

pub returns-then-to_come-eq0 : goal.returns-then-to_come-eq0
returns-then-to_come-eq0 c k bs =
    let a = c.args in
    let none : a.key.now ≡ None = sym c.take.ensures.value ∙ c.in_default.is in
    let boxed = c.in_ok-inner in
    rw (none, c.replace-attributes.ensures.value)
    (attribute_ends k (map pair_view a.pairs.now.items) (view a.value) (2 * a.to_come.now) bs (omega arith)
    ∙ ap (λ (x : Tree). Ok (x, bs)) (ap (λ (x : Tree). attribute x (pairs_view a.pairs.now.items)) (sym (ap view boxed.ensures.ok)) ∙ sym (view-Attribute boxed.inner a.pairs.now)))

pub returns : goal.returns
returns c k bs =
    let a = c.args in
    let none : a.key.now ≡ None = sym c.take.ensures.value ∙ c.in_default.is in
    let before = flat (map pair_view a.pairs.now.items) ++ view a.value ∷ [] in
    rw none (row_next k attribute_of before before (2 * a.to_come.now) (2 * (a.to_come.now - 1) + 1) bs refl (omega arith))
