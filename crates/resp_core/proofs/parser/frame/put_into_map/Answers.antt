use Rattle.std.proofs.Common.{◌≡◌, ◌+◌, ◌-◌, ◌*◌, ◌/◌, ℕ, suc, List, [], ◌∷◌, ◌++◌, map, Some, None, Ok, Err, refl, sym, ap, subst, ◌∙◌, arith}
use Rattle.resp_core.specs.Trees.{Tree, Pairs}
use Rattle.resp_core.specs.Trees as trees
use Rattle.resp_core.specs.View.{view, pair_view}
use Rattle.resp_core.specs.Reading.{flat}
use Rattle.resp_core.specs.Frames.{map_of, attribute_of}
use Rattle.resp_core.proofs.Groups.{paired-flat}
use Rattle.resp_core.proofs.Rows.{pair_seen, row_whole, row_next}
use Rattle.resp_core.proofs.Views.{view-Map}
use Rattle.resp_core.proofs.parser.frame.put_into_map.Goals as goal

pub returns-then-to_come-eq0 : goal.returns-then-to_come-eq0
returns-then-to_come-eq0 c k bs =
    let a = c.args in
    let key : a.key.now ≡ Some c.in-Some.first = sym c.take.ensures.value ∙ c.in-Some.is in
    rw (key, c.replace.ensures.value) (row_whole k map_of _ _ (2 * a.to_come.now) bs (pair_seen _ _ _ _ c.in_ok-push.ensures.items) (omega arith) ∙ ap (λ (q : Pairs). Ok (trees.map q, bs)) (paired-flat (map pair_view c.push.new.self.items)) ∙ ap (λ (x : Tree). Ok (x, bs)) (sym (view-Map c.push.new.self)))

pub returns : goal.returns
returns c k bs =
    let a = c.args in
    let key : a.key.now ≡ Some c.in-Some.first = sym c.take.ensures.value ∙ c.in-Some.is in
    rw (key, c.take.ensures.after) (row_next k map_of _ _ (2 * a.to_come.now) (2 * (a.to_come.now - 1) + 1) bs (pair_seen _ _ _ _ c.in_ok-push.ensures.items) (omega arith))

pub returns-in_default : goal.returns-in_default
returns-in_default c k bs =
    let a = c.args in
    let none : a.key.now ≡ None = sym c.take.ensures.value ∙ c.in_default.is in
    let before = flat (map pair_view a.pairs.now.items) ++ view a.value ∷ [] in
    rw none (row_next k map_of before before (2 * a.to_come.now + 1) (2 * a.to_come.now) bs refl (omega arith))
