use Rattle.std.proofs.Common.{◌≡◌, ◌∙◌, None, [], map, length, refl, sym, ap, subst, eqb-true}
use Rattle.std.specs.Prelude.{option_map}
use Rattle.std.proofs.lemmas.List.{length-map, nil_from_length}
use Rattle.std.proofs.lemmas.Result.{err_from_is_err_and}
use Rattle.resp_core.specs.View.{view}
use Rattle.cluster_calls.specs.Calls.InParts.{in_parts, splits_in}
use Rattle.cluster_calls.specs.Links.World.{tree_result}
use Rattle.cluster_steps.specs.Joins.{AreOutcomesBy, shown_join, width_of_all}
use Rattle.cluster_client.specs.InParts.{joined_by, places_of, shown_joins}
use Rattle.cluster_client.specs.Whole.{whole}
use Rattle.cluster_client.proofs.InParts.{all_joined, outcomes_by_places, refused_in_parts, told_in_parts, told_so, unsent, wholes_are_told, widths}
use Rattle.cluster_client.proofs.SeveralNodes.{not_empty}
use Rattle.cluster_client.proofs.client.ClusterClient.outcomes_in_parts.Goals as goal

pub returns-in_err-outcomes : goal.returns-in_err-outcomes
returns-in_err-outcomes g c strategy entries are =
    let old = whole g.L.ConnectionLike.seen c.args.self.now in
    let p = err_from_is_err_and c.from_residual.result c.from_residual.ensures.1 in
    rw (p.1, p.2) (unsent strategy old old entries _ c.requires.emptied (λ m. absurd (m refl)))

pub returns-in_err-told : goal.returns-in_err-told
returns-in_err-told g c strategy entries are =
    let old = whole g.L.ConnectionLike.seen c.args.self.now in
    let new = whole g.L.ConnectionLike.seen c.outcomes_of_parts.new.self in
    let p = err_from_is_err_and c.from_residual-in_err-told.result c.from_residual-in_err-told.ensures.1 in
    rw (p.1, p.2) (refused_in_parts strategy old new entries are.placed c.in_err-told.field-0.0 (c.in_err-told.ensures strategy (in_parts entries) are.parts))

-- where no command is split, each part's outcome is that of its command
pub returns-then-is_empty : goal.returns-then-is_empty
returns-then-is_empty g c strategy entries are =
    let old = whole g.L.ConnectionLike.seen c.args.self.now in
    let new = whole g.L.ConnectionLike.seen c.outcomes_of_parts.new.self in
    let joins = c.args.all.joins in
    let told = map (tree_result view) c.in_ok-told.told.items in
    let w = c.in_ok-told.ensures strategy (in_parts entries) are.parts in
    let count = widths entries ∙ sym (wholes_are_told strategy old new (in_parts entries) told w).count in
    let empty : joins.items ≡ [] = nil_from_length joins.items (sym joins.ok.0 ∙ eqb-true _ 0 (sym c.is_empty.ensures ∙ c.if-is_empty.true)) in
    let none = sym (ap (λ js. joined_by (length entries) (shown_joins js)) empty) ∙ are.joins in
    told_in_parts strategy old new entries are.placed told told w (told_so entries told none count)

pub join_each-requires-clause-told : goal.join_each-requires-clause-told
join_each-requires-clause-told g c =
    let entries = c.requires.parts.0 in
    (wholes_are_told _ (whole g.L.ConnectionLike.seen c.args.self.now) (whole g.L.ConnectionLike.seen c.outcomes_of_parts.new.self) (in_parts entries) (map (tree_result view) c.in_ok-told.told.items) (c.in_ok-told.ensures None (in_parts entries) c.requires.parts.1.parts)).each

pub join_each-requires-clause-whole : goal.join_each-requires-clause-whole
join_each-requires-clause-whole g c =
    let entries = c.requires.parts.0 in
    let told = wholes_are_told _ (whole g.L.ConnectionLike.seen c.args.self.now) (whole g.L.ConnectionLike.seen c.outcomes_of_parts.new.self) (in_parts entries) (map (tree_result view) c.in_ok-told.told.items) (c.in_ok-told.ensures None (in_parts entries) c.requires.parts.1.parts) in
    let full = not_empty (option_map shown_join) c.args.all.joins.items _ c.args.all.joins.ok.0 (sym c.is_empty.ensures ∙ c.if-is_empty.false) in
    let joins : shown_joins c.args.all.joins.items ≡ map places_of (splits_in entries) = sym (all_joined (length entries) (shown_joins c.args.all.joins.items) full) ∙ c.requires.parts.1.joins in
    ap width_of_all joins ∙ widths entries ∙ sym told.count ∙ length-map _ _

pub returns : goal.returns
returns g c strategy entries are =
    let old = whole g.L.ConnectionLike.seen c.args.self.now in
    let new = whole g.L.ConnectionLike.seen c.outcomes_of_parts.new.self in
    let told = map (tree_result view) c.in_ok-told.told.items in
    let outcomes = map (tree_result view) c.join_each.new.outcomes.items in
    let w = c.in_ok-told.ensures strategy (in_parts entries) are.parts in
    let count = widths entries ∙ sym (wholes_are_told strategy old new (in_parts entries) told w).count in
    let full = not_empty (option_map shown_join) c.args.all.joins.items _ c.args.all.joins.ok.0 (sym c.is_empty.ensures ∙ c.if-is_empty.false) in
    let joins : shown_joins c.args.all.joins.items ≡ map places_of (splits_in entries) = sym (all_joined (length entries) (shown_joins c.args.all.joins.items) full) ∙ are.joins in
    told_in_parts strategy old new entries are.placed told outcomes w
    (outcomes_by_places entries told outcomes count (subst (λ ps. AreOutcomesBy ps told outcomes) joins c.join_each.ensures))
