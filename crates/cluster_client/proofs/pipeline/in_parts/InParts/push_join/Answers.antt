use Rattle.std.specs.Prelude.{is_some, not}
use Rattle.std.proofs.Common.{◌≡◌, ◌∙◌, false, [], Option, None, Some, refl, sym, ap, eqb-true}
use Rattle.std.proofs.lemmas.List.{nil_from_length}
use Rattle.cluster_client.proofs.InParts.{one_more}
use Rattle.cluster_client.proofs.pipeline.in_parts.InParts.push_join.Goals as goal

none_is : {A : Type 0} (o : Option A) → is_some o ≡ false → o ≡ None
none_is None e = refl
none_is (Some x) e = cc

pub returns-then-is_none-clause-joins : goal.returns-then-is_none-clause-joins
returns-then-is_none-clause-joins c =
    let joins = c.args.self.now.joins in
    let empty : joins.items ≡ [] = nil_from_length joins.items (sym joins.ok.0 ∙ eqb-true _ 0 (sym c.is_empty.ensures ∙ c.if-is_empty.true)) in
    let none : c.args.join ≡ None = none_is c.args.join (c.is_none.ensures ∙ ap not c.if-is_none.true) in
    rw (empty, none) (one_more c.args.position)
