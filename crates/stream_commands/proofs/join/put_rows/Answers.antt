use Rattle.std.specs.Prelude.{nat_eq, nat_lt}
use Rattle.std.specs.List.{list_all, position_or_len}
use Rattle.std.specs.Str.{bytes_eq}
use Rattle.std.specs.Vec.Iter.{into_iter_items}
use Rattle.std.proofs.Common.{◌≡◌, ◌∙◌, ap, sym, subst, length, true, [], refl, ℕ}
use Rattle.std.proofs.lemmas.Result.{err_from_is_err_and}
use Rattle.stream_commands.specs.Join.{lent_keys}
use Rattle.stream_commands.specs.RecordViews.{rows_view}
use Rattle.stream_commands.proofs.Gather.{all_inserted}
use Rattle.stream_commands.proofs.GatherSteps.{Step, row_put, row_stops}
use Rattle.stream_commands.proofs.join.put_rows.Goals as goal

pub put_row-requires : goal.put_row-requires
put_row-requires c =
    let n : ℕ = length (lent_keys c.args.places.now.keys) in
    subst (λ m. list_all (λ p. nat_lt p m) c.in_ok-own.own.keys ≡ true) (sym c.rows.invariant.long) (
    subst (λ ps. list_all (λ p. nat_lt p n) ps ≡ true) (sym c.in_ok-own.ensures) (all_inserted n [] c.args.part.now refl c.requires.within)
    )

pub rows-preserved : goal.rows-preserved
rows-preserved c =
    let s : Step (lent_keys c.args.places.now.keys) c.args.part.now c.in_ok-own.own.keys c.in-Some.row c.place_of-place.result = record {
      own_is = c.in_ok-own.ensures;
      place_is = c.place_of-place.ensures ∙ ap (λ k. position_or_len (bytes_eq k) (lent_keys c.args.places.now.keys)) c.as_str.ensures.value;
    }
    in
    row_put c.in-Some.row (into_iter_items c.rows.row-iterator) (into_iter_items c.next.new.self) c.put_row.new.table.items c.requires.differ c.requires.within c.rows.invariant c.in-Some.ensures.steps.0 s c.in_ok-put_row.ensures.free c.in_ok-put_row.ensures.put

pub returns-in_err-put_row : goal.returns-in_err-put_row
returns-in_err-put_row c =
    let p = err_from_is_err_and c.from_residual-in_err-put_row.result c.from_residual-in_err-put_row.ensures.1 in
    let s : Step (lent_keys c.args.places.now.keys) c.args.part.now c.in_ok-own.own.keys c.in-Some.row c.place_of-place.result = record {
      own_is = c.in_ok-own.ensures;
      place_is = c.place_of-place.ensures ∙ ap (λ k. position_or_len (bytes_eq k) (lent_keys c.args.places.now.keys)) c.as_str.ensures.value;
    }
    in
    rw (p.1, p.2) (λ done h memory.
    row_stops c.in-Some.row (into_iter_items c.rows.row-iterator) (into_iter_items c.next.new.self) c.requires.differ c.requires.within c.rows.invariant c.in-Some.ensures.steps.0 s c.in_err-put_row.ensures.free done h)
