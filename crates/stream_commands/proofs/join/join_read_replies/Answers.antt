use Rattle.std.specs.Prelude.{nat_lt, ◌&&◌, ◌≢◌, filter_map, option_map}
use Rattle.std.specs.List.{list_all}
use Rattle.std.specs.Vec.Iter.{into_iter_items}
use Rattle.std.proofs.Common.{◌≡◌, ◌∙◌, ◌++◌, ap, sym, subst, length, map as each, drop, refl, true, false, [], None, Some, List, ℕ, Option}
use Rattle.std.proofs.lemmas.List.{length-map, nil_from_length, take_rest}
use Rattle.std.proofs.lemmas.Result.{err_from_is_err_and}
use Rattle.resp_core.specs.Errors.{Unreadable, no_memory}
use Rattle.stream_commands.specs.Join.{join, keys_at, lent_keys, name_none_twice, name_only, positions_below, share}
use Rattle.stream_commands.specs.Joining.{Holds, positions}
use Rattle.stream_commands.specs.ReadReply.{Row}
use Rattle.stream_commands.specs.RecordViews.{row_view}
use Rattle.stream_commands.proofs.Gather.{held_long}
use Rattle.stream_commands.proofs.GatherSteps.{Joining, joining_end, joining_start, opened, part_stops, part_within, put_part, refused_as, reply_rows, split_first}
use Rattle.stream_commands.proofs.join.join_read_replies.Goals as goal

pub replies-init : goal.replies-init
replies-init c =
    let keys : List (List ℕ) = lent_keys c.args.keys.now in
    let parts : List (List ℕ) = positions c.args.parts.now in
    let many : length keys ≡ length c.args.keys.now = length-map c.args.keys.now _ in
    let start = joining_start keys parts (each reply_rows c.args.replies.items) c.in_ok-table.table.items
    (length-map c.args.replies.items reply_rows ∙ c.requires.replies ∙ sym (length-map c.args.parts.now _))
    (subst (λ n. share parts n ≡ true) (sym many) c.requires.once)
    (c.in_ok-table.ensures ∙ ap (λ n. each (λ _. None) (positions_below n)) (sym many))
    in
    subst (λ rs. Joining keys parts (each reply_rows c.args.replies.items) parts (each reply_rows rs) c.in_ok-table.table.items) (sym c.into_iter-reply-iterator.ensures.into_iter_gives.0) start

pub put_rows-requires-clause-within : goal.put_rows-requires-clause-within
put_rows-requires-clause-within c =
    let split = split_first c.replies.rest.now c.part-item.result c.part-item.is c.in-len1-up.len_at_least in
    let within = part_within (opened c.part-item.result c.in-Some.reply c.replies.invariant split c.in-Some.ensures.steps.0) in
    subst (λ ks. list_all (λ p. nat_lt p (length ks)) c.deref.result.now ≡ true) (sym c.in_ok-places.ensures) (
    subst (λ ps. list_all (λ p. nat_lt p (length (lent_keys c.args.keys.now))) ps ≡ true) (sym c.deref.ensures.value) within
    )

pub put_rows-requires-clause-room : goal.put_rows-requires-clause-room
put_rows-requires-clause-room c = held_long (lent_keys c.args.keys.now) c.replies.table.items c.replies.invariant.done c.replies.invariant.holds ∙ ap length (sym c.in_ok-places.ensures)

pub returns-in_err-put_rows-in-len1-up : goal.returns-in_err-put_rows-in-len1-up
returns-in_err-put_rows-in-len1-up c =
    let p = err_from_is_err_and c.from_residual-in_err-put_rows-in-len1-up.result c.from_residual-in_err-put_rows-in-len1-up.ensures.1 in
    let split = split_first c.replies.rest.now c.part-item.result c.part-item.is c.in-len1-up.len_at_least in
    refused_as reply_rows (join (lent_keys c.args.keys.now) (positions c.args.parts.now) (each reply_rows c.args.replies.items)) c.from_residual-in_err-put_rows-in-len1-up.result p.0 p.1 (λ m.
    part_stops c.part-item.result c.in-Some.reply (lent_keys c.in_ok-places.places.keys) c.deref.result.now c.in_ok-places.ensures c.deref.ensures.value c.replies.invariant split c.in-Some.ensures.steps.0 (λ done h.
    c.in_err-put_rows-in-len1-up.ensures done h (λ k. m (p.2 ∙ k))))

pub replies-preserved : goal.replies-preserved
replies-preserved c =
    let keys : List (List ℕ) = lent_keys c.args.keys.now in
    let split = split_first c.replies.rest.now c.part-item.result c.part-item.is c.in-len1-up.len_at_least in
    let next : Joining keys (positions c.args.parts.now) (each reply_rows c.args.replies.items) (positions (drop 1 c.replies.rest.now)) (each reply_rows (into_iter_items c.next.new.self)) c.put_rows.new.table.items =
    put_part c.part-item.result c.in-Some.reply c.put_rows.new.table.items (lent_keys c.in_ok-places.places.keys) c.deref.result.now c.in_ok-places.ensures c.deref.ensures.value c.replies.invariant split c.in-Some.ensures.steps.0 c.in_ok-put_rows-in-len1-up.ensures
    in
    subst (λ vs. Joining keys (positions c.args.parts.now) (each reply_rows c.args.replies.items) (positions vs) (each reply_rows (into_iter_items c.next.new.self)) c.put_rows.new.table.items) (sym (take_rest c.replies.rest.now 1)) next

pub returns : goal.returns
returns c =
    let keys : List (List ℕ) = lent_keys c.args.keys.now in
    let none = nil_from_length (into_iter_items c.replies.reply-iterator) (sym c.replies.reply-iterator.rest.ok.0 ∙ c.in-None.ensures.steps.0) in
    let all : Joining keys (positions c.args.parts.now) (each reply_rows c.args.replies.items) (positions c.replies.rest.now) [] c.replies.table.items =
    subst (λ rs. Joining keys (positions c.args.parts.now) (each reply_rows c.args.replies.items) (positions c.replies.rest.now) (each reply_rows rs) c.replies.table.items) none c.replies.invariant
    in
    joining_end (positions c.replies.rest.now) all ∙ ap (λ rows. Some rows) (sym c.in_ok-keys.ensures)
