-- What the loops of a join keep.
use Rattle.std.specs.Prelude.{nat_eq, nat_lt, slice_set, slice_index_or, is_none, filter_map, option_map, Result, Err, ◌≢◌}
use Rattle.std.specs.List.{IsDistinct, flat_map, list_all, list_any, position_or_len}
use Rattle.std.specs.Str.{bytes_eq}
use Rattle.std.specs.Global.{Global}
use Rattle.std.proofs.Common.{◌≡◌, ℕ, zero, suc, ◌+◌, ◌<◌, ◌≤◌, Bool, true, false, not, ◌&&◌, ◌||◌, cond, if◌then◌else◌, List, [], ◌∷◌, ◌++◌, length, drop, map as each, Vec, refl, sym, ap, subst, ◌∙◌, arith, append_assoc, append-nil, Option, Some, None}
use Rattle.std.proofs.lemmas.Bool.Decides.{nat_tests}
use Rattle.std.proofs.lemmas.List.{length-set}
use Rattle.std.proofs.lemmas.List.Folds.{list_all-append}
use Rattle.indexmap.specs.IndexSet.{insert_all}
use Rattle.resp_core.specs.Errors.{Unreadable, refused, no_memory}
use Rattle.resp_args.specs.Convert.{Answers}
use Rattle.stream_commands.specs.Join.{all_rows, are_distinct, in_key_order, join, keys_at, name_none_twice, name_only, name_own_keys, positions_below, share}
use Rattle.stream_commands.specs.Joining.{Holds, is_free, positions}
use Rattle.stream_commands.specs.ReadReply.{Row}
use Rattle.stream_commands.specs.RecordViews.{row_view, rows_view}
use Rattle.stream_commands.specs.declared.records.read.StreamKey.{StreamKey}
use Rattle.stream_commands.specs.declared.records.read.StreamReadReply.{StreamReadReply}
use Rattle.stream_commands.proofs.Gather.{among_part, and_false, any_inserted, both, held_in_order, held_none, held_once, put, still_twice, taken}

-- of all rows of a reply some are put, the others are left
pub record Putting (keys : List (List ℕ)) (part : List ℕ) (all : List Row) (old : List (Option StreamKey)) (left : List Row) (table : List (Option StreamKey)) : Type 0 where
  pub passed : List Row
  pub whole : all ≡ passed ++ left
  pub own : name_only (keys_at keys part) passed ≡ true
  pub holds : (done : List Row) → Holds keys done old → Holds keys (done ++ passed) table
  pub long : length table ≡ length keys

pub putting_start : (keys : List (List ℕ)) (part : List ℕ) (all : List Row) (table : List (Option StreamKey)) → length table ≡ length keys → Putting keys part all table all table
putting_start keys part all table e = record {
  passed = [];
  whole = refl;
  own = refl;
  holds = λ done h. subst (λ rows. Holds keys rows table) (sym (append-nil done)) h;
  long = e;
}

abbrev pub place_of : List (List ℕ) → StreamKey → ℕ
place_of keys row = position_or_len (bytes_eq (row_view row).key) keys

-- the place of a key of the part is one of the table's
pub is_within : (n p : ℕ) (ps : List ℕ) → list_all (λ p. nat_lt p n) ps ≡ true → list_any (nat_eq p) ps ≡ true → p < n
is_within n p [] h k = cc
is_within n p (x ∷ ps) h k =
    let w = both (nat_lt x n) (list_all (λ p. nat_lt p n) ps) h in
    by (nat_eq p x) refl w.0 k (is_within n p ps w.1)
  where
    by : (b : Bool) → nat_eq p x ≡ b → nat_lt x n ≡ true → (b || list_any (nat_eq p) ps) ≡ true → (list_any (nat_eq p) ps ≡ true → p < n) → p < n
    by true e l g later = grind (arith, nat_tests, e, l)
    by false e l g later = later g

pub putting_more : {keys : List (List ℕ)} {part : List ℕ} {all : List Row} {old table : List (Option StreamKey)} (row : StreamKey) (rest : List Row) (new : List (Option StreamKey))
    → IsDistinct bytes_eq keys → list_all (λ p. nat_lt p (length keys)) part ≡ true → Putting keys part all old (row_view row ∷ rest) table
    → (list_any (nat_eq (place_of keys row)) part && is_none (slice_index_or table (place_of keys row) None)) ≡ true → new ≡ slice_set table (place_of keys row) (Some row) → Putting keys part all old rest new
putting_more {keys} {part} {all} {old} {table} row rest new d within p f e =
    let r : Row = row_view row in
    let n : ℕ = place_of keys row in
    let free = both (list_any (nat_eq n) part) (is_none (slice_index_or table n None)) f in
    record {
      passed = p.passed ++ r ∷ [];
      whole = p.whole ∙ sym (append_assoc p.passed (r ∷ []) rest);
      own =
          list_all-append (λ (x : Row). list_any (bytes_eq x.key) (keys_at keys part)) p.passed (r ∷ [])
          ∙ ap (λ b. b && (list_any (bytes_eq r.key) (keys_at keys part) && true)) p.own
          ∙ ap (λ b. b && true) (among_part r.key keys part d within ∙ free.0);
      holds = λ done h.
          subst (λ rows. Holds keys rows new) (append_assoc done p.passed (r ∷ [])) (
          subst (Holds keys ((done ++ p.passed) ++ r ∷ [])) (sym e) (put keys table (done ++ p.passed) row n d (p.holds done h) refl (is_within (length keys) n part within free.0) free.1)
          );
      long = ap length e ∙ length-set table n (Some row) ∙ p.long;
    }

-- a row that cannot be put fails the reply
pub putting_stops : {keys : List (List ℕ)} {part : List ℕ} {all : List Row} {old table : List (Option StreamKey)} (row : StreamKey) (rest : List Row)
    → IsDistinct bytes_eq keys → list_all (λ p. nat_lt p (length keys)) part ≡ true → Putting keys part all old (row_view row ∷ rest) table
    → (list_any (nat_eq (place_of keys row)) part && is_none (slice_index_or table (place_of keys row) None)) ≡ false
    → (done : List Row) → Holds keys done old → (name_only (keys_at keys part) all && name_none_twice keys (done ++ all)) ≡ false
putting_stops {keys} {part} {all} {old} {table} row rest d within p f done h = by (list_any (nat_eq (place_of keys row)) part) refl f
  where
    r : Row
    r = row_view row

    by : (b : Bool) → list_any (nat_eq (place_of keys row)) part ≡ b → (b && is_none (slice_index_or table (place_of keys row) None)) ≡ false → (name_only (keys_at keys part) all && name_none_twice keys (done ++ all)) ≡ false
    by false e g =
        let named : name_only (keys_at keys part) (row_view row ∷ rest) ≡ false = ap (λ b. b && name_only (keys_at keys part) rest) (among_part (row_view row).key keys part d within ∙ e) in
        ap (λ b. b && name_none_twice keys (done ++ all)) (
        ap (name_only (keys_at keys part)) p.whole
        ∙ list_all-append (λ (x : Row). list_any (bytes_eq x.key) (keys_at keys part)) p.passed (row_view row ∷ rest)
        ∙ and_false (name_only (keys_at keys part) p.passed) (name_only (keys_at keys part) (row_view row ∷ rest)) named
        )
    by true e g =
        and_false (name_only (keys_at keys part) all) (name_none_twice keys (done ++ all)) (
        ap (λ rows. name_none_twice keys (done ++ rows)) p.whole
        ∙ ap (name_none_twice keys) (sym (append_assoc done p.passed (row_view row ∷ rest)))
        ∙ taken keys table (done ++ p.passed) row (place_of keys row) rest (p.holds done h) refl (is_within (length keys) (place_of keys row) part within e) g
        )

-- the replies to some parts are put, those to the rest are left
pub record Joining (keys : List (List ℕ)) (parts : List (List ℕ)) (replies : List (List Row)) (rest : List (List ℕ)) (left : List (List Row)) (table : List (Option StreamKey)) : Type 0 where
  pub done : List Row
  pub holds : Holds keys done table
  pub own : name_own_keys keys parts replies ≡ name_own_keys keys rest left
  pub rows : all_rows replies ≡ done ++ all_rows left
  pub many : length left ≡ length rest
  pub within : list_all (λ p. nat_lt p (length keys)) (flat_map (λ part. part) rest) ≡ true

pub joining_start : (keys : List (List ℕ)) (parts : List (List ℕ)) (replies : List (List Row)) (table : List (Option StreamKey)) → length replies ≡ length parts → share parts (length keys) ≡ true
    → table ≡ each (λ _. None) (positions_below (length keys)) → Joining keys parts replies parts replies table
joining_start keys parts replies table n s e =
    let m : ℕ = length keys in
    let all : List ℕ = flat_map (λ part. part) parts in
    let below : Bool = list_all (λ p. nat_lt p m) all in
    let there : Bool = list_all (λ p. list_any (nat_eq p) all) (positions_below m) in
    let first = both (below && there) (are_distinct all) s in
    let second = both below there first.0 in
    record {
      done = [];
      holds = subst (Holds keys []) (sym e) (held_none keys);
      own = refl;
      rows = refl;
      many = n;
      within = second.0;
    }

pub part_within : {keys : List (List ℕ)} {parts : List (List ℕ)} {replies : List (List Row)} {part : List ℕ} {rest : List (List ℕ)} {left : List (List Row)} {table : List (Option StreamKey)}
    → Joining keys parts replies (part ∷ rest) left table → list_all (λ p. nat_lt p (length keys)) part ≡ true
part_within {keys} {parts} {replies} {part} {rest} {left} {table} j =
    (both (list_all (λ p. nat_lt p (length keys)) part) (list_all (λ p. nat_lt p (length keys)) (flat_map (λ part. part) rest)) (
    sym (list_all-append (λ p. nat_lt p (length keys)) part (flat_map (λ part. part) rest)) ∙ j.within
    )).0

pub joining_more : {keys : List (List ℕ)} {parts : List (List ℕ)} {replies : List (List Row)} {part : List ℕ} {rest : List (List ℕ)} {rows : List Row} {left : List (List Row)} {table : List (Option StreamKey)}
    (new : List (Option StreamKey)) (j : Joining keys parts replies (part ∷ rest) (rows ∷ left) table) → name_only (keys_at keys part) rows ≡ true → Holds keys (j.done ++ rows) new → Joining keys parts replies rest left new
joining_more {keys} {parts} {replies} {part} {rest} {rows} {left} {table} new j own held = record {
  done = j.done ++ rows;
  holds = held;
  own = j.own ∙ ap (λ b. b && name_own_keys keys rest left) own;
  rows = j.rows ∙ sym (append_assoc j.done rows (all_rows left));
  many = let m : length (rows ∷ left) ≡ length (part ∷ rest) = j.many in omega arith;
  within =
      (both (list_all (λ p. nat_lt p (length keys)) part) (list_all (λ p. nat_lt p (length keys)) (flat_map (λ part. part) rest)) (
      sym (list_all-append (λ p. nat_lt p (length keys)) part (flat_map (λ part. part) rest)) ∙ j.within
      )).1;
}

not_joined : (keys : List (List ℕ)) (parts : List (List ℕ)) (replies : List (List Row)) → (name_own_keys keys parts replies && name_none_twice keys (all_rows replies)) ≡ false → join keys parts replies ≡ None
not_joined keys parts replies e = ap (λ b. if b then Some (in_key_order keys (all_rows replies)) else None) e

pub joining_stops : {keys : List (List ℕ)} {parts : List (List ℕ)} {replies : List (List Row)} {part : List ℕ} {rest : List (List ℕ)} {rows : List Row} {left : List (List Row)} {table : List (Option StreamKey)}
    (j : Joining keys parts replies (part ∷ rest) (rows ∷ left) table) → (name_only (keys_at keys part) rows && name_none_twice keys (j.done ++ rows)) ≡ false → join keys parts replies ≡ None
joining_stops {keys} {parts} {replies} {part} {rest} {rows} {left} {table} j f = not_joined keys parts replies (by (name_only (keys_at keys part) rows) refl f)
  where
    by : (b : Bool) → name_only (keys_at keys part) rows ≡ b → (b && name_none_twice keys (j.done ++ rows)) ≡ false → (name_own_keys keys parts replies && name_none_twice keys (all_rows replies)) ≡ false
    by false e g = ap (λ b. b && name_none_twice keys (all_rows replies)) (j.own ∙ ap (λ b. b && name_own_keys keys rest left) e)
    by true e g =
        and_false (name_own_keys keys parts replies) (name_none_twice keys (all_rows replies)) (
        ap (name_none_twice keys) (j.rows ∙ sym (append_assoc j.done rows (all_rows left))) ∙ still_twice keys (j.done ++ rows) (all_rows left) g
        )

pub no_part_left : {keys : List (List ℕ)} {parts : List (List ℕ)} {replies : List (List Row)} {rows : List Row} {left : List (List Row)} {table : List (Option StreamKey)} → Joining keys parts replies [] (rows ∷ left) table → join keys parts replies ≡ None
no_part_left {keys} {parts} {replies} {rows} {left} {table} j = let m : length (rows ∷ left) ≡ 0 = j.many in absurd (omega arith)

pub joining_end : {keys : List (List ℕ)} {parts : List (List ℕ)} {replies : List (List Row)} (rest : List (List ℕ)) {table : List (Option StreamKey)} → Joining keys parts replies rest [] table
    → join keys parts replies ≡ Some (filter_map (option_map row_view) table)
joining_end {keys} {parts} {replies} (part ∷ rest) j = let m : 0 ≡ length (part ∷ rest) = j.many in absurd (omega arith)
joining_end {keys} {parts} {replies} [] {table} j =
    let rows : all_rows replies ≡ j.done = j.rows ∙ append-nil j.done in
    ap (λ b. if b && name_none_twice keys (all_rows replies) then Some (in_key_order keys (all_rows replies)) else None) j.own
    ∙ ap (λ xs. if name_none_twice keys xs then Some (in_key_order keys xs) else None) rows
    ∙ ap (λ b. if b then Some (in_key_order keys j.done) else None) (held_once keys table j.done j.holds)
    ∙ ap (λ xs. Some xs) (sym (held_in_order keys table j.done j.holds))

-- a refusal that is no want of memory is right where there is no record
refused_by : {M S : Type 0} (meaning : S → M) (wanted : Option M) (e : Unreadable) → (e ≢ no_memory → wanted ≡ None) → Answers meaning wanted (Err e)
refused_by meaning wanted (refused text) h = h (λ x. cc)
refused_by meaning wanted no_memory h = tt

pub refused_as : {M S : Type 0} (meaning : S → M) (wanted : Option M) (r : Result S Unreadable) (e : Unreadable) → r ≡ Err e → (e ≢ no_memory → wanted ≡ None) → Answers meaning wanted r
refused_as meaning wanted r e k h = subst (Answers meaning wanted) (sym k) (refused_by meaning wanted e h)

-- ---- as the code does it

-- what the code knows of a row: its place, and the positions of the part
pub record Step (keys : List (List ℕ)) (part own : List ℕ) (row : StreamKey) (place : ℕ) : Type 0 where
  pub own_is : own ≡ insert_all nat_eq [] part
  pub place_is : place ≡ place_of keys row

stepped : {keys : List (List ℕ)} {part own : List ℕ} {row : StreamKey} {place : ℕ} (table : List (Option StreamKey)) (b : Bool) → Step keys part own row place → b ≡ is_free own table place
    → (list_any (nat_eq (place_of keys row)) part && is_none (slice_index_or table (place_of keys row) None)) ≡ b
stepped {keys} {part} {own} {row} {place} table b s f =
    sym (
    f
    ∙ ap (λ ps. list_any (nat_eq place) ps && is_none (slice_index_or table place None)) s.own_is
    ∙ ap (λ c. c && is_none (slice_index_or table place None)) (any_inserted place [] part)
    ∙ ap (λ n. list_any (nat_eq n) part && is_none (slice_index_or table n None)) s.place_is
    )

pub row_put : {keys : List (List ℕ)} {part own : List ℕ} {place : ℕ} {all : List Row} {old table : List (Option StreamKey)} (row : StreamKey) (left rest : List StreamKey) (new : List (Option StreamKey))
    → IsDistinct bytes_eq keys → list_all (λ p. nat_lt p (length keys)) part ≡ true → Putting keys part all old (rows_view left) table → left ≡ row ∷ rest → Step keys part own row place
    → true ≡ is_free own table place → new ≡ slice_set table place (Some row) → Putting keys part all old (rows_view rest) new
row_put {keys} {part} {own} {place} {all} {old} {table} row left rest new d within p l s f e =
    putting_more row (rows_view rest) new d within (subst (λ rows. Putting keys part all old (rows_view rows) table) l p) (stepped table true s f) (e ∙ ap (λ n. slice_set table n (Some row)) s.place_is)

pub row_stops : {keys : List (List ℕ)} {part own : List ℕ} {place : ℕ} {all : List Row} {old table : List (Option StreamKey)} (row : StreamKey) (left rest : List StreamKey)
    → IsDistinct bytes_eq keys → list_all (λ p. nat_lt p (length keys)) part ≡ true → Putting keys part all old (rows_view left) table → left ≡ row ∷ rest → Step keys part own row place
    → false ≡ is_free own table place → (done : List Row) → Holds keys done old → (name_only (keys_at keys part) all && name_none_twice keys (done ++ all)) ≡ false
row_stops {keys} {part} {own} {place} {all} {old} {table} row left rest d within p l s f =
    putting_stops row (rows_view rest) d within (subst (λ rows. Putting keys part all old (rows_view rows) table) l p) (stepped table false s f)

-- the next part and the next reply
pub split_first : (xs : List (Vec ℕ Global)) (x : Vec ℕ Global) → x ≡ slice_index_or xs 0 x → 1 ≤ length xs → xs ≡ x ∷ drop 1 xs
split_first [] x e h = absurd (omega (arith, h))
split_first (y ∷ xs) x e h = ap (λ z. z ∷ xs) (sym e)

abbrev pub reply_rows : StreamReadReply → List Row
reply_rows reply = rows_view reply.keys.items

pub opened : {keys : List (List ℕ)} {parts : List (List ℕ)} {replies : List (List Row)} {rest more : List (Vec ℕ Global)} {left later : List StreamReadReply} {table : List (Option StreamKey)} (part : Vec ℕ Global) (reply : StreamReadReply)
    → Joining keys parts replies (positions rest) (each reply_rows left) table → rest ≡ part ∷ more → left ≡ reply ∷ later → Joining keys parts replies (part.items ∷ positions more) (reply_rows reply ∷ each reply_rows later) table
opened {keys} {parts} {replies} {rest} {more} {left} {later} {table} part reply j r l =
    let q : Joining keys parts replies (positions (part ∷ more)) (each reply_rows left) table = subst (λ vs. Joining keys parts replies (positions vs) (each reply_rows left) table) r j in
    subst (λ rs. Joining keys parts replies (positions (part ∷ more)) (each reply_rows rs) table) l q

-- a part whose reply was put, and one whose reply failed; the code knows keys and part by other names
pub put_part : {keys : List (List ℕ)} {parts : List (List ℕ)} {replies : List (List Row)} {rest more : List (Vec ℕ Global)} {left later : List StreamReadReply} {table : List (Option StreamKey)}
    (part : Vec ℕ Global) (reply : StreamReadReply) (new : List (Option StreamKey)) (ks : List (List ℕ)) (ps : List ℕ) → ks ≡ keys → ps ≡ part.items
    → Joining keys parts replies (positions rest) (each reply_rows left) table → rest ≡ part ∷ more → left ≡ reply ∷ later
    → ((done : List Row) → Holds ks done table → (name_only (keys_at ks ps) (reply_rows reply) ≡ true) × Holds ks (done ++ reply_rows reply) new)
    → Joining keys parts replies (positions more) (each reply_rows later) new
put_part {keys} {parts} {replies} {rest} {more} {left} {later} {table} part reply new ks ps kk pp j r l h =
    let Puts : List (List ℕ) → List ℕ → Type 0 = λ us vs. ((done : List Row) → Holds us done table → (name_only (keys_at us vs) (reply_rows reply) ≡ true) × Holds us (done ++ reply_rows reply) new) in
    let q = opened part reply j r l in
    let puts : Puts keys part.items = subst (Puts keys) pp (subst (λ us. Puts us ps) kk h) in
    let w = puts q.done q.holds in
    joining_more new q w.0 w.1

pub part_stops : {keys : List (List ℕ)} {parts : List (List ℕ)} {replies : List (List Row)} {rest more : List (Vec ℕ Global)} {left later : List StreamReadReply} {table : List (Option StreamKey)}
    (part : Vec ℕ Global) (reply : StreamReadReply) (ks : List (List ℕ)) (ps : List ℕ) → ks ≡ keys → ps ≡ part.items
    → Joining keys parts replies (positions rest) (each reply_rows left) table → rest ≡ part ∷ more → left ≡ reply ∷ later
    → ((done : List Row) → Holds ks done table → (name_only (keys_at ks ps) (reply_rows reply) && name_none_twice ks (done ++ reply_rows reply)) ≡ false)
    → join keys parts replies ≡ None
part_stops {keys} {parts} {replies} {rest} {more} {left} {later} {table} part reply ks ps kk pp j r l h =
    let Stops : List (List ℕ) → List ℕ → Type 0 = λ us vs. ((done : List Row) → Holds us done table → (name_only (keys_at us vs) (reply_rows reply) && name_none_twice us (done ++ reply_rows reply)) ≡ false) in
    let q = opened part reply j r l in
    let stops : Stops keys part.items = subst (Stops keys) pp (subst (λ us. Stops us ps) kk h) in
    joining_stops q (stops q.done q.holds)
