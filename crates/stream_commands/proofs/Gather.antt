-- Rows that are gathered in a table with a place for each key.
use Rattle.std.specs.Prelude.{nat_eq, nat_lt, slice_set, slice_index_or, is_none, is_some, filter, filter_map, option_map, position}
use Rattle.std.specs.List.{IsDistinct, AllByRecursion, flat_map, list_all, list_any, position_or_len}
use Rattle.std.specs.Str.{bytes_eq}
use Rattle.std.specs.Cmp.Lexicographic.{nat_list_eq_equiv}
use Rattle.std.proofs.Common.{◌≡◌, ℕ, zero, suc, ◌+◌, ◌<◌, ◌≤◌, Bool, true, false, not, ◌&&◌, ◌||◌, cond, if◌then◌else◌, List, [], ◌∷◌, ◌++◌, length, take, map as each, Bor, eqb-true, refl, sym, ap, ◌∙◌, arith, append_assoc, append-nil, add-one, length-append, Option, Some, None}
use Rattle.std.proofs.lemmas.Bool.Decides.{nat_tests}
use Rattle.std.proofs.Math.Seq.{take-suc}
use Rattle.std.proofs.lemmas.List.{get_or-map, length-map, map-append}
use Rattle.std.proofs.lemmas.List.Elements.{filter-append}
use Rattle.std.proofs.lemmas.List.Folds.{list_all-append, list_any-append}
use Rattle.std.proofs.lemmas.Slice.Eq.{bytes_eq-Decides}
use Rattle.indexmap.specs.IndexSet.{insert_all, insert_key}
use Rattle.stream_commands.specs.Join.{in_key_order, is_one_at_most, keys_at, lent_keys, name_none_twice, name_only, positions_below, rows_of}
use Rattle.stream_commands.specs.Joining.{Holds, is_free, row_list}
use Rattle.stream_commands.specs.ReadReply.{Row}
use Rattle.stream_commands.specs.RecordViews.{row_view, rows_view}
use Rattle.stream_commands.specs.declared.records.read.StreamKey.{StreamKey}

-- ---- keys

turned : (a b : List ℕ) → bytes_eq a b ≡ bytes_eq b a
turned a b = nat_list_eq_equiv.symm a b

same : (a b : List ℕ) → bytes_eq a b ≡ true → a ≡ b
same a b h = (bytes_eq-Decides a b).0 h

other_place : (n : ℕ) → false ≡ nat_eq 0 (suc n)
other_place n = grind (arith, nat_tests)

other_place_behind : (n : ℕ) → false ≡ nat_eq (1 + n) 0
other_place_behind n = grind (arith, nat_tests)

next_place : (m n : ℕ) → nat_eq m n ≡ nat_eq (1 + m) (suc n)
next_place m n = grind (arith, nat_tests)

zero_place : true ≡ nat_eq 0 0
zero_place = grind (arith, nat_tests)

differ_at : (k : List ℕ) (ks : List (List ℕ)) (p : ℕ) (d : List ℕ) → AllByRecursion (λ y. bytes_eq k y ≡ false) ks → p < length ks → bytes_eq k (slice_index_or ks p d) ≡ false
differ_at k [] p d a h = absurd (omega (arith, h))
differ_at k (x ∷ ks) zero d a h = a.0
differ_at k (x ∷ ks) (suc p) d a h = differ_at k ks p d a.1 (omega (arith, h))

-- of keys that differ the one at a place equals a key exactly where the key stands there
pub key_at : (key : List ℕ) (keys : List (List ℕ)) (p : ℕ) → IsDistinct bytes_eq keys → p < length keys → bytes_eq key (slice_index_or keys p []) ≡ nat_eq (position_or_len (bytes_eq key) keys) p
unfolding IsDistinct
key_at key [] p d h = absurd (omega (arith, h))
key_at key (k ∷ ks) zero d h = by (bytes_eq key k) refl
  where
    by : (b : Bool) → bytes_eq key k ≡ b → bytes_eq key k ≡ nat_eq (cond (not b) (1 + position_or_len (bytes_eq key) ks) 0) 0
    by true e = e ∙ zero_place
    by false e = e ∙ other_place_behind (position_or_len (bytes_eq key) ks)
key_at key (k ∷ ks) (suc p) d h = by (bytes_eq key k) refl (key_at key ks p d.1 (omega (arith, h)))
  where
    by : (b : Bool) → bytes_eq key k ≡ b → bytes_eq key (slice_index_or ks p []) ≡ nat_eq (position_or_len (bytes_eq key) ks) p
        → bytes_eq key (slice_index_or ks p []) ≡ nat_eq (cond (not b) (1 + position_or_len (bytes_eq key) ks) 0) (suc p)
    by true e later = ap (λ x. bytes_eq x (slice_index_or ks p [])) (same key k e) ∙ differ_at k ks p [] d.0 (omega (arith, h)) ∙ other_place p
    by false e later = later ∙ next_place (position_or_len (bytes_eq key) ks) p

pub both : (b c : Bool) → (b && c) ≡ true → (b ≡ true) × (c ≡ true)
both true true h = (refl, refl)
both true false h = cc
both false c h = cc

below : (p n : ℕ) → nat_lt p n ≡ true → p < n
below p n h = grind (arith, nat_tests, h)

-- a key is among those of a part exactly where its place is among the part's
pub among_part : (key : List ℕ) (keys : List (List ℕ)) (part : List ℕ) → IsDistinct bytes_eq keys → list_all (λ p. nat_lt p (length keys)) part ≡ true
    → list_any (bytes_eq key) (keys_at keys part) ≡ list_any (nat_eq (position_or_len (bytes_eq key) keys)) part
among_part key keys [] d h = refl
among_part key keys (p ∷ ps) d h =
    let w = both (nat_lt p (length keys)) (list_all (λ p. nat_lt p (length keys)) ps) h in
    ap (λ b. b || list_any (bytes_eq key) (keys_at keys ps)) (key_at key keys p d (below p (length keys) w.0))
    ∙ ap (λ b. nat_eq (position_or_len (bytes_eq key) keys) p || b) (among_part key keys ps d w.1)

-- ---- a row more

rows_more : (rows more : List Row) (key : List ℕ) → rows_of (rows ++ more) key ≡ rows_of rows key ++ rows_of more key
rows_more rows more key = filter-append (λ (r : Row). bytes_eq key r.key) rows more

not_named : (rows : List Row) (r : Row) (key : List ℕ) → bytes_eq key r.key ≡ false → rows_of rows key ≡ rows_of (rows ++ r ∷ []) key
not_named rows r key e = sym (rows_more rows (r ∷ []) key ∙ ap (λ b. rows_of rows key ++ cond b (r ∷ []) []) e ∙ append-nil (rows_of rows key))

unnamed : (rows : List Row) (r : Row) (ks : List (List ℕ)) → AllByRecursion (λ y. bytes_eq r.key y ≡ false) ks → each (rows_of rows) ks ≡ each (rows_of (rows ++ r ∷ [])) ks
unnamed rows r [] a = refl
unnamed rows r (k ∷ ks) a =
    ap (λ x. x ∷ each (rows_of rows) ks) (not_named rows r k (turned k r.key ∙ a.0)) ∙ ap (λ xs. rows_of (rows ++ r ∷ []) k ∷ xs) (unnamed rows r ks a.1)

head_of : {x y : List Row} {xs ys : List (List Row)} → x ∷ xs ≡ y ∷ ys → x ≡ y
head_of h = cc

tail_of : {x y : List Row} {xs ys : List (List Row)} → x ∷ xs ≡ y ∷ ys → xs ≡ ys
tail_of h = cc

two : {x y : List Row} {xs ys : List (List Row)} → x ≡ y → xs ≡ ys → x ∷ xs ≡ y ∷ ys
two h k = cc

all_apart : (key k : List ℕ) (ks : List (List ℕ)) → key ≡ k → AllByRecursion (λ y. bytes_eq k y ≡ false) ks → AllByRecursion (λ y. bytes_eq key y ≡ false) ks
all_apart key k [] e a = tt
all_apart key k (x ∷ ks) e a = (ap (λ u. bytes_eq u x) e ∙ a.0, all_apart key k ks e a.1)

-- a row that is put where none stood
pub put : (keys : List (List ℕ)) (table : List (Option StreamKey)) (rows : List Row) (row : StreamKey) (p : ℕ) → IsDistinct bytes_eq keys → Holds keys rows table
    → p ≡ position_or_len (bytes_eq (row_view row).key) keys → p < length keys → is_none (slice_index_or table p None) ≡ true → Holds keys (rows ++ row_view row ∷ []) (slice_set table p (Some row))
unfolding IsDistinct
put [] table rows row p d h e l n = absurd (omega (arith, l))
put (k ∷ ks) [] rows row p d h e l n = cc
put (k ∷ ks) (Some t ∷ ts) rows row zero d h e l n = cc
put (k ∷ ks) (None ∷ ts) rows row zero d h e l n = by (bytes_eq (row_view row).key k) refl e
  where
    by : (b : Bool) → bytes_eq (row_view row).key k ≡ b → 0 ≡ cond (not b) (1 + position_or_len (bytes_eq (row_view row).key) ks) 0 → Holds (k ∷ ks) (rows ++ row_view row ∷ []) (Some row ∷ ts)
    by true s z =
        two (
        ap (λ xs. xs ++ row_view row ∷ []) (head_of h)
        ∙ ap (λ b. rows_of rows k ++ cond b (row_view row ∷ []) []) (sym (turned k (row_view row).key ∙ s))
        ∙ sym (rows_more rows (row_view row ∷ []) k)
        ) (tail_of h ∙ unnamed rows (row_view row) ks (all_apart (row_view row).key k ks (same (row_view row).key k s) d.0))
    by false s z = absurd (omega (arith, z))
put (k ∷ ks) (t ∷ ts) rows row (suc p) d h e l n = by (bytes_eq (row_view row).key k) refl e (λ z. put ks ts rows row p d.1 (tail_of h) z (omega (arith, l)) n)
  where
    by : (b : Bool) → bytes_eq (row_view row).key k ≡ b → suc p ≡ cond (not b) (1 + position_or_len (bytes_eq (row_view row).key) ks) 0
        → (p ≡ position_or_len (bytes_eq (row_view row).key) ks → Holds ks (rows ++ row_view row ∷ []) (slice_set ts p (Some row))) → Holds (k ∷ ks) (rows ++ row_view row ∷ []) (t ∷ slice_set ts p (Some row))
    by true s z later = absurd (omega (arith, z))
    by false s z later = two (head_of h ∙ not_named rows (row_view row) k (turned k (row_view row).key ∙ s)) (later (omega (arith, z)))

pub and_false : (b c : Bool) → c ≡ false → (b && c) ≡ false
and_false true c h = h
and_false false c h = refl

-- ---- a key that is named twice

-- a row where one stands names a key twice
pub taken : (keys : List (List ℕ)) (table : List (Option StreamKey)) (rows : List Row) (row : StreamKey) (p : ℕ) (more : List Row) → Holds keys rows table
    → p ≡ position_or_len (bytes_eq (row_view row).key) keys → p < length keys → is_none (slice_index_or table p None) ≡ false → name_none_twice keys (rows ++ row_view row ∷ more) ≡ false
taken [] table rows row p more h e l n = absurd (omega (arith, l))
taken (k ∷ ks) [] rows row p more h e l n = cc
taken (k ∷ ks) (None ∷ ts) rows row zero more h e l n = cc
taken (k ∷ ks) (Some t ∷ ts) rows row zero more h e l n = by (bytes_eq (row_view row).key k) refl e
  where
    by : (b : Bool) → bytes_eq (row_view row).key k ≡ b → 0 ≡ cond (not b) (1 + position_or_len (bytes_eq (row_view row).key) ks) 0 → name_none_twice (k ∷ ks) (rows ++ row_view row ∷ more) ≡ false
    by true s z =
        ap (λ xs. is_one_at_most xs && name_none_twice ks (rows ++ row_view row ∷ more)) (
        rows_more rows (row_view row ∷ more) k
        ∙ ap (λ xs. xs ++ rows_of (row_view row ∷ more) k) (sym (head_of h))
        ∙ ap (λ b. row_view t ∷ cond b (row_view row ∷ rows_of more k) (rows_of more k)) (turned k (row_view row).key ∙ s)
        )
    by false s z = absurd (omega (arith, z))
taken (k ∷ ks) (t ∷ ts) rows row (suc p) more h e l n = by (bytes_eq (row_view row).key k) e (λ z. taken ks ts rows row p more (tail_of h) z (omega (arith, l)) n)
  where
    by : (b : Bool) → suc p ≡ cond (not b) (1 + position_or_len (bytes_eq (row_view row).key) ks) 0
        → (p ≡ position_or_len (bytes_eq (row_view row).key) ks → name_none_twice ks (rows ++ row_view row ∷ more) ≡ false) → name_none_twice (k ∷ ks) (rows ++ row_view row ∷ more) ≡ false
    by true z later = absurd (omega (arith, z))
    by false z later = and_false (is_one_at_most (rows_of (rows ++ row_view row ∷ more) k)) (name_none_twice ks (rows ++ row_view row ∷ more)) (later (omega (arith, z)))

one_more : (xs ys : List Row) → is_one_at_most xs ≡ false → is_one_at_most (xs ++ ys) ≡ false
one_more [] ys h = cc
one_more (x ∷ []) ys h = cc
one_more (x ∷ y ∷ xs) ys h = refl

-- what is named twice stays so, whatever comes behind
pub still_twice : (keys : List (List ℕ)) (rows more : List Row) → name_none_twice keys rows ≡ false → name_none_twice keys (rows ++ more) ≡ false
still_twice [] rows more h = cc
still_twice (k ∷ ks) rows more h = by (is_one_at_most (rows_of rows k)) refl h (still_twice ks rows more)
  where
    by : (b : Bool) → is_one_at_most (rows_of rows k) ≡ b → (b && name_none_twice ks rows) ≡ false → (name_none_twice ks rows ≡ false → name_none_twice ks (rows ++ more) ≡ false) → name_none_twice (k ∷ ks) (rows ++ more) ≡ false
    by true e g later = and_false (is_one_at_most (rows_of (rows ++ more) k)) (name_none_twice ks (rows ++ more)) (later g)
    by false e g later = ap (λ b. b && name_none_twice ks (rows ++ more)) (ap is_one_at_most (rows_more rows more k) ∙ one_more (rows_of rows k) (rows_of more k) e)

-- ---- the whole table

one_there : (t : Option StreamKey) → is_one_at_most (row_list t) ≡ true
one_there None = refl
one_there (Some t) = refl

pub held_once : (keys : List (List ℕ)) (table : List (Option StreamKey)) (rows : List Row) → Holds keys rows table → name_none_twice keys rows ≡ true
held_once [] table rows h = refl
held_once (k ∷ ks) [] rows h = cc
held_once (k ∷ ks) (t ∷ ts) rows h =
    ap (λ xs. is_one_at_most xs && name_none_twice ks rows) (sym (head_of h)) ∙ ap (λ b. b && name_none_twice ks rows) (one_there t) ∙ held_once ks ts rows (tail_of h)

pub held_in_order : (keys : List (List ℕ)) (table : List (Option StreamKey)) (rows : List Row) → Holds keys rows table → filter_map (option_map row_view) table ≡ in_key_order keys rows
held_in_order [] [] rows h = refl
held_in_order [] (t ∷ ts) rows h = cc
held_in_order (k ∷ ks) [] rows h = cc
held_in_order (k ∷ ks) (None ∷ ts) rows h = held_in_order ks ts rows (tail_of h) ∙ ap (λ xs. xs ++ in_key_order ks rows) (head_of h)
held_in_order (k ∷ ks) (Some t ∷ ts) rows h = ap (λ xs. row_view t ∷ xs) (held_in_order ks ts rows (tail_of h)) ∙ ap (λ xs. xs ++ in_key_order ks rows) (head_of h)

as_many : (n : ℕ) → length (positions_below n) ≡ n
as_many zero = refl
as_many (suc n) = length-append (positions_below n) (n ∷ []) ∙ ap (λ k. k + 1) (as_many n) ∙ add-one n

all_empty : (keys : List (List ℕ)) (ns : List ℕ) → length ns ≡ length keys → each row_list (each (λ _. None) ns) ≡ each (rows_of []) keys
all_empty [] [] e = refl
all_empty [] (n ∷ ns) e = absurd (omega (arith, e))
all_empty (k ∷ ks) [] e = absurd (omega (arith, e))
all_empty (k ∷ ks) (n ∷ ns) e = ap (λ xs. [] ∷ xs) (all_empty ks ns (omega (arith, e)))

pub held_none : (keys : List (List ℕ)) → Holds keys [] (each (λ _. None) (positions_below (length keys)))
held_none keys = all_empty keys (positions_below (length keys)) (as_many (length keys))

pub held_long : (keys : List (List ℕ)) (table : List (Option StreamKey)) (rows : List Row) → Holds keys rows table → length table ≡ length keys
held_long keys table rows h = sym (length-map table row_list) ∙ ap length h ∙ length-map keys (rows_of rows)

-- ---- the sets of a join

found_at : {X : Type 0} (test : X → Bool) (xs : List X) (i : ℕ) (b : Bool) → Some i ≡ cond b (Some (position_or_len test xs)) None → i ≡ position_or_len test xs
found_at test xs i true h = cc
found_at test xs i false h = cc

none_found : {X : Type 0} (test : X → Bool) (xs : List X) (b : Bool) → None ≡ cond b (Some (position_or_len test xs)) None → b ≡ false
none_found test xs true h = cc
none_found test xs false h = refl

at_most : {X : Type 0} (test : X → Bool) (xs : List X) → position_or_len test xs ≤ length xs
at_most test [] = omega arith
at_most test (x ∷ xs) = by (test x) (at_most test xs)
  where
    by : (b : Bool) → position_or_len test xs ≤ length xs → cond (not b) (1 + position_or_len test xs) 0 ≤ length (x ∷ xs)
    by true h = omega arith
    by false h = omega (arith, h)

behind_all : (m n : ℕ) → m ≤ n → nat_lt m n ≡ false → n ≡ m
behind_all m n h e = grind (arith, nat_tests, h, e)

mapped_place : (key : List ℕ) (ks : List (Bor (List ℕ))) → position_or_len (λ (k : Bor (List ℕ)). bytes_eq key k.now) ks ≡ position_or_len (bytes_eq key) (lent_keys ks)
mapped_place key [] = refl
mapped_place key (k ∷ ks) = ap (λ n. cond (not (bytes_eq key k.now)) (1 + n) 0) (mapped_place key ks)

-- the place at which a key is found, and how many there are where it is not
pub found_place : (key : List ℕ) (ks : List (Bor (List ℕ))) (i : ℕ) → Some i ≡ position (λ (k : Bor (List ℕ)). bytes_eq key k.now) ks → i ≡ position_or_len (bytes_eq key) (lent_keys ks)
found_place key ks i h =
    let test : Bor (List ℕ) → Bool = λ k. bytes_eq key k.now in
    found_at test ks i (nat_lt (position_or_len test ks) (length ks)) h ∙ mapped_place key ks

pub no_place : (key : List ℕ) (ks : List (Bor (List ℕ))) → None ≡ position (λ (k : Bor (List ℕ)). bytes_eq key k.now) ks → length ks ≡ position_or_len (bytes_eq key) (lent_keys ks)
no_place key ks h =
    let test : Bor (List ℕ) → Bool = λ k. bytes_eq key k.now in
    behind_all (position_or_len test ks) (length ks) (at_most test ks) (none_found test ks (nat_lt (position_or_len test ks) (length ks)) h) ∙ mapped_place key ks

fresh : (ks : List (List ℕ)) (i : ℕ) (d : List ℕ) → IsDistinct bytes_eq ks → i < length ks → list_any (bytes_eq (slice_index_or ks i d)) (take i ks) ≡ false
unfolding IsDistinct
fresh [] i d a h = absurd (omega (arith, h))
fresh (k ∷ ks) zero d a h = refl
fresh (k ∷ ks) (suc i) d a h =
    ap (λ b. b || list_any (bytes_eq (slice_index_or ks i d)) (take i ks)) (turned (slice_index_or ks i d) k ∙ differ_at k ks i d a.0 (omega (arith, h))) ∙ fresh ks i d a.1 (omega (arith, h))

any_lent : (key : List ℕ) (ks : List (Bor (List ℕ))) → list_any (λ (k : Bor (List ℕ)). bytes_eq key k.now) ks ≡ list_any (bytes_eq key) (lent_keys ks)
any_lent key [] = refl
any_lent key (k ∷ ks) = ap (λ b. bytes_eq key k.now || b) (any_lent key ks)

-- of keys that differ each is put behind those before it
pub set_more : (keys : List (Bor (List ℕ))) (i : ℕ) (d : Bor (List ℕ)) (old new : List (Bor (List ℕ))) → IsDistinct bytes_eq (lent_keys keys) → i < length keys → lent_keys old ≡ take i (lent_keys keys)
    → new ≡ insert_key (λ (a b : Bor (List ℕ)). bytes_eq a.now b.now) old (slice_index_or keys i d) → lent_keys new ≡ take (i + 1) (lent_keys keys)
set_more keys i d old new a h so e =
    let x : Bor (List ℕ) = slice_index_or keys i d in
    let all : List (List ℕ) = lent_keys keys in
    let within : i < length all = omega (arith, h, length-map keys (λ (k : Bor (List ℕ)). k.now)) in
    let key : slice_index_or all i d.now ≡ x.now = get_or-map (λ (k : Bor (List ℕ)). k.now) keys i d d.now h in
    let absent : list_any (λ (k : Bor (List ℕ)). bytes_eq x.now k.now) old ≡ false =
    any_lent x.now old ∙ ap (list_any (bytes_eq x.now)) so ∙ ap (λ u. list_any (bytes_eq u) (take i all)) (sym key) ∙ fresh all i d.now a within
    in
    let more : take (i + 1) all ≡ take i all ++ slice_index_or all i d.now ∷ [] = rw add-one (take-suc all i d.now within) in
    ap lent_keys (e ∙ ap (λ b. if b then old else old ++ x ∷ []) absent)
    ∙ map-append (λ (k : Bor (List ℕ)). k.now) old (x ∷ [])
    ∙ ap (λ ks. ks ++ x.now ∷ []) so
    ∙ ap (λ u. take i all ++ u ∷ []) (sym key)
    ∙ sym more

all_once : (n : ℕ) (ks : List ℕ) (p : ℕ) → list_all (λ p. nat_lt p n) ks ≡ true → nat_lt p n ≡ true → list_all (λ p. nat_lt p n) (insert_key nat_eq ks p) ≡ true
all_once n ks p h e = by (list_any (nat_eq p) ks)
  where
    by : (b : Bool) → list_all (λ p. nat_lt p n) (if b then ks else ks ++ p ∷ []) ≡ true
    by true = h
    by false = list_all-append (λ p. nat_lt p n) ks (p ∷ []) ∙ ap (λ b. b && (nat_lt p n && true)) h ∙ ap (λ b. b && true) e

-- the positions of a set are below what those of the part are
pub all_inserted : (n : ℕ) (ks ps : List ℕ) → list_all (λ p. nat_lt p n) ks ≡ true → list_all (λ p. nat_lt p n) ps ≡ true → list_all (λ p. nat_lt p n) (insert_all nat_eq ks ps) ≡ true
all_inserted n ks [] h e = h
all_inserted n ks (p ∷ ps) h e =
    let w = both (nat_lt p n) (list_all (λ p. nat_lt p n) ps) e in
    all_inserted n (insert_key nat_eq ks p) ps (all_once n ks p h w.0) w.1

any_once : (q p : ℕ) (ks : List ℕ) → list_any (nat_eq q) (insert_key nat_eq ks p) ≡ (list_any (nat_eq q) ks || nat_eq q p)
any_once q p ks = by (list_any (nat_eq p) ks) refl
  where
    last : (b c : Bool) → (b || (c || false)) ≡ (b || c)
    last true c = refl
    last false true = refl
    last false false = refl

    known : (a b : Bool) → (b ≡ true → a ≡ true) → a ≡ (a || b)
    known true b h = refl
    known false true h = h refl
    known false false h = refl

    by : (b : Bool) → list_any (nat_eq p) ks ≡ b → list_any (nat_eq q) (if b then ks else ks ++ p ∷ []) ≡ (list_any (nat_eq q) ks || nat_eq q p)
    by true e = known (list_any (nat_eq q) ks) (nat_eq q p) (λ s. ap (λ u. list_any (nat_eq u) ks) (eqb-true q p s) ∙ e)
    by false e = list_any-append (nat_eq q) ks (p ∷ []) ∙ last (list_any (nat_eq q) ks) (nat_eq q p)

or_assoc : (a b c : Bool) → ((a || b) || c) ≡ (a || (b || c))
or_assoc true b c = refl
or_assoc false b c = refl

-- a set has the positions of the part
pub any_inserted : (q : ℕ) (ks ps : List ℕ) → list_any (nat_eq q) (insert_all nat_eq ks ps) ≡ (list_any (nat_eq q) ks || list_any (nat_eq q) ps)
any_inserted q ks [] = or_false (list_any (nat_eq q) ks)
  where
    or_false : (a : Bool) → a ≡ (a || false)
    or_false true = refl
    or_false false = refl
any_inserted q ks (p ∷ ps) =
    any_inserted q (insert_key nat_eq ks p) ps ∙ ap (λ b. b || list_any (nat_eq q) ps) (any_once q p ks) ∙ or_assoc (list_any (nat_eq q) ks) (nat_eq q p) (list_any (nat_eq q) ps)

-- what stands at a place is the same whatever would stand beyond
pub at_default : {X : Type 0} (xs : List X) (i : ℕ) (d e : X) → i < length xs → slice_index_or xs i d ≡ slice_index_or xs i e
at_default [] i d e h = absurd (omega (arith, h))
at_default (x ∷ xs) zero d e h = refl
at_default (x ∷ xs) (suc i) d e h = at_default xs i d e (omega (arith, h))

pub not_none : (x : Option StreamKey) → is_some x ≡ true → is_none x ≡ false
not_none None h = cc
not_none (Some row) h = refl
