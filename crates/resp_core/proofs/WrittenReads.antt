-- What is written is read back, and nothing is left over.
use Rattle.std.proofs.Common.{◌≡◌, ℕ, suc, ◌+◌, ◌-◌, ◌*◌, ◌^◌, ◌<◌, ◌≤◌, pos, Bool, true, false, cond, eqb, nat_lt, is_some, ◌&&◌, List, [], ◌∷◌, ◌++◌, length, Option, Some, refl, sym, ap, ap₂, subst, ◌∙◌, append_assoc, append-nil, arith, codes, IsUtf8, ltb-true}
use Rattle.std.specs.List.{list_all, before_first, position_or_len}
use Rattle.std.specs.Str.{is_utf8, trim, bytes_eq}
use Rattle.std.proofs.lemmas.Bool.{and_parts, lt-ltb}
use Rattle.std.proofs.lemmas.List.{length-append, length-take-le}
use Rattle.std.proofs.lemmas.Str.{IsUtf8-append, IsUtf8-from_is_utf8, is_utf8-from_IsUtf8, utf8_lossy-IsUtf8}
use Rattle.resp_core.specs.declared.parser.marker.Marker.TheVariants as rows
use Rattle.resp_core.specs.declared.value.write.Protocol.{Protocol}
use Rattle.resp_core.specs.declared.value.write.Protocol.TheVariants.{Resp2, Resp3}
use Rattle.resp_core.specs.Table.{row, made_of, made_from, may_begin, kind_of, kind_named, is_double, error_tree, verbatim_of, paired, last, pushed, begins}
use Rattle.resp_core.specs.Trees.{Format, Kind, Tree, nil, int, bulk, array, simple, okay, set, attribute, double, boolean, verbatim, big_number, push, server_error, ErrorText, Trees, no_trees, tree, Pairs, no_pairs, pair}
use Rattle.resp_core.specs.Trees as trees
use Rattle.resp_core.specs.Printed.{format_text, kind_text, joined}
use Rattle.resp_core.specs.Grammar.{Spells, SpellsAll, none, more}
use Rattle.resp_core.specs.Written.{line_text, count_text, counted_text, bulk_text, nil_text, simple_text, simple_form, boolean_text, boolean_form, is_double_line, double_text, double_form, big_text, big_form, marked_up, verbatim_text, verbatim_in, verbatim_form, is_inner, spaced, failed_text, failed_form, one_line, count, pair_count, flat_onto, map_head, set_head, push_head, written, written_all, written_pairs, map_form, set_form, push_form, form, forms, pair_forms, is_few, is_text, is_detail, fits_in, fits_all, fits_pairs, WrittenIsRead}
use Rattle.resp_core.proofs.Computing.{reading}
use Rattle.resp_core.proofs.WrittenLeaves.{line_spelled, count_number, bytes_spelled, bulk_spelled, values_spelled, array_spelled, number_spelled, inner_line, no_crlf}
use Rattle.resp_core.proofs.WrittenErrors.{spaced_inner, spaced_utf8, text_utf8, text_few, joined_utf8, joined_few, colon_within}

few : (n : ℕ) → is_few n ≡ true → n < 2 ^ 63
few n h = let k = ltb-true n (2 ^ 62) h in omega arith

-- ---- what has no parts

text_line : (bs : List ℕ) → IsUtf8 bs → is_utf8 bs ≡ true
text_line bs u = is_utf8-from_IsUtf8 bs u

nil_spelled : (limit : ℕ) (p : Protocol) (level : ℕ) → level ≤ limit → Spells limit level (nil_text p) nil
unfolding reading
nil_spelled limit Resp2 level le = line_spelled level 36 rows.BulkString (codes "-1") nil le refl (no_crlf (codes "-1") refl) refl refl
nil_spelled limit Resp3 level le = line_spelled level 95 rows.Null [] nil le refl (no_crlf [] refl) refl refl

okay_spelled : (limit : ℕ) (level : ℕ) → level ≤ limit → Spells limit level (codes "+OK\r\n") okay
unfolding reading
okay_spelled limit level le = line_spelled level 43 rows.SimpleString (codes "OK") okay le refl (no_crlf (codes "OK") refl) refl refl

boolean_spelled : (limit : ℕ) (p : Protocol) (b : Bool) (level : ℕ) → level ≤ limit → Spells limit level (boolean_text p b) (boolean_form p b)
unfolding reading
boolean_spelled limit Resp2 true level le = line_spelled level 58 rows.Integer (codes "1") (int (pos 1)) le refl (no_crlf (codes "1") refl) refl refl
boolean_spelled limit Resp2 false level le = line_spelled level 58 rows.Integer (codes "0") (int (pos 0)) le refl (no_crlf (codes "0") refl) refl refl
boolean_spelled limit Resp3 true level le = line_spelled level 35 rows.Boolean (codes "t") (boolean true) le refl (no_crlf (codes "t") refl) refl refl
boolean_spelled limit Resp3 false level le = line_spelled level 35 rows.Boolean (codes "f") (boolean false) le refl (no_crlf (codes "f") refl) refl refl

simple_spelled : (limit : ℕ) (text : List ℕ) (level : ℕ) → level ≤ limit → is_text text ≡ true → Spells limit level (simple_text text) (simple_form text)
unfolding row
simple_spelled limit text level le h = go (one_line text) refl
  where
    go : (b : Bool) → one_line text ≡ b
        → Spells limit level (cond {A = List ℕ} b (line_text 43 text) (bulk_text text)) (cond {A = Tree} b (cond {A = Tree} (bytes_eq text (codes "OK")) okay (simple text)) (bulk text))
    go true e = line_spelled level 43 rows.SimpleString text _ le refl (no_crlf text e) (text_line text (text_utf8 text h)) refl
    go false e = bulk_spelled level text le (let k = text_few text h in omega arith)

double_spelled : (limit : ℕ) (p : Protocol) (text : List ℕ) (level : ℕ) → level ≤ limit → is_text text ≡ true → Spells limit level (double_text p text) (double_form p text)
unfolding row
double_spelled limit Resp2 text level le h = bulk_spelled level text le (let k = text_few text h in omega arith)
double_spelled limit Resp3 text level le h = go (is_double_line text) refl
  where
    go : (b : Bool) → is_double_line text ≡ b → Spells limit level (cond {A = List ℕ} b (line_text 44 text) (bulk_text text)) (cond {A = Tree} b (double (trim text)) (bulk text))
    go true e =
        let k = and_parts (one_line text) (is_double (trim text)) e in
        line_spelled level 44 rows.Double text (double (trim text)) le refl (no_crlf text k.0) (text_line text (text_utf8 text h)) (rw k.1 refl)
    go false e = bulk_spelled level text le (let k = text_few text h in omega arith)

big_spelled : (limit : ℕ) (p : Protocol) (bs : List ℕ) (level : ℕ) → level ≤ limit → is_few (length bs) ≡ true → Spells limit level (big_text p bs) (big_form p bs)
unfolding row
big_spelled limit Resp2 bs level le h = bulk_spelled level bs le (few (length bs) h)
big_spelled limit Resp3 bs level le h = go (is_utf8 bs) (one_line bs) refl refl
  where
    go : (u o : Bool) → is_utf8 bs ≡ u → one_line bs ≡ o
        → Spells limit level (cond {A = List ℕ} (cond {A = Bool} u o false) (line_text 40 bs) (bulk_text bs)) (cond {A = Tree} (cond {A = Bool} u o false) (big_number bs) (bulk bs))
    go true true e f = line_spelled level 40 rows.BigNumber bs (big_number bs) le refl (no_crlf bs f) e refl
    go true false e f = bulk_spelled level bs le (few (length bs) h)
    go false o e f = bulk_spelled level bs le (few (length bs) h)

verbatim_read : (a s : List ℕ) → verbatim_of (a ++ (58 ∷ s)) ≡ Some (verbatim_in (a ++ (58 ∷ s)))
unfolding verbatim_of
verbatim_read a s =
    let bs : List ℕ = a ++ (58 ∷ s) in
    let k = colon_within a s in
    let short : length (before_first (λ b. eqb b 58) bs) < length bs = omega (arith, length-take-le (position_or_len (λ b. eqb b 58) bs) bs (omega arith)) in
    rw (lt-ltb _ _ short) refl

colon_text : is_utf8 (58 ∷ []) ≡ true
unfolding reading
colon_text = refl

verbatim_spelled : (limit : ℕ) (p : Protocol) (format : Format) (text : List ℕ) (level : ℕ) → level ≤ limit → is_text (format_text format) ≡ true → is_text text ≡ true
    → Spells limit level (verbatim_text p format text) (verbatim_form p format text)
unfolding row made_of
verbatim_spelled limit Resp2 format text level le g h = bulk_spelled level text le (let k = text_few text h in omega arith)
verbatim_spelled limit Resp3 format text level le g h =
    let bs : List ℕ = marked_up format text in
    let a = text_few (format_text format) g in
    let b = text_few text h in
    let lt : length bs < 2 ^ 63 = omega (arith, length-append (format_text format) (58 ∷ text)) in
    let colon : IsUtf8 (58 ∷ []) = IsUtf8-from_is_utf8 (58 ∷ []) colon_text in
    let u : IsUtf8 bs = IsUtf8-append (format_text format) (58 ∷ text) (text_utf8 (format_text format) g) (IsUtf8-append (58 ∷ []) text colon (text_utf8 text h)) in
    bytes_spelled level 61 rows.VerbatimString bs (verbatim_in bs) le lt refl (rw (count_number (length bs) lt) refl)
    (ap verbatim_of (utf8_lossy-IsUtf8 bs u) ∙ verbatim_read (format_text format) text)

failed_spelled : (limit : ℕ) (p : Protocol) (e : ErrorText) (level : ℕ) → level ≤ limit → is_text e.code ≡ true → is_detail e.detail ≡ true
    → Spells limit level (failed_text p (joined e)) (failed_form p (joined e))
unfolding row made_of
failed_spelled limit Resp2 e level le g h =
    let bs : List ℕ = spaced (joined e) in
    line_spelled level 45 rows.SimpleError bs (error_tree bs) le refl (inner_line bs (spaced_inner (joined e))) (text_line bs (spaced_utf8 (joined e) (joined_utf8 e g h))) refl
failed_spelled limit Resp3 e level le g h = go (list_all is_inner (joined e)) refl
  where
    go : (b : Bool) → list_all is_inner (joined e) ≡ b → Spells limit level (cond {A = List ℕ} b (line_text 45 (joined e)) (counted_text 33 (joined e))) (error_tree (joined e))
    go true k = line_spelled level 45 rows.SimpleError (joined e) (error_tree (joined e)) le refl (inner_line (joined e) k) (text_line (joined e) (joined_utf8 e g h)) refl
    go false k =
        let lt = joined_few e g h in
        bytes_spelled level 33 rows.BulkError (joined e) (error_tree (joined e)) le lt refl (rw (count_number (length (joined e)) lt) refl)
        (ap (λ (l : List ℕ). Some (error_tree l)) (utf8_lossy-IsUtf8 (joined e) (joined_utf8 e g h)))

-- ---- groups

map_pairs : (ps : Pairs) → paired (flat_onto ps no_trees) ≡ ps
map_pairs no_pairs = refl
map_pairs (pair k v ps) = ap (pair k v) (map_pairs ps)

attribute_pairs : (ps : Pairs) (t : Tree) → paired (flat_onto ps (tree t no_trees)) ≡ ps
attribute_pairs no_pairs t = refl
attribute_pairs (pair k v ps) t = ap (pair k v) (attribute_pairs ps t)

last_behind : (t u : Tree) (ts : Trees) → last (tree t (tree u ts)) ≡ last (tree u ts)
last_behind t u ts = refl

attribute_last : (ps : Pairs) (t : Tree) → last (flat_onto ps (tree t no_trees)) ≡ t
attribute_last no_pairs t = refl
attribute_last (pair k v no_pairs) t = refl
attribute_last (pair k v (pair l w ps)) t = attribute_last (pair l w ps) t

module _ (limit level : ℕ) (le : level ≤ limit) where
  set_spelled : (p : Protocol) (n : ℕ) (body : List ℕ) (ts : Trees) → n < 2 ^ 63 → SpellsAll limit (suc level) n body ts → Spells limit level (set_head p n ++ body) (set_form p ts)
  unfolding row made_from may_begin
  set_spelled Resp2 n body ts lt all = array_spelled level n body ts le lt all
  set_spelled Resp3 n body ts lt all = values_spelled level 126 rows.Set n n body ts le lt refl (rw (count_number n lt) refl) all (plain ts)
    where
      plain : (us : Trees) → begins rows.Set us ≡ true
      plain no_trees = refl
      plain (tree u us) = refl

  push_spelled : (p : Protocol) (n : ℕ) (kind : Kind) (body : List ℕ) (ts : Trees) → suc n < 2 ^ 63 → is_text (kind_text kind) ≡ true → suc level ≤ limit → SpellsAll limit (suc level) n body ts
      → Spells limit level (push_head p (suc n) ++ (bulk_text (kind_text kind) ++ body)) (push_form p kind ts)
  unfolding row made_from may_begin kind_of
  push_spelled Resp2 n kind body ts lt text below all =
      array_spelled level (suc n) (bulk_text (kind_text kind) ++ body) (tree (bulk (kind_text kind)) ts) le lt
      (more (bulk_spelled (suc level) (kind_text kind) below (let k = text_few (kind_text kind) text in omega arith)) all)
  push_spelled Resp3 n kind body ts lt text below all =
      let first : Tree = bulk (kind_text kind) in
      let named : kind_of first ≡ Some (kind_named (kind_text kind)) = rw (text_line (kind_text kind) (text_utf8 (kind_text kind) text)) refl in
      subst (λ (t : Tree). Spells limit level (count_text 62 (suc n) ++ (bulk_text (kind_text kind) ++ body)) t) (ap (λ (o : Option Kind). pushed o ts) named)
      (values_spelled level 62 rows.Push (suc n) (suc n) (bulk_text (kind_text kind) ++ body) (tree first ts) le lt refl (rw (count_number (suc n) lt) refl)
      (more (bulk_spelled (suc level) (kind_text kind) below (let k = text_few (kind_text kind) text in omega arith)) all)
      (ap (λ (o : Option Kind). is_some o) named))

  map_spelled : (p : Protocol) (n : ℕ) (body : List ℕ) (ps : Pairs) → n < 2 ^ 62 → SpellsAll limit (suc level) (2 * n) body (flat_onto ps no_trees) → Spells limit level (map_head p n ++ body) (map_form p ps)
  unfolding row made_from may_begin
  map_spelled Resp2 n body ps lt all = array_spelled level (2 * n) body (flat_onto ps no_trees) le (omega arith) all
  map_spelled Resp3 n body ps lt all =
      let small : n < 2 ^ 63 = omega arith in
      subst (λ (qs : Pairs). Spells limit level (count_text 37 n ++ body) (trees.map qs)) (map_pairs ps)
      (values_spelled level 37 rows.Map n (2 * n) body (flat_onto ps no_trees) le small refl (rw (count_number n small) refl) all (plain (flat_onto ps no_trees)))
    where
      plain : (us : Trees) → begins rows.Map us ≡ true
      plain no_trees = refl
      plain (tree u us) = refl

  attribute_spelled : (n : ℕ) (body : List ℕ) (t : Tree) (ps : Pairs) → n < 2 ^ 62 → SpellsAll limit (suc level) (2 * n + 1) body (flat_onto ps (tree t no_trees))
      → Spells limit level (count_text 124 n ++ body) (attribute t ps)
  unfolding row made_from may_begin
  attribute_spelled n body t ps lt all =
      let small : n < 2 ^ 63 = omega arith in
      subst (λ (x : Tree). Spells limit level (count_text 124 n ++ body) x) (ap₂ attribute (attribute_last ps t) (attribute_pairs ps t))
      (values_spelled level 124 rows.Attribute n (2 * n + 1) body (flat_onto ps (tree t no_trees)) le small refl (rw (count_number n small) refl) all (plain (flat_onto ps (tree t no_trees))))
    where
      plain : (us : Trees) → begins rows.Attribute us ≡ true
      plain no_trees = refl
      plain (tree u us) = refl

-- ---- trees

abbrev behind_pairs : Pairs → ℕ → ℕ
behind_pairs no_pairs n = n
behind_pairs (pair k v ps) n = suc (suc (behind_pairs ps n))

pairs_twice : (ps : Pairs) (n : ℕ) → behind_pairs ps n ≡ 2 * pair_count ps + n
pairs_twice no_pairs n = omega arith
pairs_twice (pair k v ps) n = let h = pairs_twice ps n in omega arith

-- one level below
child : (limit : ℕ) (p : Protocol) (t : Tree) (level levels : ℕ) → ((below : ℕ) → suc level + below ≤ limit → fits_in p below t ≡ true → Spells limit (suc level) (written p t) (form p t))
    → level + levels ≤ limit → (nat_lt 0 levels && fits_in p (levels - 1) t) ≡ true → Spells limit (suc level) (written p t) (form p t)
child limit p t level levels reads e h =
    let k = and_parts (nat_lt 0 levels) (fits_in p (levels - 1) t) h in
    let some = ltb-true 0 levels k.0 in
    reads (levels - 1) (omega arith) k.1

mutual
  unfolding written form fits_in

  spelled : (limit : ℕ) (p : Protocol) (t : Tree) (level below : ℕ) → level + below ≤ limit → fits_in p below t ≡ true → Spells limit level (written p t) (form p t)
  spelled limit p nil level below e h = nil_spelled limit p level (omega arith)
  spelled limit p (int n) level below e h = number_spelled level n (omega arith) h
  spelled limit p (bulk bs) level below e h = bulk_spelled level bs (omega arith) (few (length bs) h)
  spelled limit p (array ts) level below e h =
      let k = and_parts (is_few (count ts)) (fits_all p below ts) h in
      array_spelled level (count ts) (written_all p ts) (forms p ts) (omega arith) (few (count ts) k.0) (all_spelled limit p ts level below e k.1)
  spelled limit p (simple text) level below e h = simple_spelled limit text level (omega arith) h
  spelled limit p okay level below e h = okay_spelled limit level (omega arith)
  spelled limit p (trees.map ps) level below e h =
      let k = and_parts (is_few (pair_count ps)) (fits_pairs p below ps) h in
      let all = pairs_spelled limit p ps level below 0 [] no_trees e k.1 none in
      map_spelled limit level (omega arith) p (pair_count ps) (written_pairs p ps) (pair_forms p ps) (ltb-true _ _ k.0)
      (subst (λ (l : List ℕ). SpellsAll limit (suc level) (2 * pair_count ps) l (flat_onto (pair_forms p ps) no_trees)) (append-nil (written_pairs p ps))
      (subst (λ (n : ℕ). SpellsAll limit (suc level) n (written_pairs p ps ++ []) (flat_onto (pair_forms p ps) no_trees)) (pairs_twice ps 0 ∙ omega arith) all))
  spelled limit Resp2 (attribute t ps) level below e h =
      let k = and_parts (nat_lt 0 below) (fits_in Resp2 (below - 1) t) h in
      spelled limit Resp2 t level (below - 1) (omega arith) k.1
  spelled limit Resp3 (attribute t ps) level below e h =
      let k = and_parts (is_few (pair_count ps) && fits_pairs Resp3 below ps) (nat_lt 0 below && fits_in Resp3 (below - 1) t) h in
      let q = and_parts (is_few (pair_count ps)) (fits_pairs Resp3 below ps) k.0 in
      let inner = child limit Resp3 t level below (λ b f g. spelled limit Resp3 t (suc level) b f g) e k.1 in
      let one = subst (λ (l : List ℕ). SpellsAll limit (suc level) 1 l (tree (form Resp3 t) no_trees)) (append-nil (written Resp3 t)) (more inner none) in
      let all = pairs_spelled limit Resp3 ps level below 1 (written Resp3 t) (tree (form Resp3 t) no_trees) e q.1 one in
      subst (λ (l : List ℕ). Spells limit level l (attribute (form Resp3 t) (pair_forms Resp3 ps))) (sym (append_assoc (count_text 124 (pair_count ps)) (written_pairs Resp3 ps) (written Resp3 t)))
      (attribute_spelled limit level (omega arith) (pair_count ps) (written_pairs Resp3 ps ++ written Resp3 t) (form Resp3 t) (pair_forms Resp3 ps) (ltb-true _ _ q.0)
      (subst (λ (n : ℕ). SpellsAll limit (suc level) n (written_pairs Resp3 ps ++ written Resp3 t) (flat_onto (pair_forms Resp3 ps) (tree (form Resp3 t) no_trees))) (pairs_twice ps 1) all))
  spelled limit p (set ts) level below e h =
      let k = and_parts (is_few (count ts)) (fits_all p below ts) h in
      set_spelled limit level (omega arith) p (count ts) (written_all p ts) (forms p ts) (few (count ts) k.0) (all_spelled limit p ts level below e k.1)
  spelled limit p (double text) level below e h = double_spelled limit p text level (omega arith) h
  spelled limit p (boolean b) level below e h = boolean_spelled limit p b level (omega arith)
  spelled limit p (verbatim format text) level below e h =
      let k = and_parts (is_text (format_text format)) (is_text text) h in
      verbatim_spelled limit p format text level (omega arith) k.0 k.1
  spelled limit p (big_number bs) level below e h = big_spelled limit p bs level (omega arith) h
  spelled limit p (push kind ts) level below e h =
      let k = and_parts (nat_lt 0 below && is_text (kind_text kind)) (is_few (count ts) && fits_all p below ts) h in
      let a = and_parts (nat_lt 0 below) (is_text (kind_text kind)) k.0 in
      let b = and_parts (is_few (count ts)) (fits_all p below ts) k.1 in
      let deep = ltb-true 0 below a.0 in
      let small = ltb-true (count ts) (2 ^ 62) b.0 in
      push_spelled limit level (omega arith) p (count ts) kind (written_all p ts) (forms p ts) (omega arith) a.1 (omega arith) (all_spelled limit p ts level below e b.1)
  spelled limit p (server_error x) level below e h =
      let k = and_parts (is_text x.code) (is_detail x.detail) h in
      failed_spelled limit p x level (omega arith) k.0 k.1

  all_spelled : (limit : ℕ) (p : Protocol) (ts : Trees) (level levels : ℕ) → level + levels ≤ limit → fits_all p levels ts ≡ true → SpellsAll limit (suc level) (count ts) (written_all p ts) (forms p ts)
  all_spelled limit p no_trees level levels e h = none
  all_spelled limit p (tree t ts) level levels e h =
      let k = and_parts (nat_lt 0 levels && fits_in p (levels - 1) t) (fits_all p levels ts) h in
      more (child limit p t level levels (λ b f g. spelled limit p t (suc level) b f g) e k.0) (all_spelled limit p ts level levels e k.1)

  pairs_spelled : (limit : ℕ) (p : Protocol) (ps : Pairs) (level levels n : ℕ) (back : List ℕ) (rest : Trees) → level + levels ≤ limit → fits_pairs p levels ps ≡ true → SpellsAll limit (suc level) n back rest
      → SpellsAll limit (suc level) (behind_pairs ps n) (written_pairs p ps ++ back) (flat_onto (pair_forms p ps) rest)
  pairs_spelled limit p no_pairs level levels n back rest e h all = all
  pairs_spelled limit p (pair k v ps) level levels n back rest e h all =
      let a = and_parts (nat_lt 0 levels && fits_in p (levels - 1) k) ((nat_lt 0 levels && fits_in p (levels - 1) v) && fits_pairs p levels ps) h in
      let b = and_parts (nat_lt 0 levels && fits_in p (levels - 1) v) (fits_pairs p levels ps) a.1 in
      subst (λ (l : List ℕ). SpellsAll limit (suc level) (suc (suc (behind_pairs ps n))) l (tree (form p k) (tree (form p v) (flat_onto (pair_forms p ps) rest))))
      (sym (append_assoc (written p k) (written p v ++ written_pairs p ps) back ∙ ap (λ (l : List ℕ). written p k ++ l) (append_assoc (written p v) (written_pairs p ps) back)))
      (more (child limit p k level levels (λ b f g. spelled limit p k (suc level) b f g) e a.0) (more (child limit p v level levels (λ b f g. spelled limit p v (suc level) b f g) e b.0) (pairs_spelled limit p ps level levels n back rest e b.1 all)))

pub written_is_read : WrittenIsRead
written_is_read p limit t h =
    let k = and_parts (nat_lt 0 limit) (fits_in p (limit - 1) t) h in
    let some = ltb-true 0 limit k.0 in
    spelled limit p t 1 (limit - 1) (omega arith) k.1
