-- What the leaves and the openings are written as is read back.
use Rattle.std.proofs.Common.{◌≡◌, ℕ, suc, ◌^◌, ◌<◌, ◌≤◌, ℤ, pos, negsuc, Bool, true, false, cond, eqb, ◌&&◌, List, [], ◌∷◌, ◌++◌, length, get_or, drop, Option, Some, Ok, Err, refl, sym, ap, subst, ◌∙◌, arith, decimal, w64, FitsSigned}
use Rattle.std.specs.List.{list_all}
use Rattle.std.specs.Fmt.{signed_decimal}
use Rattle.std.specs.Str.{is_utf8, trim, trim_start, trim_end, chars, encode_utf8_all}
use Rattle.std.specs.Str.Parse.{AllDigits, ParsesSigned}
use Rattle.std.proofs.lemmas.Bool.{ltb-true, and_parts}
use Rattle.std.proofs.lemmas.Fmt.{decimal_is_IsNumeral, IsAscii-signed}
use Rattle.std.proofs.lemmas.Str.{encodes-IsAscii, chars-IsAscii, IsUtf8-from_ascii, is_utf8-from_IsUtf8}
use lib.Signed.{mag}
use Rattle.std.proofs.lemmas.Int.{ints}
use Rattle.resp_core.specs.declared.parser.marker.Marker.{Marker}
use Rattle.resp_core.specs.declared.parser.marker.Marker.TheVariants as rows
use Rattle.resp_core.specs.Table.{Next, whole, bytes, values, marker_of, number, next, row, made_of, made_from, may_begin, begins}
use Rattle.resp_core.specs.Trees.{Tree, Trees, no_trees, tree, int, bulk, array}
use Rattle.resp_core.specs.Grammar.{HasNoCrLf, Opens, Spells, by_line, by_bytes, by_values, SpellsAll}
use Rattle.resp_core.specs.Reading.{Read, ◌>>=◌, line_at}
use Rattle.resp_core.specs.Written.{line_text, count_text, counted_text, bulk_text, has_no_end, one_line, is_inner, is_number}
use Rattle.resp_core.proofs.Numbers.{number_is}
use Rattle.resp_core.proofs.PlainNumbers.{digits_text, digits_number, drops}

-- ---- lines

ended : (front back : List ℕ) → one_line (front ++ (13 ∷ 10 ∷ back)) ≡ false
unfolding line_at
ended [] back = refl
ended (b ∷ front) back = go (eqb b 13 && eqb (get_or (front ++ (13 ∷ 10 ∷ back)) 0 0) 10) (line_at (front ++ (13 ∷ 10 ∷ back))) (ended front back)
  where
    go : (c : Bool) (r : Read (List ℕ)) → has_no_end r ≡ false
        → has_no_end (cond {A = Read (List ℕ)} c (Ok ([], drop 1 (front ++ (13 ∷ 10 ∷ back)))) (r >>= λ x. Ok (b ∷ x.0, x.1))) ≡ false
    go true r h = refl
    go false (Ok x) h = refl
    go false (Err e) h = h

pub no_crlf : (line : List ℕ) → one_line line ≡ true → HasNoCrLf line
no_crlf line one front back e =
    let no : true ≡ false = sym one ∙ ap one_line e ∙ ended front back in
    absurd cc

no_return : (front back : List ℕ) → AllDigits 10 (front ++ (13 ∷ 10 ∷ back)) → ⊥
no_return [] back h = let k = h.0 in omega arith
no_return (x ∷ front) back h = no_return front back h.1

digits_line : (ds : List ℕ) → AllDigits 10 ds → HasNoCrLf ds
digits_line ds h front back e = no_return front back (subst (AllDigits 10) e h)

minus_line : (ds : List ℕ) → AllDigits 10 ds → HasNoCrLf (45 ∷ ds)
minus_line ds h [] back e = absurd cc
minus_line ds h (x ∷ front) back e = digits_line ds h front back cc

no_inner : (front back : List ℕ) → list_all is_inner (front ++ (13 ∷ 10 ∷ back)) ≡ true → ⊥
no_inner [] back h = absurd cc
no_inner (x ∷ front) back h = no_inner front back (and_parts (is_inner x) _ h).1

pub inner_line : (bs : List ℕ) → list_all is_inner bs ≡ true → HasNoCrLf bs
inner_line bs h front back e = no_inner front back (sym (ap (list_all is_inner) e) ∙ h)

pub line_spelled : {limit : ℕ} (level mark : ℕ) (m : Marker) (line : List ℕ) (t : Tree) → level ≤ limit → marker_of mark ≡ Some m → HasNoCrLf line → is_utf8 line ≡ true → row m line ≡ Some (whole t)
    → Spells limit level (line_text mark line) t
unfolding next
line_spelled level mark m line t le marked one text is =
    by_line le (record { byte = mark; row = marked; one_line = one; spelled = refl }) (rw text is)

-- ---- counts

pub count_number : (n : ℕ) → n < 2 ^ 63 → number (decimal n) ≡ Some (pos n)
count_number n lt =
    let k = decimal_is_IsNumeral n (omega arith) in
    digits_number (decimal n) k.0.1 k.0.0 (omega (arith, k.1)) ∙ ap (λ (v : ℕ). Some (pos v)) k.1

pub count_opens : (mark : ℕ) (m : Marker) (n : ℕ) → n < 2 ^ 63 → marker_of mark ≡ Some m → Opens (count_text mark n) m (decimal n)
count_opens mark m n lt marked =
    let k = decimal_is_IsNumeral n (omega arith) in
    record { byte = mark; row = marked; one_line = digits_line (decimal n) k.0.1; spelled = refl }

pub count_next : (m : Marker) (n : ℕ) (x : Option Next) → n < 2 ^ 63 → row m (decimal n) ≡ x → next m (decimal n) ≡ x
unfolding next
count_next m n x lt is =
    let k = decimal_is_IsNumeral n (omega arith) in
    rw (digits_text (decimal n) k.0.1) is

pub bytes_spelled : {limit : ℕ} (level mark : ℕ) (m : Marker) (bs : List ℕ) (t : Tree) → level ≤ limit → length bs < 2 ^ 63 → marker_of mark ≡ Some m
    → row m (decimal (length bs)) ≡ Some (bytes (length bs)) → made_of m bs ≡ Some t → Spells limit level (counted_text mark bs) t
bytes_spelled level mark m bs t le lt marked is made =
    by_bytes bs le (count_opens mark m (length bs) lt marked) (count_next m (length bs) (Some (bytes (length bs))) lt is) refl made

pub bulk_spelled : {limit : ℕ} (level : ℕ) (bs : List ℕ) → level ≤ limit → length bs < 2 ^ 63 → Spells limit level (bulk_text bs) (bulk bs)
unfolding row made_of
bulk_spelled level bs le lt = bytes_spelled level 36 rows.BulkString bs (bulk bs) le lt refl (rw (count_number (length bs) lt) refl) refl

pub values_spelled : {limit : ℕ} (level mark : ℕ) (m : Marker) (n k : ℕ) (body : List ℕ) (ts : Trees) → level ≤ limit → n < 2 ^ 63 → marker_of mark ≡ Some m → row m (decimal n) ≡ Some (values k)
    → SpellsAll limit (suc level) k body ts → begins m ts ≡ true → Spells limit level (count_text mark n ++ body) (made_from m ts)
values_spelled level mark m n k body ts le lt marked is all first =
    by_values le (count_opens mark m n lt marked) (count_next m n (Some (values k)) lt is) all first

pub array_spelled : {limit : ℕ} (level n : ℕ) (body : List ℕ) (ts : Trees) → level ≤ limit → n < 2 ^ 63 → SpellsAll limit (suc level) n body ts → Spells limit level (count_text 42 n ++ body) (array ts)
unfolding row made_from may_begin
array_spelled level n body ts le lt all = values_spelled level 42 rows.Array n n body ts le lt refl (rw (count_number n lt) refl) all (plain ts)
  where
    plain : (us : Trees) → begins rows.Array us ≡ true
    plain no_trees = refl
    plain (tree u us) = refl

-- ---- numbers

minus_trimmed : (n : ℕ) → suc n < 2 ^ 64 → suc n ≤ 2 ^ 63 → trim (45 ∷ decimal (suc n)) ≡ 45 ∷ decimal (suc n)
unfolding trim_start trim_end
minus_trimmed n small h =
    let ds : List ℕ = decimal (suc n) in
    let k = decimal_is_IsNumeral (suc n) small in
    let ascii = IsAscii-signed (negsuc n) (omega arith) in
    let same : chars (45 ∷ ds) ≡ 45 ∷ ds = chars-IsAscii (45 ∷ ds) ascii in
    let back : encode_utf8_all (45 ∷ ds) ≡ 45 ∷ ds = encodes-IsAscii (45 ∷ ds) ascii in
    rw (same, back, same, drops ds k.0.1) back

pub number_written : (z : ℤ) → is_number z ≡ true → number (signed_decimal z) ≡ Some z
number_written (pos n) h = count_number n (ltb-true _ _ h)
number_written (negsuc n) h =
    let lt = ltb-true _ _ h in
    let k = decimal_is_IsNumeral (suc n) (omega arith) in
    let fits : FitsSigned w64 (negsuc n) = omega (arith, ints) in
    let parsed : ParsesSigned {E = ℕ} w64 10 (45 ∷ decimal (suc n)) (Ok (negsuc n)) = rw k.1 ((k.0, fits), refl) in
    sym (number_is {E = ℕ} (45 ∷ decimal (suc n)) (Ok (negsuc n)) (rw (minus_trimmed n (omega arith) (omega arith)) parsed))

number_line : (z : ℤ) → is_number z ≡ true → HasNoCrLf (signed_decimal z)
number_line (pos n) h = let lt = ltb-true _ _ h in let k = decimal_is_IsNumeral n (omega arith) in digits_line (decimal n) k.0.1
number_line (negsuc n) h = let lt = ltb-true _ _ h in let k = decimal_is_IsNumeral (suc n) (omega arith) in minus_line (decimal (suc n)) k.0.1

number_small : (z : ℤ) → is_number z ≡ true → mag z < 2 ^ 63
number_small (pos n) h = ltb-true _ _ h
number_small (negsuc n) h = ltb-true _ _ h

pub number_spelled : {limit : ℕ} (level : ℕ) (z : ℤ) → level ≤ limit → is_number z ≡ true → Spells limit level (line_text 58 (signed_decimal z)) (int z)
unfolding row
number_spelled level z le h =
    line_spelled level 58 rows.Integer (signed_decimal z) (int z) le refl (number_line z h)
    (is_utf8-from_IsUtf8 _ (IsUtf8-from_ascii _ (IsAscii-signed z (number_small z h)))) (rw (number_written z h) refl)
