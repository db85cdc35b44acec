-- Texts of addresses.
use Rattle.std.proofs.Common.{◌≡◌, ◌≢◌, ℕ, zero, suc, ◌+◌, ◌-◌, ◌*◌, ◌<◌, ◌≤◌, ◌^◌, Bool, true, false, not, ◌&&◌, nat_lt, ◌==◌, if◌then◌else◌, cond, List, [], ◌∷◌, ◌++◌, length, take, drop, get_or, reverse, fold, refl, sym, ap, ◌∙◌, Option, Some, None, option_map, option_and_then, Result, Ok, Err, arith, rules, decimal, lit<, inl, inr, ◌↔◌}
use Rattle.std.proofs.lemmas.Bool.Decides.{nat_tests, eqb_tells}
use Rattle.std.proofs.lemmas.Bool.{eq-eqb, ne_eqb, and_parts, and_from}
use Rattle.std.proofs.lemmas.List.{reverse-append, reverse-reverse, length-reverse, take-append-drop}
use Rattle.std.proofs.lemmas.Str.Pattern.{drop_at_char, NoCharPasses-char}
use Rattle.std.proofs.lemmas.Str.Parse.{IsNumeralModel, numerals_by_fold, parse_plain, parse_plus, not_in_digits}
use Rattle.std.proofs.lemmas.Fmt.{decimal_is_IsNumeral, digits_decimal}
use Rattle.std.specs.List.{list_all}
use Rattle.std.specs.Option.{MatchOption}
use Rattle.std.specs.Result.{OkIff, result_ok}
use Rattle.std.specs.Str.Parse.{ParsesUnsigned, without_leading_plus, digits_value, IsNumeral}
use Rattle.std.specs.Str.Pattern.{CutsPrefixes, CutsSuffixes, IsFullyTrimmed, FindsCharPrefix, FindsCharSuffix, IsTrimStartMatches, IsTrimEndMatches, RFindsChar, SplitsAroundMatch}
use Rattle.std.proofs.lemmas.Str.{IsUtf8-from_ascii}
use Rattle.std.specs.Str.{IsUtf8}
use Rattle.std.proofs.Math.Seq.{drop-length}
use denote.Ref.{Bor}
use Rattle.resp_core.specs.Numbers.{is_digit, digits_below, number_below}
use Rattle.resp_core.proofs.TextNumbers.{own, parsed}
use Rattle.cluster_routing.specs.Address.{Address, cut_here, cut_last, without_front, without_end, begins_plain, ends_plain, is_plain, address_with, address_of, address_read, written}

-- the front
without_front-cut : (c : ℕ) → c < 128 → (s r : List ℕ) (ns : List ℕ) → CutsPrefixes (FindsCharPrefix c) s ns r → without_front c s ≡ without_front c r
without_front-cut c low s r [] e = ap (without_front c) (sym e)
without_front-cut c low s r (n ∷ ns) (m, cuts, found, e) =
    without_front-cut c low s m ns cuts ∙ ap (without_front c) (drop_at_char c m 0 n found low) ∙ one (drop n m) ∙ ap (without_front c) (sym e)
  where
    one : (xs : List ℕ) → without_front c (c ∷ xs) ≡ without_front c xs
    one xs = ap (λ b. if b then without_front c xs else c ∷ xs) (eq-eqb c c refl)

without_front-other : (c x : ℕ) (xs : List ℕ) → x ≢ c → without_front c (x ∷ xs) ≡ x ∷ xs
without_front-other c x xs ne = ap (λ b. if b then without_front c xs else x ∷ xs) (ne_eqb x c ne)

without_front-none : (r : List ℕ) → IsFullyTrimmed (FindsCharPrefix 91) r → without_front 91 r ≡ r
unfolding lib.Utf8.encode
without_front-none [] t = refl
without_front-none (x ∷ xs) (None, found, z) = without_front-other 91 x xs (λ e. found xs (ap (λ y. y ∷ xs) e))
without_front-none (x ∷ xs) (Some n, found, z) = let e : n ≡ 1 = found.ends in absurd (omega arith)

pub trimmed_front : (s r : List ℕ) → IsTrimStartMatches (FindsCharPrefix 91) s r → r ≡ without_front 91 s
trimmed_front s r ((ns, cuts), t) = sym (without_front-cut 91 (lit< tt) s r ns cuts ∙ without_front-none r t)

-- the end
without_end-one : (c : ℕ) (xs : List ℕ) → without_end c (xs ++ c ∷ []) ≡ without_end c xs
without_end-one c xs =
    ap (λ ys. reverse (without_front c ys)) (reverse-append xs (c ∷ []))
    ∙ ap (λ b. reverse (if b then without_front c (reverse xs) else c ∷ reverse xs)) (eq-eqb c c refl)

without_end-cut : (s r : List ℕ) (ns : List ℕ) → CutsSuffixes (FindsCharSuffix 93) s ns r → without_end 93 s ≡ without_end 93 r
without_end-cut s r [] e = ap (without_end 93) (sym e)
without_end-cut s r (n ∷ ns) (m, cuts, found, e) =
    let back : drop (length m - n) m ≡ 93 ∷ [] = drop_at_char 93 m (length m - n) (length m) found.1 (lit< tt) ∙ ap (λ ys. 93 ∷ ys) (drop-length m) in
    let whole : m ≡ r ++ 93 ∷ [] = sym (take-append-drop (length m - n) m) ∙ ap (λ ys. take (length m - n) m ++ ys) back ∙ ap (λ ys. ys ++ 93 ∷ []) (sym e) in
    without_end-cut s m ns cuts ∙ ap (without_end 93) whole ∙ without_end-one 93 r

without_end-none : (r : List ℕ) → IsFullyTrimmed (FindsCharSuffix 93) r → without_end 93 r ≡ r
unfolding lib.Utf8.encode
without_end-none r (Some n, found, z) = let e : n ≡ 1 = found.0 in absurd (omega arith)
without_end-none r (None, found, z) = by (reverse r) refl
  where
    by : (q : List ℕ) → reverse r ≡ q → reverse (without_front 93 q) ≡ r
    by [] e = ap reverse (sym e) ∙ reverse-reverse r
    by (x ∷ xs) e = ap reverse (without_front-other 93 x xs (λ k. found (reverse xs) (sym (reverse-reverse r) ∙ ap reverse e ∙ reverse-append (x ∷ []) xs ∙ ap (λ y. reverse xs ++ y ∷ []) k))) ∙ ap reverse (sym e) ∙ reverse-reverse r

pub trimmed_end : (s r : List ℕ) → IsTrimEndMatches (FindsCharSuffix 93) s r → r ≡ without_end 93 s
trimmed_end s r ((ns, cuts), t) = sym (without_end-cut s r ns cuts ∙ without_end-none r t)

-- the last colon
cut_last-none : (c : ℕ) (bs : List ℕ) → ((i : ℕ) → i < length bs → get_or bs i 0 ≢ c) → cut_last c bs ≡ None
cut_last-none c [] none = refl
cut_last-none c (b ∷ bs) none =
    ap (cut_here c b bs) (cut_last-none c bs (λ i l. none (suc i) (omega arith))) ∙ ap (λ t. if t then Some ([], bs) else None) (ne_eqb b c (none 0 (omega arith)))

cut_last-at : (c : ℕ) (front back : List ℕ) → ((i : ℕ) → i < length back → get_or back i 0 ≢ c) → cut_last c (front ++ c ∷ back) ≡ Some (front, back)
cut_last-at c [] back none = ap (cut_here c c back) (cut_last-none c back none) ∙ ap (λ t. if t then Some ([], back) else None) (eq-eqb c c refl)
cut_last-at c (b ∷ front) back none = ap (cut_here c b (front ++ c ∷ back)) (cut_last-at c front back none)

pub cut_is : (s : List ℕ) (r : Option (Bor (List ℕ) × Bor (List ℕ)))
    → MatchOption r (RFindsChar 58 s None) (λ x. SplitsAroundMatch (RFindsChar 58) s x.0.now x.1.now)
    → option_map (λ p. (p.0.now, p.1.now)) r ≡ cut_last 58 s
cut_is s None h = sym (cut_last-none 58 s (λ i l. NoCharPasses-char 58 s i h (lit< tt) l))
cut_is s (Some x) (i, j, found, front, back, le, fits, more) =
    let whole : s ≡ x.0.now ++ 58 ∷ x.1.now = sym (take-append-drop i s) ∙ ap (λ ys. take i s ++ ys) (drop_at_char 58 s i j found.1 (lit< tt) ∙ ap (λ ys. 58 ∷ ys) (sym back)) ∙ ap (λ ys. ys ++ 58 ∷ x.1.now) (sym front) in
    let none : (k : ℕ) → k < length x.1.now → get_or x.1.now k 0 ≢ 58 = λ k. rw back (λ l. NoCharPasses-char 58 (drop j s) k found.0 (lit< tt) l) in
    sym (ap (cut_last 58) whole ∙ cut_last-at 58 x.0.now x.1.now none)

-- the text of an address
port_back : (n : ℕ) → n < 2 ^ 16 → number_below (2 ^ 16) (decimal n) ≡ Some n
port_back n small = sym (parsed 16 (decimal n) answer spelled)
  where
    low : n < 2 ^ 64
    low = omega arith

    numeral : IsNumeral 10 (decimal n) × (digits_value 10 (decimal n) ≡ n)
    numeral = decimal_is_IsNumeral n low

    plain : without_leading_plus (decimal n) ≡ decimal n
    plain = ap (λ b. drop (cond b 1 0) (decimal n)) (ne_eqb _ 43 (not_in_digits own (decimal n) 43 (digits_decimal own n low) (λ h. omega arith) 0 numeral.0.0))

    answer : Result ℕ ℕ
    answer = Ok n

    spelled : ParsesUnsigned 16 10 (decimal n) answer
    spelled = rw plain ((numeral.0, rw numeral.1 small), sym numeral.1)

shorter_front : (c : ℕ) (xs : List ℕ) → length (without_front c xs) ≤ length xs
shorter_front c [] = omega arith
shorter_front c (x ∷ xs) = elim (eqb_tells x c) [
  | inl (t, e) ↦ rw t (omega (arith, shorter_front c xs))
  | inr (f, ne) ↦ rw f (omega arith)
]

shorter_end : (c : ℕ) (xs : List ℕ) → length (without_end c xs) ≤ length xs
shorter_end c xs = rw length-reverse (omega (arith, shorter_front c (reverse xs), length-reverse xs))

begins : (host : List ℕ) (xs : List ℕ) → host ≡ 91 ∷ xs → without_end 93 (without_front 91 host) ≡ host → ⊥
begins host xs e h =
    let k : length (without_end 93 (without_front 91 (91 ∷ xs))) ≡ suc (length xs) = ap (λ ys. length (without_end 93 (without_front 91 ys))) (sym e) ∙ ap length (h ∙ e) in
    omega (arith, k, shorter_end 93 (without_front 91 xs), shorter_front 91 xs)

ends : (host xs : List ℕ) → reverse host ≡ 93 ∷ xs → without_end 93 host ≡ host → ⊥
ends host xs e h =
    let k : length (reverse (without_front 93 (93 ∷ xs))) ≡ suc (length xs) = ap (λ ys. length (reverse (without_front 93 ys))) (sym e) ∙ ap length h ∙ sym (length-reverse host) ∙ ap length e in
    omega (arith, k, shorter_front 93 xs, length-reverse (without_front 93 xs))

not-eqb : (a b : ℕ) → not (a == b) ≡ true → a ≢ b
not-eqb a b p e = let t : (a == b) ≡ true = eq-eqb a b e in cc

kept_end : (host q : List ℕ) → reverse host ≡ q → ends_plain q ≡ true → without_front 93 q ≡ q
kept_end host [] e p = refl
kept_end host (x ∷ xs) e p = without_front-other 93 x xs (not-eqb x 93 p)

kept_front : (host : List ℕ) → begins_plain host ≡ true → without_front 91 host ≡ host
kept_front [] p = refl
kept_front (b ∷ bs) p = without_front-other 91 b bs (not-eqb b 91 p)

kept : (host : List ℕ) → is_plain host ≡ true → without_end 93 (without_front 91 host) ≡ host
kept host p =
    let h : (begins_plain host ≡ true) × (ends_plain (reverse host) ≡ true) = and_parts _ _ p in
    ap (without_end 93) (kept_front host h.0) ∙ ap reverse (kept_end host (reverse host) refl h.1) ∙ reverse-reverse host

plain_front : (host : List ℕ) → without_end 93 (without_front 91 host) ≡ host → host ≢ [] → begins_plain host ≡ true
plain_front [] h ne = absurd (ne refl)
plain_front (b ∷ bs) h ne = elim (eqb_tells b 91) [
  | inl (t, e) ↦ absurd (begins (b ∷ bs) bs (ap (λ y. y ∷ bs) e) h)
  | inr (f, other) ↦ ap not f
]

plain_end : (host q : List ℕ) → reverse host ≡ q → without_end 93 host ≡ host → host ≢ [] → ends_plain q ≡ true
plain_end host [] e h ne = absurd (ne (sym (reverse-reverse host) ∙ ap reverse e))
plain_end host (x ∷ xs) e h ne = elim (eqb_tells x 93) [
  | inl (t, k) ↦ absurd (ends host xs (e ∙ ap (λ y. y ∷ xs) k) h)
  | inr (f, other) ↦ ap not f
]

plain : (host : List ℕ) → without_end 93 (without_front 91 host) ≡ host → host ≢ [] → is_plain host ≡ true
plain host h ne =
    let f : begins_plain host ≡ true = plain_front host h ne in
    and_from _ _ f (plain_end host (reverse host) refl (ap (without_end 93) (sym (kept_front host f)) ∙ h) ne)

with_host : (a : Address) (t : List ℕ) → address_with a.port t ≡ Some a → (t ≡ a.host) × (a.host ≢ [])
with_host a [] h = cc
with_host a (b ∷ bs) h = let e : b ∷ bs ≡ a.host = ap host h in (e, λ k. let c : b ∷ bs ≡ [] = e ∙ k in cc)
  where
    host : Option Address → List ℕ
    host None = []
    host (Some x) = x.host

with_plain : (host : List ℕ) (port : ℕ) → is_plain host ≡ true → address_with port host ≡ Some (record { host = host; port = port })
with_plain [] port p = cc
with_plain (b ∷ bs) port p = refl

pub round_trip : (a : Address) → a.port < 2 ^ 16 → (address_read (written a) ≡ Some a) ↔ (is_plain a.host ≡ true)
round_trip a small = (λ h. let k = with_host a (without_end 93 (without_front 91 a.host)) (sym read ∙ h) in plain a.host k.0 k.1, λ p. read ∙ ap (address_with a.port) (kept a.host p) ∙ with_plain a.host a.port p)
  where
    low : a.port < 2 ^ 64
    low = omega arith

    read : address_read (written a) ≡ address_with a.port (without_end 93 (without_front 91 a.host))
    read =
        ap (option_and_then address_of) (cut_last-at 58 a.host (decimal a.port) (λ i l. not_in_digits own (decimal a.port) 58 (digits_decimal own a.port low) (λ h. omega arith) i l))
        ∙ ap (option_and_then (λ port. address_with port (without_end 93 (without_front 91 a.host)))) (port_back a.port small)
