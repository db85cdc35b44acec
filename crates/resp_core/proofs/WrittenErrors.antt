-- Errors as they are written: ends of lines made spaces leave a text a text.
use Rattle.std.proofs.Common.{◌≡◌, ℕ, suc, ◌<◌, ◌≤◌, ◌+◌, ◌^◌, Bool, true, false, cond, eqb, not, nat_lt, List, [], ◌∷◌, ◌++◌, length, get_or, Option, Some, None, IsUtf8, inl, inr, refl, sym, ap₂, subst, arith, append-nil, ltb-true}
use Rattle.std.proofs.lemmas.Bool.{and_parts, cases_lt}
use Rattle.std.proofs.lemmas.Bool.Decides.{eqb_tells}
use Rattle.std.proofs.lemmas.List.{map-append, length-append}
use Rattle.std.proofs.lemmas.Str.{IsUtf8-append, IsUtf8-nil, IsUtf8-encode, encode_ascii, inside_one, IsUtf8-from_is_utf8}
use Rattle.std.specs.List.{list_all, position_or_len}
use Rattle.std.specs.Str.{is_utf8}
use lib.Utf8.{scalar, scalars, encode, encodes, low_scalar}
use Rattle.resp_core.specs.Trees.{ErrorText}
use Rattle.resp_core.specs.Printed.{joined, after_code}
use Rattle.resp_core.specs.Written.{is_inner, space, spaced, is_text, is_detail}

space_plain : (b : ℕ) → 128 ≤ b → space b ≡ b
space_plain b h = elim (eqb_tells b 13) [
  | inl p ↦ absurd (omega (arith, p.1))
  | inr p ↦ (elim (eqb_tells b 10) [
    | inl q ↦ absurd (omega (arith, q.1))
    | inr q ↦ rw (p.0, q.0) refl
  ])
]

space_small : (b : ℕ) → b < 128 → space b < 128
space_small b h = go (is_inner b)
  where
    go : (c : Bool) → cond {A = ℕ} c b 32 < 128
    go true = h
    go false = omega arith

pub space_inner : (b : ℕ) → is_inner (space b) ≡ true
space_inner b = go (is_inner b) refl
  where
    go : (c : Bool) → is_inner b ≡ c → is_inner (cond {A = ℕ} c b 32) ≡ true
    go true e = e
    go false e = refl

pub spaced_inner : (bs : List ℕ) → list_all is_inner (spaced bs) ≡ true
spaced_inner [] = refl
spaced_inner (b ∷ bs) = rw (space_inner b) (spaced_inner bs)

spaced_high : (xs : List ℕ) → ((k : ℕ) → k < length xs → 128 ≤ get_or xs k 0) → spaced xs ≡ xs
spaced_high [] h = refl
spaced_high (x ∷ xs) h =
    let high : 128 ≤ x = h 0 (omega arith) in
    ap₂ (λ (a : ℕ) (b : List ℕ). a ∷ b) (space_plain x high) (spaced_high xs (λ k below. h (suc k) (omega arith)))

ascii : (x : ℕ) → x < 128 → IsUtf8 (x ∷ [])
ascii x small = subst IsUtf8 (encode_ascii x small) (IsUtf8-encode x (low_scalar x (omega arith)))

one_char : (c : ℕ) → scalar c ≡ true → IsUtf8 (spaced (encode c))
one_char c ok = elim (cases_lt c 128) [
  | inl small ↦ rw (encode_ascii c small) (ascii (space c) (space_small c small))
  | inr big ↦
      let high : (k : ℕ) → k < length (encode c) → 128 ≤ get_or (encode c) k 0 = λ k below. elim (cases_lt (get_or (encode c) k 0) 128) [
        | inl low ↦ absurd (omega (arith, inside_one c [] (encode c) k (sym (append-nil _)) below low))
        | inr h ↦ h
      ] in
      subst IsUtf8 (sym (spaced_high (encode c) high)) (IsUtf8-encode c ok)
]

all_chars : (cs : List ℕ) → scalars cs ≡ true → IsUtf8 (spaced (encodes cs))
all_chars [] e = IsUtf8-nil
all_chars (c ∷ cs) e =
    let p = and_parts (scalar c) (scalars cs) e in
    subst IsUtf8 (sym (map-append space (encode c) (encodes cs))) (IsUtf8-append (spaced (encode c)) (spaced (encodes cs)) (one_char c p.0) (all_chars cs p.1))

pub spaced_utf8 : (bs : List ℕ) → IsUtf8 bs → IsUtf8 (spaced bs)
spaced_utf8 bs u = subst (λ (l : List ℕ). IsUtf8 (spaced l)) u.1.1 (all_chars u.0 u.1.0)

-- ---- the text of an error

pub text_utf8 : (bs : List ℕ) → is_text bs ≡ true → IsUtf8 bs
text_utf8 bs h = IsUtf8-from_is_utf8 bs (and_parts (nat_lt (length bs) (2 ^ 62)) (is_utf8 bs) h).1

pub text_few : (bs : List ℕ) → is_text bs ≡ true → length bs < 2 ^ 62
text_few bs h = ltb-true _ _ (and_parts (nat_lt (length bs) (2 ^ 62)) (is_utf8 bs) h).0

detail_utf8 : (d : Option (List ℕ)) → is_detail d ≡ true → IsUtf8 (after_code d)
detail_utf8 None h = IsUtf8-nil
detail_utf8 (Some text) h = IsUtf8-append (32 ∷ []) text (ascii 32 (omega arith)) (text_utf8 text h)

detail_few : (d : Option (List ℕ)) → is_detail d ≡ true → length (after_code d) < 2 ^ 62 + 1
detail_few None h = omega arith
detail_few (Some text) h = let k = text_few text h in omega arith

pub joined_utf8 : (e : ErrorText) → is_text e.code ≡ true → is_detail e.detail ≡ true → IsUtf8 (joined e)
joined_utf8 e h k = IsUtf8-append e.code (after_code e.detail) (text_utf8 e.code h) (detail_utf8 e.detail k)

pub joined_few : (e : ErrorText) → is_text e.code ≡ true → is_detail e.detail ≡ true → length (joined e) < 2 ^ 63
joined_few e h k = let a = text_few e.code h in let b = detail_few e.detail k in omega (arith, length-append e.code (after_code e.detail))

-- ---- a colon

one_further : (c : Bool) (m n : ℕ) → m < n → cond {A = ℕ} c (1 + m) 0 < suc n
one_further true m n h = omega arith
one_further false m n h = omega arith

pub colon_within : (a s : List ℕ) → position_or_len (λ b. eqb b 58) (a ++ (58 ∷ s)) < length (a ++ (58 ∷ s))
colon_within [] s = omega arith
colon_within (x ∷ a) s = one_further (not (eqb x 58)) _ _ (colon_within a s)
