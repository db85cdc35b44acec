-- The search for the end of a line goes on where it ended.
use Rattle.std.proofs.Common.{◌≡◌, ◌≢◌, ◌==◌, nat_lt, slice_index, inl, inr, true≢false, Bool, true, false, cond, eqb, ◌&&◌, ℕ, zero, suc, ◌+◌, ◌-◌, ◌<◌, ◌≤◌, List, [], ◌∷◌, ◌++◌, length, get_or, take, drop, Option, Some, None, Result, Ok, Err, refl, sym, ap, ap₂, ◌∙◌, arith, length-append}
use Rattle.std.proofs.lemmas.List.{get_or_past, get_or-take, get_or-drop, length-take-le, get_or_append_left, take-append-le, drop-append-le}
use Rattle.resp_core.specs.Reading.{Gap, Read, ◌>>=◌, short, fault, line_at}
use Rattle.std.proofs.lemmas.Bool.{and_parts, eqb-true, ltb-true, lt-ltb, cases_lt}
use Rattle.std.proofs.lemmas.Bool.Decides.{eqb_tells}
use Rattle.resp_core.specs.declared.parser.line.LineEnd.TheVariants as ends
use Rattle.resp_core.specs.LineEnds.{LineEnds, returned_at}
use Rattle.resp_core.proofs.LineReads.{NoneBelow, line_found, line_short}

-- a CR LF ends a line
has_line : (bs : List ℕ) (k : ℕ) → k + 1 < length bs → get_or bs k 0 ≡ 13 → get_or bs (k + 1) 0 ≡ 10 → line_at bs ≡ Err short → ⊥
unfolding line_at
has_line [] k lt first second e = absurd (omega arith)
has_line (b ∷ bs) zero lt first second e =
    let head : b ≡ 13 = first in
    let next : get_or bs 0 0 ≡ 10 = second in
    let found = rw (head, next) at e in
    absurd cc
has_line (b ∷ bs) (suc k) lt first second e =
    let next : suc k + 1 ≡ suc (k + 1) = omega arith in
    let later : get_or bs (k + 1) 0 ≡ 10 = rw next at second in
    go (eqb b 13 && eqb (get_or bs 0 0) 10) (line_at bs) (λ i. has_line bs k (omega arith) first later i) e
  where
    go : (c : Bool) (r : Read (List ℕ)) → (r ≡ Err short → ⊥) → cond {A = Read (List ℕ)} c (Ok ([], drop 1 bs)) (r >>= λ x. Ok (b ∷ x.0, x.1)) ≡ Err short → ⊥
    go true r h e = absurd cc
    go false (Ok x) h e = absurd cc
    go false (Err g) h e = h e

pub none_searched : (bs : List ℕ) (s : ℕ) → s ≤ length bs → line_at (take s bs) ≡ Err short → NoneBelow bs (s - 1)
none_searched bs s le e k lt first second =
    let len : length (take s bs) ≡ s = length-take-le s bs le in
    has_line (take s bs) k (omega arith) (get_or-take s bs k 0 (omega arith) ∙ first) (get_or-take s bs (k + 1) 0 (omega arith) ∙ second) e

-- the CR LF begins at i
pub ends_at : (bs : List ℕ) (i : ℕ) → NoneBelow bs i → i + 1 < length bs → get_or bs i 0 ≡ 13 → get_or bs (i + 1) 0 ≡ 10 → LineEnds (ends.At i) bs
ends_at bs i none lt first second = (
  omega arith,
  λ more.
      let same : (k : ℕ) → k < length bs → get_or (bs ++ more) k 0 ≡ get_or bs k 0 = λ k h. get_or_append_left bs more 0 k h in
      let none_more : NoneBelow (bs ++ more) i = λ k h p q. none k h (sym (same k (omega arith)) ∙ p) (sym (same (k + 1) (omega arith)) ∙ q) in
      line_found (bs ++ more) i none_more (omega (arith, length-append bs more)) (same i (omega arith) ∙ first) (same (i + 1) (omega arith) ∙ second)
      ∙ ap₂ (λ (l r : List ℕ). Ok (l, r)) (take-append-le i bs more (omega arith)) (drop-append-le (i + 2) bs more (omega arith)),
)

-- what was known of the byte before one
pub was_return : (bs : List ℕ) (i : ℕ) (r : Bool) → r ≡ true → r ≡ returned_at bs i → (0 < i) × (get_or bs (i - 1) 0 ≡ 13)
was_return bs i r holds is =
    let both = and_parts (nat_lt 0 i) (slice_index bs (i - 1) == 13) (sym is ∙ holds) in
    (ltb-true _ _ both.0, eqb-true _ _ both.1)

pub none_next : (bs : List ℕ) (i j : ℕ) (r : Bool) → j ≡ i → r ≡ returned_at bs i → NoneBelow bs (i - 1) → (r && get_or bs i 0 == 10) ≡ false → NoneBelow bs j
none_next bs i j r e is none test k below first second = elim (eqb_tells k (i - 1)) [
  | inl p ↦ (
      let here : k + 1 ≡ i = omega (arith, p.1) in
      let ten : get_or bs i 0 ≡ 10 = ap (λ (j : ℕ). get_or bs j 0) (sym here) ∙ second in
      let thirteen : get_or bs (i - 1) 0 ≡ 13 = ap (λ (j : ℕ). get_or bs j 0) (sym p.1) ∙ first in
      let some : nat_lt 0 i ≡ true = lt-ltb 0 i (omega arith) in
      let holds : r ≡ true = is ∙ rw (some, thirteen) refl in
      true≢false (sym (rw (holds, ten) refl) ∙ test)
      )
  | inr p ↦ none k (let differs : k ≢ i - 1 = p.1 in omega arith) first second
]

pub returned_next : (bs : List ℕ) (i j : ℕ) → j ≡ i + 1 → (get_or bs i 0 == 13) ≡ returned_at bs j
returned_next bs i j e =
    let some : nat_lt 0 j ≡ true = lt-ltb 0 j (omega arith) in
    let back : j - 1 ≡ i = omega arith in
    rw (some, back) refl

past_end : (bs : List ℕ) (k : ℕ) → length bs ≤ k → get_or bs k 0 ≡ 0
past_end bs k le = get_or_past bs k 0 le

pub goes_on : (bs : List ℕ) → NoneBelow bs (length bs - 1) → line_at bs ≡ Err short
goes_on bs none = line_short bs (λ k below first second. elim (eqb_tells k (length bs - 1)) [
  | inl p ↦ (
      let past : get_or bs (k + 1) 0 ≡ 0 = past_end bs (k + 1) (omega (arith, p.1)) in
      let zero_is_ten : 0 ≡ 10 = sym past ∙ second in
      absurd (omega arith)
      )
  | inr p ↦ none k (let differs : k ≢ length bs - 1 = p.1 in omega arith) first second
])

-- nothing was searched
pub no_return : (bs : List ℕ) (k : ℕ) → k ≡ 0 → false ≡ returned_at bs k
no_return bs k e = rw e refl

-- more bytes behind
pub returned_more : (bs more : List ℕ) (k : ℕ) → k ≤ length bs → returned_at (bs ++ more) k ≡ returned_at bs k
returned_more bs more k le = go (nat_lt 0 k) refl
  where
    go : (t : Bool) → nat_lt 0 k ≡ t → (t && slice_index (bs ++ more) (k - 1) == 13) ≡ (t && slice_index bs (k - 1) == 13)
    go true test = let some : 0 < k = ltb-true 0 k test in ap (λ (x : ℕ). x == 13) (get_or_append_left bs more 0 (k - 1) (omega arith))
    go false test = refl

-- the first LF behind what was searched
module _ (bs hay : List ℕ) (from : ℕ) (is : hay ≡ drop from bs) where
  pub hay_at : (k : ℕ) → get_or hay k 0 ≡ get_or bs (from + k) 0
  hay_at k = ap (λ (xs : List ℕ). get_or xs k 0) is ∙ get_or-drop from bs k 0

  pub none_to_feed : (n j : ℕ) → j ≡ from + n - 1 → NoneBelow bs (from - 1) → ((k : ℕ) → 0 ≤ k → k < n → (slice_index hay k == 10) ≡ true → ⊥) → NoneBelow bs j
  none_to_feed n j e none without k below first second = elim (cases_lt (k + 1) from) [
    | inl before ↦ none k (let lt : k + 1 < from = before in omega arith) first second
    | inr behind ↦ (
        let le : from ≤ k + 1 = behind in
        let back : from + (k + 1 - from) ≡ k + 1 = omega arith in
        let ten : get_or hay (k + 1 - from) 0 ≡ 10 = hay_at (k + 1 - from) ∙ ap (λ (i : ℕ). get_or bs i 0) back ∙ second in
        without (k + 1 - from) (omega arith) (omega arith) (rw ten refl)
        )
  ]

  pub feed_at : (n : ℕ) → (slice_index hay n == 10) ≡ true → get_or bs (from + n) 0 ≡ 10
  feed_at n e = sym (hay_at n) ∙ eqb-true _ _ e

-- an LF is no CR
pub not_returned : (bs : List ℕ) (i j : ℕ) → j ≡ i + 1 → get_or bs i 0 ≡ 10 → false ≡ returned_at bs j
not_returned bs i j e feed = let no : (get_or bs i 0 == 13) ≡ false = rw feed refl in sym no ∙ returned_next bs i j e
