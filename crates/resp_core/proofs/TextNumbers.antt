-- The number that a text is parsed to is the one that it writes.
use Rattle.std.proofs.Common.{◌≡◌, ◌≢◌, ℕ, zero, suc, ◌+◌, ◌-◌, ◌*◌, ◌<◌, ◌^◌, Bool, true, false, ◌&&◌, nat_lt, if◌then◌else◌, List, [], ◌∷◌, length, fold, get_or, refl, sym, ap, ◌∙◌, Some, None, Result, Ok, Err, arith, rules, inl, inr}
use Rattle.std.proofs.lemmas.Bool.{and_parts}
use Rattle.std.proofs.lemmas.Bool.Decides.{nat_tests, eqb_tells}
use Rattle.std.proofs.lemmas.Str.{IsUtf8-from_ascii}
use Rattle.std.proofs.lemmas.Str.Parse.{IsNumeralModel, numerals_by_fold, parse_plain, parse_plus}
use Rattle.std.specs.List.{list_all}
use Rattle.std.specs.Result.{OkIff, result_ok}
use Rattle.std.specs.Str.{IsUtf8}
use Rattle.std.specs.Str.Parse.{ParsesUnsigned}
use Rattle.resp_core.specs.Numbers.{is_digit, digits_below, number_below}

abbrev pub value : List ℕ → ℕ
value ds = fold (λ n d. 10 * n + (d - 48)) 0 ds

pub own : IsNumeralModel (λ ds. list_all is_digit ds ≡ true) value
own = numerals_by_fold _ (search rules) (λ m ds. fold (λ n d. 10 * n + (d - 48)) m ds) (search rules)

pub digits_ok : {E : Type 0} (k : ℕ) (ds : List ℕ) (r : Result ℕ E) → OkIff r ((list_all is_digit ds ≡ true) × (0 < length ds) × (value ds < 2 ^ k)) (value ds) → result_ok r ≡ digits_below (2 ^ k) ds
digits_ok k [] (Ok x) h = absurd (omega (arith, h.0.1))
digits_ok k [] (Err e) h = refl
digits_ok k (d ∷ ds) (Ok x) (h, e) = by (list_all is_digit (d ∷ ds)) (nat_lt (value (d ∷ ds)) (2 ^ k)) h.0 (grind (arith, nat_tests, h.2))
  where
    by : (a b : Bool) → a ≡ true → b ≡ true → Some x ≡ (if a && b then Some (value (d ∷ ds)) else None)
    by true true p q = ap (λ n. Some n) e
    by true false p q = cc
    by false b p q = cc
digits_ok k (d ∷ ds) (Err e) h = by (list_all is_digit (d ∷ ds)) (nat_lt (value (d ∷ ds)) (2 ^ k)) (λ p q. h (p, omega arith, grind (arith, nat_tests, q)))
  where
    by : (a b : Bool) → (a ≡ true → b ≡ true → ⊥) → None ≡ (if a && b then Some (value (d ∷ ds)) else None)
    by true true p = absurd (p refl refl)
    by true false p = refl
    by false b p = refl

pub parsed : {E : Type 0} (k : ℕ) (bs : List ℕ) (r : Result ℕ E) → ParsesUnsigned k 10 bs r → result_ok r ≡ number_below (2 ^ k) bs
parsed k [] r h = digits_ok k [] r (parse_plain own k [] r h (λ e. omega arith))
parsed k (b ∷ bs) r h = elim (eqb_tells b 43) [
  | inl (t, e) ↦ digits_ok k bs r (parse_plus own k (b ∷ bs) r h e) ∙ ap (λ u. if u then digits_below (2 ^ k) bs else digits_below (2 ^ k) (b ∷ bs)) (sym t)
  | inr (f, ne) ↦ digits_ok k (b ∷ bs) r (parse_plain own k (b ∷ bs) r h ne) ∙ ap (λ u. if u then digits_below (2 ^ k) bs else digits_below (2 ^ k) (b ∷ bs)) (sym f)
]

-- digits are text
pub digits_ascii : (ds : List ℕ) → list_all is_digit ds ≡ true → (i : ℕ) → get_or ds i 0 < 128
digits_ascii [] p i = omega arith
digits_ascii (d ∷ ds) p zero = let h : is_digit d ≡ true = (and_parts _ _ p).0 in grind (arith, nat_tests, h)
digits_ascii (d ∷ ds) p (suc i) = digits_ascii ds (and_parts (is_digit d) _ p).1 i

pub digits_none : (limit : ℕ) (ds : List ℕ) → (list_all is_digit ds ≡ true → ⊥) → None ≡ digits_below limit ds
digits_none limit [] p = refl
digits_none limit (d ∷ ds) p = by (list_all is_digit (d ∷ ds)) (nat_lt (value (d ∷ ds)) limit) p
  where
    by : (a b : Bool) → (a ≡ true → ⊥) → None ≡ (if a && b then Some (value (d ∷ ds)) else None)
    by true b q = absurd (q refl)
    by false b q = refl

pub not_text : (limit : ℕ) (bs : List ℕ) → (IsUtf8 bs → ⊥) → None ≡ number_below limit bs
not_text limit [] p = refl
not_text limit (b ∷ bs) p = elim (eqb_tells b 43) [
  | inl (t, e) ↦ digits_none limit bs (λ q. p (IsUtf8-from_ascii (b ∷ bs) (λ i. elim i as (λ k. get_or (b ∷ bs) k 0 < 128) [ zero ↦ omega arith | suc k ↦ digits_ascii bs q k ])))
      ∙ ap (λ u. if u then digits_below limit bs else digits_below limit (b ∷ bs)) (sym t)
  | inr (f, ne) ↦ digits_none limit (b ∷ bs) (λ q. p (IsUtf8-from_ascii (b ∷ bs) (digits_ascii (b ∷ bs) q)))
      ∙ ap (λ u. if u then digits_below limit bs else digits_below limit (b ∷ bs)) (sym f)
]
