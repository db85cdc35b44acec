-- The line of a count below 100.
use Rattle.std.proofs.Common.{◌≡◌, ℕ, ◌+◌, ◌<◌, ◌≤◌, ◌/◌, ◌%◌, ◌^◌, List, [], ◌∷◌, ◌++◌, codes, decimal, ap, sym, ◌∙◌, Result, Ok, Err, arith}
use Rattle.std.specs.Prelude.{MatchResult, is_ok, if◌then◌else◌}
use Rattle.std.proofs.lemmas.List.{append-nil}
use Rattle.std.proofs.lemmas.Fmt.{decimal_digit, decimal_step}

pub digit : (count : ℕ) → count < 10 → (48 + count) ∷ [] ≡ decimal count
digit count h = sym (decimal_digit count h)

pub two_digits : (count : ℕ) → 10 ≤ count → count < 100 → (48 + count / 10) ∷ (48 + count % 10) ∷ [] ≡ decimal count
two_digits count low high =
    let fits : count < 2 ^ 64 = omega arith in
    let tens : count / 10 < 10 = omega arith in
    sym (decimal_step count low fits ∙ ap (λ d. d ++ (48 + count % 10) ∷ []) (decimal_digit (count / 10) tens))

-- a line that is written in one piece
pub appends_line : {X E : Type 0} (result : Result X E) (old new digits : List ℕ) (kind count : ℕ) → digits ≡ decimal count
    → new ≡ (if is_ok result then old ++ (kind ∷ digits ++ codes "\r\n") else old)
    → MatchResult result (λ _. new ≡ old ++ (kind ∷ decimal count ++ codes "\r\n")) (λ _. (more : List ℕ) × (new ≡ old ++ more))
appends_line (Ok x) old new digits kind count e is = is ∙ ap (λ d. old ++ (kind ∷ d ++ codes "\r\n")) e
appends_line (Err x) old new digits kind count e is = ([], is ∙ sym (append-nil old))
