-- How far a line was searched for its end.
use Rattle.std.specs.Prelude.{◌≡◌, ◌≤◌, ◌==◌, if◌then◌else◌, ℕ, zero, suc, List, [], ◌∷◌, length, take, Err}
use Rattle.resp_requests.specs.declared.fault.Fault.{Fault}
use Rattle.resp_requests.specs.declared.limits.Limits.{Limits}
use Rattle.resp_requests.specs.Gaps.{short}
use Rattle.resp_requests.specs.Lines.{line_at}

-- so many bytes at the front were searched, and hold no end of a line and no fault
pub record Unended (end most : ℕ) (bs : List ℕ) (searched : ℕ) : Type 0 where
  pub within : searched ≤ length bs
  pub goes_on : (long : Fault) → line_at end most long (take searched bs) ≡ Err short

-- what ends the line that waits: a CR in an array, of which so many arguments are missing, and else an LF
abbrev pub line_end : ℕ → List ℕ → ℕ
line_end zero [] = 10
line_end zero (b ∷ bs) = if b == 42 then 13 else 10
line_end (suc missing) bs = 13

-- so many of the bytes that wait were searched
abbrev pub Searched : Limits → ℕ → List ℕ → ℕ → Type 0
Searched l missing waits searched = Unended (line_end missing waits) l.longest_line waits searched
