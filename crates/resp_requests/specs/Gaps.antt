-- Reading from left to right: what is read and what is behind it, or why nothing is read.
use Rattle.std.specs.Prelude.{ℕ, List, Result, Ok, Err}
use Rattle.resp_requests.specs.declared.fault.Fault.{Fault}

-- more bytes are needed, or none can help
pub data Gap : Type 0 where
  short : Gap
  fault : Fault → Gap

-- what was read, and the bytes behind it
abbrev pub Read : Type 0 → Type 0
Read A = Result (A × List ℕ) Gap

infixl 10 ◌>>=◌
abbrev pub ◌>>=◌ : {A B : Type 0} → Result A Gap → (A → Result B Gap) → Result B Gap
(Ok x) >>= f = f x
(Err e) >>= f = Err e
