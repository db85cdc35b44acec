-- What the program prints and answers for a text: a fault line alone with 2, what is printed of the session's
-- run with 0. Source: the session language is this repository's own (docs/SESSIONS.md).
use Rattle.std.specs.Prelude.{ℕ, ◌≡◌, List, ◌++◌, Option, Result, Ok, Err, codes, decimal}
use Rattle.std.specs.Io.KnownBytes.{Appends, Consumes}
use Rattle.cluster_session.specs.PrintedRun.{PrintsRun}
use Rattle.cluster_session.specs.Script.{session_in_text}
use Rattle.cluster_session.specs.Session.{Session}

-- the line of a text with a bad line: that line's number, from 1
abbrev pub fault_line : ℕ → List ℕ
fault_line number = codes "fault line " ++ (decimal number ++ codes "\n")

-- The status and the output of a text: 0 and what is printed of a run of its session; of a text that is none,
-- 2 and a fault line alone, which tells the first bad line.
abbrev pub GoesWith : Result Session ℕ → ℕ → List ℕ → Type 0
GoesWith (Ok session) status output = (status ≡ 0) × PrintsRun session output
GoesWith (Err number) status output = (status ≡ 2) × (output ≡ fault_line number)

-- A text was read from a reader that had `unread` to come, and the writer got the output that goes with it and
-- the status.
pub record Prints (status : ℕ) (unread rest before after : Option (List ℕ)) : Type 0 where
  pub text : List ℕ
  pub reads : Consumes unread rest text
  pub output : List ℕ
  pub writes : Appends before after output
  pub goes : GoesWith (session_in_text text) status output
