-- What a reader stands for: the bytes that it was fed, and the commands that it handed out of them.
-- Source: a server reads the bytes of a connection in the pieces in which they come.
use Rattle.std.specs.Prelude.{◌≡◌, ℕ, zero, suc, ◌<◌, List, [], ◌∷◌, ◌++◌, length, drop, Option, Some, None, Result, Ok, Err, IfSome}
use Rattle.std.specs.Vec.{vec_capacity}
use Rattle.resp_requests.specs.declared.fault.Fault.{Fault}
use Rattle.resp_requests.specs.declared.limits.Limits.{Limits}
use Rattle.resp_requests.specs.declared.reader.RequestReader.{RequestReader}
use Rattle.resp_requests.specs.Gaps.{Gap, short, fault, Read, ◌>>=◌}
use Rattle.resp_requests.specs.Given.{texts}
use Rattle.resp_requests.specs.Arrays.{arguments_at}
use Rattle.resp_requests.specs.Requests.{Command, Ending, unfinished, faulty, Requests, following, request_at, requests}

-- the bytes that were not taken
abbrev pub waiting : RequestReader → List ℕ
waiting reader = drop reader.front reader.buffer.items

-- a request, or the rest of an array of which some arguments were taken and so many are missing
abbrev pub open_at : Limits → List (List ℕ) → ℕ → List ℕ → Read Command
open_at l taken zero bs = request_at l bs
open_at l taken (suc n) bs = arguments_at l (suc n) bs >>= λ others. Ok (taken ++ others.0, others.1)

-- what the reader reads next, once more bytes were fed
abbrev pub going : RequestReader → List ℕ → Read Command
going reader more =
    open_at reader.limits (texts reader.arguments.items) reader.missing (waiting reader ++ more)

-- the fault that it told, and tells from then on
abbrev pub told : RequestReader → Option Fault
told reader = reader.fault

-- the limits of a reader
abbrev pub limits_of : RequestReader → Limits
limits_of reader = reader.limits

-- Of the bytes these commands were read, and what is read next of their rest, once more bytes follow.
pub record GoesOn (l : Limits) (next_read : List ℕ → Read Command) (commands : List Command) (bytes : List ℕ)
    : Type 0 where
  pub rest : List ℕ
  pub behind : (more : List ℕ) → requests l (bytes ++ more) ≡ following commands (requests l (rest ++ more))
  pub next : (more : List ℕ) → request_at l (rest ++ more) ≡ next_read more

abbrev pub StandsIn : Option Fault → RequestReader → List Command → List ℕ → Type 0
StandsIn None reader commands bytes = GoesOn reader.limits (going reader) commands bytes
StandsIn (Some f) reader commands bytes =
    requests reader.limits bytes ≡ record { commands = commands; ending = faulty f }

-- The bytes were fed, and these commands were handed out of them: whatever is fed behind them, the reader
-- reads what stands there behind the commands. One that told a fault stands for bytes of which these commands
-- and the fault are read.
abbrev pub Stands : RequestReader → List Command → List ℕ → Type 0
Stands reader commands bytes = StandsIn reader.fault reader commands bytes

-- the command is read of the bytes, behind those others
abbrev pub IsNext : Limits → List ℕ → List Command → Command → Type 0
IsNext l bytes commands command =
    (others : List Command) × ((requests l bytes).commands ≡ commands ++ command ∷ others)

-- these commands are all that is read of the bytes, and the beginning of one more stands behind them
abbrev pub AreAll : Limits → List ℕ → List Command → Type 0
AreAll l bytes commands =
    (rest : List ℕ) × (requests l bytes ≡ record { commands = commands; ending = unfinished rest })

-- behind these commands stands the fault
abbrev pub AreBeforeFault : Limits → List ℕ → List Command → Fault → Type 0
AreBeforeFault l bytes commands f = requests l bytes ≡ record { commands = commands; ending = faulty f }

-- how many bytes the reader keeps: those that wait, and before them some that were taken
abbrev pub kept : RequestReader → ℕ
kept reader = length reader.buffer.items

-- for how many bytes it has room
abbrev pub room : RequestReader → ℕ
room reader = vec_capacity reader.buffer
