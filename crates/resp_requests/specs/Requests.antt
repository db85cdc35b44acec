-- The commands that bytes spell, one after another, and what stands behind them. Source: the RESP
-- specification, "Sending commands to a Redis server" and "Inline commands", and what Redis 7.0.15 does.
use Rattle.std.specs.Prelude.{ℕ, zero, suc, ◌==◌, if◌then◌else◌, List, [], ◌∷◌, ◌++◌, length, Option, Some, None, Result, Ok, Err}
use Rattle.resp_requests.specs.declared.fault.Fault.{Fault}
use Rattle.resp_requests.specs.declared.fault.Fault.TheVariants.{LongInline, OpenQuote}
use Rattle.resp_requests.specs.declared.limits.Limits.{Limits}
use Rattle.resp_requests.specs.Gaps.{Gap, short, fault, Read, ◌>>=◌}
use Rattle.resp_requests.specs.Lines.{line_at}
use Rattle.resp_requests.specs.Words.{words_in}
use Rattle.resp_requests.specs.Arrays.{array_at}

-- a command: its name, and its arguments
abbrev pub Command : Type 0
Command = List (List ℕ)

abbrev pub closed_words : Option Command → Result Command Gap
closed_words None = Err (fault OpenQuote)
closed_words (Some words) = Ok words

-- a line of words, up to its LF
unfoldable pub inline_at : Limits → List ℕ → Read Command
inline_at l bs = line_at 10 l.longest_line LongInline bs >>= λ line.
    closed_words (words_in line.0) >>= λ words. Ok (words, line.1)

-- one request: an array where the first byte is a star, and else a line of words
unfoldable pub request_at : Limits → List ℕ → Read Command
request_at l [] = Err short
request_at l (b ∷ bs) = if b == 42 then array_at l (b ∷ bs) else inline_at l (b ∷ bs)

-- behind the commands: the beginning of one more, or a fault, behind which nothing is read
pub data Ending : Type 0 where
  unfinished : List ℕ → Ending
  faulty : Fault → Ending

pub record Requests : Type 0 where
  pub commands : List Command
  pub ending : Ending

-- commands in front of others
abbrev pub following : List Command → Requests → Requests
following commands r = record { commands = commands ++ r.commands; ending = r.ending }

-- a request without words or arguments is left out
abbrev pub as_command : Command → List Command
as_command [] = []
as_command (name ∷ arguments) = (name ∷ arguments) ∷ []

-- all requests, by the first one, where `others` reads those behind it
abbrev pub from_first : List ℕ → (List ℕ → Requests) → Read Command → Requests
from_first bytes others (Ok first) = following (as_command first.0) (others first.1)
from_first bytes others (Err short) = record { commands = []; ending = unfinished bytes }
from_first bytes others (Err (fault f)) = record { commands = []; ending = faulty f }

-- so many requests at most
unfoldable pub requests_by : ℕ → Limits → List ℕ → Requests
requests_by zero l bytes = record { commands = []; ending = unfinished bytes }
requests_by (suc n) l bytes = from_first bytes (requests_by n l) (request_at l bytes)

-- The requests of all bytes: each takes a byte at least.
unfoldable pub requests : Limits → List ℕ → Requests
requests l bytes = requests_by (length bytes) l bytes
