-- Laws of requests: what is read of bytes does not depend on the pieces in which they come.
use Rattle.std.specs.Prelude.{◌≡◌, ℕ, List, [], ◌∷◌, ◌++◌}
use Rattle.resp_requests.specs.declared.fault.Fault.{Fault}
use Rattle.resp_requests.specs.declared.limits.Limits.{Limits}
use Rattle.resp_requests.specs.Requests.{Command, Ending, unfinished, faulty, Requests, following, requests}

-- what is read where more bytes come: the rest with them; behind a fault nothing
abbrev pub read_on : Limits → List Command → Ending → List ℕ → Requests
read_on l commands (unfinished rest) more = following commands (requests l (rest ++ more))
read_on l commands (faulty f) more = record { commands = commands; ending = faulty f }

-- Reading two pieces is reading the first, and then what it left with the second.
abbrev pub OneAfterAnother : Type 0
OneAfterAnother = (l : Limits) (a b : List ℕ)
    → requests l (a ++ b) ≡ read_on l (requests l a).commands (requests l a).ending b

-- piece after piece
abbrev pub read_pieces : Limits → Requests → List (List ℕ) → Requests
read_pieces l r [] = r
read_pieces l r (piece ∷ pieces) = read_pieces l (read_on l r.commands r.ending piece) pieces

abbrev pub joined : List (List ℕ) → List ℕ
joined [] = []
joined (piece ∷ pieces) = piece ++ joined pieces

-- However bytes are cut, the same commands are read, and the same stands behind them.
abbrev pub AnyPieces : Type 0
AnyPieces = (l : Limits) (pieces : List (List ℕ))
    → read_pieces l (requests l []) pieces ≡ requests l (joined pieces)
