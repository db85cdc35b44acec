-- What a step of a reader does.
use Rattle.std.specs.Prelude.{◌≡◌, ℕ, ◌<◌, ◌==◌, false, List, [], ◌∷◌, ◌++◌, Option, Some, None, Result, Ok, Err, Vec}
use Rattle.std.specs.Global.{Global}
use Rattle.resp_requests.specs.declared.stop.Stop.{Stop}
use Rattle.resp_requests.specs.declared.stop.Stop.TheVariants as stops
use Rattle.resp_requests.specs.declared.reader.RequestReader.{RequestReader}
use Rattle.resp_requests.specs.Gaps.{short, fault}
use Rattle.resp_requests.specs.Given.{texts}
use Rattle.resp_requests.specs.Requests.{Command}
use Rattle.resp_requests.specs.Standing.{waiting, going, Stands}

-- whatever is fed, the same is read next
abbrev pub SameNext : RequestReader → RequestReader → Type 0
SameNext old new = (more : List ℕ) → going old more ≡ going new more

-- the request was read, and the reader is between requests
pub record Ends (old new : RequestReader) (request : Command) : Type 0 where
  pub whole : (more : List ℕ) → going old more ≡ Ok (request, waiting new ++ more)
  pub between : new.missing ≡ 0

pub record Halts (old new : RequestReader) : Type 0 where
  pub unfinished : going old [] ≡ Err short
  pub same : SameNext old new

abbrev pub Stops : Stop → RequestReader → RequestReader → Type 0
Stops stops.Short old new = Halts old new
Stops (stops.Fault f) old new = going old [] ≡ Err (fault f)
Stops stops.Memory old new = SameNext old new

abbrev pub Advances : Result (Option (Vec (Vec ℕ Global) Global)) Stop → RequestReader → RequestReader
    → Type 0
Advances (Ok (Some request)) old new = Ends old new (texts request.items)
Advances (Ok None) old new = SameNext old new
Advances (Err e) old new = Stops e old new

-- the same commands were handed out of the same bytes
abbrev pub SameStanding : RequestReader → RequestReader → Type 0
SameStanding old new = (commands : List Command) (bytes : List ℕ)
    → Stands old commands bytes → Stands new commands bytes

-- the bytes that are kept, what was told and the limits are the same
abbrev pub SameBytes : RequestReader → RequestReader → Type 0
SameBytes old new = (new.buffer ≡ old.buffer) × (new.fault ≡ old.fault) × (new.limits ≡ old.limits)

-- the front is behind what was read, or where it was
abbrev pub FrontMoves : {A E : Type 0} → Result A E → RequestReader → RequestReader → Type 0
FrontMoves (Ok x) old new = old.front < new.front
FrontMoves (Err e) old new = new.front ≡ old.front

-- a star waits first
abbrev pub StarWaits : RequestReader → Type 0
StarWaits reader = (behind : List ℕ) × (waiting reader ≡ 42 ∷ behind)

-- another byte waits first
abbrev pub OtherWaits : RequestReader → Type 0
OtherWaits reader = (b : ℕ) × (behind : List ℕ) × ((b == 42) ≡ false) × (waiting reader ≡ b ∷ behind)
