-- What it means that a value was put into the rows that are open.
-- Source: the RESP3 specification, whose rows hold values within values.
use Rattle.std.specs.Prelude.{◌≡◌, ℕ, ◌-◌, false, List, [], length, Option, Some, None, Result, Ok, Err}
use Rattle.resp_core.specs.declared.parser.announced.Announced.{Announced}
use Rattle.resp_core.specs.declared.parser.announced.Announced.TheVariants as announcements
use Rattle.resp_core.specs.declared.parser.frame.Frame.{Frame}
use Rattle.resp_core.specs.declared.parser.frame.Opened.{Opened}
use Rattle.resp_core.specs.declared.parser.frame.Opened.TheVariants as opened
use Rattle.resp_core.specs.declared.parser.marker.Marker.{Marker}
use Rattle.resp_core.specs.declared.parser.stack.Progress.{Progress}
use Rattle.resp_core.specs.declared.parser.stack.Progress.TheVariants as progress
use Rattle.resp_core.specs.declared.parser.stop.Stop.{Stop}
use Rattle.resp_core.specs.declared.parser.stop.Stop.TheVariants as stops
use Rattle.resp_core.specs.declared.value.Value.{Value}
use Rattle.resp_core.specs.Trees.{Tree}
use Rattle.resp_core.specs.View.{view}
use Rattle.resp_core.specs.Reading.{Read, Splits, ◌>>=◌, fault, value_at}
use Rattle.resp_core.specs.Frames.{rest_of, closing}
use Rattle.resp_core.specs.Head.{in_line, head_at}

-- a value was refused: whatever follows, the bytes are at fault, or memory ran out
abbrev pub Refuses : Stop → Read Tree → Type 0
Refuses stops.Memory read = Unit {0}
Refuses stops.Short read = ⊥
Refuses stops.Fault read = read ≡ Err fault

-- a row is whole, or its next value is to be read
abbrev pub Opens : ℕ → List ℕ → Opened → Read Tree → Type 0
Opens k bs (opened.Whole v) read = read ≡ Ok (view v, bs)
Opens k bs (opened.Open f) read = read ≡ (value_at k bs >>= λ x. rest_of k f x)

abbrev pub Names : ℕ → List ℕ → Result Opened Stop → Read Tree → Type 0
Names k bs (Ok o) read = Opens k bs o read
Names k bs (Err e) read = Refuses e read

-- the same, where the row is left as it is then
abbrev pub Puts : ℕ → List ℕ → Result (Option Value) Stop → Frame → Read Tree → Type 0
Puts k bs (Ok (Some v)) f read = read ≡ Ok (view v, bs)
Puts k bs (Ok None) f read = read ≡ (value_at k bs >>= λ x. rest_of k f x)
Puts k bs (Err e) f read = Refuses e read

-- a value is whole and no row is left, or what is read next is behind the head
abbrev pub Settles : ℕ → Result Progress Stop → (List ℕ → Read Tree) → List Frame → List Frame → Type 0
Settles l (Ok (progress.Whole v)) read old new = (new ≡ [])
    × ((bs : List ℕ) → closing l old (read bs) ≡ Ok (view v, bs))
Settles l (Ok (progress.On h)) read old new = (bs : List ℕ)
    → closing l old (read bs) ≡ closing l new (head_at (l - length new) h bs)
Settles l (Err e) read old new = (bs : List ℕ) → Refuses e (closing l old (read bs))

-- what is read next is no line
abbrev pub LeavesLine : Result Progress Stop → Type 0
LeavesLine (Ok (progress.Whole v)) = Unit {0}
LeavesLine (Ok (progress.On h)) = in_line h ≡ false
LeavesLine (Err e) = Unit {0}

-- an announced count can be split into pairs, where it is to be
abbrev pub SplitsIn : Marker → Announced → Type 0
SplitsIn m (announcements.Whole v) = Unit {0}
SplitsIn m (announcements.Bytes n) = Unit {0}
SplitsIn m (announcements.Values n) = Splits m n
