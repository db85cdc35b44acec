-- What functions return, beside what is read. Where memory ran out they say nothing.
use Rattle.std.specs.Prelude.{◌≡◌, ℕ, List, [], ◌∷◌, ◌++◌, map, Option, Some, None, Result, Ok, Err, Vec}
use Rattle.std.specs.Global.{Global}
use Rattle.std.specs.Borrow.{Bor}
use Rattle.resp_requests.specs.declared.stop.Stop.{Stop}
use Rattle.resp_requests.specs.declared.stop.Stop.TheVariants as stops
use Rattle.resp_requests.specs.declared.fault.Fault.{Fault}
use Rattle.resp_requests.specs.declared.fault.Fault.TheVariants.{OpenQuote}
use Rattle.resp_requests.specs.Gaps.{Gap, short, fault}

-- the words of a command as their bytes
abbrev pub texts : List (Vec ℕ Global) → List (List ℕ)
texts words = map (λ (v : Vec ℕ Global). v.items) words

abbrev pub Fails : {Y : Type 0} → Stop → Result Y Gap → Type 0
Fails stops.Memory read = Unit {0}
Fails stops.Short read = read ≡ Err short
Fails (stops.Fault f) read = read ≡ Err (fault f)

-- what was returned, seen by view, is what is read
abbrev pub Gives : {X Y : Type 0} → (X → Y) → Result X Stop → Result Y Gap → Type 0
Gives view (Ok x) read = read ≡ Ok (view x)
Gives view (Err e) read = Fails e read

-- words are missing where a quote is open
abbrev pub Leaves : {Y : Type 0} → Stop → Option Y → Type 0
Leaves stops.Memory words = Unit {0}
Leaves stops.Short words = ⊥
Leaves (stops.Fault f) words = (f ≡ OpenQuote) × (words ≡ None)

-- what was returned makes these words
abbrev pub Makes : {X Y : Type 0} → (X → Option Y) → Result X Stop → Option Y → Type 0
Makes view (Ok x) words = words ≡ view x
Makes view (Err e) words = Leaves e words
