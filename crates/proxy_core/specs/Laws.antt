-- What a turn never asks again.
use Rattle.std.specs.Prelude.{◌≡◌, ℕ, zero, suc, ◌<◌, Bool, true, List, [], ◌∷◌, Option, Some, None}
use Rattle.proxy_core.specs.declared.outcome.Outcome.{Outcome}
use Rattle.proxy_core.specs.declared.outcome.Fate.{Fate}
use Rattle.proxy_core.specs.declared.queue.Entry.{Entry}
use Rattle.proxy_core.specs.declared.queue.Entry.TheVariants.{Waits, Reads}
use Rattle.proxy_core.specs.Fates.{may_be_done}
use Rattle.proxy_core.specs.Queue.{settled}

-- the command at place k, where it waits
abbrev pub waits_at : {C V : Type 0} → List (Entry C V) → ℕ → Option C
waits_at [] k = None
waits_at (Waits c ∷ q) zero = Some c
waits_at (Reads v ∷ q) zero = None
waits_at (e ∷ q) (suc k) = waits_at q k

-- what a turn with these outcomes tells the command at place k
abbrev pub fate_at : {C V : Type 0} → List (Entry C V) → List (Outcome V) → ℕ → Option Fate
fate_at [] os k = None
fate_at (Reads v ∷ q) os zero = None
fate_at (Reads v ∷ q) os (suc k) = fate_at q os k
fate_at (Waits c ∷ q) [] k = None
fate_at (Waits c ∷ q) (o ∷ os) zero = Some o.fate
fate_at (Waits c ∷ q) (o ∷ os) (suc k) = fate_at q os k

-- a command that may have been done is not asked again
abbrev pub AsksOnce : {C : Type 0} → (V : Type 0) → (C → C → Bool) → Type 0
AsksOnce {C} V overlaps = (q : List (Entry C V)) (os : List (Outcome V)) (k : ℕ) (f : Fate)
    → fate_at q os k ≡ Some f → may_be_done f ≡ true → waits_at (settled overlaps q os) k ≡ None

-- nor is one behind which a command that overlaps it may have been done
abbrev pub KeepsOrder : {C : Type 0} → (V : Type 0) → (C → C → Bool) → Type 0
KeepsOrder {C} V overlaps = (q : List (Entry C V)) (os : List (Outcome V)) (i k : ℕ) (c d : C) (f : Fate)
    → i < k → waits_at q i ≡ Some c → waits_at q k ≡ Some d → overlaps c d ≡ true
    → fate_at q os k ≡ Some f → may_be_done f ≡ true → waits_at (settled overlaps q os) i ≡ None
