-- What a device promises of its reads, or of its writes, which are counted from 1.
use Rattle.std.specs.Prelude.{◌≡◌, ℕ, zero, suc, ◌<◌, ◌≤◌, ◌⊎◌}

-- nothing; that it refuses none; or that it refuses the one with this number and no other
pub data Promise : Type 0 where
  nothing : Promise
  refuses_none : Promise
  refuses_only : ℕ → Promise

-- what the number of the one to refuse says, where 0 stands for none
abbrev pub refuses_at : ℕ → Promise
refuses_at zero = refuses_none
refuses_at (suc n) = refuses_only (suc n)

-- None was refused of those behind the first `before` as far as the one with the number `last`: the one to
-- refuse, if any, is not among them.
abbrev pub RefusesNone : Promise → ℕ → ℕ → Type 0
RefusesNone nothing before last = Unit {0}
RefusesNone refuses_none before last = Unit {0}
RefusesNone (refuses_only n) before last = (n ≤ before) ⊎ (last < n)

-- The one with this number was refused: the promise lets it.
abbrev pub MayRefuse : Promise → ℕ → Type 0
MayRefuse nothing number = Unit {0}
MayRefuse refuses_none number = ⊥
MayRefuse (refuses_only n) number = number ≡ n
