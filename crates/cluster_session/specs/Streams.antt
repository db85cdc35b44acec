-- How the devices fail that a session's text comes from and its output goes to.
-- Source: the session language is this repository's own (docs/SESSIONS.md).
use Rattle.std.specs.Prelude.{◌≡◌, ℕ, ◌+◌, ◌-◌, ◌^◌, ◌≤◌, ◌⊎◌, min}
use Rattle.resp_core.specs.Counts.{Counts, counted}

-- a read was refused, or so many reads were made and did not reach the end
abbrev pub ReadingFailed : ℕ → Counts → Counts → Type 0
ReadingFailed allowed old new = (new.refused ≡ counted old.refused)
    ⊎ (min (old.reads + allowed) (2 ^ 64 - 1) ≤ new.reads)

-- no read was refused
abbrev pub NoneRefused : Counts → Counts → Type 0
NoneRefused old new = new.refused ≡ old.refused
