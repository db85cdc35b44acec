-- A session without a `fault` line has one text, wherever memory is there.
-- Source: the session language is this repository's own (docs/SESSIONS.md).
use Rattle.std.specs.Prelude.{◌≡◌, ℕ, ◌^◌, ◌<◌, List, length}
use Rattle.std.specs.List.{AllByRecursion}
use Rattle.cluster_routing.specs.Address.{Address}
use Rattle.cluster_calls.specs.Links.Run.{HadMemory}
use Rattle.cluster_calls.specs.OneServer.PromisedPlays.{HadRoom, LinksHadMemory}
use Rattle.cluster_session.specs.PrintedRun.{PrintsRun}
use Rattle.cluster_session.specs.Session.{Session, Setup}

-- no read and no write of a node is to fail, and fewer than 2^32 bytes come from it
pub record IsFaultless (setup : Setup) : Type 0 where
  pub reads : setup.failing_read ≡ 0
  pub writes : setup.failing_write ≡ 0
  pub few : length setup.bytes < 2 ^ 32

abbrev pub AreFaultless : Session → Type 0
AreFaultless session = AllByRecursion (λ (node : Address × Setup). IsFaultless node.1) session.nodes

-- no call of the run and no link call was refused for want of memory, and no write found too little room
abbrev pub MemoryWasThere : {session : Session} {output : List ℕ} → PrintsRun session output → Type 0
MemoryWasThere run = HadMemory run.plays.run × LinksHadMemory run.plays.is_run.events
    × HadRoom run.after.nodes

-- two runs of a session without a `fault` line print the same text, memory aside
abbrev pub OneText : Type 0
OneText = (session : Session) (output output' : List ℕ) (p : PrintsRun session output)
    (q : PrintsRun session output')
    → AreFaultless session → MemoryWasThere p → MemoryWasThere q → output ≡ output'
