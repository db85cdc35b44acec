-- Of a session's reads and writes only those are refused that its `fault` lines name, want of room apart.
-- Source: the session language is this repository's own (docs/SESSIONS.md).
use Rattle.std.specs.Prelude.{◌≡◌, ℕ, List, [], ◌∷◌, ⊤}
use Rattle.std.specs.Io.KnownBytes.{IsAtEnd}
use Rattle.resp_core.specs.Promise.{refuses_at, RefusesNone, MayRefuse}
use Rattle.resp_link.specs.Call.{Seen}
use Rattle.cluster_routing.specs.Address.{Address}
use Rattle.cluster_calls.specs.Links.World.{Node}
use Rattle.cluster_session.specs.PrintedRun.{PrintsRun}
use Rattle.cluster_session.specs.Session.{Session, Setup}

-- The reads of a link, where the one with this number is to fail: it was not made, and none was refused; it
-- was the last one, and the only one refused; or it was not made, and the bytes ended.
pub data ReadsRefused (number : ℕ) (link : Seen) : Type 0 where
  no_read : link.counts.refused ≡ 0 → RefusesNone (refuses_at number) 0 link.counts.reads
      → ReadsRefused number link
  that_read : link.counts.refused ≡ 1 → MayRefuse (refuses_at number) link.counts.reads
      → ReadsRefused number link
  ended : IsAtEnd link.unread → RefusesNone (refuses_at number) 0 link.counts.reads → ReadsRefused number link

-- The writes, likewise; one that found no room in memory was the last one, and the only one refused.
pub data WritesRefused (number : ℕ) (link : Seen) : Type 0 where
  no_write : link.write_counts.refused ≡ 0 → RefusesNone (refuses_at number) 0 link.write_counts.writes
      → WritesRefused number link
  that_write : link.write_counts.refused ≡ 1 → link.write_counts.no_room ≡ 0
      → MayRefuse (refuses_at number) link.write_counts.writes → WritesRefused number link
  no_room : link.write_counts.refused ≡ 1 → link.write_counts.no_room ≡ 1 → WritesRefused number link

-- the nodes of a session behind its calls, each with its link
abbrev pub RefuseOnlyFaults : List (Address × Setup) → List Node → Type 0
RefuseOnlyFaults [] [] = ⊤
RefuseOnlyFaults (s ∷ ss) (n ∷ ns) =
    (n.address ≡ s.0) × ReadsRefused s.1.failing_read n.link × WritesRefused s.1.failing_write n.link
    × RefuseOnlyFaults ss ns
RefuseOnlyFaults _ _ = ⊥

-- Over each link of a session only the read and the write were refused that its `fault` lines name, or a write
-- for want of room.
abbrev pub OnlyFaults : Type 0
OnlyFaults = (session : Session) (output : List ℕ) (p : PrintsRun session output)
    → RefuseOnlyFaults session.nodes p.after.nodes
