-- Whole runs: calls one after another, and all that was played.
use Rattle.std.proofs.Common.{true, List, [], ◌∷◌, ◌++◌, append-nil, map, None, refl, sym, ap}
use Rattle.std.proofs.lemmas.Bool.{false≢true}
use Rattle.cluster_calls.specs.Links.Events.{Event}
use Rattle.cluster_calls.specs.Links.Play.{Plays, shown_of}
use Rattle.cluster_calls.specs.Links.Run.{CallsMade, IsMovedOut}
use Rattle.cluster_calls.specs.Links.World.{World}
use Rattle.cluster_calls.specs.OneServer.Headline.{PlayedCall}
use Rattle.cluster_calls.proofs.LinkLaws.PlayedRuns.{run_played}
use Rattle.cluster_calls.proofs.WholePlay.OneCall.{IsMade}

-- a call, and then the others
pub and_then : (old mid new : World) (t : PlayedCall) (ts : List PlayedCall) (now later : List Event) → IsMade old mid t now → IsMovedOut mid t → CallsMade None mid new ts later → CallsMade None old new (t ∷ ts) (now ++ later)
and_then old mid new t ts now later made moved others = (mid, later, made.0, ap (λ es. es ++ later) (sym made.1), others, moved)

-- these calls are all that was played
abbrev pub all_played : (old new : World) (ts : List PlayedCall) (events : List Event) → CallsMade None old new ts events → Plays None old new (map (λ (t : PlayedCall). t.call) ts) [] (map shown_of ts) true
all_played old new ts events calls = record {
  run = ts;
  left = [];
  is_run = record { events = events; calls = calls; played = λ had. run_played None old new ts events calls had };
  first = sym (append-nil (map (λ (t : PlayedCall). t.call) ts));
  shown = refl;
  whole = λ yes. refl;
  cut = λ no. absurd (false≢true (sym no));
}
