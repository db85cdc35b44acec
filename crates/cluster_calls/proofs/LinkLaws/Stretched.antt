-- A run is a run before any of its calls, and from there on.
use Rattle.std.proofs.Common.{◌∙◌, List, [], ◌∷◌, ◌++◌, Option, refl, sym, ap, append_assoc}
use Rattle.cluster_routing.specs.Choice.{Strategy}
use Rattle.cluster_calls.specs.Links.Events.{Event}
use Rattle.cluster_calls.specs.Links.Run.{CallsMade}
use Rattle.cluster_calls.specs.Links.World.{World}
use Rattle.cluster_calls.specs.OneServer.Headline.{PlayedCall}
use Rattle.cluster_calls.specs.OneServer.Stretches.{Stretches}
use Rattle.cluster_calls.proofs.LinkLaws.PlayedRuns.{run_played}

pub stretches : (strategy : Option Strategy) (old new : World) (ts us : List PlayedCall) (events : List Event) → CallsMade strategy old new (ts ++ us) events → Stretches strategy old new ts us events
stretches strategy old new [] us events made = record {
  mid = old;
  first = [];
  later = events;
  whole = refl;
  before = (refl, refl);
  behind = made;
  before_played = λ had. run_played strategy old old [] [] (refl, refl) had;
  behind_played = λ had. run_played strategy old new us events made had;
}
stretches strategy old new (t ∷ ts) us events made =
    let r = stretches strategy made.0 new ts us made.1 made.4 in
    let now = made.2.happened.events in
    let before : CallsMade strategy old r.mid (t ∷ ts) (now ++ r.first) = (made.0, r.first, made.2, refl, r.before, made.5) in
    record {
      mid = r.mid;
      first = now ++ r.first;
      later = r.later;
      whole = made.3 ∙ ap (λ xs. now ++ xs) r.whole ∙ sym (append_assoc now r.first r.later);
      before = before;
      behind = r.behind;
      before_played = λ had. run_played strategy old r.mid (t ∷ ts) (now ++ r.first) before had;
      behind_played = r.behind_played;
    }
