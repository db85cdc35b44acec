-- A run is a run before any of its calls, and from there on: so calls before and behind one that lacked
-- memory are played as a reader sees them.
use Rattle.std.specs.Prelude.{◌≡◌, List, ◌++◌, Option}
use Rattle.cluster_routing.specs.Choice.{Strategy}
use Rattle.cluster_calls.specs.Links.Events.{Event, taken_of}
use Rattle.cluster_calls.specs.Links.Run.{CallsMade, HadMemory, RunPlayed}
use Rattle.cluster_calls.specs.Links.World.{World}
use Rattle.cluster_calls.specs.OneServer.Headline.{PlayedCall}

pub record Stretches (strategy : Option Strategy) (old new : World) (ts us : List PlayedCall)
    (events : List Event) : Type 0 where
  pub mid : World
  pub first : List Event
  pub later : List Event
  pub whole : events ≡ first ++ later
  pub before : CallsMade strategy old mid ts first
  pub behind : CallsMade strategy mid new us later
  pub before_played : HadMemory ts → RunPlayed strategy old mid ts (taken_of first)
  pub behind_played : HadMemory us → RunPlayed strategy mid new us (taken_of later)

-- Calls that were made one after another are such calls up to any of them, and from there on. So what is known
-- of a run without want of memory holds of the calls before one that lacked it, and of those behind.
abbrev pub RunsHaveStretches : Type 0
RunsHaveStretches = (strategy : Option Strategy) (old new : World) (ts us : List PlayedCall)
    (events : List Event) → CallsMade strategy old new (ts ++ us) events
    → Stretches strategy old new ts us events
