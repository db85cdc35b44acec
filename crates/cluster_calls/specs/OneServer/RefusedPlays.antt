-- Where and as what each call that `play` made is refused: from what `play` promises, want of memory aside.
use Rattle.std.specs.Prelude.{◌≡◌, ◌≢◌, Bool, List, [], ◌∷◌, Option, Err, ⊤}
use Rattle.resp_core.specs.Errors.{by_cause}
use Rattle.resp_core.specs.declared.errors.redis_error.Cause.TheVariants.{Memory}
use Rattle.cluster_routing.specs.Choice.{Strategy}
use Rattle.cluster_calls.specs.Links.Events.{Event, taken_of, faults_of}
use Rattle.cluster_calls.specs.Links.Happened.{client_of, log_with_replies}
use Rattle.cluster_calls.specs.Links.Play.{Plays, Shown}
use Rattle.cluster_calls.specs.Links.Run.{CallsMade, HadMemory}
use Rattle.cluster_calls.specs.Links.World.{World}
use Rattle.cluster_calls.specs.Calls.Answer.{kind}
use Rattle.cluster_calls.specs.Calls.Call.{Call}
use Rattle.cluster_calls.specs.Calls.Plan.{Client}
use Rattle.cluster_calls.specs.Calls.Refusals.{refusal_in}
use Rattle.cluster_calls.specs.OneServer.Headline.{PlayedCall, RefusedByKind}
use Rattle.cluster_calls.specs.OneServer.Played.{replied}

-- the call is refused exactly where and as its kind says, by what its link calls took and by the faults that
-- they met
abbrev pub IsRefusedByKind : Client → List Event → PlayedCall → Type 0
IsRefusedByKind client events t =
    t.answer ≢ Err (by_cause Memory)
    → refusal_in t.answer
    ≡ kind client t.picks (faults_of events) t.call (log_with_replies (taken_of events) t.log)

-- each call of a run, from the client where the ones before left it
abbrev pub AreRefusedByKind : (strategy : Option Strategy) (old new : World) (ts : List PlayedCall)
    (events : List Event)
    → CallsMade strategy old new ts events → Type 0
AreRefusedByKind strategy old new [] events made = ⊤
AreRefusedByKind strategy old new (t ∷ ts) events made =
    IsRefusedByKind (client_of old) made.2.happened.events t
    × AreRefusedByKind strategy made.0 new ts made.1 made.4

-- The calls that `play` made, also where others of them lacked memory; and where none did, in the words of
-- the whole run.
abbrev pub PlaysAreRefused : Type 0
PlaysAreRefused = (strategy : Option Strategy) (old new : World) (calls : List Call)
    (before after : List Shown) (all : Bool)
    (p : Plays strategy old new calls before after all)
    → AreRefusedByKind strategy old new p.run p.is_run.events p.is_run.calls
    × ((had : HadMemory p.run) → RefusedByKind (client_of old) (p.is_run.played had).faults (replied p))
