-- What `play` and a call may not do behind their last step: leave a log, forget picks, be refused with
-- nothing left out, go on without memory.
use Rattle.std.specs.Prelude.{◌≡◌, false, List, [], ◌∷◌, ◌++◌, Option, codes, pos, refl}
use Rattle.std.proofs.Common.{sym, subst}
use Rattle.resp_core.specs.Trees.{int}
use Rattle.cluster_routing.specs.Choice.{Strategy}
use Rattle.cluster_routing.specs.Examples.{first_node as n1, second_node as n2}
use Rattle.cluster_calls.specs.Calls.Call.{Call}
use Rattle.cluster_calls.specs.Links.Events.{Event, answers, fails, StopsAtMemory}
use Rattle.cluster_calls.specs.Links.Faults.{no_memory}
use Rattle.cluster_calls.specs.Links.Play.{Plays, Shown}
use Rattle.cluster_calls.specs.Links.Run.{CallsMade, IsMovedOut}
use Rattle.cluster_calls.specs.Links.World.{World}
use Rattle.cluster_calls.specs.OneServer.Headline.{PlayedCall}
use Rattle.cluster_calls.specs.WholeCalls.Base.{plain}
use Rattle.cluster_calls.specs.WholeCalls.SeveralNodes.{word}

-- behind a run the client's log is empty, and its picks are the last call's
pub the_last_is_moved_out : (strategy : Option Strategy) (old new : World) (ts : List PlayedCall)
    (t : PlayedCall) (events : List Event) → CallsMade strategy old new (ts ++ t ∷ []) events
    → IsMovedOut new t
the_last_is_moved_out strategy old new [] t events h = subst (λ w. IsMovedOut w t) (sym h.4.0) h.5
the_last_is_moved_out strategy old new (u ∷ ts) t events h =
    the_last_is_moved_out strategy h.0 new ts t h.1 h.4

-- a run of no calls changes nothing, its log and picks too
pub no_calls_change_nothing : (strategy : Option Strategy) (old new : World) (events : List Event)
    → CallsMade strategy old new [] events → new ≡ old
no_calls_change_nothing strategy old new events h = h.0

-- all calls are not made and refused all the same
pub all_made_is_not_refused : (strategy : Option Strategy) (old new : World) (calls : List Call)
    (before after : List Shown) (p : Plays strategy old new calls before after false) → p.left ≡ [] → ⊥
all_made_is_not_refused strategy old new calls before after p none = p.cut refl none

-- the second node asked behind a first that lacked memory
abbrev pub both_asked : List Event
both_asked =
    record { node = n1; requests = plain n1 (word (codes "DBSIZE")) ∷ []; taken = []; ending = fails no_memory }
    ∷ record {
      node = n2;
      requests = plain n2 (word (codes "DBSIZE")) ∷ [];
      taken = int (pos 4) ∷ [];
      ending = answers (int (pos 4) ∷ []);
    }
    ∷ []

pub a_fan_out_stops_there : StopsAtMemory both_asked → ⊥
a_fan_out_stops_there s = let e = s.0 refl in cc
