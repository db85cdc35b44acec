-- A call that asks no strategy is made for every one.
use Rattle.std.proofs.Common.{◌≡◌, Bool, true, false, List, [], Option, Some, None, Result, refl, sym, subst}
use Rattle.std.specs.Prelude.{MatchBool}
use Rattle.resp_core.specs.Errors.{Refusal}
use Rattle.cluster_routing.specs.Address.{Address}
use Rattle.cluster_routing.specs.Choice.{Strategy}
use Rattle.cluster_calls.specs.Calls.Answer.{Answer}
use Rattle.cluster_calls.specs.Calls.Call.{Call, Refresh}
use Rattle.cluster_calls.specs.Calls.Picks.{ArePicks}
use Rattle.cluster_calls.specs.Calls.Plan.{Client}
use Rattle.cluster_calls.specs.Links.Happened.{Happened, CallMade, client_of}
use Rattle.cluster_calls.specs.Links.World.{World, is_linked}
use Rattle.cluster_calls.proofs.LinkLaws.Played.{call_made}

-- a call made with one strategy is made with another that has the same picks
pub with_strategy : (strategy other : Option Strategy) (old new : World) (call : Call) (answer : Result Answer Refusal)
    → (ArePicks strategy (client_of old) call new.picked → ArePicks other (client_of old) call new.picked) → CallMade strategy old new call answer → CallMade other old new call answer
with_strategy strategy other old new call answer same m =
    let h = m.happened in
    let happened : Happened other old new call = record {
      events = h.events;
      runs = h.runs;
      stops = h.stops;
      logged = h.logged;
      calls = h.calls;
      picks = λ some. same (h.picks some);
      begins = h.begins;
      settings = h.settings;
      map_stays = h.map_stays;
      flag = h.flag;
    } in
    call_made other old new call answer happened
    (λ had. let a = m.answered had in record { memory = a.memory; logged = a.logged; picks = same a.picks; legal = a.legal; answered = a.answered; entries = a.entries; flag = a.flag })
    m.memory
    m.unpicked
    m.room

-- a refresh has no picks
no_picks : (strategy : Option Strategy) (client : Client) (node : Address) → ArePicks strategy client (Refresh node) []
no_picks None client node = refl
no_picks (Some admits) client node = (tt, both [] refl (is_linked client.links node))
  where
    both : (picks : List Address) → picks ≡ [] → (b : Bool) → MatchBool b (picks ≡ []) (picks ≡ [])
    both picks e true = e
    both picks e false = e

pub refresh_for_every : (strategy : Option Strategy) (old new : World) (node : Address) (answer : Result Answer Refusal) → new.picked ≡ [] → CallMade None old new (Refresh node) answer → CallMade strategy old new (Refresh node) answer
refresh_for_every strategy old new node answer none m =
    with_strategy None strategy old new (Refresh node) answer (λ k. subst (λ ps. ArePicks strategy (client_of old) (Refresh node) ps) (sym none) (no_picks strategy (client_of old) node)) m
