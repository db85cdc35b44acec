-- Calls played one after another.
use Rattle.std.proofs.Common.{◌≡◌, ◌≢◌, ◌∙◌, Bool, true, false, List, [], ◌∷◌, ◌++◌, map, Option, refl, sym, ap}
use Rattle.std.proofs.lemmas.List.{append-nil}
use Rattle.cluster_routing.specs.Choice.{Strategy}
use Rattle.cluster_calls.specs.Calls.Call.{Call}
use Rattle.cluster_calls.specs.Links.Events.{Event}
use Rattle.cluster_calls.specs.Links.Play.{PlaysOne, Plays, Shown, shown_of}
use Rattle.cluster_calls.specs.Links.Run.{CallsMade}
use Rattle.cluster_calls.specs.Links.World.{World}
use Rattle.cluster_calls.specs.OneServer.Headline.{PlayedCall}
use Rattle.cluster_calls.proofs.LinkLaws.PlayedRuns.{calls_more, is_run}

-- what the loop keeps: the calls so far, and those to come
pub record PlayLoop (strategy : Option Strategy) (old now : World) (calls rest : List Call) (before here : List Shown) : Type 0 where
  pub run : List PlayedCall
  pub events : List Event
  pub made : CallsMade strategy old now run events
  pub first : calls ≡ map (λ (p : PlayedCall). p.call) run ++ rest
  pub shown : here ≡ before ++ map shown_of run

pub play_start : (strategy : Option Strategy) (old : World) (calls : List Call) (before : List Shown) → PlayLoop strategy old old calls calls before before
play_start strategy old calls before = record { run = []; events = []; made = (refl, refl); first = refl; shown = sym (append-nil before) }

pub play_more : (strategy : Option Strategy) (old now new : World) (calls : List Call) (call : Call) (rest : List Call) (before here : List Shown) (played : Shown)
    → PlayLoop strategy old now calls (call ∷ rest) before here → PlaysOne strategy now new call played → PlayLoop strategy old new calls rest before (here ++ played ∷ [])
play_more strategy old now new calls call rest before here played l p =
    let one : PlayedCall = record { call = call; picks = new.picked; answer = played.answer; log = played.log } in
    record {
      run = l.run ++ one ∷ [];
      events = l.events ++ p.made.happened.events;
      made = calls_more strategy old now new l.run one l.events l.made p.made (p.moved, refl);
      first = l.first ∙ split_one l.run one rest;
      shown = ap (λ xs. xs ++ played ∷ []) l.shown ∙ joined before l.run one;
    }
  where
    split_one : (run : List PlayedCall) (one : PlayedCall) (rest : List Call) → map (λ (p : PlayedCall). p.call) run ++ one.call ∷ rest ≡ map (λ (p : PlayedCall). p.call) (run ++ one ∷ []) ++ rest
    split_one [] one rest = refl
    split_one (r ∷ run) one rest = ap (λ cs. r.call ∷ cs) (split_one run one rest)

    joined_run : (run : List PlayedCall) (one : PlayedCall) → map shown_of run ++ shown_of one ∷ [] ≡ map shown_of (run ++ one ∷ [])
    joined_run [] one = refl
    joined_run (r ∷ run) one = ap (λ cs. shown_of r ∷ cs) (joined_run run one)

    joined : (before : List Shown) (run : List PlayedCall) (one : PlayedCall) → (before ++ map shown_of run) ++ shown_of one ∷ [] ≡ before ++ map shown_of (run ++ one ∷ [])
    joined [] run one = joined_run run one
    joined (b ∷ before) run one = ap (λ cs. b ∷ cs) (joined before run one)

pub play_done : (strategy : Option Strategy) (old new : World) (calls rest : List Call) (before after : List Shown) (all : Bool) → PlayLoop strategy old new calls rest before after
    → (all ≡ true → rest ≡ []) → (all ≡ false → rest ≢ []) → Plays strategy old new calls before after all
play_done strategy old new calls rest before after all l whole cut = record {
  run = l.run;
  left = rest;
  is_run = is_run strategy old new l.run l.events l.made;
  first = l.first;
  shown = l.shown;
  whole = whole;
  cut = cut;
}
