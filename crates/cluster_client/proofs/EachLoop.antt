-- Groups of requests that all went out: the replies of one after another are taken, whatever became of the others.
use Rattle.std.specs.Prelude.{nat_eq, ◌||◌}
use Rattle.std.specs.List.{list_any, AllByRecursion}
use Rattle.std.proofs.Common.{◌≡◌, ◌<◌, ℕ, ◌+◌, false, List, [], ◌∷◌, ◌++◌, map, length, Some, Result, Ok, Err, refl, sym, ap, ◌∙◌, subst, append-nil, append_assoc, arith}
use Rattle.std.proofs.lemmas.List.{length-map}
use Rattle.resp_core.specs.Trees.{Tree}
use Rattle.resp_core.specs.Errors.{Refusal, by_cause}
use Rattle.resp_core.specs.declared.errors.redis_error.Cause.{Cause}
use Rattle.cluster_routing.specs.Address.{same_address}
use Rattle.cluster_routing.specs.Lists.{concat, IsDistinct}
use Rattle.cluster_calls.specs.Links.Events.{Event, Ending, answers, fails, Runs, log_of, exchanges_at, answered_moved, is_answer_ending}
use Rattle.cluster_calls.specs.Links.Log.{is_moved}
use Rattle.cluster_calls.specs.Links.World.{World, Node, addresses_of, is_usable, link_at}
use Rattle.cluster_steps.specs.AtOnce.{AllSent, AreSent, IsSent}
use Rattle.cluster_steps.specs.GroupRuns.{IsGroupPlaced, group_node, request_lists}
use Rattle.cluster_steps.specs.Groups.{NodeRequests}
use Rattle.cluster_steps.specs.declared.at_once.Sent.{Sent}
use Rattle.cluster_client.specs.Outcomes.{AreKept, EachExchanged, IsKept, ReceivedFrom, moved_in}
use Rattle.cluster_calls.proofs.LinkLaws.EventLists.{log-append, moved-append}
use Rattle.cluster_calls.proofs.LinkLaws.LinkEnds.{ending_of, ending_refusal}
use Rattle.cluster_calls.proofs.LinkLaws.LinkPlaces.{linked, set_other}
use Rattle.cluster_calls.proofs.LinkLaws.LinkRuns.{Runs-snoc, addresses, or_parts}
use Rattle.cluster_calls.proofs.LinkLaws.PartLoop.{place_same}
use Rattle.cluster_calls.proofs.Lists.{or_none, or_assoc}
use Rattle.cluster_steps.proofs.AtOnce.{are_elsewhere, as_result, received_first, sent_more}
use Rattle.cluster_steps.proofs.GroupCalls.{GroupMade, failed_no_answer, group_event, group_made, group_moved, group_replies}
use Rattle.cluster_steps.proofs.PipeGroups.{same_place}
use Rattle.cluster_client.proofs.GroupLoop.{not_asked}

-- what the loop over what went out keeps: those before `rest` are as if they alone had been called, one after another
pub record EachLoop (start now : World) (gs : List NodeRequests) (ss : List Sent) (came : List (Result (List Tree) Cause)) : Type 0 where
  pub served : List NodeRequests
  pub rest : List NodeRequests
  pub all : gs ≡ served ++ rest
  pub nodes : List Node
  pub events : List Event
  pub runs : Runs start.nodes nodes events
  pub sent : log_of events ≡ concat (request_lists served)
  pub kept : AreKept served events came
  pub pending : AreSent nodes now.nodes rest ss
  pub placed : AllByRecursion (IsGroupPlaced nodes) rest
  pub apart : IsDistinct nat_eq (map (λ (g : NodeRequests). g.link) rest)
  pub log : now.log ≡ start.log ++ concat (request_lists gs)
  pub flag : now.needs_refresh ≡ (start.needs_refresh || answered_moved events)
  pub entries : now.entries ≡ start.entries
  pub settings : now.settings ≡ start.settings
  pub picked : now.picked ≡ start.picked

pub each_start : (start now : World) (gs : List NodeRequests) (ss : List Sent) → AllSent start now gs ss → EachLoop start now gs ss []
each_start start now gs ss a = record {
  served = [];
  rest = gs;
  all = refl;
  nodes = start.nodes;
  events = [];
  runs = refl;
  sent = refl;
  kept = tt;
  pending = a.sent;
  placed = a.placed;
  apart = a.apart;
  log = a.log;
  flag = a.flag ∙ sym (or_none start.needs_refresh);
  entries = a.entries;
  settings = a.settings;
  picked = a.picked;
}

-- all were served
pub each_done : (start now : World) (gs : List NodeRequests) (came : List (Result (List Tree) Cause)) → EachLoop start now gs [] came → EachExchanged start now gs came
each_done start now gs came l = by l.rest l.all l.pending
  where
    by : (rest : List NodeRequests) → gs ≡ l.served ++ rest → AreSent l.nodes now.nodes rest [] → EachExchanged start now gs came
    by [] all pending =
        let same : gs ≡ l.served = all ∙ append-nil l.served in
        record {
          events = l.events;
          runs = subst (λ ns. Runs start.nodes ns l.events) (sym pending) l.runs;
          logged = l.log ∙ ap (λ hs. start.log ++ concat (request_lists hs)) same ∙ ap (λ qs. start.log ++ qs) (sym l.sent);
          kept = subst (λ hs. AreKept hs l.events came) (sym same) l.kept;
          flag = l.flag;
          entries = l.entries;
          settings = l.settings;
          picked = l.picked;
        }
    by (g ∷ rest) all pending = absurd pending

-- ---- a group that stands elsewhere stays placed

still_placed : (old mid : List Node) (g h : NodeRequests) (result : Result (List Tree) Refusal) → IsGroupPlaced old g → GroupMade old mid g result → nat_eq g.link h.link ≡ false → IsGroupPlaced old h → IsGroupPlaced mid h
still_placed old mid g h result p m apart q =
    let node = group_node h.requests in
    let x = group_event g m.taken result in
    let same : addresses_of mid ≡ addresses_of old = addresses old mid (x ∷ []) (mid, m.called, refl) in
    let other : same_address x.node node ≡ false = sym (same_place old (group_node g.requests) node g.link h.link p.place.place q.place.place) ∙ apart in
    let stays : link_at mid node ≡ link_at old node = ap (λ ns. link_at ns node) m.called.now ∙ set_other old x.node node m.called.after other in
    record {
      place = record {
        place = place_same mid old node same ∙ q.place.place;
        linked = linked mid node ∙ ap is_usable stays ∙ sym (linked old node) ∙ q.place.linked;
      };
      within = subst (λ n. h.link < n) (sym (length-map old (λ (n : Node). n.address)) ∙ ap length (sym same) ∙ length-map mid (λ (n : Node). n.address)) q.within;
      some = q.some;
      to_node = q.to_node;
      direct = q.direct;
    }

all_still : (old mid : List Node) (g : NodeRequests) (result : Result (List Tree) Refusal) → IsGroupPlaced old g → GroupMade old mid g result → (rest : List NodeRequests) → are_elsewhere g.link rest ≡ false → AllByRecursion (IsGroupPlaced old) rest
    → AllByRecursion (IsGroupPlaced mid) rest
all_still old mid g result p m [] apart q = tt
all_still old mid g result p m (h ∷ rest) apart q =
    let parts = or_parts (nat_eq g.link h.link) (are_elsewhere g.link rest) apart in
    (still_placed old mid g h result p m parts.0 q.0, all_still old mid g result p m rest parts.1 q.1)

-- ---- one more was served

kept_by : (x : Event) (e : Ending) (cause : Cause) → ending_refusal e ≡ Some (by_cause cause) → IsKept x e (Err cause)
kept_by x (answers replies) cause is = cc
kept_by x (fails fault) cause is = cc

is_kept : (old mid : List Node) (g : NodeRequests) (came : Result (List Tree) Cause) → IsGroupPlaced old g → (m : GroupMade old mid g (as_result came)) → let x = group_event g m.taken (as_result came) in IsKept x x.ending came
is_kept old mid g (Ok trees) p m = group_replies old mid g trees p m
is_kept old mid g (Err cause) p m = kept_by (group_event g m.taken (Err (by_cause cause))) (ending_of (Err (by_cause cause))) cause m.told

kept_more : (gs : List NodeRequests) (xs : List Event) (came : List (Result (List Tree) Cause)) (g : NodeRequests) (x : Event) (c : Result (List Tree) Cause) → AreKept gs xs came → x.node ≡ group_node g.requests → x.requests ≡ g.requests → IsKept x x.ending c
    → AreKept (gs ++ g ∷ []) (xs ++ x ∷ []) (came ++ c ∷ [])
kept_more [] [] [] g x c kept node same is = (node, same, is, tt)
kept_more [] [] (d ∷ came) g x c kept node same is = absurd kept
kept_more [] (y ∷ xs) came g x c kept node same is = absurd kept
kept_more (h ∷ gs) [] came g x c kept node same is = absurd kept
kept_more (h ∷ gs) (y ∷ xs) [] g x c kept node same is = absurd kept
kept_more (h ∷ gs) (y ∷ xs) (d ∷ came) g x c kept node same is = (kept.0, kept.1, kept.2, kept_more gs xs came g x c kept.3 node same is)

one_moved : (old mid : List Node) (g : NodeRequests) (came : Result (List Tree) Cause) → IsGroupPlaced old g → (m : GroupMade old mid g (as_result came)) → answered_moved (group_event g m.taken (as_result came) ∷ []) ≡ moved_in came
one_moved old mid g (Ok trees) p m = or_none (list_any is_moved (exchanges_at 0 (group_event g m.taken (Ok trees)))) ∙ group_moved old mid g trees p m
one_moved old mid g (Err cause) p m = not_asked (is_answer_ending (group_event g m.taken (Err (by_cause cause))).ending) _ (failed_no_answer old mid g (by_cause cause) p m)

lists_more : (gs : List NodeRequests) (g : NodeRequests) → concat (request_lists (gs ++ g ∷ [])) ≡ concat (request_lists gs) ++ g.requests
lists_more [] g = append-nil g.requests
lists_more (h ∷ gs) g = ap (λ qs. h.requests ++ qs) (lists_more gs g) ∙ sym (append_assoc h.requests (concat (request_lists gs)) g.requests)

pub each_more : (start now new : World) (gs : List NodeRequests) (s : Sent) (ss : List Sent) (came : List (Result (List Tree) Cause)) (c : Result (List Tree) Cause) → EachLoop start now gs (s ∷ ss) came → ReceivedFrom now new s c → EachLoop start new gs ss (came ++ c ∷ [])
each_more start now new gs s ss came c l r = by l.rest l.all l.pending l.placed l.apart
  where
    by : (rest : List NodeRequests) → gs ≡ l.served ++ rest → AreSent l.nodes now.nodes rest (s ∷ ss) → AllByRecursion (IsGroupPlaced l.nodes) rest → IsDistinct nat_eq (map (λ (g : NodeRequests). g.link) rest) → EachLoop start new gs ss (came ++ c ∷ [])
    by [] all pending placed apart = absurd pending
    by (g ∷ rest) all pending placed apart =
        let first = received_first l.nodes now.nodes new.nodes g rest s ss c apart.0 pending r.received in
        let m = group_made l.nodes first.0 g (as_result c) placed.0 first.1 in
        let x = group_event g m.taken (as_result c) in
        record {
          served = l.served ++ g ∷ [];
          rest = rest;
          all = all ∙ sym (append_assoc l.served (g ∷ []) rest);
          nodes = first.0;
          events = l.events ++ x ∷ [];
          runs = Runs-snoc start.nodes l.nodes first.0 l.events x l.runs m.called;
          sent = log-append l.events (x ∷ []) ∙ ap (λ qs. log_of l.events ++ qs) (append-nil g.requests) ∙ ap (λ qs. qs ++ g.requests) l.sent ∙ sym (lists_more l.served g);
          kept = kept_more l.served l.events came g x c l.kept refl refl (is_kept l.nodes first.0 g c placed.0 m);
          pending = first.2;
          placed = all_still l.nodes first.0 g (as_result c) placed.0 m rest apart.0 placed.1;
          apart = apart.1;
          log = r.log ∙ l.log;
          flag = r.flag ∙ ap (λ b. b || moved_in c) l.flag ∙ sym (or_assoc start.needs_refresh (answered_moved l.events) (moved_in c))
              ∙ ap (λ b. start.needs_refresh || (answered_moved l.events || b)) (sym (one_moved l.nodes first.0 g c placed.0 m)) ∙ ap (λ b. start.needs_refresh || b) (sym (moved-append l.events (x ∷ [])));
          entries = r.entries ∙ l.entries;
          settings = r.settings ∙ l.settings;
          picked = r.picked ∙ l.picked;
        }

-- ---- all go out

-- what the loop that sends keeps: those before `rest` went out
pub record SendLoop (start now : World) (gs rest : List NodeRequests) (ss : List Sent) : Type 0 where
  pub sent_groups : List NodeRequests
  pub all : gs ≡ sent_groups ++ rest
  pub sent : AreSent start.nodes now.nodes sent_groups ss
  pub log : now.log ≡ start.log ++ concat (request_lists sent_groups)
  pub flag : now.needs_refresh ≡ start.needs_refresh
  pub entries : now.entries ≡ start.entries
  pub settings : now.settings ≡ start.settings
  pub picked : now.picked ≡ start.picked

pub send_start : (start : World) (gs : List NodeRequests) → SendLoop start start gs gs []
send_start start gs = record { sent_groups = []; all = refl; sent = refl; log = sym (append-nil start.log); flag = refl; entries = refl; settings = refl; picked = refl }

pub send_more : (start now new : World) (gs : List NodeRequests) (g : NodeRequests) (rest : List NodeRequests) (ss : List Sent) (s : Sent) → SendLoop start now gs (g ∷ rest) ss → IsSent now.nodes new.nodes g s → new.log ≡ now.log ++ g.requests → new.needs_refresh ≡ now.needs_refresh → new.entries ≡ now.entries
    → new.settings ≡ now.settings → new.picked ≡ now.picked → SendLoop start new gs rest (ss ++ s ∷ [])
send_more start now new gs g rest ss s l is log flag entries settings picked = record {
  sent_groups = l.sent_groups ++ g ∷ [];
  all = l.all ∙ sym (append_assoc l.sent_groups (g ∷ []) rest);
  sent = sent_more start.nodes now.nodes new.nodes l.sent_groups ss g s l.sent is;
  log = log ∙ ap (λ qs. qs ++ g.requests) l.log ∙ append_assoc start.log (concat (request_lists l.sent_groups)) g.requests ∙ ap (λ qs. start.log ++ qs) (sym (lists_more l.sent_groups g));
  flag = flag ∙ l.flag;
  entries = entries ∙ l.entries;
  settings = settings ∙ l.settings;
  picked = picked ∙ l.picked;
}

pub send_done : (start now : World) (gs : List NodeRequests) (ss : List Sent) → SendLoop start now gs [] ss → AllByRecursion (IsGroupPlaced start.nodes) gs → IsDistinct nat_eq (map (λ (g : NodeRequests). g.link) gs) → AllSent start now gs ss
send_done start now gs ss l placed apart =
    let same : gs ≡ l.sent_groups = l.all ∙ append-nil l.sent_groups in
    record {
      placed = placed;
      apart = apart;
      sent = subst (λ hs. AreSent start.nodes now.nodes hs ss) (sym same) l.sent;
      log = l.log ∙ ap (λ hs. start.log ++ concat (request_lists hs)) (sym same);
      flag = l.flag;
      entries = l.entries;
      settings = l.settings;
      picked = l.picked;
    }

-- ---- lists that grow

pub all_last : {A : Type 0} (P : A → Type 0) (xs : List A) (x : A) → AllByRecursion P xs → P x → AllByRecursion P (xs ++ x ∷ [])
all_last P [] x h p = (p, tt)
all_last P (y ∷ xs) x h p = (h.0, all_last P xs x h.1 p)

-- a sum of lengths
pub sums : (a b c x y z : ℕ) → a ≡ x → b ≡ y → c ≡ z → x ≡ y + z → a ≡ b + c
sums a b c x y z e f g h = omega (arith, e, f, g, h)
