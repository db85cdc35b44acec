-- A command sent to several nodes one after another.
use Rattle.std.specs.Prelude.{◌||◌, IfErr}
use Rattle.std.specs.List.{AllByRecursion}
use Rattle.std.proofs.Common.{◌≡◌, ◌≢◌, ℕ, ◌+◌, Bool, true, false, List, [], ◌∷◌, ◌++◌, map, length, inl, inr, refl, sym, ap, ◌∙◌, subst, append-nil, append_assoc, Result, Ok, Err, arith}
use Rattle.std.proofs.lemmas.List.{map-append}
use Rattle.resp_core.specs.Trees.{Tree}
use Rattle.resp_core.specs.Errors.{Refusal, by_cause}
use Rattle.resp_core.specs.View.{view}
use Rattle.resp_core.specs.declared.value.Value.{Value}
use Rattle.resp_core.specs.declared.errors.redis_error.Cause.TheVariants.{Memory}
use Rattle.cluster_routing.specs.Address.{Address, same_address}
use Rattle.cluster_routing.specs.Lists.{among}
use Rattle.cluster_routing.specs.Policies.{Outcome}
use Rattle.cluster_routing.specs.Seen.{address}
use Rattle.cluster_steps.specs.Requests.{CodeDispatch}
use Rattle.cluster_calls.specs.Links.Request.{Request, requests_to, skipped}
use Rattle.cluster_calls.specs.Links.Log.{Exchange, is_moved_reply}
use Rattle.cluster_calls.specs.Links.World.{World, Node, is_usable, one_reply, tree_result}
use Rattle.cluster_calls.specs.Links.Places.{IsOpenAt}
use Rattle.cluster_calls.specs.Links.Faults.{LinkFault}
use Rattle.cluster_calls.specs.Links.Events.{Event, log_of, exchanges_of, Agrees, is_memory_ending, lack_memory, answered_moved, faults_of, StopsAtMemory}
use Rattle.cluster_calls.specs.Links.Exchanges.{Exchanges}
use Rattle.cluster_calls.specs.Links.Chains.{IsSingle}
use Rattle.cluster_steps.specs.Dispatches.{IsPlaced}
use Rattle.cluster_client.specs.NodeRuns.{NodesAnswered, NodesAsked, outcome_in}
use Rattle.cluster_calls.specs.Calls.Answer.{tree_in}
use Rattle.cluster_calls.specs.Calls.Plan.{Dispatch}
use Rattle.cluster_calls.specs.Calls.Legal.{direct}
use Rattle.cluster_calls.specs.Calls.Replies.{outcome_by, outcomes, reply_error, unless_error}
use Rattle.cluster_calls.proofs.LinkLaws.LinkPlaces.{linked}
use Rattle.cluster_calls.proofs.LinkLaws.LackingLists.{ends-append, lacking}
use Rattle.cluster_calls.proofs.LinkLaws.LinkRuns.{or_parts}
use Rattle.cluster_calls.proofs.LinkLaws.LinkCalls.{leaves}
use Rattle.cluster_calls.proofs.LinkLaws.EventLists.{log-append, exchanges-append, memory-append, stops-had, stops-append}
use Rattle.cluster_calls.proofs.LinkLaws.FaultsAgree.{agrees, Agrees-front, Agrees-back}
use Rattle.cluster_calls.proofs.LinkLaws.Grown.{Keeps, Grown, grown_more, grown_none, grown_one, grown_same}
use Rattle.cluster_calls.proofs.LinkLaws.PartLoop.{place_same, place_within}
use Rattle.cluster_calls.proofs.LinkLaws.OneRequest.{exchanged_one, reply_in, single, OneMade, one_reply_is, one_had_memory, one_fault, single_moved}
use Rattle.cluster_calls.proofs.Lists.{or_none, all-append}
use Rattle.cluster_calls.specs.Links.Lacking.{ends_lacking}

abbrev failed : Refusal → Result (List Outcome) Refusal
failed e = Err e

abbrev no_tree : Refusal → Result Tree Refusal
no_tree e = Err e

-- ---- one node

-- what these link calls come to
nodes_by : (old new : World) (ds : List Dispatch) (result : Result (List Outcome) Refusal) (events : List Event) → Grown old new events → StopsAtMemory events → AllByRecursion IsSingle events → (later : List Request) → log_of events ++ later ≡ map direct ds
    → (result ≢ Err (by_cause Memory) → NodesAnswered ds events result) → (result ≡ Err (by_cause Memory) → events ≢ [] → ends_lacking events ≡ true) → NodesAsked old new ds result
nodes_by old new ds result events g stops single later begins answered room = record { events = events; runs = g.runs; stops = stops; logged = g.logged; single = single; begins = (later, begins); flag = g.flag; entries = g.keeps.entries; settings = g.keeps.settings; picked = g.keeps.picked; answered = answered; room = room }

-- no node was asked, for want of memory
pub nothing_asked : (old new : World) (ds : List Dispatch) → Keeps old new → new.nodes ≡ old.nodes → new.log ≡ old.log → new.needs_refresh ≡ old.needs_refresh → NodesAsked old new ds (Err (by_cause Memory))
nothing_asked old new ds same nodes log flag =
    nodes_by old new ds (Err (by_cause Memory)) [] (grown_same old old new [] (grown_none old) nodes log flag same) tt tt (map direct ds) refl (λ m. absurd (m refl)) (λ lacks some. absurd (some refl))

-- a request without ASKING
pub by_asking : (d : Dispatch) (asking : Bool) → asking ≡ false → record { node = d.node; args = d.args; asking = asking } ≡ direct d
by_asking d asking e = λ i. record { node = d.node; args = d.args; asking = e i }

pub same_reply : (r : Result Tree Refusal) → reply_in r ≡ tree_in r
same_reply (Ok tree) = refl
same_reply (Err refusal) = refl

-- What a reply is as a node's outcome. Want of memory is no outcome.
abbrev pub IsOutcomeOf : Result Tree Refusal → Result Tree Refusal → Type 0
IsOutcomeOf (Ok tree) outcome = outcome ≡ unless_error tree (reply_error tree)
IsOutcomeOf (Err refusal) outcome = (outcome ≡ Err refusal) × (refusal ≢ by_cause Memory)

pub own_outcome : (reply : Result Value Refusal) → IfErr reply (λ e. e ≢ by_cause Memory) → IsOutcomeOf (tree_result view reply) (outcome_in (tree_result view reply))
own_outcome (Ok value) had = refl
own_outcome (Err refusal) had = (refl, had)

-- want of memory is no outcome
had_memory : (reply outcome : Result Tree Refusal) → IsOutcomeOf reply outcome → reply ≢ Err (by_cause Memory)
had_memory (Ok tree) outcome told = λ e. cc e
had_memory (Err refusal) outcome told = λ e. told.1 (let same : refusal ≡ by_cause Memory = cc in same)

-- a reply's outcome is the one that its exchange tells
told_by : (old new : List Node) (q : Request) (reply outcome : Result Tree Refusal) (faults : Address → LinkFault) (o : OneMade old new q reply) → IsOutcomeOf reply outcome → Agrees faults (single q o.taken reply ∷ [])
    → outcome ≡ outcome_by (faults q.node) (reply_in reply)
told_by old new q (Ok tree) outcome faults o told agrees = told
told_by old new q (Err e) outcome faults o told agrees = told.0 ∙ ap no_tree (one_fault old new q e faults o agrees.0)

module _ (old new : World) (d : Dispatch) (same : Keeps old new) (reply : Result Tree Refusal) (flag : new.needs_refresh ≡ (old.needs_refresh || is_moved_reply (tree_in reply))) where
  module _ (o : OneMade old.nodes new.nodes (direct d) reply) (log : new.log ≡ old.log ++ direct d ∷ []) where
    abbrev event : Event
    event = single (direct d) o.taken reply

    moved : answered_moved (event ∷ []) ≡ is_moved_reply (tree_in reply)
    moved = or_none _ ∙ single_moved old.nodes new.nodes (direct d) reply o ∙ ap is_moved_reply (same_reply reply)

    one_asked : (r : Result (List Outcome) Refusal) → (r ≢ Err (by_cause Memory) → NodesAnswered (d ∷ []) (event ∷ []) r) → (r ≡ Err (by_cause Memory) → reply ≡ Err (by_cause Memory)) → NodesAsked old new (d ∷ []) r
    one_asked r answered alike =
        nodes_by old new (d ∷ []) r (event ∷ []) (grown_one old old new [] event (is_moved_reply (tree_in reply)) (grown_none old) o.called log flag moved same) (λ lacks. refl, tt) ((direct d, refl), tt) [] refl answered
        (λ lacks some. lacking (one_reply reply) (ap one_reply (alike lacks)))

    one_told : (outcome : Result Tree Refusal) → IsOutcomeOf reply outcome → NodesAsked old new (d ∷ []) (Ok ((d.node, outcome) ∷ []))
    one_told outcome told = one_asked (Ok ((d.node, outcome) ∷ [])) (λ m.
        let had = had_memory reply outcome told in
        record {
          memory = ap (λ b. b || false) (one_had_memory old.nodes new.nodes (direct d) reply had o);
          sent = refl;
          tells = λ faults agrees place.
              ap (λ r. Ok ((d.node, r) ∷ []))
              (told_by old.nodes new.nodes (direct d) reply outcome faults o told agrees ∙ ap (outcome_by (faults d.node)) (sym (one_reply_is old.nodes new.nodes (direct d) reply o)));
        })
        (λ lacks. cc)

  -- the same from what the code says of its exchange
  module _ (link : ℕ) (at : IsOpenAt old.nodes d.node link) (q : Request) (is : q ≡ direct d) (x : Exchanges old.nodes new.nodes link old.log new.log (q ∷ []) (skipped q.asking) 1 (one_reply reply)) where
    asked : Exchanges old.nodes new.nodes link old.log new.log (direct d ∷ []) (skipped (direct d).asking) 1 (one_reply reply)
    asked = subst (λ p. Exchanges old.nodes new.nodes link old.log new.log (p ∷ []) (skipped p.asking) 1 (one_reply reply)) is x

    none_replied : (r : Result Tree Refusal) → one_reply r ≡ Err (by_cause Memory) → r ≡ Err (by_cause Memory)
    none_replied (Ok tree) e = cc e
    none_replied (Err refusal) e = let same : refusal ≡ by_cause Memory = cc in ap no_tree same

    -- the node has an outcome
    pub node_told : (outcome : Result Tree Refusal) → IsOutcomeOf reply outcome → NodesAsked old new (d ∷ []) (Ok ((d.node, outcome) ∷ []))
    node_told outcome told = elim (exchanged_one old.nodes new.nodes link old.log new.log (direct d) reply at asked) as (λ _. NodesAsked old new (d ∷ []) (Ok ((d.node, outcome) ∷ []))) [
      | inl none ↦ absurd (had_memory reply outcome told (none_replied reply none.2))
      | inr made ↦ one_told made.1 made.0 outcome told
    ]

    -- memory was refused in its exchange
    pub node_lost : reply ≡ Err (by_cause Memory) → NodesAsked old new (d ∷ []) (Err (by_cause Memory))
    node_lost lost = elim (exchanged_one old.nodes new.nodes link old.log new.log (direct d) reply at asked) as (λ _. NodesAsked old new (d ∷ []) (Err (by_cause Memory))) [
      | inl none ↦ nothing_asked old new (d ∷ []) same none.0 none.1
          (flag ∙ ap (λ r. old.needs_refresh || is_moved_reply (tree_in r)) (none_replied reply none.2) ∙ or_none old.needs_refresh)
      | inr made ↦ one_asked made.1 made.0 (Err (by_cause Memory)) (λ m. absurd (m refl)) (λ lacks. lost)
    ]

-- ---- the run

-- what the loop over nodes keeps: those before `rest` were asked, with these outcomes
pub record AskLoop (old now : World) (ds rest : List Dispatch) (os : List Outcome) : Type 0 where
  pub events : List Event
  pub grown : Grown old now events
  pub single : AllByRecursion IsSingle events
  pub memory : lack_memory events ≡ false
  pub sent : log_of events ++ map direct rest ≡ map direct ds
  pub tells : (faults : Address → LinkFault) → Agrees faults events → (place : ℕ) → outcomes faults (exchanges_of place events) ≡ os

pub asks_start : (old : World) (ds : List Dispatch) → AskLoop old old ds ds []
asks_start old ds = record { events = []; grown = grown_none old; single = tt; memory = refl; sent = refl; tells = λ faults agrees place. refl }

pub none_asked : (old : World) (ds : List Dispatch) → NodesAsked old old ds (Err (by_cause Memory))
none_asked old ds = nothing_asked old old ds (record { entries = refl; settings = refl; picked = refl }) refl refl refl

-- all nodes were asked
pub asks_done : (old now : World) (ds : List Dispatch) (os : List Outcome) → AskLoop old now ds [] os → NodesAsked old now ds (Ok os)
asks_done old now ds os l =
    let sent : log_of l.events ≡ map direct ds = sym (append-nil (log_of l.events)) ∙ l.sent in
    nodes_by old now ds (Ok os) l.events l.grown (stops-had l.events l.memory) l.single [] l.sent
    (λ m. record { memory = l.memory; sent = sent; tells = λ faults agrees place. ap (λ all. Ok all) (sym (l.tells faults agrees place)) })
    (λ lacks some. cc)

module _ (old now new : World) (ds : List Dispatch) (d : Dispatch) (rest : List Dispatch) (os : List Outcome) (l : AskLoop old now ds (d ∷ rest) os) where
  module _ (r : Result (List Outcome) Refusal) (m : NodesAsked now new (d ∷ []) r) where
    abbrev more_events : List Event
    more_events = l.events ++ m.events

    grown_here : Grown old new more_events
    grown_here = grown_more old now new l.events m.events l.grown (record { runs = m.runs; logged = m.logged; flag = m.flag; keeps = record { entries = m.entries; settings = m.settings; picked = m.picked } })

    -- these requests of the node, and then those of the later nodes
    sent_more : (later : List Request) → log_of m.events ++ later ≡ direct d ∷ [] → log_of more_events ++ (later ++ map direct rest) ≡ map direct ds
    sent_more later is =
        ap (λ qs. qs ++ (later ++ map direct rest)) (log-append l.events m.events) ∙ append_assoc (log_of l.events) (log_of m.events) (later ++ map direct rest)
        ∙ ap (λ qs. log_of l.events ++ qs) (sym (append_assoc (log_of m.events) later (map direct rest)) ∙ ap (λ qs. qs ++ map direct rest) is) ∙ l.sent

  -- a log that has grown is that of some link calls
  grown_some : (events : List Event) → new.log ≡ now.log ++ log_of events → length new.log ≡ length now.log + 1 → events ≢ []
  grown_some events logged grown none =
      let stays : length new.log ≡ length now.log = ap length (logged ∙ ap (λ xs. now.log ++ log_of xs) none ∙ append-nil now.log) in
      absurd (omega (arith, stays, grown))

  -- memory was refused at the node
  pub asks_refused : (e : Refusal) → NodesAsked now new (d ∷ []) (Err e) → length new.log ≡ length now.log + 1 → NodesAsked old new ds (Err e)
  asks_refused e m grown =
      nodes_by old new ds (Err e) (l.events ++ m.events) (grown_here (Err e) m) (stops-append l.events m.events l.memory m.stops) (all-append IsSingle l.events m.events l.single m.single) (m.begins.0 ++ map direct rest) (sent_more (Err e) m m.begins.0 m.begins.1)
      (λ had.
      let told : failed e ≡ Ok (outcomes (faults_of m.events) (exchanges_of 0 m.events)) = (m.answered had).tells (faults_of m.events) (agrees now.nodes new.nodes m.events m.runs) 0 in
      cc told)
      (λ lacks some. ends-append (λ (x : Event). is_memory_ending x.ending) l.events m.events (m.room lacks (grown_some m.events m.logged grown)))

  -- the node has an outcome
  pub asks_more : (o : Outcome) → NodesAsked now new (d ∷ []) (Ok (o ∷ [])) → AskLoop old new ds rest (os ++ o ∷ [])
  asks_more o m =
      let a = m.answered (λ k. cc k) in
      record {
        events = l.events ++ m.events;
        grown = grown_here (Ok (o ∷ [])) m;
        single = all-append IsSingle l.events m.events l.single m.single;
        memory = memory-append l.events m.events l.memory a.memory;
        sent = sent_more (Ok (o ∷ [])) m [] (append-nil (log_of m.events) ∙ a.sent);
        tells = λ faults agreed place.
            let at = place + length (log_of l.events) in
            let here : o ∷ [] ≡ outcomes faults (exchanges_of at m.events) = let told = a.tells faults (Agrees-back faults l.events m.events agreed) at in cc in
            ap (outcomes faults) (exchanges-append l.events m.events place)
            ∙ map-append (λ (x : Exchange). (x.request.node, outcome_by (faults x.request.node) x.reply)) (exchanges_of place l.events) (exchanges_of at m.events)
            ∙ ap (λ all. all ++ outcomes faults (exchanges_of at m.events)) (l.tells faults (Agrees-front faults l.events m.events agreed) place) ∙ ap (λ all. os ++ all) (sym here);
      }

-- ---- places of other nodes stay

abbrev pub node_of : CodeDispatch → Address
node_of e = address e.to.node

not_to : (a : Address) (d : Dispatch) (log : List Request) → log ≡ direct d ∷ [] → same_address d.node a ≡ false → requests_to a log ≡ []
not_to a d log is ne = ap (requests_to a) is ∙ none
  where
    none : requests_to a (direct d ∷ []) ≡ []
    none = rw ne refl

other_placed : (old new : World) (d : Dispatch) (o : Outcome) → NodesAsked old new (d ∷ []) (Ok (o ∷ [])) → (e : CodeDispatch) → same_address d.node (node_of e) ≡ false → IsPlaced old.nodes e → IsPlaced new.nodes e
other_placed old new d o m e ne p =
    let left = leaves old.nodes new.nodes m.events m.runs in
    let place = place_same new.nodes old.nodes (node_of e) left.addresses ∙ p.place.place in
    record {
      place = record {
        place = place;
        linked = linked new.nodes (node_of e) ∙ ap is_usable (left.unasked (node_of e) (not_to (node_of e) d (log_of m.events) (m.answered (λ k. cc k)).sent ne)) ∙ sym (linked old.nodes (node_of e)) ∙ p.place.linked;
      };
      within = place_within new.nodes (node_of e) e.to.link place;
      direct = p.direct;
    }

pub others_placed : (old new : World) (d : Dispatch) (o : Outcome) → NodesAsked old new (d ∷ []) (Ok (o ∷ [])) → (es : List CodeDispatch) → among same_address d.node (map node_of es) ≡ false
    → AllByRecursion (IsPlaced old.nodes) es → AllByRecursion (IsPlaced new.nodes) es
others_placed old new d o m [] ne p = tt
others_placed old new d o m (e ∷ es) ne p =
    let parts = or_parts (same_address d.node (node_of e)) (among same_address d.node (map node_of es)) ne in
    (other_placed old new d o m e parts.0 p.0, others_placed old new d o m es parts.1 p.1)
