-- Groups of requests, one link call after another.
use Rattle.std.specs.Prelude.{◌||◌, ◌&&◌}
use Rattle.std.specs.List.{list_any}
use Rattle.std.proofs.Common.{◌≡◌, ◌≢◌, ◌<◌, ℕ, ◌+◌, Bool, true, false, List, [], ◌∷◌, ◌++◌, map, length, Option, Some, Result, Ok, Err, refl, sym, ap, ◌∙◌, subst, inl, inr, append-nil, append_assoc, arith}
use Rattle.std.proofs.lemmas.List.{length-map, map-append, nil_from_length}
use Rattle.resp_core.specs.Trees.{Tree}
use Rattle.resp_core.specs.Errors.{Refusal, by_cause}
use Rattle.resp_core.specs.declared.errors.redis_error.Cause.TheVariants.{Memory}
use Rattle.resp_link.specs.Replies.{replies_of}
use Rattle.cluster_routing.specs.Address.{Address}
use Rattle.cluster_routing.specs.Lists.{concat}
use Rattle.cluster_calls.specs.Links.Log.{Exchange, is_moved}
use Rattle.cluster_calls.specs.Links.World.{World, Node, addresses_of, is_linked, open_links}
use Rattle.cluster_calls.specs.Links.Events.{Event, LinkCalled, log_of, exchanges_at, exchanges_of, is_answer_ending, is_memory_ending, lack_memory, answered_moved, StopsAtMemory}
use Rattle.cluster_steps.specs.Groups.{NodeRequests}
use Rattle.cluster_steps.specs.GroupRuns.{is_moved_tree, GroupExchanged, group_node, IsGroupPlaced, request_lists, group_nodes, GroupByGroup, GroupsMade, GroupsAnswered}
use Rattle.cluster_calls.specs.Calls.Refusals.{pipeline_refusal}
use Rattle.cluster_calls.proofs.LinkLaws.LinkRuns.{addresses}
use Rattle.cluster_calls.proofs.LinkLaws.EventLists.{log-append, exchanged, exchanges-append, memory-append, stops-had, stops-append, stops-one}
use Rattle.cluster_calls.proofs.LinkLaws.FaultsAgree.{Agrees-last}
use Rattle.cluster_calls.proofs.LinkLaws.Grown.{Grown, Keeps, grown_none, grown_one}
use Rattle.cluster_calls.proofs.LinkLaws.LackingLists.{ends-snoc, lacking}
use Rattle.cluster_calls.proofs.LinkLaws.PartLoop.{place_same}
use Rattle.cluster_calls.proofs.LinkLaws.PipeErrors.{refused_behind}
use Rattle.cluster_calls.proofs.Lists.{or_none}
use Rattle.cluster_calls.specs.Links.Lacking.{ends_lacking}
use Rattle.cluster_steps.proofs.GroupCalls.{paired_requests, all_replied, group_more, group_ends, some_groups, group_extends, group_event, GroupMade, exchanged_group, group_replies, group_replied, group_moved, group_opens, failed_no_answer, failed_memory, failed_lost, failed_refusal}

abbrev replies_in : List Exchange → List (Option Tree)
replies_in xs = map (λ (x : Exchange). x.reply) xs

abbrev trees_in : List (ℕ × List Tree) → List (List Tree)
trees_in answers = map (λ (a : ℕ × List Tree). a.1) answers

abbrev somes : List Tree → List (Option Tree)
somes trees = map (λ tree. Some tree) trees

-- what the loop over groups keeps: those before `rest` were answered so
pub record GroupLoop (old now : World) (gs rest : List NodeRequests) (answers : List (ℕ × List Tree)) : Type 0 where
  pub events : List Event
  pub grown : Grown old now events
  pub memory : lack_memory events ≡ false
  pub leads : (p : ℕ) (more : List Exchange) → GroupByGroup (request_lists rest) more → GroupByGroup (request_lists gs) (exchanges_of p events ++ more)
  pub in_order : map (λ (x : Event). x.node) events ++ group_nodes rest ≡ group_nodes gs
  pub places : map (λ (a : ℕ × List Tree). a.0) answers ++ map (λ (g : NodeRequests). g.link) rest ≡ map (λ (g : NodeRequests). g.link) gs
  pub counts : map (λ (a : ℕ × List Tree). length a.1) answers ++ map (λ (g : NodeRequests). length g.requests) rest ≡ map (λ (g : NodeRequests). length g.requests) gs
  pub sent : log_of events ++ concat (request_lists rest) ≡ concat (request_lists gs)
  pub replied : (p : ℕ) → replies_in (exchanges_of p events) ≡ somes (concat (trees_in answers))
  pub opens : open_links now.nodes ≡ open_links old.nodes

abbrev pub groups_start : (old : World) (gs : List NodeRequests) → GroupLoop old old gs gs []
groups_start old gs = record { events = []; grown = grown_none old; memory = refl; leads = λ p more h. h; in_order = refl; places = refl; counts = refl; sent = refl; replied = λ p. refl; opens = refl }

-- ---- the ends

abbrev all_refused : Refusal → Result (List (ℕ × List Tree)) Refusal
all_refused e = Err e

abbrev one_refused : Refusal → Result (List Tree) Refusal
one_refused e = Err e

pub answers_had : (answers : List (ℕ × List Tree)) → Ok answers ≡ all_refused (by_cause Memory) → ⊥
answers_had answers e = cc

pub group_lacks : (refusal : Refusal) → all_refused refusal ≡ all_refused (by_cause Memory) → one_refused refusal ≡ one_refused (by_cause Memory)
group_lacks refusal e = let same : refusal ≡ by_cause Memory = cc in ap one_refused same

-- what these link calls come to
abbrev groups_by : (old new : World) (gs : List NodeRequests) (result : Result (List (ℕ × List Tree)) Refusal) (events : List Event) → Grown old new events → StopsAtMemory events → (unasked : List Address) → map (λ (x : Event). x.node) events ++ unasked ≡ group_nodes gs
    → ((p : ℕ) → (later : List Exchange) × GroupByGroup (request_lists gs) (exchanges_of p events ++ later)) → (result ≢ Err (by_cause Memory) → GroupsAnswered gs events result) → (result ≡ Err (by_cause Memory) → events ≢ [] → ends_lacking events ≡ true) → GroupsMade old new gs result
groups_by old new gs result events g stops unasked in_order begins answered room = record { events = events; runs = g.runs; stops = stops; logged = g.logged; unasked = unasked; in_order = in_order; begins = begins; flag = g.flag; entries = g.keeps.entries; settings = g.keeps.settings; picked = g.keeps.picked; answered = answered; room = room }

-- nothing was done, for want of memory
pub groups_unsent : (old : World) (gs : List NodeRequests) → GroupsMade old old gs (Err (by_cause Memory))
groups_unsent old gs = groups_by old old gs (Err (by_cause Memory)) [] (grown_none old) tt (group_nodes gs) refl (λ p. some_groups (request_lists gs)) (λ m. absurd (m refl)) (λ lacks some. absurd (some refl))

abbrev pub groups_done : (old now : World) (gs : List NodeRequests) (answers : List (ℕ × List Tree)) → GroupLoop old now gs [] answers → GroupsMade old now gs (Ok answers)
groups_done old now gs answers l = groups_by old now gs (Ok answers) l.events l.grown (stops-had l.events l.memory) [] l.in_order (λ p. ([], l.leads p [] refl)) (λ m. record {
  memory = l.memory;
  whole = λ p. subst (λ xs. GroupByGroup (request_lists gs) xs) (append-nil (exchanges_of p l.events)) (l.leads p [] refl);
  tells = λ faults agrees p. (sym (append-nil (map (λ (a : ℕ × List Tree). a.0) answers)) ∙ l.places, sym (append-nil (map (λ (a : ℕ × List Tree). length a.1) answers)) ∙ l.counts, exchanged l.events p ∙ sym (append-nil (log_of l.events)) ∙ l.sent, l.replied p);
})
    (λ lacks some. absurd (answers_had answers lacks))

-- ---- one more group

pub concat_last : (xss : List (List Tree)) (xs : List Tree) → concat (xss ++ xs ∷ []) ≡ concat xss ++ xs
concat_last [] xs = append-nil xs
concat_last (ys ∷ xss) xs = ap (λ r. ys ++ r) (concat_last xss xs) ∙ sym (append_assoc ys (concat xss) xs)

pub not_asked : (b c : Bool) → b ≡ false → ((b && c) || false) ≡ false
not_asked b c e = rw e refl

module _ (old now new : World) (gs : List NodeRequests) (g : NodeRequests) (rest : List NodeRequests) (answers : List (ℕ × List Tree)) (l : GroupLoop old now gs (g ∷ rest) answers) (p : IsGroupPlaced now.nodes g) where
  abbrev at : ℕ → ℕ
  at place = place + length (log_of l.events)

  module _ (x : Event) (called : LinkCalled now.nodes new.nodes x) (log : new.log ≡ now.log ++ x.requests) (node : x.node ≡ group_node g.requests) where
    abbrev more_events : List Event
    more_events = l.events ++ x ∷ []

    pub both : (place : ℕ) → exchanges_of place more_events ≡ exchanges_of place l.events ++ exchanges_at (at place) x
    both place = exchanges-append l.events (x ∷ []) place ∙ ap (λ xs. exchanges_of place l.events ++ xs) (append-nil (exchanges_at (at place) x))

    pub order_more : map (λ (y : Event). y.node) more_events ++ group_nodes rest ≡ group_nodes gs
    order_more =
        ap (λ ns. ns ++ group_nodes rest) (map-append (λ (y : Event). y.node) l.events (x ∷ []))
        ∙ append_assoc (map (λ (y : Event). y.node) l.events) (x.node ∷ []) (group_nodes rest)
        ∙ ap (λ n. map (λ (y : Event). y.node) l.events ++ n ∷ group_nodes rest) node ∙ l.in_order

    pub grown_here : (moved : Bool) → new.needs_refresh ≡ (now.needs_refresh || moved) → answered_moved (x ∷ []) ≡ moved → Keeps now new → Grown old new more_events
    grown_here moved e is same = grown_one old now new l.events x moved l.grown called log e is same

  -- it was answered
  abbrev pub answered_more : (trees : List Tree) → GroupExchanged now new g.link g.requests (Ok trees) → new.log ≡ now.log ++ g.requests → GroupMade now.nodes new.nodes g (Ok trees) → GroupLoop old new gs rest (answers ++ (g.link, trees) ∷ [])
  answered_more trees e log m =
      let x = group_event g m.taken (Ok trees) in
      let joined = both x m.called log refl in
      record {
        events = l.events ++ x ∷ [];
        grown = grown_here x m.called log refl (list_any is_moved_tree trees) e.flag (or_none (list_any is_moved (exchanges_at 0 x)) ∙ group_moved now.nodes new.nodes g trees p m) (record { entries = e.entries; settings = e.settings; picked = e.picked });
        memory = memory-append l.events (x ∷ []) l.memory refl;
        leads = λ place later h. subst (λ xs. GroupByGroup (request_lists gs) xs) (sym (append_assoc (exchanges_of place l.events) (exchanges_at (at place) x) later) ∙ ap (λ xs. xs ++ later) (sym (joined place)))
            (l.leads place (exchanges_at (at place) x ++ later)
            (group_more g.requests (request_lists rest) (exchanges_at (at place) x) later (paired_requests (replies_of m.taken) (at place) g.requests) (group_replied now.nodes new.nodes g trees p m (at place)) h));
        in_order = order_more x m.called log refl;
        places = ap (λ ns. ns ++ map (λ (h : NodeRequests). h.link) rest) (map-append (λ (a : ℕ × List Tree). a.0) answers ((g.link, trees) ∷ [])) ∙ append_assoc (map (λ (a : ℕ × List Tree). a.0) answers) (g.link ∷ []) (map (λ (h : NodeRequests). h.link) rest) ∙ l.places;
        counts = ap (λ ns. ns ++ map (λ (h : NodeRequests). length h.requests) rest) (map-append (λ (a : ℕ × List Tree). length a.1) answers ((g.link, trees) ∷ [])) ∙ append_assoc (map (λ (a : ℕ × List Tree). length a.1) answers) (length trees ∷ []) (map (λ (h : NodeRequests). length h.requests) rest)
            ∙ ap (λ n. map (λ (a : ℕ × List Tree). length a.1) answers ++ n ∷ map (λ (h : NodeRequests). length h.requests) rest) m.told.1 ∙ l.counts;
        sent = ap (λ qs. qs ++ concat (request_lists rest)) (log-append l.events (x ∷ []) ∙ ap (λ qs. log_of l.events ++ qs) (append-nil g.requests)) ∙ append_assoc (log_of l.events) g.requests (concat (request_lists rest)) ∙ l.sent;
        replied = λ place.
            ap replies_in (joined place) ∙ map-append (λ (y : Exchange). y.reply) (exchanges_of place l.events) (exchanges_at (at place) x)
            ∙ ap (λ rs. rs ++ replies_in (exchanges_at (at place) x)) (l.replied place)
            ∙ ap (λ rs. somes (concat (trees_in answers)) ++ rs) (group_replies now.nodes new.nodes g trees p m (at place))
            ∙ sym (map-append (λ tree. Some tree) (concat (trees_in answers)) trees) ∙ ap somes (sym (concat_last (trees_in answers) trees))
            ∙ ap (λ tss. somes (concat tss)) (sym (map-append (λ (a : ℕ × List Tree). a.1) answers ((g.link, trees) ∷ [])));
        opens = group_opens now.nodes new.nodes g trees p m ∙ l.opens;
      }

  pub groups_more : (trees : List Tree) → GroupExchanged now new g.link g.requests (Ok trees) → GroupLoop old new gs rest (answers ++ (g.link, trees) ∷ [])
  groups_more trees e = elim (exchanged_group now.nodes new.nodes now.log new.log g (Ok trees) p e.exchange) as (λ _. GroupLoop old new gs rest (answers ++ (g.link, trees) ∷ [])) [
    | inl same ↦ cc (same.2)
    | inr made ↦ answered_more trees e made.0 made.1
  ]

  -- it was not
  abbrev pub failed_made : (refusal : Refusal) → GroupExchanged now new g.link g.requests (Err refusal) → new.log ≡ now.log ++ g.requests → GroupMade now.nodes new.nodes g (Err refusal) → GroupsMade old new gs (Err refusal)
  failed_made refusal e log m =
      let x = group_event g m.taken (Err refusal) in
      let joined = both x m.called log refl in
      let here = λ (place : ℕ). paired_requests (replies_of m.taken) (at place) g.requests in
      let moved = not_asked (is_answer_ending x.ending) _ (failed_no_answer now.nodes new.nodes g refusal p m) in
      groups_by old new gs (Err refusal) (l.events ++ x ∷ []) (grown_here x m.called log refl false e.flag moved (record { entries = e.entries; settings = e.settings; picked = e.picked })) (stops-append l.events (x ∷ []) l.memory (stops-one x)) (group_nodes rest) (order_more x m.called log refl)
      (λ place.
      let more = group_extends g.requests (request_lists rest) (exchanges_at (at place) x) (here place) in (
        more.0,
        subst (λ xs. GroupByGroup (request_lists gs) xs) (sym (append_assoc (exchanges_of place l.events) (exchanges_at (at place) x) more.0) ∙ ap (λ xs. xs ++ more.0) (sym (joined place)))
            (l.leads place (exchanges_at (at place) x ++ more.0) more.1),
      ))
      (λ had.
      let some : refusal ≢ by_cause Memory = λ k. had (ap Err k) in
      record {
        memory = memory-append l.events (x ∷ []) l.memory (ap (λ b. b || false) (failed_memory now.nodes new.nodes g refusal p m some));
        whole = λ place. subst (λ xs. GroupByGroup (request_lists gs) xs) (sym (joined place))
            (l.leads place (exchanges_at (at place) x) (group_ends g.requests (request_lists rest) (exchanges_at (at place) x) (here place) (failed_lost now.nodes new.nodes g refusal p m (at place))));
        tells = λ faults agreed place errors.
            ap (λ xs. pipeline_refusal faults xs errors) (joined place)
            ∙ refused_behind faults (exchanges_of place l.events) (exchanges_at (at place) x) errors (all_replied (exchanges_of place l.events) (concat (trees_in answers)) (l.replied place))
            ∙ failed_refusal now.nodes new.nodes g refusal p m faults (Agrees-last faults l.events x agreed) (at place) errors;
      })
      (λ lacks some. ends-snoc (λ (y : Event). is_memory_ending y.ending) l.events x (lacking (Err refusal) (group_lacks refusal lacks)))

  -- the log has its requests, whatever became of them
  unsent_none : (n : ℕ) → n ≡ n + length g.requests → g.requests ≡ []
  unsent_none n e = nil_from_length g.requests (omega (arith, e))

  pub groups_failed : (refusal : Refusal) → GroupExchanged now new g.link g.requests (Err refusal) → length new.log ≡ length now.log + length g.requests → GroupsMade old new gs (Err refusal)
  groups_failed refusal e grown = elim (exchanged_group now.nodes new.nodes now.log new.log g (Err refusal) p e.exchange) as (λ _. GroupsMade old new gs (Err refusal)) [
    | inl same ↦ absurd (p.some (unsent_none (length now.log) (sym (ap length same.1) ∙ grown)))
    | inr made ↦ failed_made refusal e made.0 made.1
  ]

-- ---- places stay where they were

-- a group that was placed before is so behind those that were answered
pub still_grouped : {old now : World} {gs rest : List NodeRequests} {answers : List (ℕ × List Tree)} → GroupLoop old now gs rest answers → (g : NodeRequests) → IsGroupPlaced old.nodes g → IsGroupPlaced now.nodes g
still_grouped {old = old} {now = now} l g q =
    let same : addresses_of now.nodes ≡ addresses_of old.nodes = addresses old.nodes now.nodes l.events l.grown.runs in
    record {
      place = record {
        place = place_same now.nodes old.nodes (group_node g.requests) same ∙ q.place.place;
        linked = ap (λ links. is_linked links (group_node g.requests)) l.opens ∙ q.place.linked;
      };
      within = subst (λ n. g.link < n) (sym (length-map old.nodes (λ (n : Node). n.address)) ∙ ap length (sym same) ∙ length-map now.nodes (λ (n : Node). n.address)) q.within;
      some = q.some;
      to_node = q.to_node;
      direct = q.direct;
    }
