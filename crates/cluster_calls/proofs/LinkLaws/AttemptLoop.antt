-- The attempts at a transaction, one by one.
use Rattle.std.specs.Prelude.{◌||◌, ◌/◌}
use Rattle.std.specs.List.{AllByRecursion}
use Rattle.std.proofs.Common.{◌≡◌, ◌≢◌, ℕ, suc, ◌+◌, ◌-◌, ◌*◌, ◌<◌, inl, inr, true, false, List, [], ◌∷◌, ◌++◌, map, length, drop, None, Result, Ok, Err, refl, sym, ap, ◌∙◌, subst, append-nil, append_assoc, length-append, arith}
use Rattle.std.proofs.lemmas.Nat.{div-mul-add}
use Rattle.resp_core.specs.Trees.{Tree}
use Rattle.resp_core.specs.Errors.{Refusal, by_cause}
use Rattle.resp_core.specs.declared.errors.redis_error.Cause.TheVariants.{Memory}
use Rattle.resp_link.specs.Replies.{replies_of}
use Rattle.cluster_routing.specs.Address.{Address}
use Rattle.cluster_calls.specs.Calls.Parts.{unless}
use Rattle.cluster_calls.specs.Calls.Plan.{Client}
use Rattle.cluster_calls.specs.Calls.Redirects.{Hop, Next, Stays, Lost, Goes, is_going}
use Rattle.cluster_calls.specs.Calls.Transactions.{attempt, attempt_answer, attempt_count, exec_answers, exec_reply, FollowsAttempts, last_answer, last_attempt, next_attempt, replies_in, sent_answer, size, unless_lost}
use Rattle.cluster_calls.specs.Links.AttemptRuns.{AreAttempts, AttemptsAnswered, AttemptsMade, IsAttempt}
use Rattle.cluster_calls.specs.Links.Events.{Event, log_of, exchanges_at, exchanges_of, is_memory_ending, lack_memory, StopsAtMemory}
use Rattle.cluster_calls.specs.Links.Exchanges.{Exchanges}
use Rattle.cluster_calls.specs.Links.Faults.{LinkFault}
use Rattle.cluster_calls.specs.Links.Happened.{client_of}
use Rattle.cluster_calls.specs.Links.Lacking.{LacksWhere, ends_redirected, is_redirected}
use Rattle.cluster_calls.specs.Links.Log.{Exchange, requests}
use Rattle.cluster_calls.specs.Links.Places.{IsOpenAt}
use Rattle.cluster_calls.specs.Links.Request.{Request, skipped}
use Rattle.cluster_calls.specs.Links.World.{World, Node, open_links}
use Rattle.cluster_calls.proofs.LinkLaws.EventLists.{exchanged, exchanges-append, log-append, memory-append, stops-append, stops-had, stops-one}
use Rattle.cluster_calls.proofs.LinkLaws.FaultsAgree.{Agrees-last}
use Rattle.cluster_calls.proofs.LinkLaws.LackingLists.{attempt_redirected, ends-snoc, lacking}
use Rattle.cluster_calls.proofs.LinkLaws.AttemptCalls.{AttemptMade, answered_heard, attempt_exchanged, attempt_fault, attempt_had_memory, attempt_moved, attempt_open, attempt_to, called_event, failed_few, heard, last_lost, lost_told, moved_in, none_lost}
use Rattle.cluster_calls.proofs.LinkLaws.Grown.{Keeps, Grown, grown_none, grown_one, grown_same}
use Rattle.cluster_calls.proofs.Lists.{or_none, all-snoc}
use Rattle.cluster_calls.proofs.LogLaws.Attempts.{attempt_ends, attempt_goes, attempt_length, lost_stays, requests_length, size_of}
use Rattle.cluster_calls.proofs.LogLaws.ExecAnswers.{goes_unanswered, lost_unanswered, none_unanswered}
use Rattle.cluster_calls.proofs.LogLaws.Sizes.{drop_all}

-- ---- an attempt without replies

abbrev pub unanswered : List Request → List Exchange
unanswered qs = map (λ (q : Request). record { request = q; place = 0; reply = None }) qs

unanswered_requests : (qs : List Request) → requests (unanswered qs) ≡ qs
unanswered_requests [] = refl
unanswered_requests (q ∷ qs) = ap (λ r. q ∷ r) (unanswered_requests qs)

unanswered_exec : (qs : List Request) → exec_reply (replies_in (unanswered qs)) ≡ None
unanswered_exec [] = refl
unanswered_exec (q ∷ []) = refl
unanswered_exec (q ∷ r ∷ qs) = unanswered_exec (r ∷ qs)

pub unanswered_ends : (links : List Address) (redirects : ℕ) (hop : Hop) (commands : List (List (List ℕ))) → FollowsAttempts links redirects hop commands (unanswered (attempt hop commands))
unanswered_ends links redirects hop commands =
    let qs = attempt hop commands in
    attempt_ends links redirects hop commands (unanswered qs) (unanswered_requests qs) (ap is_going (lost_stays links redirects (replies_in (unanswered qs)) (unanswered_exec qs)))

-- some exchanges go on from an attempt, whatever its replies are
abbrev Continues : List Address → ℕ → Hop → List (List (List ℕ)) → List Exchange → Type 0
Continues links redirects hop commands xs = (later : List Exchange) × FollowsAttempts links redirects hop commands (xs ++ later)

continues_by : (links : List Address) (redirects : ℕ) (hop : Hop) (commands : List (List (List ℕ))) (xs : List Exchange) → requests xs ≡ attempt hop commands → (n : Next) → next_attempt links redirects (replies_in xs) ≡ n → Continues links redirects hop commands xs
continues_by links redirects hop commands xs own Stays is = ([], subst (λ ys. FollowsAttempts links redirects hop commands ys) (sym (append-nil xs)) (attempt_ends links redirects hop commands xs own (ap is_going is)))
continues_by links redirects hop commands xs own Lost is = ([], subst (λ ys. FollowsAttempts links redirects hop commands ys) (sym (append-nil xs)) (attempt_ends links redirects hop commands xs own (ap is_going is)))
continues_by links redirects hop commands xs own (Goes next) is = (unanswered (attempt next commands), attempt_goes links redirects hop next commands xs (unanswered (attempt next commands)) own is (unanswered_ends links (redirects - 1) next commands))

-- ---- the last attempt in a log

last_count : (k n whole : ℕ) → 0 < n → whole ≡ k * n + n → whole / n ≡ suc k
last_count k n whole some is =
    let more : k * n + n ≡ suc k * n + 0 = omega arith in
    ap (λ m. m / n) (is ∙ more) ∙ div-mul-add (suc k) n 0 some

last_there : (xs ys : List Exchange) (n : ℕ) → length ys ≡ n → drop (length (xs ++ ys) - n) (xs ++ ys) ≡ ys
last_there xs ys n e =
    let l : length (xs ++ ys) ≡ length xs + length ys = length-append xs ys in
    let k : length (xs ++ ys) - n ≡ length xs = omega (arith, l, e) in
    ap (λ m. drop m (xs ++ ys)) k ∙ drop_all (length xs) xs ys refl

answer_told : (client : Client) (faults : Address → LinkFault) (commands : List (List (List ℕ))) (xs ys : List Exchange) (k redirects : ℕ) → length ys ≡ size commands → length xs ≡ k * size commands → k + redirects ≡ client.settings.budget
    → sent_answer client faults commands (xs ++ ys) ≡ last_answer client.links faults redirects ys
answer_told client faults commands xs ys k redirects own before budget =
    let l : length (xs ++ ys) ≡ length xs + length ys = length-append xs ys in
    let some : 0 < size commands = omega arith in
    let whole : length (xs ++ ys) ≡ k * size commands + size commands = omega (arith, l, own, before) in
    let count : attempt_count commands (xs ++ ys) ≡ suc k = last_count k (size commands) (length (xs ++ ys)) some whole in
    let still : suc client.settings.budget - attempt_count commands (xs ++ ys) ≡ redirects = omega (arith, count, budget) in
    ap (λ m. last_answer client.links faults m (last_attempt commands (xs ++ ys))) still ∙ ap (last_answer client.links faults redirects) (last_there xs ys (size commands) own)

-- ---- the loop

length-exchanges : (p : ℕ) (xs : List Event) → length (exchanges_of p xs) ≡ length (log_of xs)
length-exchanges p xs = sym (requests_length (exchanges_of p xs)) ∙ ap length (exchanged xs p)

abbrev pub Leads : Client → Hop → List (List (List ℕ)) → List Exchange → ℕ → Hop → Type 0
Leads client first commands so_far redirects hop = (more : List Exchange) → FollowsAttempts client.links redirects hop commands more → AreAttempts client first commands (so_far ++ more)

-- what the loop of attempts keeps
pub record Loop (old now : World) (commands : List (List (List ℕ))) (first : Hop) (redirects : ℕ) (hop : Hop) (link : ℕ) : Type 0 where
  pub events : List Event
  pub count : ℕ
  pub grown : Grown old now events
  pub attempts : AllByRecursion (IsAttempt commands) events
  pub memory : lack_memory events ≡ false
  pub leads : (p : ℕ) → Leads (client_of old) first commands (exchanges_of p events) redirects hop
  pub unanswered : (p : ℕ) → exec_answers (replies_in (last_attempt commands (exchanges_of p events))) ≡ false
  pub counted : length (log_of events) ≡ count * size commands
  pub budget : count + redirects ≡ old.settings.budget
  pub sent_on : events ≢ [] → ends_redirected (client_of old).links events ≡ true
  pub at : IsOpenAt now.nodes hop.node link
  pub opens : open_links now.nodes ≡ open_links old.nodes

pub loop_start : (old : World) (commands : List (List (List ℕ))) (hop : Hop) (link : ℕ) → IsOpenAt old.nodes hop.node link → Loop old old commands hop old.settings.budget hop link
loop_start old commands hop link at = record {
  events = [];
  count = 0;
  grown = grown_none old;
  attempts = tt;
  memory = refl;
  leads = λ p more h. h;
  unanswered = λ p. none_unanswered commands;
  counted = omega arith;
  budget = omega arith;
  sent_on = λ some. absurd (some refl);
  at = at;
  opens = refl;
}

abbrev pub failed_by : Refusal → Result Tree Refusal
failed_by e = Err e

-- what these link calls come to
attempts_by : (old new : World) (first : Hop) (commands : List (List (List ℕ))) (reply : Result Tree Refusal) (events : List Event) → Grown old new events → AllByRecursion (IsAttempt commands) events → StopsAtMemory events
    → ((p : ℕ) → (later : List Exchange) × AreAttempts (client_of old) first commands (exchanges_of p events ++ later)) → (reply ≢ Err (by_cause Memory) → AttemptsAnswered old first commands events reply)
    → (reply ≡ Err (by_cause Memory) → (events ≢ [] → LacksWhere (client_of old).links events ((p : ℕ) → AreAttempts (client_of old) first commands (exchanges_of p events))) × ((p : ℕ) → exec_answers (replies_in (last_attempt commands (exchanges_of p events))) ≡ false))
    → AttemptsMade old new first commands reply
attempts_by old new first commands reply events g attempts stops begins answered lacking = record { events = events; runs = g.runs; attempts = attempts; stops = stops; logged = g.logged; begins = begins; flag = g.flag; entries = g.keeps.entries; settings = g.keeps.settings; picked = g.keeps.picked; answered = answered; room = λ lacks some. (lacking lacks).0 some; unanswered = λ lacks. (lacking lacks).1 }

module _ (old now new : World) (commands : List (List (List ℕ))) (first : Hop) (redirects : ℕ) (hop : Hop) (link : ℕ) (l : Loop old now commands first redirects hop link) (same : Keeps now new) where
  -- nothing more was done, for want of memory
  pub loop_ended : new.nodes ≡ now.nodes → new.log ≡ now.log → new.needs_refresh ≡ now.needs_refresh → AttemptsMade old new first commands (Err (by_cause Memory))
  loop_ended ns log flag =
      attempts_by old new first commands (Err (by_cause Memory)) l.events (grown_same old now new l.events l.grown ns log flag same) l.attempts (stops-had l.events l.memory)
      (λ p. (unanswered (attempt hop commands), l.leads p _ (unanswered_ends (client_of old).links redirects hop commands))) (λ m. absurd (m refl)) (λ lacks. (λ some. inr (inl (l.sent_on some)), l.unanswered))

  -- one more link call
  module _ (result : Result (List Tree) Refusal) (o : AttemptMade now.nodes new.nodes hop commands result) (log : new.log ≡ now.log ++ attempt hop commands)
      (flag : new.needs_refresh ≡ (now.needs_refresh || moved_in result)) where
    abbrev call : Event
    call = called_event hop commands o.taken result

    abbrev more_events : List Event
    more_events = l.events ++ call ∷ []

    -- its exchanges, behind those of the attempts before
    abbrev last : ℕ → List Exchange
    last p = exchanges_at (p + length (log_of l.events)) call

    snoc : (p : ℕ) → exchanges_of p more_events ≡ exchanges_of p l.events ++ last p
    snoc p = exchanges-append l.events (call ∷ []) p ∙ ap (λ ys. exchanges_of p l.events ++ ys) (append-nil (last p))

    own : (p : ℕ) → requests (last p) ≡ attempt hop commands
    own p = sym (ap requests (append-nil (last p))) ∙ exchanged (call ∷ []) (p + length (log_of l.events)) ∙ append-nil (attempt hop commands)

    last_is : (p : ℕ) → last_attempt commands (exchanges_of p more_events) ≡ last p
    last_is p = ap (last_attempt commands) (snoc p) ∙ last_there (exchanges_of p l.events) (last p) (size commands) (attempt_length hop commands (last p) (own p))

    log_more : log_of more_events ≡ log_of l.events ++ attempt hop commands
    log_more = log-append l.events (call ∷ []) ∙ ap (λ qs. log_of l.events ++ qs) (append-nil (attempt hop commands))

    grown_here : Grown old new more_events
    grown_here = grown_one old now new l.events call (moved_in result) l.grown o.called log flag (or_none _ ∙ attempt_moved now.nodes new.nodes hop commands result o) same

    attempts_more : AllByRecursion (IsAttempt commands) more_events
    attempts_more = all-snoc (IsAttempt commands) l.events call l.attempts (hop, refl)

    -- the attempts began so, whatever the replies were
    begins_more : (p : ℕ) → (later : List Exchange) × AreAttempts (client_of old) first commands (exchanges_of p more_events ++ later)
    begins_more p =
        let links = (client_of old).links in
        let go = continues_by links redirects hop commands (last p) (own p) (next_attempt links redirects (replies_in (last p))) refl in
        (go.0, rw (snoc p, append_assoc) (l.leads p (last p ++ go.0) go.1))

    -- the attempts ended behind this link call
    pub loop_made : (outcome : Result Tree Refusal) → (outcome ≢ Err (by_cause Memory) → AttemptsAnswered old first commands more_events outcome)
        → (outcome ≡ Err (by_cause Memory) → LacksWhere (client_of old).links more_events ((p : ℕ) → AreAttempts (client_of old) first commands (exchanges_of p more_events)))
        → (outcome ≡ Err (by_cause Memory) → (p : ℕ) → exec_answers (replies_in (last p)) ≡ false) → AttemptsMade old new first commands outcome
    loop_made outcome answered room unanswered =
        attempts_by old new first commands outcome more_events grown_here attempts_more (stops-append l.events (call ∷ []) l.memory (stops-one call)) begins_more answered
        (λ lacks. (λ some. room lacks, λ p. ap (λ xs. exec_answers (replies_in xs)) (last_is p) ∙ unanswered lacks p))

    module _ (m : result ≢ Err (by_cause Memory)) where
      memory_more : lack_memory more_events ≡ false
      memory_more = memory-append l.events (call ∷ []) l.memory (ap (λ b. b || false) (attempt_had_memory now.nodes new.nodes hop commands result m o))

      stops_here : (p : ℕ) → is_going (next_attempt (client_of old).links redirects (replies_in (last p))) ≡ false → AreAttempts (client_of old) first commands (exchanges_of p more_events)
      stops_here p stays = rw (snoc p) (l.leads p (last p) (attempt_ends (client_of old).links redirects hop commands (last p) (own p) stays))

      told_here : (faults : Address → LinkFault) (p : ℕ) → sent_answer (client_of old) faults commands (exchanges_of p more_events) ≡ last_answer (client_of old).links faults redirects (last p)
      told_here faults p =
          ap (sent_answer (client_of old) faults commands) (snoc p)
          ∙ answer_told (client_of old) faults commands (exchanges_of p l.events) (last p) l.count redirects (attempt_length hop commands (last p) (own p)) (length-exchanges p l.events ∙ l.counted) l.budget

  -- a refused link call
  loop_failed : (e : Refusal) (o : AttemptMade now.nodes new.nodes hop commands (Err e)) → new.log ≡ now.log ++ attempt hop commands → new.needs_refresh ≡ now.needs_refresh → AttemptsMade old new first commands (Err e)
  loop_failed e o log flag =
      let flag' = flag ∙ sym (or_none now.needs_refresh) in
      loop_made (Err e) o log flag' (Err e) (λ m.
      let had : e ≢ by_cause Memory = λ k. m (ap (λ r. Err r) k) in
      let few = failed_few now.nodes new.nodes hop commands e o in
      let x = called_event hop commands o.taken (Err e) in
      record {
        memory = memory_more (Err e) o log flag' (λ k. had (refusal_same k));
        follows = λ p. stops_here (Err e) o log flag' (λ k. had (refusal_same k)) p (ap is_going (lost_stays (client_of old).links redirects (replies_in (last (Err e) o log flag' p)) (last_lost (attempt hop commands) (replies_of o.taken) (p + length (log_of l.events)) few)));
        tells = λ faults agrees p.
            ap failed_by (attempt_fault now.nodes new.nodes hop commands e faults o (Agrees-last faults l.events x agrees))
            ∙ ap (λ why. unless why (unless_lost (next_attempt (client_of old).links redirects (replies_in (last (Err e) o log flag' p))) (attempt_answer (replies_in (last (Err e) o log flag' p))))) (sym (lost_told faults hop.node (attempt hop commands) (replies_of o.taken) (p + length (log_of l.events)) (attempt_to hop commands) few))
            ∙ sym (told_here (Err e) o log flag' (λ k. had (refusal_same k)) faults p);
      })
      (λ lacks. inl (ends-snoc (λ (y : Event). is_memory_ending y.ending) l.events (called_event hop commands o.taken (Err e)) (lacking (Err e) (let memory : e ≡ by_cause Memory = cc in ap lists_failed memory))))
      (λ lacks p. lost_unanswered (replies_in (last (Err e) o log flag' p)) (last_lost (attempt hop commands) (replies_of o.taken) (p + length (log_of l.events)) (failed_few now.nodes new.nodes hop commands e o)))
    where
      lists_failed : Refusal → Result (List Tree) Refusal
      lists_failed a = Err a

      refusal_same : {a b : Refusal} → lists_failed a ≡ lists_failed b → a ≡ b
      refusal_same k = cc

  module _ (trees : List Tree) (o : AttemptMade now.nodes new.nodes hop commands (Ok trees)) (log : new.log ≡ now.log ++ attempt hop commands)
      (flag : new.needs_refresh ≡ (now.needs_refresh || moved_in (Ok trees))) where
    opens_more : open_links new.nodes ≡ open_links old.nodes
    opens_more = attempt_open now.nodes new.nodes hop commands trees o ∙ l.opens

    here : (p : ℕ) → replies_in (last (Ok trees) o log flag p) ≡ heard trees
    here p = answered_heard now.nodes new.nodes hop commands trees o (p + length (log_of l.events))

    next_here : (p : ℕ) → next_attempt (open_links old.nodes) redirects (replies_in (last (Ok trees) o log flag p)) ≡ next_attempt (open_links new.nodes) redirects (heard trees)
    next_here p = ap (next_attempt (open_links old.nodes) redirects) (here p) ∙ ap (λ ls. next_attempt ls redirects (heard trees)) (sym opens_more)

    -- where they send the transaction on, one of them does
    redirected : (next : Hop) → next_attempt (open_links new.nodes) redirects (heard trees) ≡ Goes next → ends_redirected (client_of old).links (more_events (Ok trees) o log flag) ≡ true
    redirected next go =
        let links = open_links old.nodes in
        let x = called_event hop commands o.taken (Ok trees) in
        ends-snoc (is_redirected links) l.events x
        (attempt_redirected links redirects (exchanges_at 0 x) (heard trees) (Goes next) (answered_heard now.nodes new.nodes hop commands trees o 0) (ap (λ ls. next_attempt ls redirects (heard trees)) (sym opens_more) ∙ go) refl)

    lacks_by : (n : Next) → next_attempt (open_links new.nodes) redirects (heard trees) ≡ n
        → LacksWhere (client_of old).links (more_events (Ok trees) o log flag) ((p : ℕ) → AreAttempts (client_of old) first commands (exchanges_of p (more_events (Ok trees) o log flag)))
    lacks_by Stays is = inr (inr (λ p. stops_here (Ok trees) o log flag (λ k. cc k) p (ap is_going (next_here p ∙ is))))
    lacks_by Lost is = inr (inr (λ p. stops_here (Ok trees) o log flag (λ k. cc k) p (ap is_going (next_here p ∙ is))))
    lacks_by (Goes next) is = inr (inl (redirected next is))

    -- the replies make the answer, or refuse the transaction; or memory was refused behind them
    pub loop_answered : (outcome : Result Tree Refusal) → (outcome ≢ Err (by_cause Memory) → (is_going (next_attempt (open_links new.nodes) redirects (heard trees)) ≡ false)
        × (outcome ≡ unless_lost (next_attempt (open_links new.nodes) redirects (heard trees)) (attempt_answer (heard trees)))) → (outcome ≡ Err (by_cause Memory) → exec_answers (heard trees) ≡ false) → AttemptsMade old new first commands outcome
    loop_answered outcome why unanswered = loop_made (Ok trees) o log flag outcome (λ m.
        let told = why m in
        record {
          memory = memory_more (Ok trees) o log flag (λ k. cc k);
          follows = λ p. stops_here (Ok trees) o log flag (λ k. cc k) p (ap is_going (next_here p) ∙ told.0);
          tells = λ faults agrees p.
              told.1 ∙ ap (λ n. unless_lost n (attempt_answer (heard trees))) (sym (next_here p))
              ∙ ap (λ rs. unless_lost (next_attempt (open_links old.nodes) redirects (replies_in (last (Ok trees) o log flag p))) (attempt_answer rs)) (sym (here p))
              ∙ ap (λ why. unless why (unless_lost (next_attempt (open_links old.nodes) redirects (replies_in (last (Ok trees) o log flag p))) (attempt_answer (replies_in (last (Ok trees) o log flag p))))) (sym (none_lost faults (last (Ok trees) o log flag p) trees (here p)))
              ∙ sym (told_here (Ok trees) o log flag (λ k. cc k) faults p);
        })
        (λ lacks. lacks_by (next_attempt (open_links new.nodes) redirects (heard trees)) refl)
        (λ lacks p. ap exec_answers (here p) ∙ unanswered lacks)

    -- the transaction goes on, whole
    pub loop_more : (next : Hop) (place : ℕ) → next_attempt (open_links new.nodes) redirects (heard trees) ≡ Goes next → redirects ≢ 0 → IsOpenAt new.nodes next.node place → Loop old new commands first (redirects - 1) next place
    loop_more next place go some at =
        let size' : length (log_of (more_events (Ok trees) o log flag)) ≡ length (log_of l.events) + length (attempt hop commands) = ap length (log_more (Ok trees) o log flag) ∙ length-append (log_of l.events) (attempt hop commands) in
        let one : length (attempt hop commands) ≡ size commands = size_of hop commands in
        let c = l.counted in
        let b = l.budget in
        let more_sized : suc l.count * size commands ≡ l.count * size commands + size commands = omega arith in
        record {
          events = more_events (Ok trees) o log flag;
          count = suc l.count;
          grown = grown_here (Ok trees) o log flag;
          attempts = attempts_more (Ok trees) o log flag;
          memory = memory_more (Ok trees) o log flag (λ k. cc k);
          leads = λ p more h. rw (snoc (Ok trees) o log flag p, append_assoc) (l.leads p (last (Ok trees) o log flag p ++ more) (attempt_goes (client_of old).links redirects hop next commands (last (Ok trees) o log flag p) more (own (Ok trees) o log flag p) (next_here p ∙ go) h));
          unanswered = λ p. ap (λ xs. exec_answers (replies_in xs)) (last_is (Ok trees) o log flag p) ∙ ap exec_answers (here p) ∙ goes_unanswered (open_links new.nodes) redirects (heard trees) next go;
          counted = omega (arith, size', one, c, more_sized);
          budget = omega (arith, b, some);
          sent_on = λ any. redirected next go;
          at = at;
          opens = opens_more;
        }

-- ---- the same from what the code says of an exchange

module _ (old now new : World) (commands : List (List (List ℕ))) (first : Hop) (redirects : ℕ) (hop : Hop) (link : ℕ) (l : Loop old now commands first redirects hop link) (same : Keeps now new) where
  abbrev pub Exchanged : Result (List Tree) Refusal → Type 0
  Exchanged result = Exchanges now.nodes new.nodes link now.log new.log (attempt hop commands) (skipped hop.asking) (size commands) result

  pub loop_err : (e : Refusal) → Exchanged (Err e) → new.needs_refresh ≡ now.needs_refresh → AttemptsMade old new first commands (Err e)
  loop_err e x flag = elim (attempt_exchanged now.nodes new.nodes link now.log new.log hop commands (Err e) l.at x) as (λ _. AttemptsMade old new first commands (Err e)) [
    | inl none ↦ let memory : by_cause Memory ≡ e = cc (none.2) in subst (λ k. AttemptsMade old new first commands (Err k)) memory (loop_ended old now new commands first redirects hop link l same none.0 none.1 flag)
    | inr made ↦ loop_failed old now new commands first redirects hop link l same e made.1 made.0 flag
  ]

-- an answered exchange
pub loop_ok : {old now : World} {commands : List (List (List ℕ))} {first : Hop} {redirects : ℕ} {hop : Hop} {link : ℕ} → Loop old now commands first redirects hop link → (nodes : List Node) (log : List Request) (trees : List Tree)
    → Exchanges now.nodes nodes link now.log log (attempt hop commands) (skipped hop.asking) (size commands) (Ok trees) → (log ≡ now.log ++ attempt hop commands) × AttemptMade now.nodes nodes hop commands (Ok trees)
loop_ok {now = now} {commands = commands} {hop = hop} {link = link} l nodes log trees x =
    elim (attempt_exchanged now.nodes nodes link now.log log hop commands (Ok trees) l.at x) as (λ _. (log ≡ now.log ++ attempt hop commands) × AttemptMade now.nodes nodes hop commands (Ok trees)) [
      | inl none ↦ cc (none.2)
      | inr made ↦ made
    ]
