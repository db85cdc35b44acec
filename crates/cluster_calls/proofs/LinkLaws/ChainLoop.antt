-- A part's chain, request by request.
use Rattle.std.specs.Prelude.{slice_get, slice_index_or, filter, ◌||◌, ◌==◌}
use Rattle.std.specs.List.{list_any, AllByRecursion}
use Rattle.std.proofs.Common.{◌≡◌, ◌≢◌, ℕ, suc, ◌+◌, ◌-◌, ◌<◌, inl, inr, Bool, true, false, cond, List, [], ◌∷◌, ◌++◌, map, Option, Some, None, option_and_then, refl, sym, ap, ◌∙◌, subst, append_assoc, length, Result, Ok, Err, arith}
use Rattle.std.proofs.lemmas.Bool.{false≢true}
use Rattle.std.proofs.lemmas.List.Elements.{filter-append}
use Rattle.std.proofs.lemmas.List.Folds.{list_any-append}
use Rattle.resp_core.specs.Trees.{Tree}
use Rattle.resp_core.specs.Errors.{Refusal, by_cause}
use Rattle.resp_core.specs.declared.errors.redis_error.Cause.TheVariants.{Memory}
use Rattle.resp_link.specs.Replies.{replies_of}
use Rattle.cluster_routing.specs.Address.{Address}
use Rattle.cluster_calls.specs.Links.Request.{Request, skipped}
use Rattle.cluster_calls.specs.Links.Reply.{sort_of}
use Rattle.cluster_calls.specs.Links.Log.{Exchange, is_answered, is_data, is_moved_sort, last_of, behind_answers}
use Rattle.cluster_calls.specs.Links.World.{World, Node, open_links, one_reply}
use Rattle.cluster_calls.specs.Links.Places.{IsOpenAt}
use Rattle.cluster_calls.specs.Links.Faults.{refusal_by_fault}
use Rattle.cluster_calls.specs.Links.Events.{Event, log_of, exchanges_of, is_memory_ending, lack_memory}
use Rattle.cluster_calls.specs.Links.Exchanges.{Exchanges}
use Rattle.cluster_calls.specs.Links.Happened.{client_of}
use Rattle.cluster_calls.specs.Links.Chains.{IsSingle, IsChain, IsUnanswered, ChainAnswered, ChainMade}
use Rattle.cluster_calls.specs.Links.Lacking.{LacksWhere, is_redirected}
use Rattle.cluster_calls.specs.Calls.Plan.{Client}
use Rattle.cluster_calls.specs.Calls.Redirects.{Hop, Next, Stays, Lost, Goes, is_going, MatchNext, next_of, reply_next, request_of, FollowsRedirects}
use Rattle.cluster_calls.specs.Calls.Replies.{reply_or_nil}
use Rattle.cluster_calls.specs.Calls.Refusals.{stop_refusal, last_refusal}
use Rattle.cluster_calls.proofs.LinkLaws.EventLists.{log-append, exchanges-append, memory-append, exchanged, stops-append, stops-one}
use Rattle.cluster_calls.proofs.LinkLaws.FaultsAgree.{Agrees-last}
use Rattle.cluster_calls.proofs.LinkLaws.Grown.{Grown, Keeps, grown_none, grown_one}
use Rattle.cluster_calls.proofs.LinkLaws.LackingLists.{ends-snoc, going_reply, lacking}
use Rattle.cluster_calls.proofs.LogLaws.Repeats.{redirect_reply, redirect_no_data}
use Rattle.cluster_calls.proofs.LinkLaws.OneRequest.{exchanged_one, reply_in, single, OneMade, one_reply_is, one_had_memory, one_fault, one_moved, single_moved, still_open}
use Rattle.cluster_calls.proofs.Lists.{all-snoc, length-snoc, or_none}

-- ---- lists

last-snoc : {X : Type 0} (xs : List X) (x : X) → last_of (xs ++ x ∷ []) ≡ Some x
last-snoc [] x = refl
last-snoc (y ∷ []) x = refl
last-snoc (y ∷ z ∷ xs) x = last-snoc (z ∷ xs) x

filter-none_by : (x : Exchange) (xs : List Exchange) (b : Bool) → is_answered x ≡ b → (b || list_any is_answered xs) ≡ false → (list_any is_answered xs ≡ false → filter is_answered xs ≡ []) → filter is_answered (x ∷ xs) ≡ []
filter-none_by x xs true e h f = absurd (false≢true (sym h))
filter-none_by x xs false e h f = rw e (f h)

pub filter-none : (xs : List Exchange) → list_any is_answered xs ≡ false → filter is_answered xs ≡ []
filter-none [] h = refl
filter-none (x ∷ xs) h = filter-none_by x xs (is_answered x) refl h (λ k. filter-none xs k)

any-last : (xs : List Exchange) (x : Exchange) → is_answered x ≡ true → list_any is_answered (xs ++ x ∷ []) ≡ true
any-last [] x e = ap (λ b. b || false) e
any-last (y ∷ xs) x e = ap (λ b. is_answered y || b) (any-last xs x e) ∙ or_true (is_answered y)
  where
    or_true : (b : Bool) → (b || true) ≡ true
    or_true true = refl
    or_true false = refl

behind-last : (xs : List Exchange) (x : Exchange) → is_answered x ≡ true → behind_answers (xs ++ x ∷ []) ≡ []
behind-last [] x e = ap (λ b. cond (b || false) (behind_answers []) (x ∷ [])) e
behind-last (y ∷ xs) x e = ap (λ b. cond b (behind_answers (xs ++ x ∷ [])) (y ∷ (xs ++ x ∷ []))) (any-last (y ∷ xs) x e) ∙ behind-last xs x e

-- ---- exchanges

-- the exchange of one more request, with this reply
abbrev pub next_exchange : ℕ → List Event → Request → Option Tree → Exchange
next_exchange p events q reply = record { request = q; place = p + length (log_of events); reply = reply }

one_exchange : (p : ℕ) (q : Request) (taken : List Tree) (result : Result Tree Refusal) → exchanges_of p (single q taken result ∷ []) ≡ record { request = q; place = p; reply = slice_get (replies_of taken) (skipped q.asking) } ∷ []
one_exchange p q taken result = refl

exchanges-snoc : (p : ℕ) (xs : List Event) (q : Request) (taken : List Tree) (result : Result Tree Refusal) (reply : Option Tree) → slice_get (replies_of taken) (skipped q.asking) ≡ reply
    → exchanges_of p (xs ++ single q taken result ∷ []) ≡ exchanges_of p xs ++ next_exchange p xs q reply ∷ []
exchanges-snoc p xs q taken result reply r =
    exchanges-append xs (single q taken result ∷ []) p
    ∙ ap (λ t. exchanges_of p xs ++ record { request = q; place = p + length (log_of xs); reply = t } ∷ []) r

length-exchanges : (p : ℕ) (xs : List Event) → length (exchanges_of p xs) ≡ length (log_of xs)
length-exchanges p xs = sym (requests_length (exchanges_of p xs)) ∙ ap length (exchanged xs p)
  where
    requests_length : (ys : List Exchange) → length (map (λ (x : Exchange). x.request) ys) ≡ length ys
    requests_length [] = refl
    requests_length (y ∷ ys) = ap suc (requests_length ys)

-- ---- the chain

abbrev Ends : Exchange → List Exchange → Type 0
Ends last behind = behind ≡ []

abbrev pub Leads : Client → Hop → List (List ℕ) → List Exchange → ℕ → Hop → Type 0
Leads client first args so_far redirects hop = (more : List Exchange) → FollowsRedirects client.links redirects hop args Ends more → IsChain client first args (so_far ++ more)

stopped : (n : Next) → is_going n ≡ false → (F : Hop → Type 0) (xs : List Exchange) → xs ≡ [] → MatchNext n (xs ≡ []) F
stopped Stays h F xs e = e
stopped Lost h F xs e = e
stopped (Goes hop) h F xs e = cc

same_cond : (b : Bool) (x : Next) → cond b x x ≡ x
same_cond true x = refl
same_cond false x = refl

pub next_none : (links : List Address) (redirects : ℕ) → next_of links redirects None ≡ Stays
next_none links redirects = same_cond (redirects == 0) Stays

-- some exchanges go on from a reply, whatever it is: one more without a reply where it is followed
abbrev Continues : List Address → ℕ → List (List ℕ) → Next → Type 0
Continues links redirects args n = (later : List Exchange) × MatchNext n (later ≡ []) (λ next. FollowsRedirects links (redirects - 1) next args Ends later)

unanswered_ends : (links : List Address) (redirects : ℕ) (hop : Hop) (args : List (List ℕ)) → FollowsRedirects links redirects hop args Ends (record { request = request_of hop args; place = 0; reply = None } ∷ [])
unanswered_ends links redirects hop args = (refl, rw (next_none links redirects) refl)

goes_anyhow : (links : List Address) (redirects : ℕ) (args : List (List ℕ)) (n : Next) → Continues links redirects args n
goes_anyhow links redirects args Stays = ([], refl)
goes_anyhow links redirects args Lost = ([], refl)
goes_anyhow links redirects args (Goes next) = (record { request = request_of next args; place = 0; reply = None } ∷ [], unanswered_ends links (redirects - 1) next args)

-- what the loop of a chain keeps
pub record Loop (old now : World) (args : List (List ℕ)) (first : Hop) (redirects : ℕ) (hop : Hop) (link : ℕ) : Type 0 where
  pub events : List Event
  pub grown : Grown old now events
  pub one_each : AllByRecursion IsSingle events
  pub memory : lack_memory events ≡ false
  pub leads : (p : ℕ) → Leads (client_of old) first args (exchanges_of p events) redirects hop
  pub unanswered : (p : ℕ) → list_any is_answered (exchanges_of p events) ≡ false
  pub count : length (log_of events) + redirects ≡ old.settings.budget
  pub at : IsOpenAt now.nodes hop.node link
  pub opens : open_links now.nodes ≡ open_links old.nodes

pub loop_start : (old : World) (args : List (List ℕ)) (hop : Hop) (link : ℕ) → IsOpenAt old.nodes hop.node link → Loop old old args hop old.settings.budget hop link
loop_start old args hop link at = record { events = []; grown = grown_none old; one_each = tt; memory = refl; leads = λ p more h. h; unanswered = λ p. refl; count = omega arith; at = at; opens = refl }

abbrev pub failed_by : Refusal → Result Tree Refusal
failed_by e = Err e

module _ (old now new : World) (args : List (List ℕ)) (first : Hop) (redirects : ℕ) (hop : Hop) (link : ℕ) (l : Loop old now args first redirects hop link) (same : Keeps now new) where
  -- one more link call
  module _ (result : Result Tree Refusal) (o : OneMade now.nodes new.nodes (request_of hop args) result) (log : new.log ≡ now.log ++ request_of hop args ∷ [])
      (flag : new.needs_refresh ≡ (now.needs_refresh || one_moved result)) where
    abbrev more_events : List Event
    more_events = l.events ++ single (request_of hop args) o.taken result ∷ []

    grown_here : Grown old new more_events
    grown_here = grown_one old now new l.events (single (request_of hop args) o.taken result) (one_moved result) l.grown o.called log flag (or_none _ ∙ single_moved now.nodes new.nodes (request_of hop args) result o) same

    -- the chain began so, whatever the reply was
    begins_more : (p : ℕ) → (later : List Exchange) × IsChain (client_of old) first args (exchanges_of p more_events ++ later)
    begins_more p =
        let reply = slice_get (replies_of o.taken) (skipped hop.asking) in
        let x = next_exchange p l.events (request_of hop args) reply in
        let go = goes_anyhow (client_of old).links redirects args (next_of (client_of old).links redirects reply) in
        (go.0, rw (exchanges-snoc p l.events (request_of hop args) o.taken result reply refl, append_assoc) (l.leads p (x ∷ go.0) (refl, go.1)))

    -- the chain ended behind this link call
    pub chain_made : (outcome : Result Tree Refusal) → (outcome ≢ Err (by_cause Memory) → ChainAnswered old new first args more_events outcome)
        → (outcome ≡ Err (by_cause Memory) → LacksWhere (client_of old).links more_events ((p : ℕ) → IsUnanswered (client_of old) first args (exchanges_of p more_events)))
        → (outcome ≡ Err (by_cause Memory) → (p : ℕ) → list_any is_answered (exchanges_of p more_events) ≡ false) → ChainMade old new first args outcome
    chain_made outcome answered room unanswered =
        let g = grown_here in
        let x = single (request_of hop args) o.taken result in
        record { events = more_events; runs = g.runs; stops = stops-append l.events (x ∷ []) l.memory (stops-one x); logged = g.logged; single = all-snoc IsSingle l.events x l.one_each (request_of hop args, refl); begins = begins_more; flag = g.flag; entries = g.keeps.entries; settings = g.keeps.settings; picked = g.keeps.picked; answered = answered; room = room; unanswered = unanswered }

    behind : (p : ℕ) → exchanges_of p more_events ≡ exchanges_of p l.events ++ next_exchange p l.events (request_of hop args) (reply_in result) ∷ []
    behind p = exchanges-snoc p l.events (request_of hop args) o.taken result (reply_in result) (one_reply_is now.nodes new.nodes (request_of hop args) result o)

    module _ (m : result ≢ Err (by_cause Memory)) where
      snoc : (p : ℕ) → exchanges_of p more_events ≡ exchanges_of p l.events ++ next_exchange p l.events (request_of hop args) (reply_in result) ∷ []
      snoc p = behind p

      memory_more : lack_memory more_events ≡ false
      memory_more = memory-append l.events (single (request_of hop args) o.taken result ∷ []) l.memory (ap (λ b. b || false) (one_had_memory now.nodes new.nodes (request_of hop args) result m o))

      -- so the requests so far and this last one
      still : (p : ℕ) → suc old.settings.budget - length (exchanges_of p l.events ++ next_exchange p l.events (request_of hop args) (reply_in result) ∷ []) ≡ redirects
      still p =
          let size : length (exchanges_of p l.events ++ next_exchange p l.events (request_of hop args) (reply_in result) ∷ []) ≡ suc (length (log_of l.events)) =
          length-snoc (exchanges_of p l.events) (next_exchange p l.events (request_of hop args) (reply_in result)) ∙ ap suc (length-exchanges p l.events) in
          let c = l.count in
          omega (arith, size, c)

      stops : (n : Next) → next_of (client_of old).links redirects (reply_in result) ≡ n → is_going n ≡ false → (p : ℕ) → IsChain (client_of old) first args (exchanges_of p more_events)
      stops n is stop p = rw (snoc p) (l.leads p (next_exchange p l.events (request_of hop args) (reply_in result) ∷ []) (refl, rw is (stopped n stop _ [] refl)))

  -- the link failed, or memory was refused in its call
  pub loop_failed : (e : Refusal) → OneMade now.nodes new.nodes (request_of hop args) (Err e) → new.log ≡ now.log ++ request_of hop args ∷ [] → new.needs_refresh ≡ now.needs_refresh → ChainMade old new first args (Err e)
  loop_failed e o log flag =
      let f : new.needs_refresh ≡ (now.needs_refresh || false) = flag ∙ sym (or_none now.needs_refresh) in
      chain_made (Err e) o log f (Err e) (λ m. record {
        memory = memory_more (Err e) o log f m;
        chain = stops (Err e) o log f m Stays (next_none (client_of old).links redirects) refl;
        tells = λ faults agrees p.
            let x = next_exchange p l.events (request_of hop args) None in
            let fault : e ≡ refusal_by_fault (faults hop.node) = one_fault now.nodes new.nodes (request_of hop args) e faults o (Agrees-last faults l.events (single (request_of hop args) o.taken (Err e)) agrees) in
            rw (snoc (Err e) o log f m p) (
              list_any-append is_answered (exchanges_of p l.events) (x ∷ []) ∙ ap (λ b. b || false) (l.unanswered p),
              ap (λ t. option_and_then (λ (y : Exchange). last_refusal (client_of old) (length (exchanges_of p l.events ++ x ∷ [])) (faults y.request.node) y.reply) t) (last-snoc (exchanges_of p l.events) x) ∙ ap Some (sym fault),
            );
      })
      (λ lacks. inl (ends-snoc (λ (x : Event). is_memory_ending x.ending) l.events (single (request_of hop args) o.taken (Err e)) (lacking (one_reply (Err e)) (ap one_reply lacks))))
      (λ lacks p. rw (behind (Err e) o log f p) (list_any-append is_answered (exchanges_of p l.events) (next_exchange p l.events (request_of hop args) None ∷ []) ∙ ap (λ b. b || false) (l.unanswered p)))

  module _ (tree : Tree) (o : OneMade now.nodes new.nodes (request_of hop args) (Ok tree)) (log : new.log ≡ now.log ++ request_of hop args ∷ [])
      (flag : new.needs_refresh ≡ (now.needs_refresh || is_moved_sort (sort_of tree))) where
    opens_more : open_links new.nodes ≡ open_links old.nodes
    opens_more = still_open now.nodes new.nodes (request_of hop args) tree o ∙ l.opens

    here : (n : Next) → next_of (open_links new.nodes) redirects (Some tree) ≡ n → next_of (open_links old.nodes) redirects (Some tree) ≡ n
    here n is = ap (λ ls. next_of ls redirects (Some tree)) (sym opens_more) ∙ is

    -- with no data for a reply the part is not answered
    unanswered_here : is_data (sort_of tree) ≡ false → (p : ℕ) → list_any is_answered (exchanges_of p (more_events (Ok tree) o log flag)) ≡ false
    unanswered_here bad p =
        let x = next_exchange p l.events (request_of hop args) (Some tree) in
        rw (snoc (Ok tree) o log flag (λ k. cc k) p) (list_any-append is_answered (exchanges_of p l.events) (x ∷ []) ∙ ap (λ b. b || (is_data (sort_of tree) || false)) (l.unanswered p) ∙ ap (λ b. b || false) bad)

    -- such a reply sends its request on, or nothing more was to be sent
    lacks_by : is_data (sort_of tree) ≡ false → (n : Next) → next_of (open_links old.nodes) redirects (Some tree) ≡ n
        → LacksWhere (client_of old).links (more_events (Ok tree) o log flag) ((p : ℕ) → IsUnanswered (client_of old) first args (exchanges_of p (more_events (Ok tree) o log flag)))
    lacks_by bad Stays is = inr (inr (λ p. (stops (Ok tree) o log flag (λ k. cc k) Stays is refl p, unanswered_here bad p)))
    lacks_by bad Lost is = inr (inr (λ p. (stops (Ok tree) o log flag (λ k. cc k) Lost is refl p, unanswered_here bad p)))
    lacks_by bad (Goes next) is =
        let links = open_links old.nodes in
        let got = one_reply_is now.nodes new.nodes (request_of hop args) (Ok tree) o in
        let sent_on : is_redirected links (single (request_of hop args) o.taken (Ok tree)) ≡ true =
        ap (λ r. is_going (reply_next links r) || false) got ∙ ap (λ b. b || false) (going_reply links redirects (Some tree) (Goes next) is refl) in
        inr (inl (ends-snoc (is_redirected links) l.events (single (request_of hop args) o.taken (Ok tree)) sent_on))

    -- the reply refuses the part, or memory was refused behind it
    pub loop_refused : (e : Refusal) → is_data (sort_of tree) ≡ false → (failed_by e ≢ Err (by_cause Memory) → (is_going (next_of (open_links new.nodes) redirects (Some tree)) ≡ false) × (is_data (sort_of tree) ≡ false)
        × (stop_refusal (next_of (open_links new.nodes) redirects (Some tree)) tree ≡ Some e)) → ChainMade old new first args (Err e)
    loop_refused e bad why = chain_made (Ok tree) o log flag (Err e) (λ m.
        let n = next_of (open_links new.nodes) redirects (Some tree) in
        let told = why m in
        record {
          memory = memory_more (Ok tree) o log flag (λ k. cc k);
          chain = stops (Ok tree) o log flag (λ k. cc k) n (here n refl) told.0;
          tells = λ faults agrees p.
              let x = next_exchange p l.events (request_of hop args) (Some tree) in
              let xs = exchanges_of p l.events ++ x ∷ [] in
              let there : next_of (open_links old.nodes) (suc old.settings.budget - length xs) (Some tree) ≡ n = ap (λ k. next_of (open_links old.nodes) k (Some tree)) (still (Ok tree) o log flag (λ k. cc k) p) ∙ here n refl in
              rw (snoc (Ok tree) o log flag (λ k. cc k) p) (
                list_any-append is_answered (exchanges_of p l.events) (x ∷ []) ∙ ap (λ b. b || (is_data (sort_of tree) || false)) (l.unanswered p) ∙ ap (λ b. b || false) told.1,
                ap (λ t. option_and_then (λ (y : Exchange). last_refusal (client_of old) (length xs) (faults y.request.node) y.reply) t) (last-snoc (exchanges_of p l.events) x) ∙ ap (λ k. stop_refusal k tree) there ∙ told.2,
              );
        })
        (λ lacks. lacks_by bad (next_of (open_links old.nodes) redirects (Some tree)) refl)
        (λ lacks p. unanswered_here bad p)

    -- the reply is the answer
    answered_so : next_of (open_links new.nodes) redirects (Some tree) ≡ Stays → is_data (sort_of tree) ≡ true → ChainMade old new first args (Ok tree)
    answered_so is data' = chain_made (Ok tree) o log flag (Ok tree) (λ m. record {
      memory = memory_more (Ok tree) o log flag (λ k. cc k);
      chain = stops (Ok tree) o log flag (λ k. cc k) Stays (here Stays is) refl;
      tells = λ faults agrees p.
          let x = next_exchange p l.events (request_of hop args) (Some tree) in
          rw (snoc (Ok tree) o log flag (λ k. cc k) p) (
            behind-last (exchanges_of p l.events) x data',
            ap (λ ys. map reply_or_nil ys) (filter-append is_answered (exchanges_of p l.events) (x ∷ []) ∙ ap (λ ys. ys ++ filter is_answered (x ∷ [])) (filter-none (exchanges_of p l.events) (l.unanswered p)) ∙ ap (λ b. cond b (x ∷ []) []) data'),
          );
    })
        (λ lacks. cc)
        (λ lacks. cc)

    pub loop_answered : (value : Tree) → value ≡ tree → next_of (open_links new.nodes) redirects (Some tree) ≡ Stays → is_data (sort_of tree) ≡ true → ChainMade old new first args (Ok value)
    loop_answered value same_tree is data' = subst (λ t. ChainMade old new first args (Ok t)) (sym same_tree) (answered_so is data')

    -- the request goes on
    pub loop_more : (next : Hop) (place : ℕ) → next_of (open_links new.nodes) redirects (Some tree) ≡ Goes next → redirects ≢ 0 → IsOpenAt new.nodes next.node place → is_data (sort_of tree) ≡ false
        → Loop old new args first (redirects - 1) next place
    loop_more next place go some at bad =
        let q = request_of hop args in
        let size : length (log_of (l.events ++ single q o.taken (Ok tree) ∷ [])) ≡ suc (length (log_of l.events)) = ap length (log-append l.events (single q o.taken (Ok tree) ∷ [])) ∙ length-snoc (log_of l.events) q in
        let snoc' = snoc (Ok tree) o log flag (λ k. cc k) in
        record {
          events = l.events ++ single q o.taken (Ok tree) ∷ [];
          grown = grown_here (Ok tree) o log flag;
          one_each = all-snoc IsSingle l.events (single q o.taken (Ok tree)) l.one_each (q, refl);
          memory = memory_more (Ok tree) o log flag (λ k. cc k);
          leads = λ p more h. rw (snoc' p, append_assoc) (l.leads p (next_exchange p l.events q (Some tree) ∷ more) (refl, rw (here (Goes next) go) h));
          unanswered = λ p. rw (snoc' p) (list_any-append is_answered (exchanges_of p l.events) (next_exchange p l.events q (Some tree) ∷ []) ∙ ap (λ b. b || (is_data (sort_of tree) || false)) (l.unanswered p) ∙ ap (λ b. b || false) bad);
          count = let c = l.count in omega (arith, size, c, some);
          at = at;
          opens = opens_more;
        }

-- ---- the same from what the code says of an exchange

module _ (old now new : World) (args : List (List ℕ)) (first : Hop) (redirects : ℕ) (hop : Hop) (link : ℕ) (l : Loop old now args first redirects hop link) (same : Keeps now new) (q : Request) (is : q ≡ request_of hop args) where
  abbrev pub Exchanged : Result Tree Refusal → Type 0
  Exchanged result = Exchanges now.nodes new.nodes link now.log new.log (q ∷ []) (skipped q.asking) 1 (one_reply result)

  asked : (result : Result Tree Refusal) → Exchanged result → Exchanges now.nodes new.nodes link now.log new.log (request_of hop args ∷ []) (skipped (request_of hop args).asking) 1 (one_reply result)
  asked result x = subst (λ p. Exchanges now.nodes new.nodes link now.log new.log (p ∷ []) (skipped p.asking) 1 (one_reply result)) is x

  -- the log has the request, whatever became of it
  pub loop_err : (e : Refusal) → Exchanged (Err e) → length new.log ≡ length now.log + 1 → new.needs_refresh ≡ now.needs_refresh → ChainMade old new first args (Err e)
  loop_err e x grown flag = elim (exchanged_one now.nodes new.nodes link now.log new.log (request_of hop args) (Err e) l.at (asked (Err e) x)) as (λ _. ChainMade old new first args (Err e)) [
    | inl none ↦ let same_length : length new.log ≡ length now.log = ap length none.1 in absurd (omega (arith, same_length, grown))
    | inr made ↦ loop_failed old now new args first redirects hop link l same e made.1 made.0 flag
  ]

-- an answered exchange
pub loop_ok : {old now : World} {args : List (List ℕ)} {first : Hop} {redirects : ℕ} {hop : Hop} {link : ℕ} → Loop old now args first redirects hop link → (nodes : List Node) (log : List Request) (q : Request) → q ≡ request_of hop args → (tree : Tree)
    → Exchanges now.nodes nodes link now.log log (q ∷ []) (skipped q.asking) 1 (one_reply (Ok tree)) → (log ≡ now.log ++ request_of hop args ∷ []) × OneMade now.nodes nodes (request_of hop args) (Ok tree)
loop_ok {now = now} {args = args} {hop = hop} {link = link} l nodes log q is tree x =
    let asked = subst (λ p. Exchanges now.nodes nodes link now.log log (p ∷ []) (skipped p.asking) 1 (one_reply (Ok tree))) is x in
    elim (exchanged_one now.nodes nodes link now.log log (request_of hop args) (Ok tree) l.at asked) as (λ _. (log ≡ now.log ++ request_of hop args ∷ []) × OneMade now.nodes nodes (request_of hop args) (Ok tree)) [
      | inl none ↦ cc (none.2)
      | inr made ↦ made
    ]

-- a reply that is followed is no data
pub followed_bad : (links : List Address) (redirects : ℕ) (tree : Tree) (next : Hop) → next_of links redirects (Some tree) ≡ Goes next → is_data (sort_of tree) ≡ false
followed_bad links redirects tree next e = redirect_no_data (Some tree) (redirect_reply links redirects (Some tree) next e)

-- ---- a request by its hop

abbrev pub hop_of : Request → Hop
hop_of q = record { node = q.node; asking = q.asking }

pub with_args : (q : Request) (args : List (List ℕ)) → q.args ≡ args → q ≡ request_of (hop_of q) args
with_args q args e = λ i. record { node = q.node; args = e i; asking = q.asking }

last_get : (x : Request) (xs : List Request) (q d : Request) → last_of (x ∷ xs) ≡ Some q → slice_index_or (x ∷ xs) (length xs) d ≡ q
last_get x [] q d e = cc
last_get x (y ∷ ys) q d e = last_get y ys q d e

-- what is read at the last place
pub last_read : (xs : List Request) (q d : Request) → last_of xs ≡ Some q → d ≡ slice_index_or xs (length xs - 1) d → d ≡ q
last_read [] q d e is = cc
last_read (x ∷ xs) q d e is =
    let size : length (x ∷ xs) - 1 ≡ length xs = omega arith in
    is ∙ ap (λ n. slice_index_or (x ∷ xs) n d) size ∙ last_get x xs q d e

-- a log behind one more request
pub behind_request : (log before : List Request) (q : Request) → log ≡ before ++ q ∷ [] → (last_of log ≡ Some q) × (0 < length log)
behind_request log before q e =
    let size : length log ≡ suc (length before) = ap length e ∙ length-snoc before q in
    (ap last_of e ∙ last-snoc before q, omega (arith, size))
