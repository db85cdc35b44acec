-- Parts sent one after another, chain by chain.
use Rattle.std.specs.Prelude.{filter, ◌||◌, ◌&&◌, not, is_none, slice_get, option_map, MatchBool}
use Rattle.std.specs.List.{list_any, AllByRecursion}
use Rattle.std.proofs.Common.{◌≡◌, ◌≢◌, ◌<◌, ℕ, zero, suc, ◌+◌, ◌-◌, Bool, true, false, cond, List, [], ◌∷◌, ◌++◌, map, Option, Some, None, refl, sym, ap, ◌∙◌, subst, append-nil, append_assoc, length, length-append, Result, Ok, Err, arith}
use Rattle.std.proofs.lemmas.Bool.{false≢true}
use Rattle.std.proofs.lemmas.List.{length-map, map-append}
use Rattle.std.proofs.lemmas.List.Elements.{filter-append, filter_agree}
use Rattle.std.proofs.lemmas.List.Folds.{list_any-append}
use Rattle.resp_core.specs.Trees.{Tree}
use Rattle.resp_core.specs.Errors.{Refusal, by_cause}
use Rattle.resp_core.specs.declared.errors.redis_error.Cause.TheVariants.{Memory}
use Rattle.cluster_routing.specs.Address.{Address, same_address}
use Rattle.cluster_calls.specs.Links.Log.{Exchange, is_answered, is_unanswered, is_data_reply, has_lost, behind_answers}
use Rattle.cluster_calls.specs.Links.World.{World, Node, addresses_of, place_at, is_linked, open_links, one_reply}
use Rattle.cluster_calls.specs.Links.Places.{IsOpenAt}
use Rattle.cluster_calls.specs.Links.Events.{Event, Runs, log_of, exchanges_of, lack_memory, faults_of, StopsAtMemory}
use Rattle.cluster_calls.specs.Links.Chains.{IsSingle, IsChain, IsUnanswered, ChainMade}
use Rattle.cluster_calls.specs.Links.Lacking.{LacksWhere}
use Rattle.cluster_calls.specs.Links.PartRuns.{PartsAnswered, PartsMade}
use Rattle.cluster_calls.specs.Links.Happened.{client_of}
use Rattle.cluster_calls.specs.Calls.Plan.{Client, Dispatch}
use Rattle.cluster_calls.specs.Calls.Redirects.{Hop, Next, Stays, Lost, Goes, MatchNext, next_of, FollowsRedirects}
use Rattle.cluster_calls.specs.Calls.Legal.{PartByPart, first_hop, direct}
use Rattle.cluster_calls.specs.Calls.Replies.{reply_or_nil}
use Rattle.cluster_calls.specs.Calls.Refusals.{part_refusal}
use Rattle.cluster_calls.proofs.LinkLaws.LinkPlaces.{found}
use Rattle.cluster_calls.proofs.LinkLaws.LinkRuns.{or_parts, addresses}
use Rattle.cluster_calls.proofs.LinkLaws.EventLists.{exchanges-append, memory-append, stops-had, stops-append}
use Rattle.cluster_calls.proofs.LinkLaws.FaultsAgree.{agrees, Agrees-back}
use Rattle.cluster_calls.proofs.LinkLaws.OpenLinks.{filter_all, links_behind}
use Rattle.cluster_calls.proofs.LinkLaws.ChainLoop.{filter-none, next_none}
use Rattle.cluster_calls.proofs.LinkLaws.Grown.{Grown, grown_more, grown_none, same_client}
use Rattle.cluster_calls.proofs.LinkLaws.LackingLists.{lacks_behind}
use Rattle.cluster_calls.proofs.Lists.{all-append}

-- ---- behind the answers

behind_by : (x : Exchange) (xs ys : List Exchange) (b : Bool) → list_any is_answered (x ∷ xs) ≡ b → cond b (behind_answers xs) (x ∷ xs) ≡ []
    → (behind_answers xs ≡ [] → behind_answers (xs ++ ys) ≡ behind_answers ys) → behind_answers (x ∷ (xs ++ ys)) ≡ behind_answers ys
behind_by x xs ys true t e f =
    let some : list_any is_answered ((x ∷ xs) ++ ys) ≡ true = list_any-append is_answered (x ∷ xs) ys ∙ ap (λ b. b || list_any is_answered ys) t in
    ap (λ b. cond b (behind_answers (xs ++ ys)) (x ∷ (xs ++ ys))) some ∙ f e
behind_by x xs ys false t e f = cc

pub behind_more : (xs ys : List Exchange) → behind_answers xs ≡ [] → behind_answers (xs ++ ys) ≡ behind_answers ys
behind_more [] ys e = refl
behind_more (x ∷ xs) ys e = behind_by x xs ys (list_any is_answered (x ∷ xs)) refl e (λ k. behind_more xs ys k)

pub none_behind : (xs : List Exchange) → list_any is_answered xs ≡ false → behind_answers xs ≡ xs
none_behind [] e = refl
none_behind (x ∷ xs) e = ap (λ b. cond b (behind_answers xs) (x ∷ xs)) e

answered_by : (x : Exchange) (b : Bool) → is_answered x ≡ b → cond (b || false) (behind_answers []) (x ∷ []) ≡ [] → is_answered x ≡ true
answered_by x true t e = t
answered_by x false t e = cc

-- with nothing behind the answers the last one is answered
last_answered : (x : Exchange) → behind_answers (x ∷ []) ≡ [] → is_answered x ≡ true
last_answered x e = answered_by x (is_answered x) refl e

later_by : (x : Exchange) (xs : List Exchange) (b : Bool) → cond b (behind_answers xs) (x ∷ xs) ≡ [] → behind_answers xs ≡ []
later_by x xs true e = e
later_by x xs false e = cc

later_answered : (x : Exchange) (xs : List Exchange) → behind_answers (x ∷ xs) ≡ [] → behind_answers xs ≡ []
later_answered x xs e = later_by x xs (list_any is_answered (x ∷ xs)) e

-- ---- a chain, and then the later parts

abbrev Ends : Exchange → List Exchange → Type 0
Ends last behind = behind ≡ []

abbrev Then : (List Exchange → Type 0) → Exchange → List Exchange → Type 0
Then Later last behind = MatchBool (is_answered last) (Later behind) (behind ≡ [])

stops_there : (x : Exchange) (xs more : List Exchange) (Later : List Exchange → Type 0) → xs ≡ [] → behind_answers (x ∷ xs) ≡ [] → Later more → Then Later x (xs ++ more)
stops_there x [] more Later h e l = rw (last_answered x e) l
stops_there x (y ∷ ys) more Later h e l = cc

goes_by : (n : Next) (x : Exchange) (xs more : List Exchange) (Later : List Exchange → Type 0) (F G : Hop → Type 0) → MatchNext n (xs ≡ []) F → behind_answers (x ∷ xs) ≡ [] → Later more
    → ((next : Hop) → F next → behind_answers xs ≡ [] → G next) → MatchNext n (Then Later x (xs ++ more)) G
goes_by Stays x xs more Later F G h e l f = stops_there x xs more Later h e l
goes_by Lost x xs more Later F G h e l f = stops_there x xs more Later h e l
goes_by (Goes next) x xs more Later F G h e l f = f next h (later_answered x xs e)

-- behind an answered chain the later parts stand
goes_on : (links : List Address) (redirects : ℕ) (hop : Hop) (args : List (List ℕ)) (Later : List Exchange → Type 0) (xs more : List Exchange) → FollowsRedirects links redirects hop args Ends xs → behind_answers xs ≡ [] → Later more
    → FollowsRedirects links redirects hop args (Then Later) (xs ++ more)
goes_on links redirects hop args Later [] more f e l = absurd f
goes_on links redirects hop args Later (x ∷ xs) more f e l =
    (f.0, goes_by (next_of links redirects x.reply) x xs more Later _ _ f.1 e l (λ next h k. goes_on links (redirects - 1) next args Later xs more h k l))

ends_by : (n : Next) (x : Exchange) (xs : List Exchange) (Later : List Exchange → Type 0) (F G : Hop → Type 0) → MatchNext n (xs ≡ []) F → is_answered x ≡ false → ((next : Hop) → F next → G next) → MatchNext n (Then Later x xs) G
ends_by Stays x xs Later F G h e f = rw e h
ends_by Lost x xs Later F G h e f = rw e h
ends_by (Goes next) x xs Later F G h e f = f next h

-- behind a chain without an answer nothing stands
ends_here : (links : List Address) (redirects : ℕ) (hop : Hop) (args : List (List ℕ)) (Later : List Exchange → Type 0) (xs : List Exchange) → FollowsRedirects links redirects hop args Ends xs → list_any is_answered xs ≡ false
    → FollowsRedirects links redirects hop args (Then Later) xs
ends_here links redirects hop args Later [] f e = absurd f
ends_here links redirects hop args Later (x ∷ xs) f e =
    let none = or_parts (is_answered x) (list_any is_answered xs) e in
    (f.0, ends_by (next_of links redirects x.reply) x xs Later _ _ f.1 none.0 (λ next h. ends_here links (redirects - 1) next args Later xs h none.1))

-- ---- what completes a run

abbrev Possible : (List Exchange → Type 0) → Type 0
Possible Later = (more : List Exchange) × Later more

last_extends : (b : Bool) (Later : List Exchange → Type 0) → Possible Later → Possible (λ more. MatchBool b (Later more) (more ≡ []))
last_extends true Later anyway = anyway
last_extends false Later anyway = ([], refl)

extends_there : (x : Exchange) (xs : List Exchange) (Later : List Exchange → Type 0) → Possible Later → xs ≡ [] → Possible (λ more. Then Later x (xs ++ more))
extends_there x [] Later anyway h = last_extends (is_answered x) Later anyway
extends_there x (y ∷ ys) Later anyway h = cc

extends_by : (n : Next) (x : Exchange) (xs : List Exchange) (Later : List Exchange → Type 0) (F : Hop → Type 0) (G : Hop → List Exchange → Type 0) → Possible Later → MatchNext n (xs ≡ []) F
    → ((next : Hop) → F next → Possible (λ more. G next (xs ++ more))) → Possible (λ more. MatchNext n (Then Later x (xs ++ more)) (λ next. G next (xs ++ more)))
extends_by Stays x xs Later F G anyway h f = extends_there x xs Later anyway h
extends_by Lost x xs Later F G anyway h f = extends_there x xs Later anyway h
extends_by (Goes next) x xs Later F G anyway h f = f next h

-- something completes a chain and the later parts, however it ended
extends : (links : List Address) (redirects : ℕ) (hop : Hop) (args : List (List ℕ)) (Later : List Exchange → Type 0) → Possible Later → (xs : List Exchange) → FollowsRedirects links redirects hop args Ends xs
    → Possible (λ more. FollowsRedirects links redirects hop args (Then Later) (xs ++ more))
extends links redirects hop args Later anyway [] f = absurd f
extends links redirects hop args Later anyway (x ∷ xs) f =
    let more = extends_by (next_of links redirects x.reply) x xs Later (λ next. FollowsRedirects links (redirects - 1) next args Ends xs) (λ next ys. FollowsRedirects links (redirects - 1) next args (Then Later) ys) anyway f.1
    (λ next h. extends links (redirects - 1) next args Later anyway xs h) in
    (more.0, (f.0, more.1))

-- some exchanges are a run of parts: a request to the first of them, without a reply
some_parts : (client : Client) (ds : List Dispatch) → Possible (PartByPart client ds)
some_parts client [] = ([], refl)
some_parts client (d ∷ ds) = (record { request = direct d; place = 0; reply = None } ∷ [], (refl, rw (next_none client.links client.settings.budget) refl))

-- ---- an answered chain

pub replied_next : (links : List Address) (redirects : ℕ) (reply : Option Tree) (next : Hop) → next_of links redirects reply ≡ Goes next → is_none reply ≡ false
replied_next links redirects None next e = let stays = next_none links redirects in cc
replied_next links redirects (Some tree) next e = refl

replied_data : (reply : Option Tree) → is_data_reply reply ≡ true → is_none reply ≡ false
replied_data None e = absurd (false≢true e)
replied_data (Some tree) e = refl

lost_none : (b u c : Bool) → u ≡ false → c ≡ false → ((b && u) || c) ≡ false
lost_none true u c e f = ap (λ v. v || c) e ∙ f
lost_none false u c e f = f

lost_last : (x : Exchange) (xs : List Exchange) (a : Address) → xs ≡ [] → behind_answers (x ∷ xs) ≡ [] → has_lost a (x ∷ xs) ≡ false
lost_last x [] a h e = lost_none (same_address x.request.node a) (is_unanswered x) false (replied_data x.reply (last_answered x e)) refl
lost_last x (y ∷ ys) a h e = cc

lost_by : (links : List Address) (redirects : ℕ) (x : Exchange) (xs : List Exchange) (a : Address) (F : Hop → Type 0) (n : Next) → next_of links redirects x.reply ≡ n → MatchNext n (xs ≡ []) F → behind_answers (x ∷ xs) ≡ []
    → ((next : Hop) → F next → behind_answers xs ≡ [] → has_lost a xs ≡ false) → has_lost a (x ∷ xs) ≡ false
lost_by links redirects x xs a F Stays is h e f = lost_last x xs a h e
lost_by links redirects x xs a F Lost is h e f = lost_last x xs a h e
lost_by links redirects x xs a F (Goes next) is h e f =
    lost_none (same_address x.request.node a) (is_unanswered x) (has_lost a xs) (replied_next links redirects x.reply next is) (f next h (later_answered x xs e))

-- none of its requests is without a reply
none_lost : (links : List Address) (redirects : ℕ) (hop : Hop) (args : List (List ℕ)) (xs : List Exchange) → FollowsRedirects links redirects hop args Ends xs → behind_answers xs ≡ [] → (a : Address) → has_lost a xs ≡ false
none_lost links redirects hop args [] f e a = absurd f
none_lost links redirects hop args (x ∷ xs) f e a =
    lost_by links redirects x xs a (λ next. FollowsRedirects links (redirects - 1) next args Ends xs) (next_of links redirects x.reply) refl f.1 e (λ next h k. none_lost links (redirects - 1) next args xs h k a)

-- so its links stay open
links_stay : (old new : List Node) (events : List Event) → Runs old new events → ((a : Address) → has_lost a (exchanges_of 0 events) ≡ false) → open_links new ≡ open_links old
links_stay old new events r none =
    links_behind old new events 0 r ∙ filter_agree (λ a. not (has_lost a (exchanges_of 0 events))) (λ a. not false) (λ a. ap not (none a)) (open_links old) ∙ filter_all (open_links old)

abbrev HaveArgs : List (List ℕ) → List Exchange → Type 0
HaveArgs args xs = AllByRecursion (λ (x : Exchange). x.request.args ≡ args) xs

args_by : (args : List (List ℕ)) (n : Next) (xs : List Exchange) (F : Hop → Type 0) → MatchNext n (xs ≡ []) F → ((next : Hop) → F next → HaveArgs args xs) → HaveArgs args xs
args_by args Stays xs F h f = subst (λ ys. HaveArgs args ys) (sym h) tt
args_by args Lost xs F h f = subst (λ ys. HaveArgs args ys) (sym h) tt
args_by args (Goes next) xs F h f = f next h

-- all of its requests have the part's arguments
have_args : (links : List Address) (redirects : ℕ) (hop : Hop) (args : List (List ℕ)) (xs : List Exchange) → FollowsRedirects links redirects hop args Ends xs → HaveArgs args xs
have_args links redirects hop args [] f = absurd f
have_args links redirects hop args (x ∷ xs) f =
    (ap (λ q. q.args) f.0, args_by args (next_of links redirects x.reply) xs _ f.1 (λ next h. have_args links (redirects - 1) next args xs h))

abbrev args_sent : List Exchange → List (List (List ℕ))
args_sent xs = map (λ (x : Exchange). x.request.args) (filter is_answered xs)

abbrev args_of : List Dispatch → List (List (List ℕ))
args_of ds = map (λ (d : Dispatch). d.args) ds

all_same : (args : List (List ℕ)) (xs : List Exchange) → HaveArgs args xs → args_sent xs ≡ map (λ (x : Exchange). args) (filter is_answered xs)
all_same args [] h = refl
all_same args (x ∷ xs) h = same_by (is_answered x) (all_same args xs h.1)
  where
    same_by : (b : Bool) → args_sent xs ≡ map (λ (y : Exchange). args) (filter is_answered xs)
        → map (λ (y : Exchange). y.request.args) (cond b (x ∷ filter is_answered xs) (filter is_answered xs)) ≡ map (λ (y : Exchange). args) (cond b (x ∷ filter is_answered xs) (filter is_answered xs))
    same_by true k = ap (λ first. first ∷ map (λ (y : Exchange). y.request.args) (filter is_answered xs)) h.0 ∙ ap (λ r. args ∷ r) k
    same_by false k = k

only_args : (args : List (List ℕ)) (ys : List Exchange) (tree : Tree) → map reply_or_nil ys ≡ tree ∷ [] → map (λ (y : Exchange). args) ys ≡ args ∷ []
only_args args [] tree e = cc
only_args args (y ∷ []) tree e = refl
only_args args (y ∷ z ∷ ys) tree e = cc

-- ---- the run

-- what the loop over parts keeps: those before `rest` were answered with `trees`
pub record PartLoop (old now : World) (ds rest : List Dispatch) (trees : List Tree) : Type 0 where
  pub events : List Event
  pub grown : Grown old now events
  pub single : AllByRecursion IsSingle events
  pub memory : lack_memory events ≡ false
  pub leads : (p : ℕ) (more : List Exchange) → PartByPart (client_of old) rest more → PartByPart (client_of old) ds (exchanges_of p events ++ more)
  pub behind : (p : ℕ) → behind_answers (exchanges_of p events) ≡ []
  pub sent : (p : ℕ) → args_sent (exchanges_of p events) ++ args_of rest ≡ args_of ds
  pub replied : (p : ℕ) → map reply_or_nil (filter is_answered (exchanges_of p events)) ≡ trees
  pub opens : open_links now.nodes ≡ open_links old.nodes

pub parts_start : (old : World) (ds : List Dispatch) → PartLoop old old ds ds []
parts_start old ds = record { events = []; grown = grown_none old; single = tt; memory = refl; leads = λ p more h. h; behind = λ p. refl; sent = λ p. refl; replied = λ p. refl; opens = refl }

module _ (old new : World) (ds : List Dispatch) (result : Result (List Tree) Refusal) where
  -- what these link calls come to
  parts_by : (events : List Event) → Grown old new events → StopsAtMemory events → AllByRecursion IsSingle events → ((p : ℕ) → (later : List Exchange) × PartByPart (client_of old) ds (exchanges_of p events ++ later)) → (result ≢ Err (by_cause Memory) → PartsAnswered old new ds events result)
      → (result ≡ Err (by_cause Memory) → events ≢ [] → LacksWhere (client_of old).links events ((p : ℕ) → PartByPart (client_of old) ds (exchanges_of p events)) × ((p : ℕ) → length (filter is_answered (exchanges_of p events)) < length ds)) → PartsMade old new ds result
  parts_by events g stops single begins answered lacking = record { events = events; runs = g.runs; stops = stops; logged = g.logged; single = single; begins = begins; flag = g.flag; entries = g.keeps.entries; settings = g.keeps.settings; picked = g.keeps.picked; answered = answered; room = λ lacks some. (lacking lacks some).0; unanswered = λ lacks some. (lacking lacks some).1 }

-- nothing was done, for want of memory
pub parts_unsent : (old : World) (ds : List Dispatch) → PartsMade old old ds (Err (by_cause Memory))
parts_unsent old ds = parts_by old old ds (Err (by_cause Memory)) [] (grown_none old) tt tt (λ p. some_parts (client_of old) ds) (λ m. absurd (m refl)) (λ lacks some. absurd (some refl))

-- all parts were answered
pub parts_done : (old now : World) (ds : List Dispatch) (trees : List Tree) → PartLoop old now ds [] trees → PartsMade old now ds (Ok trees)
parts_done old now ds trees l = parts_by old now ds (Ok trees) l.events l.grown (stops-had l.events l.memory) l.single (λ p. ([], l.leads p [] refl)) (λ m. record {
  memory = l.memory;
  parts = λ p. subst (λ xs. PartByPart (client_of old) ds xs) (append-nil (exchanges_of p l.events)) (l.leads p [] refl);
  tells = λ faults agrees p. (l.behind p, sym (append-nil (args_sent (exchanges_of p l.events))) ∙ l.sent p, l.replied p);
})
    (λ lacks some. cc)

module _ (old now new : World) (ds : List Dispatch) (d : Dispatch) (rest : List Dispatch) (trees : List Tree) (l : PartLoop old now ds (d ∷ rest) trees) where
  abbrev client : Client
  client = client_of old

  same : client_of now ≡ client
  same = same_client old now l.events l.grown l.opens

  abbrev PartMade : Result Tree Refusal → Type 0
  PartMade r = ChainMade now new (first_hop d) d.args r

  -- one more part, answered or not
  module _ (r : Result Tree Refusal) (m : PartMade r) where
    abbrev more_events : List Event
    more_events = l.events ++ m.events

    abbrev before : ℕ → List Exchange
    before p = exchanges_of p l.events

    abbrev here : ℕ → List Exchange
    here p = exchanges_of (p + length (log_of l.events)) m.events

    both : (p : ℕ) → exchanges_of p more_events ≡ before p ++ here p
    both p = exchanges-append l.events m.events p

    grown_here : Grown old new more_events
    grown_here = grown_more old now new l.events m.events l.grown (record { runs = m.runs; logged = m.logged; flag = m.flag; keeps = record { entries = m.entries; settings = m.settings; picked = m.picked } })

    begins_more : (p : ℕ) → (later : List Exchange) × PartByPart client ds (exchanges_of p more_events ++ later)
    begins_more p =
        let begun = m.begins (p + length (log_of l.events)) in
        let chain = subst (λ c. IsChain c (first_hop d) d.args (here p ++ begun.0)) same begun.1 in
        let more = extends client.links client.settings.budget (first_hop d) d.args (PartByPart client rest) (some_parts client rest) (here p ++ begun.0) chain in
        let joined : before p ++ ((here p ++ begun.0) ++ more.0) ≡ exchanges_of p more_events ++ (begun.0 ++ more.0) =
        ap (λ xs. before p ++ xs) (append_assoc (here p) begun.0 more.0) ∙ sym (append_assoc (before p) (here p) (begun.0 ++ more.0)) ∙ ap (λ xs. xs ++ (begun.0 ++ more.0)) (sym (both p)) in
        (begun.0 ++ more.0, subst (λ xs. PartByPart client ds xs) joined (l.leads p ((here p ++ begun.0) ++ more.0) more.1))

    -- with a part that is not answered nothing more is to be sent
    unanswered_parts : ((p : ℕ) → IsUnanswered client (first_hop d) d.args (exchanges_of p m.events)) → (p : ℕ) → PartByPart client ds (exchanges_of p more_events)
    unanswered_parts un p =
        let there = un (p + length (log_of l.events)) in
        subst (λ xs. PartByPart client ds xs) (sym (both p)) (l.leads p (here p) (ends_here client.links client.settings.budget (first_hop d) d.args (PartByPart client rest) (here p) there.0 there.1))

    room_more : r ≡ Err (by_cause Memory) → LacksWhere client.links more_events ((p : ℕ) → PartByPart client ds (exchanges_of p more_events))
    room_more lacks =
        lacks_behind client.links l.events m.events unanswered_parts
        (subst (λ c. LacksWhere c.links m.events ((p : ℕ) → IsUnanswered c (first_hop d) d.args (exchanges_of p m.events))) same (m.room lacks))

    -- the parts before this one were answered, and no other
    fewer : r ≡ Err (by_cause Memory) → (p : ℕ) → length (filter is_answered (exchanges_of p more_events)) < length ds
    fewer lacks p =
        let answered : filter is_answered (exchanges_of p more_events) ≡ filter is_answered (before p) =
        ap (λ xs. filter is_answered xs) (both p) ∙ filter-append is_answered (before p) (here p) ∙ ap (λ xs. filter is_answered (before p) ++ xs) (filter-none (here p) (m.unanswered lacks (p + length (log_of l.events)))) ∙ append-nil (filter is_answered (before p)) in
        let sized : length (filter is_answered (exchanges_of p more_events)) ≡ length (filter is_answered (before p)) = ap length answered in
        let counted : length (args_sent (before p)) ≡ length (filter is_answered (before p)) = length-map _ _ in
        let all : length (args_sent (before p) ++ args_of (d ∷ rest)) ≡ length (args_sent (before p)) + length (args_of (d ∷ rest)) = length-append (args_sent (before p)) (args_of (d ∷ rest)) in
        let whole : length (args_sent (before p) ++ args_of (d ∷ rest)) ≡ length ds = ap length (l.sent p) ∙ length-map _ _ in
        omega (arith, sized, counted, all, whole)

    parts_made : (result : Result (List Tree) Refusal) → (result ≢ Err (by_cause Memory) → PartsAnswered old new ds more_events result) → (result ≡ Err (by_cause Memory) → r ≡ Err (by_cause Memory)) → PartsMade old new ds result
    parts_made result answered alike =
        parts_by old new ds result more_events grown_here (stops-append l.events m.events l.memory m.stops) (all-append IsSingle l.events m.events l.single m.single) begins_more answered
        (λ lacks some. (room_more (alike lacks), λ p. fewer (alike lacks) p))

  -- the part was refused, or memory was
  pub parts_refused : (e : Refusal) → PartMade (Err e) → PartsMade old new ds (Err e)
  parts_refused e m = parts_made (Err e) m (Err e) (λ had.
      let a = m.answered (λ k. had (ap one_reply k)) in
      let at = λ (p : ℕ). p + length (log_of l.events) in
      let none = λ (p : ℕ). (a.tells (faults_of m.events) (agrees now.nodes new.nodes m.events m.runs) (at p)).0 in
      let chain = λ (p : ℕ). subst (λ c. IsChain c (first_hop d) d.args (exchanges_of (at p) m.events)) same (a.chain (at p)) in
      record {
        memory = memory-append l.events m.events l.memory a.memory;
        parts = λ p. subst (λ xs. PartByPart client ds xs) (sym (both (Err e) m p)) (l.leads p (exchanges_of (at p) m.events)
            (ends_here client.links client.settings.budget (first_hop d) d.args (PartByPart client rest) (exchanges_of (at p) m.events) (chain p) (none p)));
        tells = λ faults agreed p.
            let told = a.tells faults (Agrees-back faults l.events m.events agreed) (at p) in
            ap (λ xs. part_refusal client faults (behind_answers xs)) (both (Err e) m p)
            ∙ ap (λ xs. part_refusal client faults xs) (behind_more (exchanges_of p l.events) (exchanges_of (at p) m.events) (l.behind p) ∙ none_behind (exchanges_of (at p) m.events) told.0)
            ∙ ap (λ c. part_refusal c faults (exchanges_of (at p) m.events)) (sym same) ∙ told.1;
      })
      (λ lacks. let memory : e ≡ by_cause Memory = cc in ap (λ k. Err k) memory)

  -- the part was answered
  pub parts_more : (tree : Tree) → PartMade (Ok tree) → PartLoop old new ds rest (trees ++ tree ∷ [])
  parts_more tree m =
      let a = m.answered (λ k. cc k) in
      let at = λ (p : ℕ). p + length (log_of l.events) in
      let told = λ (p : ℕ). a.tells (faults_of m.events) (agrees now.nodes new.nodes m.events m.runs) p in
      let chain = λ (p : ℕ). subst (λ c. IsChain c (first_hop d) d.args (exchanges_of p m.events)) same (a.chain p) in
      let answered = λ (p : ℕ). ap (λ xs. filter is_answered xs) (both (Ok tree) m p) ∙ filter-append is_answered (exchanges_of p l.events) (exchanges_of (at p) m.events) in
      let args_here = λ (p : ℕ). all_same d.args (exchanges_of (at p) m.events) (have_args client.links client.settings.budget (first_hop d) d.args (exchanges_of (at p) m.events) (chain (at p)))
      ∙ only_args d.args (filter is_answered (exchanges_of (at p) m.events)) tree (told (at p)).1 in
      record {
        events = l.events ++ m.events;
        grown = grown_here (Ok tree) m;
        single = all-append IsSingle l.events m.events l.single m.single;
        memory = memory-append l.events m.events l.memory a.memory;
        leads = λ p more h. subst (λ xs. PartByPart client ds xs) (sym (append_assoc (exchanges_of p l.events) (exchanges_of (at p) m.events) more) ∙ ap (λ xs. xs ++ more) (sym (both (Ok tree) m p)))
            (l.leads p (exchanges_of (at p) m.events ++ more)
            (goes_on client.links client.settings.budget (first_hop d) d.args (PartByPart client rest) (exchanges_of (at p) m.events) more (chain (at p)) (told (at p)).0 h));
        behind = λ p. ap behind_answers (both (Ok tree) m p) ∙ behind_more (exchanges_of p l.events) (exchanges_of (at p) m.events) (l.behind p) ∙ (told (at p)).0;
        sent = λ p.
            ap (λ xs. map (λ (x : Exchange). x.request.args) xs ++ args_of rest) (answered p)
            ∙ ap (λ argss. argss ++ args_of rest) (map-append (λ (x : Exchange). x.request.args) (filter is_answered (exchanges_of p l.events)) (filter is_answered (exchanges_of (at p) m.events))
            ∙ ap (λ argss. args_sent (exchanges_of p l.events) ++ argss) (args_here p))
            ∙ append_assoc (args_sent (exchanges_of p l.events)) (d.args ∷ []) (args_of rest) ∙ l.sent p;
        replied = λ p.
            ap (λ xs. map reply_or_nil xs) (answered p) ∙ map-append reply_or_nil (filter is_answered (exchanges_of p l.events)) (filter is_answered (exchanges_of (at p) m.events))
            ∙ ap (λ ts. ts ++ map reply_or_nil (filter is_answered (exchanges_of (at p) m.events))) (l.replied p) ∙ ap (λ ts. trees ++ ts) (told (at p)).1;
        opens = links_stay now.nodes new.nodes m.events m.runs (λ k. none_lost client.links client.settings.budget (first_hop d) d.args (exchanges_of 0 m.events) (chain 0) (told 0).0 k) ∙ l.opens;
      }

-- ---- places stay where they were

pub place_same : (ns ms : List Node) (a : Address) → addresses_of ns ≡ addresses_of ms → place_at ns a ≡ place_at ms a
place_same [] [] a e = refl
place_same [] (m ∷ ms) a e = cc
place_same (n ∷ ns) [] a e = cc
place_same (n ∷ ns) (m ∷ ms) a e =
    let first : n.address ≡ m.address = cc in
    let later : addresses_of ns ≡ addresses_of ms = cc in
    ap (λ k. cond (same_address k a) (Some 0) (option_map (λ i. i + 1) (place_at ns a))) first ∙ ap (λ o. cond (same_address m.address a) (Some 0) (option_map (λ i. i + 1) o)) (place_same ns ms a later)

-- a place of an open link is one over a run of parts that were answered
pub still_placed : {old now : World} {ds rest : List Dispatch} {trees : List Tree} → PartLoop old now ds rest trees → (node : Address) (link : ℕ) → IsOpenAt old.nodes node link → IsOpenAt now.nodes node link
still_placed {old = old} {now = now} l node link at = record {
  place = place_same now.nodes old.nodes node (addresses old.nodes now.nodes l.events l.grown.runs) ∙ at.place;
  linked = ap (λ links. is_linked links node) l.opens ∙ at.linked;
}

get_within : {X : Type 0} (xs : List X) (i : ℕ) (x : X) → slice_get xs i ≡ Some x → i < length xs
get_within [] i x e = cc
get_within (y ∷ xs) zero x e = omega arith
get_within (y ∷ xs) (suc i) x e = let h = get_within xs i x e in omega (arith, h)

-- a place is one of the list
pub place_within : (ns : List Node) (a : Address) (i : ℕ) → place_at ns a ≡ Some i → i < length ns
place_within ns a i e = let f = found ns a i e in get_within ns i f.node f.at

-- a part's chain, by the hop to its place
pub from_place : (old new : World) (d : Dispatch) (asking : Bool) (r : Result Tree Refusal) → asking ≡ false → ChainMade old new (record { node = d.node; asking = asking }) d.args r → ChainMade old new (first_hop d) d.args r
from_place old new d asking r e m = subst (λ b. ChainMade old new (record { node = d.node; asking = b }) d.args r) e m
