-- A pipeline that tells of each position, from the link calls of its groups and what came from each.
use Rattle.std.specs.Prelude.{filter, nat_eq, ◌||◌, slice_get, unwrap_or, MatchBool, ⊤}
use Rattle.std.specs.List.{AllByRecursion}
use Rattle.std.proofs.Common.{◌≡◌, ◌≢◌, ◌<◌, ℕ, suc, zero, ◌+◌, ◌==◌, Bool, true, false, cond, List, [], ◌∷◌, ◌++◌, map, length, Option, Some, Result, Ok, Err, refl, sym, ap, ◌∙◌, subst, append-nil, eqb-true, eq-eqb, arith}
use Rattle.std.proofs.lemmas.Bool.{false≢true}
use Rattle.std.proofs.lemmas.List.{length-map, map-append}
use Rattle.std.proofs.lemmas.List.Elements.{filter-append}
use Rattle.resp_core.specs.Trees.{Tree, nil}
use Rattle.resp_core.specs.Errors.{Refusal, by_cause}
use Rattle.resp_core.specs.declared.errors.redis_error.Cause.{Cause}
use Rattle.resp_core.specs.declared.errors.redis_error.Cause.TheVariants.{Memory}
use Rattle.resp_link.specs.Replies.{replies_of}
use Rattle.cluster_routing.specs.Address.{Address, same_address}
use Rattle.cluster_routing.specs.Choice.{Strategy}
use Rattle.cluster_routing.specs.Lists.{among, concat, firsts, front, rest, IsDistinct}
use Rattle.cluster_steps.specs.Requests.{CodeDispatch}
use Rattle.cluster_calls.specs.Links.EachMade.{EachHappened, WholesMade, refusal_by, refusals_of}
use Rattle.cluster_calls.specs.Links.Events.{Event, Ending, answers, fails, AllTo, LinkCalled, Runs, log_of, exchanges_at, exchanges_of}
use Rattle.cluster_calls.specs.Links.Happened.{client_of}
use Rattle.cluster_calls.specs.Links.Log.{Exchange, requests, has_lost}
use Rattle.cluster_calls.specs.Links.Run.{with_log}
use Rattle.cluster_calls.specs.Links.World.{World, Node}
use Rattle.cluster_calls.specs.Calls.Call.{Entry, Pipeline}
use Rattle.cluster_calls.specs.Calls.Each.{reply_outcome, outcome_of, exchanges_with, without_first_with, by_nodes}
use Rattle.cluster_calls.specs.Calls.Legal.{direct, node_groups}
use Rattle.cluster_calls.specs.Calls.Picks.{ArePicks}
use Rattle.cluster_calls.specs.Calls.Plan.{Dispatch, plan}
use Rattle.cluster_calls.specs.Calls.Task.{pipeline_of}
use Rattle.cluster_steps.specs.Dispatches.{IsPlaced, IsPlanned, dispatch_of}
use Rattle.cluster_steps.specs.Each.{came_from, next_outcome, told_each, without_next, without_next_from}
use Rattle.cluster_steps.specs.GroupRuns.{group_node, group_nodes, request_lists}
use Rattle.cluster_steps.specs.Groups.{NodeRequests, group_at, place_in, request_in}
use Rattle.cluster_client.specs.Outcomes.{AreKept, EachExchanged, IsKept}
use Rattle.cluster_calls.proofs.LinkLaws.Addresses.{same_true, same_refl}
use Rattle.cluster_calls.proofs.LinkLaws.LinkCalls.{link_calls_made}
use Rattle.cluster_calls.proofs.LinkLaws.LinkRuns.{or_parts}
use Rattle.cluster_calls.proofs.LinkLaws.OpenLinks.{swapped}
use Rattle.cluster_calls.proofs.LinkLaws.Pairing.{has_lost-append}
use Rattle.cluster_calls.proofs.LinkLaws.Told.{LosesBy, told_here, told_other}
use Rattle.cluster_calls.proofs.Lists.{or_none}
use Rattle.cluster_calls.proofs.ServerLaws.Distinct.{firsts_distinct}
use Rattle.cluster_steps.proofs.GroupCalls.{paired_requests}
use Rattle.cluster_steps.proofs.PipeGroups.{agree, alike, all_both, group_node_is, groups_are, groups_distinct, map_twice, node_of, some_alike}
use Rattle.cluster_steps.proofs.PipeOrder.{eq_swap}
use Rattle.cluster_steps.proofs.Telling.{get_mapped}
use Rattle.cluster_client.proofs.Piping.{pipe_groups}

-- ---- exchanges with one node

with_own : (a : Address) (xs : List Exchange) → AllTo a (requests xs) → exchanges_with xs a ≡ xs
with_own a [] all = refl
with_own a (x ∷ xs) all =
    ap (λ b. cond b (x ∷ exchanges_with xs a) (exchanges_with xs a)) (subst (λ n. same_address n a ≡ true) (sym all.0) (same_refl a)) ∙ ap (λ ys. x ∷ ys) (with_own a xs all.1)

with_other : (node a : Address) (xs : List Exchange) → AllTo node (requests xs) → same_address node a ≡ false → exchanges_with xs a ≡ []
with_other node a [] all n = refl
with_other node a (x ∷ xs) all n =
    ap (λ b. cond b (x ∷ exchanges_with xs a) (exchanges_with xs a)) (subst (λ m. same_address m a ≡ false) (sym all.0) n) ∙ with_other node a xs all.1 n

are_to : (a : Address) (xs : List Exchange) → AllByRecursion (λ (x : Exchange). x.request.node ≡ a) (exchanges_with xs a)
are_to a [] = tt
are_to a (x ∷ xs) = by (same_address x.request.node a) refl (are_to a xs)
  where
    by : (b : Bool) → same_address x.request.node a ≡ b → AllByRecursion (λ (y : Exchange). y.request.node ≡ a) (exchanges_with xs a) → AllByRecursion (λ (y : Exchange). y.request.node ≡ a) (cond b (x ∷ exchanges_with xs a) (exchanges_with xs a))
    by true t k = (same_true x.request.node a t, k)
    by false t k = k

-- ---- one node: its exchanges, and what came from it

abbrev replies_in : List Exchange → List (Option Tree)
replies_in xs = map (λ (x : Exchange). x.reply) xs

abbrev somes : List Tree → List (Option Tree)
somes trees = map (λ tree. Some tree) trees

-- there are so many exchanges; of a lost node the cause is that of its refusal, and of any other the replies came
abbrev FitsAs : Bool → List Exchange → Refusal → Result (List Tree) Cause → ℕ → Type 0
FitsAs is_lost xs refusal came count = (length xs ≡ count)
    × MatchBool is_lost ((cause : Cause) × (came ≡ Err cause) × (by_cause cause ≡ refusal)) ((trees : List Tree) × (came ≡ Ok trees) × (replies_in xs ≡ somes trees))

abbrev Fits : List Exchange → (Address → Refusal) → Address → Result (List Tree) Cause → ℕ → Type 0
Fits xs refusals a came count = FitsAs (has_lost a xs) (exchanges_with xs a) (refusals a) came count

-- group by group
abbrev AllFit : List Exchange → (Address → Refusal) → List NodeRequests → List (Result (List Tree) Cause) → Type 0
AllFit xs refusals [] [] = ⊤
AllFit xs refusals (g ∷ gs) (c ∷ came) = Fits xs refusals (group_node g.requests) c (length g.requests) × AllFit xs refusals gs came
AllFit xs refusals _ _ = ⊥

-- ---- the groups of a run

-- a node that is none of those of later groups
unnamed : (old new : List Node) (place : ℕ) (xs : List Event) (gs : List NodeRequests) (came : List (Result (List Tree) Cause)) (a : Address) → Runs old new xs → AreKept gs xs came → among same_address a (group_nodes gs) ≡ false
    → (exchanges_with (exchanges_of place xs) a ≡ []) × (has_lost a (exchanges_of place xs) ≡ false)
unnamed old new place [] [] [] a r q n = (refl, refl)
unnamed old new place [] [] (c ∷ came) a r q n = absurd q
unnamed old new place [] (g ∷ gs) came a r q n = absurd q
unnamed old new place (x ∷ xs) [] came a r q n = absurd q
unnamed old new place (x ∷ xs) (g ∷ gs) [] a r q n = absurd q
unnamed old new place (x ∷ xs) (g ∷ gs) (c ∷ came) a r q n =
    let parts = or_parts (same_address a (group_node g.requests)) (among same_address a (group_nodes gs)) n in
    let apart : same_address x.node a ≡ false = swapped x.node a ∙ ap (same_address a) q.0 ∙ parts.0 in
    let later = unnamed r.0 new (place + length x.requests) xs gs came a r.2 q.3 parts.1 in
    let all : AllTo x.node (requests (exchanges_at place x)) = subst (AllTo x.node) (sym (paired_requests (replies_of x.taken) place x.requests)) r.1.to_node in (
      filter-append (λ (e : Exchange). same_address e.request.node a) (exchanges_at place x) (exchanges_of (place + length x.requests) xs)
          ∙ ap (λ ys. ys ++ exchanges_with (exchanges_of (place + length x.requests) xs) a) (with_other x.node a (exchanges_at place x) all apart) ∙ later.0,
      has_lost-append a (exchanges_at place x) (exchanges_of (place + length x.requests) xs) ∙ ap (λ b. b || has_lost a (exchanges_of (place + length x.requests) xs)) (told_other old r.0 x place r.1 a apart) ∙ later.1,
    )

-- the group of the first link call
first_fits : (old mid : List Node) (place : ℕ) (x : Event) (g : NodeRequests) (came : Result (List Tree) Cause) (later : Refusal) → LinkCalled old mid x → x.requests ≡ g.requests → IsKept x x.ending came
    → FitsAs (has_lost x.node (exchanges_at place x)) (exchanges_with (exchanges_at place x) x.node) (refusal_by x.ending later) came (length g.requests)
first_fits old mid place x g came later s same q = (count, by x.ending came refl q (told_here old mid x place s))
  where
    all : AllTo x.node (requests (exchanges_at place x))
    all = subst (AllTo x.node) (sym (paired_requests (replies_of x.taken) place x.requests)) s.to_node

    own : exchanges_with (exchanges_at place x) x.node ≡ exchanges_at place x
    own = with_own x.node (exchanges_at place x) all

    count : length (exchanges_with (exchanges_at place x) x.node) ≡ length g.requests
    count = ap length own ∙ sym (length-map (exchanges_at place x) (λ (e : Exchange). e.request)) ∙ ap length (paired_requests (replies_of x.taken) place x.requests ∙ same)

    Says : Ending → Result (List Tree) Cause → Type 0
    Says e c = MatchBool (has_lost x.node (exchanges_at place x)) ((cause : Cause) × (c ≡ Err cause) × (by_cause cause ≡ refusal_by e later)) ((trees : List Tree) × (c ≡ Ok trees) × (replies_in (exchanges_with (exchanges_at place x) x.node) ≡ somes trees))

    by : (e : Ending) (c : Result (List Tree) Cause) → x.ending ≡ e → IsKept x e c → LosesBy e (has_lost x.node (exchanges_at place x)) → Says e c
    by (answers replies) (Ok trees) is k l =
        rw l (trees, refl, ap replies_in own ∙ k place)
    by (answers replies) (Err cause) is k l = absurd k
    by (fails fault) (Ok trees) is k l = absurd k
    by (fails fault) (Err cause) is k l = rw l (cause, refl, k)

module _ (old mid : List Node) (place : ℕ) (x : Event) (s : LinkCalled old mid x) (later : List Exchange) (refusals : Address → Refusal) where
  abbrev both : List Exchange
  both = exchanges_at place x ++ later

  abbrev both_refusals : Address → Refusal
  both_refusals a = cond (same_address x.node a) (refusal_by x.ending (refusals a)) (refusals a)

  -- behind a link call to another node
  still_fits : (a : Address) (came : Result (List Tree) Cause) (count : ℕ) → same_address x.node a ≡ false → Fits later refusals a came count → Fits both both_refusals a came count
  still_fits a came count n f =
      let all : AllTo x.node (requests (exchanges_at place x)) = subst (AllTo x.node) (sym (paired_requests (replies_of x.taken) place x.requests)) s.to_node in
      let lost : has_lost a both ≡ has_lost a later = has_lost-append a (exchanges_at place x) later ∙ ap (λ b. b || has_lost a later) (told_other old mid x place s a n) in
      let own : exchanges_with both a ≡ exchanges_with later a =
      filter-append (λ (e : Exchange). same_address e.request.node a) (exchanges_at place x) later ∙ ap (λ ys. ys ++ exchanges_with later a) (with_other x.node a (exchanges_at place x) all n) in
      rw (lost, own, n) f

  still_fit : (a : Address) → x.node ≡ a → (gs : List NodeRequests) (came : List (Result (List Tree) Cause)) → among same_address a (group_nodes gs) ≡ false → AllFit later refusals gs came → AllFit both both_refusals gs came
  still_fit a is [] [] n f = tt
  still_fit a is [] (c ∷ came) n f = absurd f
  still_fit a is (g ∷ gs) [] n f = absurd f
  still_fit a is (g ∷ gs) (c ∷ came) n f =
      let parts = or_parts (same_address a (group_node g.requests)) (among same_address a (group_nodes gs)) n in
      (still_fits (group_node g.requests) c (length g.requests) (ap (λ k. same_address k (group_node g.requests)) is ∙ parts.0) f.0, still_fit a is gs came parts.1 f.1)

  -- the group of the link call itself
  own_fits : (g : NodeRequests) (came : Result (List Tree) Cause) → x.node ≡ group_node g.requests → x.requests ≡ g.requests → IsKept x x.ending came → exchanges_with later x.node ≡ [] → has_lost x.node later ≡ false
      → Fits both both_refusals (group_node g.requests) came (length g.requests)
  own_fits g came is same q none kept =
      subst (λ a. Fits both both_refusals a came (length g.requests)) is (rw (lost, own, same_refl x.node) (first_fits old mid place x g came (refusals x.node) s same q))
    where
      lost : has_lost x.node both ≡ has_lost x.node (exchanges_at place x)
      lost = has_lost-append x.node (exchanges_at place x) later ∙ ap (λ b. has_lost x.node (exchanges_at place x) || b) kept ∙ or_none (has_lost x.node (exchanges_at place x))

      own : exchanges_with both x.node ≡ exchanges_with (exchanges_at place x) x.node
      own = filter-append (λ (e : Exchange). same_address e.request.node x.node) (exchanges_at place x) later ∙ ap (λ ys. exchanges_with (exchanges_at place x) x.node ++ ys) none ∙ append-nil _

groups_fit : (old new : List Node) (place : ℕ) (xs : List Event) (gs : List NodeRequests) (came : List (Result (List Tree) Cause)) → Runs old new xs → IsDistinct same_address (group_nodes gs) → AreKept gs xs came → AllFit (exchanges_of place xs) (refusals_of xs) gs came
groups_fit old new place [] [] [] r d q = tt
groups_fit old new place [] [] (c ∷ came) r d q = absurd q
groups_fit old new place [] (g ∷ gs) came r d q = absurd q
groups_fit old new place (x ∷ xs) [] came r d q = absurd q
groups_fit old new place (x ∷ xs) (g ∷ gs) [] r d q = absurd q
groups_fit old new place (x ∷ xs) (g ∷ gs) (c ∷ came) r d q =
    let later = exchanges_of (place + length x.requests) xs in
    let none = unnamed r.0 new (place + length x.requests) xs gs came x.node r.2 q.3 (subst (λ a. among same_address a (group_nodes gs) ≡ false) (sym q.0) d.0) in (
      own_fits old r.0 place x r.1 later (refusals_of xs) g c q.0 q.1 q.2 none.0 none.1,
      still_fit old r.0 place x r.1 later (refusals_of xs) (group_node g.requests) q.0 gs came d.0 (groups_fit r.0 new (place + length x.requests) xs gs came r.2 d.1 q.3),
    )

-- ---- numbers of groups

fit_at : (xs : List Exchange) (refusals : Address → Refusal) (gs : List NodeRequests) (came : List (Result (List Tree) Cause)) (n : ℕ) (g : NodeRequests) → AllFit xs refusals gs came → slice_get gs n ≡ Some g → Fits xs refusals (group_node g.requests) (came_from came n) (length g.requests)
fit_at xs refusals [] came n g f e = cc
fit_at xs refusals (h ∷ gs) [] n g f e = absurd f
fit_at xs refusals (h ∷ gs) (c ∷ came) zero g f e = let same : h ≡ g = cc in subst (λ (k : NodeRequests). Fits xs refusals (group_node k.requests) c (length k.requests)) same f.0
fit_at xs refusals (h ∷ gs) (c ∷ came) (suc n) g f e = fit_at xs refusals gs came n g f.1 e

found_among : (ks : List ℕ) (n k : ℕ) → slice_get ks n ≡ Some k → among nat_eq k ks ≡ true
found_among [] n k e = cc
found_among (j ∷ ks) zero k e = let same : j ≡ k = cc in ap (λ b. b || among nat_eq k ks) (eq-eqb k j (sym same))
found_among (j ∷ ks) (suc n) k e = behind (nat_eq k j) (found_among ks n k e)
  where
    behind : (b : Bool) → among nat_eq k ks ≡ true → (b || among nat_eq k ks) ≡ true
    behind true f = refl
    behind false f = f

-- in a list without repeats one element has one number
one_number : (ks : List ℕ) → IsDistinct nat_eq ks → (n m k : ℕ) → slice_get ks n ≡ Some k → slice_get ks m ≡ Some k → n ≡ m
one_number [] d n m k e f = cc
one_number (j ∷ ks) d zero zero k e f = refl
one_number (j ∷ ks) d zero (suc m) k e f = let same : j ≡ k = cc in absurd (false≢true (sym d.0 ∙ subst (λ i. among nat_eq i ks ≡ true) (sym same) (found_among ks m k f)))
one_number (j ∷ ks) d (suc n) zero k e f = let same : j ≡ k = cc in absurd (false≢true (sym d.0 ∙ subst (λ i. among nat_eq i ks ≡ true) (sym same) (found_among ks n k e)))
one_number (j ∷ ks) d (suc n) (suc m) k e f = ap suc (one_number ks d.1 n m k e f)

pub numbers_agree : (ks : List ℕ) → IsDistinct nat_eq ks → (n m k l : ℕ) → slice_get ks n ≡ Some k → slice_get ks m ≡ Some l → (n == m) ≡ (k == l)
numbers_agree ks d n m k l e f = by (n == m) refl (k == l) refl
  where
    by : (b : Bool) → (n == m) ≡ b → (c : Bool) → (k == l) ≡ c → b ≡ c
    by true p true q = refl
    by false p false q = refl
    by true p false q =
        let there : slice_get ks n ≡ Some l = subst (λ i. slice_get ks i ≡ Some l) (sym (eqb-true n m p)) f in
        let same : k ≡ l = cc in
        absurd (false≢true (sym q ∙ eq-eqb k l same))
    by false p true q = absurd (false≢true (sym p ∙ eq-eqb n m (one_number ks d n m k e (subst (λ i. slice_get ks m ≡ Some i) (sym (eqb-true k l q)) f))))

-- each number is that of a group
pub numbers_within : (ks : List ℕ) (cds : List CodeDispatch) (ns : List ℕ) → map (slice_get ks) ns ≡ map (λ d. Some (place_in d)) cds → AllByRecursion (λ n. n < length ks) ns
numbers_within ks [] [] e = tt
numbers_within ks [] (n ∷ ns) e = cc
numbers_within ks (d ∷ cds) [] e = cc
numbers_within ks (d ∷ cds) (n ∷ ns) e =
    let here : slice_get ks n ≡ Some (place_in d) = cc in
    let more : map (slice_get ks) ns ≡ map (λ d. Some (place_in d)) cds = cc in
    (there ks n (place_in d) here, numbers_within ks cds ns more)
  where
    there : (xs : List ℕ) (i k : ℕ) → slice_get xs i ≡ Some k → i < length xs
    there [] i k f = cc
    there (x ∷ xs) zero k f = omega arith
    there (x ∷ xs) (suc i) k f = let l = there xs i k f in omega (arith, l)

-- ---- what the next dispatches draw

-- the number is that of the dispatch's place, and what came of it fits the exchanges of its node
abbrev Drawable : List Exchange → (Address → Refusal) → List ℕ → List CodeDispatch → (Address → List Exchange) → (ℕ → Result (List Tree) Cause) → CodeDispatch → ℕ → Type 0
Drawable xs refusals order left exchanged came d n =
    (slice_get order n ≡ Some (place_in d)) × FitsAs (has_lost (node_of d) xs) (exchanged (node_of d)) (refusals (node_of d)) (came n) (length (filter (λ e. place_in d == place_in e) left))
    × AllByRecursion (λ (x : Exchange). x.request.node ≡ node_of d) (exchanged (node_of d))

abbrev AllDrawable : List Exchange → (Address → Refusal) → List ℕ → List CodeDispatch → (Address → List Exchange) → (ℕ → Result (List Tree) Cause) → List CodeDispatch → List ℕ → Type 0
AllDrawable xs refusals order left exchanged came [] [] = ⊤
AllDrawable xs refusals order left exchanged came (d ∷ ds) (n ∷ ns) = Drawable xs refusals order left exchanged came d n × AllDrawable xs refusals order left exchanged came ds ns
AllDrawable xs refusals order left exchanged came _ _ = ⊥

drawable : (nodes : List Node) (cds : List CodeDispatch) → AllByRecursion (IsPlaced nodes) cds → (xs : List Exchange) (refusals : Address → Refusal) (came : List (Result (List Tree) Cause)) → AllFit xs refusals (pipe_groups cds) came
    → (es : List CodeDispatch) (ns : List ℕ) → AllByRecursion (λ d. IsPlaced nodes d × (alike cds d ≢ [])) es → map (slice_get (firsts nat_eq (map place_in cds))) ns ≡ map (λ d. Some (place_in d)) es
    → AllDrawable xs refusals (firsts nat_eq (map place_in cds)) cds (exchanges_with xs) (came_from came) es ns
drawable nodes cds placed xs refusals came fit [] [] p e = tt
drawable nodes cds placed xs refusals came fit [] (n ∷ ns) p e = cc
drawable nodes cds placed xs refusals came fit (d ∷ es) [] p e = cc
drawable nodes cds placed xs refusals came fit (d ∷ es) (n ∷ ns) p e =
    let here : slice_get (firsts nat_eq (map place_in cds)) n ≡ Some (place_in d) = cc in
    let more : map (slice_get (firsts nat_eq (map place_in cds))) ns ≡ map (λ d. Some (place_in d)) es = cc in
    let fits = fit_at xs refusals (pipe_groups cds) came n (group_at cds (place_in d)) fit (get_mapped (group_at cds) (firsts nat_eq (map place_in cds)) n (place_in d) here) in (
      (
        here,
        subst (λ k. FitsAs (has_lost (node_of d) xs) (exchanges_with xs (node_of d)) (refusals (node_of d)) (came_from came n) k) (length-map (alike cds d) request_in)
            (subst (λ a. Fits xs refusals a (came_from came n) (length (map request_in (alike cds d)))) (group_node_is nodes cds placed d p.0.0 p.0.1) fits),
        are_to (node_of d) xs,
      ),
      drawable nodes cds placed xs refusals came fit es ns p.1 more,
    )

rest_to : (t : Bool) (a : Address) (es : List Exchange) → AllByRecursion (λ (x : Exchange). x.request.node ≡ a) es → AllByRecursion (λ (x : Exchange). x.request.node ≡ a) (cond t (rest es) es)
rest_to false a es h = h
rest_to true a [] h = tt
rest_to true a (e ∷ es) h = h.1

rest_replies : (es : List Exchange) (trees : List Tree) → replies_in es ≡ somes trees → replies_in (rest es) ≡ somes (rest trees)
rest_replies [] [] e = refl
rest_replies [] (t ∷ trees) e = cc
rest_replies (x ∷ es) [] e = cc
rest_replies (x ∷ es) (t ∷ trees) e = cc

rest_fits : (t b : Bool) (es : List Exchange) (refusal : Refusal) (came : Result (List Tree) Cause) (d : CodeDispatch) (left : List CodeDispatch) → FitsAs b es refusal came (length (cond t (d ∷ left) left))
    → FitsAs b (cond t (rest es) es) refusal (cond t (without_next came) came) (length left)
rest_fits false b es refusal came d left f = f
rest_fits true b es refusal came d left f = (count es f.0, by b f.1)
  where
    count : (ys : List Exchange) → length ys ≡ suc (length left) → length (rest ys) ≡ length left
    count [] e = absurd (let g : ⊥ = omega (arith, e) in g)
    count (y ∷ ys) e = omega (arith, e)

    by : (c : Bool) → MatchBool c ((cause : Cause) × (came ≡ Err cause) × (by_cause cause ≡ refusal)) ((trees : List Tree) × (came ≡ Ok trees) × (replies_in es ≡ somes trees))
        → MatchBool c ((cause : Cause) × (without_next came ≡ Err cause) × (by_cause cause ≡ refusal)) ((trees : List Tree) × (without_next came ≡ Ok trees) × (replies_in (rest es) ≡ somes trees))
    by true k = (k.0, ap without_next k.1, k.2)
    by false k = (rest k.0, ap without_next k.1, rest_replies es k.0 k.2)

module _ (xs : List Exchange) (refusals : Address → Refusal) where
  -- the next outcome is that of the next exchange
  first_told : (a : Address) (es : List Exchange) (came : Result (List Tree) Cause) (m : ℕ) → FitsAs (has_lost a xs) es (refusals a) came (suc m) → AllByRecursion (λ (x : Exchange). x.request.node ≡ a) es
      → next_outcome came ∷ [] ≡ map (outcome_of refusals xs) (front es)
  first_told a [] came m f to = absurd (let k = f.0 in let g : ⊥ = omega (arith, k) in g)
  first_told a (x ∷ es) came m f to = ap (λ o. o ∷ []) (by (has_lost a xs) refl f.1 ∙ sym (ap (λ k. cond (has_lost k xs) (Err (refusals k)) (reply_outcome (unwrap_or x.reply nil))) to.0))
    where
      by : (b : Bool) → has_lost a xs ≡ b → MatchBool b ((cause : Cause) × (came ≡ Err cause) × (by_cause cause ≡ refusals a)) ((trees : List Tree) × (came ≡ Ok trees) × (replies_in (x ∷ es) ≡ somes trees))
          → next_outcome came ≡ cond (has_lost a xs) (Err (refusals a)) (reply_outcome (unwrap_or x.reply nil))
      by true l k = ap next_outcome k.1 ∙ ap (λ r. Err r) k.2 ∙ sym (ap (λ b. cond b (Err (refusals a)) (reply_outcome (unwrap_or x.reply nil))) l)
      by false l (trees, is, replies) = ap next_outcome is ∙ at trees replies ∙ sym (ap (λ b. cond b (Err (refusals a)) (reply_outcome (unwrap_or x.reply nil))) l)
        where
          at : (ts : List Tree) → replies_in (x ∷ es) ≡ somes ts → next_outcome (Ok ts) ≡ reply_outcome (unwrap_or x.reply nil)
          at [] e = cc
          at (t ∷ ts) e = let r : x.reply ≡ Some t = cc in sym (ap (λ o. reply_outcome (unwrap_or o nil)) r)

  module _ (nodes : List Node) (order : List ℕ) (distinct : IsDistinct nat_eq order) (all : List CodeDispatch) (all_placed : AllByRecursion (IsPlaced nodes) all) where
    left_drawable : (c : CodeDispatch) (m : ℕ) → IsPlaced nodes c → slice_get order m ≡ Some (place_in c) → (left : List CodeDispatch) (exchanged : Address → List Exchange) (came : ℕ → Result (List Tree) Cause) (d : CodeDispatch) (n : ℕ) → IsPlaced nodes d
        → Drawable xs refusals order (c ∷ left) exchanged came d n → Drawable xs refusals order left (without_first_with (node_of c) exchanged) (without_next_from m came) d n
    left_drawable c m p is left exchanged came d n q f =
        let t = place_in d == place_in c in
        let same : same_address (node_of c) (node_of d) ≡ t = sym (agree nodes all all_placed c d p q) ∙ eq_swap (place_in c) (place_in d) in
        let number : (n == m) ≡ t = numbers_agree order distinct n m (place_in d) (place_in c) f.0 is in
        let es = exchanged (node_of d) in
        let others = filter (λ e. place_in d == place_in e) left in (
          f.0,
          subst (λ s. FitsAs (has_lost (node_of d) xs) (cond s (rest es) es) (refusals (node_of d)) (cond (n == m) (without_next (came n)) (came n)) (length others)) (sym same)
              (subst (λ s. FitsAs (has_lost (node_of d) xs) (cond t (rest es) es) (refusals (node_of d)) (cond s (without_next (came n)) (came n)) (length others)) (sym number)
              (rest_fits t (has_lost (node_of d) xs) es (refusals (node_of d)) (came n) c others f.1)),
          rest_to (same_address (node_of c) (node_of d)) (node_of d) es f.2,
        )

    all_left : (c : CodeDispatch) (m : ℕ) → IsPlaced nodes c → slice_get order m ≡ Some (place_in c) → (left : List CodeDispatch) (exchanged : Address → List Exchange) (came : ℕ → Result (List Tree) Cause) (ds : List CodeDispatch) (ns : List ℕ)
        → AllByRecursion (IsPlaced nodes) ds → AllDrawable xs refusals order (c ∷ left) exchanged came ds ns → AllDrawable xs refusals order left (without_first_with (node_of c) exchanged) (without_next_from m came) ds ns
    all_left c m p is left exchanged came [] [] q f = tt
    all_left c m p is left exchanged came [] (n ∷ ns) q f = absurd f
    all_left c m p is left exchanged came (d ∷ ds) [] q f = absurd f
    all_left c m p is left exchanged came (d ∷ ds) (n ∷ ns) q f = (left_drawable c m p is left exchanged came d n q.0 f.0, all_left c m p is left exchanged came ds ns q.1 f.1)

    told_alike : (left : List CodeDispatch) (ns : List ℕ) (exchanged : Address → List Exchange) (came : ℕ → Result (List Tree) Cause) → AllByRecursion (IsPlaced nodes) left → AllDrawable xs refusals order left exchanged came left ns
        → told_each ns came ≡ map (outcome_of refusals xs) (by_nodes (map node_of left) exchanged)
    told_alike [] [] exchanged came p f = refl
    told_alike [] (n ∷ ns) exchanged came p f = absurd f
    told_alike (c ∷ left) [] exchanged came p f = absurd f
    told_alike (c ∷ left) (n ∷ ns) exchanged came p f =
        let own : length (filter (λ e. place_in c == place_in e) (c ∷ left)) ≡ suc (length (filter (λ e. place_in c == place_in e) left)) =
        ap (λ b. length (cond b (c ∷ filter (λ e. place_in c == place_in e) left) (filter (λ e. place_in c == place_in e) left))) (eq-eqb (place_in c) (place_in c) refl) in
        ap (λ os. next_outcome (came n) ∷ os) (told_alike left ns (without_first_with (node_of c) exchanged) (without_next_from n came) p.1 (all_left c n p.0 f.0.0 left exchanged came left ns p.1 f.1))
        ∙ ap (λ os. os ++ map (outcome_of refusals xs) (by_nodes (map node_of left) (without_first_with (node_of c) exchanged)))
        (first_told (node_of c) (exchanged (node_of c)) (came n) _ (subst (λ k. FitsAs (has_lost (node_of c) xs) (exchanged (node_of c)) (refusals (node_of c)) (came n) k) own f.0.1) f.0.2)
        ∙ sym (map-append (outcome_of refusals xs) (front (exchanged (node_of c))) (by_nodes (map node_of left) (without_first_with (node_of c) exchanged)))

-- ---- the requests

events_of_groups : (gs : List NodeRequests) (xs : List Event) (came : List (Result (List Tree) Cause)) → AreKept gs xs came → (map (λ (x : Event). x.node) xs ≡ group_nodes gs) × (log_of xs ≡ concat (request_lists gs))
events_of_groups [] [] [] k = (refl, refl)
events_of_groups [] [] (c ∷ came) k = absurd k
events_of_groups [] (x ∷ xs) came k = absurd k
events_of_groups (g ∷ gs) [] came k = absurd k
events_of_groups (g ∷ gs) (x ∷ xs) [] k = absurd k
events_of_groups (g ∷ gs) (x ∷ xs) (c ∷ came) k =
    let later = events_of_groups gs xs came k.3 in
    (ap (λ a. a ∷ map (λ (y : Event). y.node) xs) k.0 ∙ ap (λ as'. group_node g.requests ∷ as') later.0, ap (λ qs. qs ++ log_of xs) k.1 ∙ ap (λ qs. g.requests ++ qs) later.1)

concat_mapped : {X Y : Type 0} (f : X → Y) (xss : List (List X)) → concat (map (λ xs. map f xs) xss) ≡ map f (concat xss)
concat_mapped f [] = refl
concat_mapped f (xs ∷ xss) = ap (λ ys. map f xs ++ ys) (concat_mapped f xss) ∙ sym (map-append f xs (concat xss))

-- ---- the call

-- commands that all go whole, each with the outcome of its exchange
abbrev pub WholesTold : Option Strategy → World → World → List Entry → Result (List (Result Tree Refusal)) Refusal → Type 0
WholesTold strategy old new entries result = WholesMade strategy old new entries (plan (client_of old) [] (Pipeline entries)) (λ each outcomes. outcomes ≡ each) result

made_each : (strategy : Option Strategy) (old new : World) (entries : List Entry) (cds : List CodeDispatch) (ns : List ℕ) (came : List (Result (List Tree) Cause)) (outcomes : List (Result Tree Refusal))
    → IsPlanned strategy (client_of old) (Pipeline entries) [] (Ok (map dispatch_of cds)) → AllByRecursion (IsPlaced old.nodes) cds → map (slice_get (firsts nat_eq (map place_in cds))) ns ≡ map (λ d. Some (place_in d)) cds
    → EachExchanged (with_log old [] []) new (pipe_groups cds) came → outcomes ≡ told_each ns (came_from came) → WholesTold strategy old new entries (Ok outcomes)
made_each strategy old new entries cds ns came outcomes planned placed numbers e told =
    let groups = pipe_groups cds in
    let are = events_of_groups groups e.events came e.kept in
    let once = subst (IsDistinct same_address) (sym are.0) (groups_distinct old.nodes cds placed) in
    record {
      happened = record {
        events = e.events;
        runs = e.runs;
        logged = e.logged;
        calls = λ node. link_calls_made old.nodes new.nodes e.events (pipeline_of entries) e.runs once node;
        entries = e.entries;
        settings = e.settings;
        flag = e.flag;
      };
      told = record {
        dispatches = map dispatch_of cds;
        planned = subst (λ ps. plan (client_of old) ps (Pipeline entries) ≡ Ok (map dispatch_of cds)) (sym e.picked) planned.planned;
        picks = subst (λ ps. ArePicks strategy (client_of old) (Pipeline entries) ps) (sym e.picked) planned.picked;
        unpicked = e.picked;
        sent = are.1 ∙ ap concat (sym (groups_are old.nodes cds placed)) ∙ concat_mapped direct (node_groups (map dispatch_of cds));
        each = λ place.
            let xs = exchanges_of place e.events in
            let refusals = refusals_of e.events in
            let fit = groups_fit old.nodes new.nodes place e.events groups came e.runs (groups_distinct old.nodes cds placed) e.kept in
            let there = all_both (IsPlaced old.nodes) (λ d. alike cds d ≢ []) (λ d. IsPlaced old.nodes d × (alike cds d ≢ [])) (λ d p q. (p, q)) cds placed (some_alike place_in cds) in
            told
            ∙ told_alike xs refusals old.nodes (firsts nat_eq (map place_in cds)) (firsts_distinct nat_eq (map place_in cds)) cds placed cds ns (exchanges_with xs) (came_from came) placed (drawable old.nodes cds placed xs refusals came fit cds ns there numbers)
            ∙ ap (λ as'. map (outcome_of refusals xs) (by_nodes as' (exchanges_with xs))) (sym (map_twice dispatch_of (λ (d : Dispatch). d.node) cds));
      };
    }

-- the same from what the code says of its steps
pub each_made : (strategy : Option Strategy) (old mid new : World) (entries : List Entry) (cds : List CodeDispatch) (gs : List NodeRequests) (ns : List ℕ) (came : List (Result (List Tree) Cause)) (outcomes : List (Result Tree Refusal))
    → mid ≡ with_log old [] [] → IsPlanned strategy (client_of old) (Pipeline entries) [] (Ok (map dispatch_of cds)) → AllByRecursion (IsPlaced mid.nodes) cds → gs ≡ pipe_groups cds → map (slice_get (firsts nat_eq (map place_in cds))) ns ≡ map (λ d. Some (place_in d)) cds
    → EachExchanged mid new gs came → outcomes ≡ told_each ns (came_from came) → WholesTold strategy old new entries (Ok outcomes)
each_made strategy old mid new entries cds gs ns came outcomes stays planned placed grouped numbers e told =
    made_each strategy old new entries cds ns came outcomes planned (subst (λ (w : World). AllByRecursion (IsPlaced w.nodes) cds) stays placed) numbers
    (subst (λ (w : World). EachExchanged w new (pipe_groups cds) came) stays (subst (λ hs. EachExchanged mid new hs came) grouped e)) told

-- what was told stands behind no other outcomes
pub told_alone : (outcomes none told : List (Result Tree Refusal)) → outcomes ≡ none ++ told → none ≡ [] → outcomes ≡ told
told_alone outcomes none told is empty = is ∙ ap (λ os. os ++ told) empty

-- nothing was sent
pub nothing_sent : (old new : World) → new ≡ with_log old [] [] → EachHappened old new
nothing_sent old new stays =
    subst (λ (w : World). EachHappened old w) (sym stays) (record { events = []; runs = refl; logged = refl; calls = λ node. refl; entries = refl; settings = refl; flag = sym (or_none old.needs_refresh) })

pub each_unsent : (strategy : Option Strategy) (old new : World) (entries : List Entry) (refusal : Refusal) → new ≡ with_log old [] [] → (refusal ≢ by_cause Memory → IsPlanned strategy (client_of old) (Pipeline entries) [] (Err refusal)) → WholesTold strategy old new entries (Err refusal)
each_unsent strategy old new entries refusal stays why = record { happened = nothing_sent old new stays; told = record { stays = stays; refused = λ m. (why m).planned } }
