-- The exchange of one group of requests is one link call, and what its replies are.
use Rattle.std.specs.Prelude.{slice_get, drop, take, is_none, ◌||◌, MatchBool, ◌⊎◌}
use Rattle.std.specs.List.{list_any, AllByRecursion}
use Rattle.std.proofs.Common.{◌≡◌, ◌≢◌, ℕ, suc, ◌+◌, Bool, true, false, cond, List, [], ◌∷◌, ◌++◌, map, length, Some, None, Result, Ok, Err, refl, sym, ap, ◌∙◌, subst, inl, inr, append-nil, arith}
use Rattle.std.proofs.lemmas.Bool.{false≢true}
use Rattle.resp_core.specs.Trees.{Tree, ErrorText}
use Rattle.resp_core.specs.Errors.{Refusal, by_cause}
use Rattle.resp_core.specs.declared.errors.redis_error.Cause.TheVariants.{Memory}
use Rattle.resp_link.specs.Call.{Seen}
use Rattle.resp_link.specs.Replies.{replies_of}
use Rattle.cluster_routing.specs.Address.{Address}
use Rattle.cluster_calls.specs.Links.Request.{Request, bytes_of, skipped}
use Rattle.cluster_calls.specs.Links.Log.{Exchange, requests, is_unanswered, is_moved}
use Rattle.cluster_calls.specs.Links.World.{Node, Called, CallsLink, link_at, is_usable, open_links}
use Rattle.cluster_calls.specs.Links.Exchanges.{Exchanges, not_begun, made}
use Rattle.cluster_calls.specs.Links.Faults.{LinkFault, refusal_by_fault}
use Rattle.cluster_calls.specs.Links.Events.{Event, Ending, answers, fails, EndsBy, reply_count, AllTo, LinkCalled, AgreesAt, is_memory_ending, is_answer_ending, exchanges_at, pair_up}
use Rattle.cluster_steps.specs.Groups.{NodeRequests}
use Rattle.cluster_steps.specs.GroupRuns.{is_moved_tree, group_node, IsGroupPlaced, GroupByGroup}
use Rattle.cluster_calls.specs.Calls.Refusals.{pipeline_refusal}
use Rattle.cluster_calls.proofs.LinkLaws.Pairing.{some_lost}
use Rattle.cluster_calls.proofs.LinkLaws.PipeErrors.{lost_unanswered}
use Rattle.cluster_calls.proofs.LinkLaws.LinkEnds.{ending_of, ending_refusal, ended_refusal, had_memory_by, refusal_agrees, link_called_at}
use Rattle.cluster_calls.proofs.LinkLaws.EndLaws.{whole_answered, ends_pairs, ends_usable, ends_was_open}
use Rattle.cluster_calls.proofs.LinkLaws.LinkPlaces.{found, linked, set_open}

-- ---- requests without ASKING

abbrev pub AreDirect : List Request → Type 0
AreDirect qs = AllByRecursion (λ (q : Request). q.asking ≡ false) qs

-- have one reply each
pub direct_count : (qs : List Request) → AreDirect qs → reply_count qs ≡ length qs
direct_count [] h = refl
direct_count (q ∷ qs) h =
    let one : skipped q.asking ≡ 0 = ap skipped h.0 in
    let later : reply_count qs ≡ length qs = direct_count qs h.1 in
    omega arith

direct_whole : (qs : List Request) → AreDirect qs → 0 + length qs ≡ reply_count qs
direct_whole qs h = let k : reply_count qs ≡ length qs = direct_count qs h in omega arith

-- and these are all of them
pub direct_replies : (qs : List Request) (trees : List Tree) (place : ℕ) → AreDirect qs → length trees ≡ length qs → map (λ (x : Exchange). x.reply) (pair_up trees place qs) ≡ map (λ tree. Some tree) trees
direct_replies [] [] place d e = refl
direct_replies [] (t ∷ ts) place d e = absurd (let f : ⊥ = omega (arith, e) in f)
direct_replies (q ∷ qs) [] place d e = absurd (let f : ⊥ = omega (arith, e) in f)
direct_replies (q ∷ qs) (t ∷ ts) place d e = rw d.0 (ap (λ rs. Some t ∷ rs) (direct_replies qs ts (suc place) d.1 (omega (arith, e))))

pub paired_requests : (trees : List Tree) (place : ℕ) (qs : List Request) → requests (pair_up trees place qs) ≡ qs
paired_requests trees place [] = refl
paired_requests trees place (q ∷ qs) = ap (λ rs. q ∷ rs) (paired_requests (drop (skipped q.asking + 1) trees) (suc place) qs)

-- ---- replied and unanswered exchanges

pub all_replied : (xs : List Exchange) (trees : List Tree) → map (λ (x : Exchange). x.reply) xs ≡ map (λ tree. Some tree) trees → list_any is_unanswered xs ≡ false
all_replied [] trees e = refl
all_replied (x ∷ xs) [] e = cc
all_replied (x ∷ xs) (t ∷ ts) e =
    let first : x.reply ≡ Some t = cc in
    let later : map (λ (x : Exchange). x.reply) xs ≡ map (λ tree. Some tree) ts = cc in
    rw first (all_replied xs ts later)

moved_replies : (xs : List Exchange) (trees : List Tree) → map (λ (x : Exchange). x.reply) xs ≡ map (λ tree. Some tree) trees → list_any is_moved xs ≡ list_any is_moved_tree trees
moved_replies [] [] e = refl
moved_replies [] (t ∷ ts) e = cc
moved_replies (x ∷ xs) [] e = cc
moved_replies (x ∷ xs) (t ∷ ts) e =
    let first : x.reply ≡ Some t = cc in
    let later : map (λ (x : Exchange). x.reply) xs ≡ map (λ tree. Some tree) ts = cc in
    rw first (ap (λ b. is_moved_tree t || b) (moved_replies xs ts later))

-- the first unanswered request of one node refuses by that node's fault
pub refused_in : (faults : Address → LinkFault) (node : Address) (qs : List Request) (trees : List Tree) (place : ℕ) (errors : List (ℕ × ErrorText)) → AllTo node qs → list_any is_unanswered (pair_up trees place qs) ≡ true
    → pipeline_refusal faults (pair_up trees place qs) errors ≡ Some (refusal_by_fault (faults node))
refused_in faults node [] trees place errors all e = absurd (false≢true e)
refused_in faults node (q ∷ qs) trees place errors all e =
    by (is_none (slice_get trees (skipped q.asking))) e (λ f. refused_in faults node qs (drop (skipped q.asking + 1) trees) (suc place) errors all.1 f)
  where
    later : List Exchange
    later = pair_up (drop (skipped q.asking + 1) trees) (suc place) qs

    by : (b : Bool) → (b || list_any is_unanswered later) ≡ true → (list_any is_unanswered later ≡ true → pipeline_refusal faults later errors ≡ Some (refusal_by_fault (faults node)))
        → cond b (Some (refusal_by_fault (faults q.node))) (pipeline_refusal faults later errors) ≡ Some (refusal_by_fault (faults node))
    by true f h = ap (λ a. Some (refusal_by_fault (faults a))) all.0
    by false f h = h f

-- ---- the exchanges of one group, and those behind it

cut_front : (es more : List Exchange) → (take (length (requests es)) (es ++ more) ≡ es) × (drop (length (requests es)) (es ++ more) ≡ more)
cut_front [] more = (refl, refl)
cut_front (e ∷ es) more = let r = cut_front es more in (ap (λ xs. e ∷ xs) r.0, r.1)

group_by : (qs : List Request) (qss : List (List Request)) (es more t d : List Exchange) → t ≡ es → d ≡ more → requests es ≡ qs → MatchBool (list_any is_unanswered es) (more ≡ []) (GroupByGroup qss more)
    → (requests t ≡ qs) × MatchBool (list_any is_unanswered t) (d ≡ []) (GroupByGroup qss d)
group_by qs qss es more t d e f is h = rw (e, f) (is, h)

group_first : (qs : List Request) (qss : List (List Request)) (es more : List Exchange) → requests es ≡ qs → MatchBool (list_any is_unanswered es) (more ≡ []) (GroupByGroup qss more) → GroupByGroup (qs ∷ qss) (es ++ more)
group_first qs qss es more is h =
    let c = cut_front es more in
    subst (λ ks. GroupByGroup (ks ∷ qss) (es ++ more)) is (group_by (requests es) qss es more (take (length (requests es)) (es ++ more)) (drop (length (requests es)) (es ++ more)) c.0 c.1 refl h)

-- behind a group that was answered the later ones stand
pub group_more : (qs : List Request) (qss : List (List Request)) (es more : List Exchange) → requests es ≡ qs → list_any is_unanswered es ≡ false → GroupByGroup qss more → GroupByGroup (qs ∷ qss) (es ++ more)
group_more qs qss es more is none later = group_first qs qss es more is (rw none later)

-- behind one that was not nothing stands
pub group_ends : (qs : List Request) (qss : List (List Request)) (es : List Exchange) → requests es ≡ qs → list_any is_unanswered es ≡ true → GroupByGroup (qs ∷ qss) es
group_ends qs qss es is some = subst (GroupByGroup (qs ∷ qss)) (append-nil es) (group_first qs qss es [] is (rw some refl))

abbrev unsent : Request → Exchange
unsent q = record { request = q; place = 0; reply = None }

unsent_requests : (qs : List Request) → requests (map unsent qs) ≡ qs
unsent_requests [] = refl
unsent_requests (q ∷ qs) = ap (λ rs. q ∷ rs) (unsent_requests qs)

-- some exchanges are those of groups
pub some_groups : (qss : List (List Request)) → (xs : List Exchange) × GroupByGroup qss xs
some_groups [] = ([], refl)
some_groups ([] ∷ qss) = let r = some_groups qss in (r.0, group_more [] qss [] r.0 refl refl r.1)
some_groups ((q ∷ qs) ∷ qss) = (map unsent (q ∷ qs), group_ends (q ∷ qs) qss (map unsent (q ∷ qs)) (unsent_requests (q ∷ qs)) refl)

-- something completes a group's exchanges and the later groups, however they ended
pub group_extends : (qs : List Request) (qss : List (List Request)) (es : List Exchange) → requests es ≡ qs → (more : List Exchange) × GroupByGroup (qs ∷ qss) (es ++ more)
group_extends qs qss es is = by (list_any is_unanswered es) refl
  where
    by : (b : Bool) → list_any is_unanswered es ≡ b → (more : List Exchange) × GroupByGroup (qs ∷ qss) (es ++ more)
    by true e = ([], subst (GroupByGroup (qs ∷ qss)) (sym (append-nil es)) (group_ends qs qss es is e))
    by false e = let r = some_groups qss in (r.0, group_more qs qss es r.0 is e r.1)

-- ---- the link call

abbrev pub group_event : NodeRequests → List Tree → Result (List Tree) Refusal → Event
group_event g taken result = record { node = group_node g.requests; requests = g.requests; taken = taken; ending = ending_of result }

-- an answer has one reply for each request, and a refusal is the one that its ending tells
abbrev pub IsTold : NodeRequests → List Tree → Result (List Tree) Refusal → Type 0
IsTold g taken (Ok trees) = (replies_of taken ≡ trees) × (length trees ≡ length g.requests)
IsTold g taken (Err refusal) = ending_refusal (ending_of (Err refusal)) ≡ Some refusal

pub record GroupMade (old new : List Node) (g : NodeRequests) (result : Result (List Tree) Refusal) : Type 0 where
  pub taken : List Tree
  pub called : LinkCalled old new (group_event g taken result)
  pub told : IsTold g taken result

told_by : (old new before after : Seen) (g : NodeRequests) (taken : List Tree) (result : Result (List Tree) Refusal) → AreDirect g.requests → old.usable ≡ true → Called old new (bytes_of g.requests) 0 (length g.requests) result
    → EndsBy before after g.requests taken (ending_of result) → IsTold g taken result
told_by old new before after g taken (Ok trees) d open' called ends =
    let count : length trees ≡ length g.requests = called.takes.taken_count in
    (whole_answered before after g.requests taken trees ends (count ∙ sym (direct_count g.requests d)), count)
told_by old new before after g taken (Err e) d open' called ends = ended_refusal old new g.requests 0 (length g.requests) e (direct_whole g.requests d) open' called

pub group_made : (old new : List Node) (g : NodeRequests) (result : Result (List Tree) Refusal) → IsGroupPlaced old g
    → CallsLink old new g.link (λ before after. Called before after (bytes_of g.requests) 0 (length g.requests) result) → GroupMade old new g result
group_made old new g result p calls =
    let node = group_node g.requests in
    let s = link_called_at old new node g.link g.requests 0 (length g.requests) result p.place p.some p.to_node (direct_whole g.requests p.direct) calls in
    let f = found old node g.link p.place.place in
    let same : f.node ≡ calls.before = let a = f.at in let b = calls.found in cc in
    let there : link_at old node ≡ Some calls.before.link = f.link ∙ ap (λ (n : Node). Some n.link) same in
    let open' : calls.before.link.usable ≡ true = sym (ap is_usable there) ∙ sym (linked old node) ∙ p.place.linked in
    record { taken = s.0; called = s.1; told = told_by calls.before.link calls.after.link s.1.before s.1.after g s.0 result p.direct open' calls.call s.1.ends }

-- nothing was done for want of memory, or the requests stand in the log and their link call was made
pub exchanged_group : (old new : List Node) (before after : List Request) (g : NodeRequests) (result : Result (List Tree) Refusal) → IsGroupPlaced old g → Exchanges old new g.link before after g.requests 0 (length g.requests) result
    → ((new ≡ old) × (after ≡ before) × (result ≡ Err (by_cause Memory))) ⊎ ((after ≡ before ++ g.requests) × GroupMade old new g result)
exchanged_group old new before after g result p (not_begun same log is) = inl (same, log, is)
exchanged_group old new before after g result p (made log calls) = inr (log, group_made old new g result p calls)

-- ---- what follows from it

module _ (old new : List Node) (g : NodeRequests) (trees : List Tree) (p : IsGroupPlaced old g) (m : GroupMade old new g (Ok trees)) where
  abbrev here : ℕ → List Exchange
  here place = exchanges_at place (group_event g m.taken (Ok trees))

  pub group_replies : (place : ℕ) → map (λ (x : Exchange). x.reply) (here place) ≡ map (λ tree. Some tree) trees
  group_replies place = ap (λ ts. map (λ (x : Exchange). x.reply) (pair_up ts place g.requests)) m.told.0 ∙ direct_replies g.requests trees place p.direct m.told.1

  pub group_replied : (place : ℕ) → list_any is_unanswered (here place) ≡ false
  group_replied place = all_replied (here place) trees (group_replies place)

  pub group_moved : list_any is_moved (here 0) ≡ list_any is_moved_tree trees
  group_moved = moved_replies (here 0) trees (group_replies 0)

  -- the same links are open
  pub group_opens : open_links new ≡ open_links old
  group_opens =
      ap open_links m.called.now
      ∙ set_open old (group_node g.requests) m.called.before m.called.after m.called.found
      (ends_usable m.called.before m.called.after g.requests m.taken (answers trees) m.called.ends ∙ sym (ends_was_open m.called.before m.called.after g.requests m.taken (answers trees) m.called.ends))

failed_unanswered : (b a : Seen) (node : Address) (qs : List Request) (taken : List Tree) (e : Ending) (refusal : Refusal) (place : ℕ) → qs ≢ [] → AllTo node qs → ending_refusal e ≡ Some refusal → EndsBy b a qs taken e
    → list_any is_unanswered (pair_up (replies_of taken) place qs) ≡ true
failed_unanswered b a node qs taken (answers replies) refusal place some all is ends = cc
failed_unanswered b a node qs taken (fails fault) refusal place some all is ends =
    lost_unanswered node (pair_up (replies_of taken) place qs) (some_lost node qs (replies_of taken) place all (ends_pairs b a qs taken (fails fault) some ends))

not_answered : (e : Ending) (refusal : Refusal) → ending_refusal e ≡ Some refusal → is_answer_ending e ≡ false
not_answered (answers replies) refusal is = cc
not_answered (fails fault) refusal is = refl

module _ (old new : List Node) (g : NodeRequests) (e : Refusal) (p : IsGroupPlaced old g) (m : GroupMade old new g (Err e)) where
  abbrev failed : Event
  failed = group_event g m.taken (Err e)

  pub failed_no_answer : is_answer_ending failed.ending ≡ false
  failed_no_answer = not_answered failed.ending e m.told

  pub failed_memory : e ≢ by_cause Memory → is_memory_ending failed.ending ≡ false
  failed_memory had = had_memory_by failed.ending e had m.told

  pub failed_lost : (place : ℕ) → list_any is_unanswered (exchanges_at place failed) ≡ true
  failed_lost place = failed_unanswered m.called.before m.called.after (group_node g.requests) g.requests m.taken failed.ending e place p.some p.to_node m.told m.called.ends

  pub failed_refusal : (faults : Address → LinkFault) → AgreesAt faults (group_node g.requests) failed.ending → (place : ℕ) (errors : List (ℕ × ErrorText)) → pipeline_refusal faults (exchanges_at place failed) errors ≡ Some e
  failed_refusal faults agrees place errors =
      refused_in faults (group_node g.requests) g.requests (replies_of m.taken) place errors p.to_node (failed_lost place)
      ∙ ap (λ k. Some k) (sym (refusal_agrees faults (group_node g.requests) failed.ending e m.told agrees))
