-- The exchange of one request is one link call, and its reply is the one that the link answered.
use Rattle.std.specs.Prelude.{slice_get, ⊤, ◌⊎◌, ◌||◌, ◌&&◌}
use Rattle.std.specs.List.{list_any}
use Rattle.std.proofs.Common.{◌≡◌, ◌≢◌, ℕ, Bool, true, false, List, [], ◌∷◌, ◌++◌, Option, Some, None, Result, Ok, Err, refl, sym, ap, ◌∙◌, inl, inr, arith}
use Rattle.resp_core.specs.Trees.{Tree}
use Rattle.resp_core.specs.Errors.{Refusal, by_cause}
use Rattle.resp_core.specs.declared.errors.redis_error.Cause.TheVariants.{Memory}
use Rattle.resp_link.specs.Call.{Seen}
use Rattle.resp_link.specs.Replies.{replies_of}
use Rattle.cluster_routing.specs.Address.{Address}
use Rattle.cluster_calls.specs.Links.Request.{Request, bytes_of, skipped}
use Rattle.cluster_calls.specs.Links.Log.{is_moved, is_moved_reply}
use Rattle.cluster_calls.specs.Links.World.{Node, Called, CallsLink, one_reply, link_at, is_usable, open_links}
use Rattle.cluster_calls.specs.Links.Places.{IsOpenAt}
use Rattle.cluster_calls.specs.Links.Faults.{LinkFault, refusal_by_fault}
use Rattle.cluster_calls.specs.Links.Events.{Event, Ending, answers, fails, EndsBy, LinkCalled, AgreesAt, is_memory_ending, is_answer_ending, exchanges_at}
use Rattle.cluster_calls.specs.Links.Exchanges.{Exchanges, not_begun, made}
use Rattle.cluster_calls.proofs.LinkLaws.LinkEnds.{ending_of, ending_refusal, ended_refusal, had_memory_by, refusal_agrees, link_called_at}
use Rattle.cluster_calls.proofs.LinkLaws.EndLaws.{single_answered, single_failed, ends_usable, ends_was_open}
use Rattle.cluster_calls.proofs.LinkLaws.LinkPlaces.{found, linked, set_open}
use Rattle.cluster_calls.proofs.Lists.{or_none}

abbrev pub reply_in : Result Tree Refusal → Option Tree
reply_in (Ok tree) = Some tree
reply_in (Err refusal) = None

-- the link call of one request
abbrev pub single : Request → List Tree → Result Tree Refusal → Event
single q taken result = record { node = q.node; requests = q ∷ []; taken = taken; ending = ending_of (one_reply result) }

-- a refusal is the one that its ending tells
abbrev pub RefusedBy : Result Tree Refusal → Type 0
RefusedBy (Ok tree) = ⊤
RefusedBy (Err refusal) = ending_refusal (ending_of (Err refusal)) ≡ Some refusal

pub record OneMade (old new : List Node) (q : Request) (result : Result Tree Refusal) : Type 0 where
  pub taken : List Tree
  pub called : LinkCalled old new (single q taken result)
  pub refused : RefusedBy result

refused_by : (old new : Seen) (q : Request) (result : Result Tree Refusal) → old.usable ≡ true → Called old new (bytes_of (q ∷ [])) (skipped q.asking) 1 (one_reply result) → RefusedBy result
refused_by old new q (Ok tree) open' called = tt
refused_by old new q (Err e) open' called = ended_refusal old new (q ∷ []) (skipped q.asking) 1 e (omega arith) open' called

pub one_made : (old new : List Node) (index : ℕ) (q : Request) (result : Result Tree Refusal) → IsOpenAt old q.node index
    → CallsLink old new index (λ before after. Called before after (bytes_of (q ∷ [])) (skipped q.asking) 1 (one_reply result)) → OneMade old new q result
one_made old new index q result at calls =
    let s = link_called_at old new q.node index (q ∷ []) (skipped q.asking) 1 (one_reply result) at (λ e. cc e) (refl, tt) (omega arith) calls in
    let f = found old q.node index at.place in
    let same : f.node ≡ calls.before = let a = f.at in let b = calls.found in cc in
    let there : link_at old q.node ≡ Some calls.before.link = f.link ∙ ap (λ (n : Node). Some n.link) same in
    let open' : calls.before.link.usable ≡ true = sym (ap is_usable there) ∙ sym (linked old q.node) ∙ at.linked in
    record { taken = s.0; called = s.1; refused = refused_by calls.before.link calls.after.link q result open' calls.call }

-- nothing was done for want of memory, or the request stands in the log and its link call was made
pub exchanged_one : (old new : List Node) (link : ℕ) (before after : List Request) (q : Request) (result : Result Tree Refusal) → IsOpenAt old q.node link
    → Exchanges old new link before after (q ∷ []) (skipped q.asking) 1 (one_reply result)
    → ((new ≡ old) × (after ≡ before) × (one_reply result ≡ Err (by_cause Memory))) ⊎ ((after ≡ before ++ q ∷ []) × OneMade old new q result)
exchanged_one old new link before after q result at (not_begun same log is) = inl (same, log, is)
exchanged_one old new link before after q result at (made log calls) = inr (log, one_made old new link q result at calls)

-- ---- its reply

failed_reply : (b a : Seen) (q : Request) (taken : List Tree) (e : Ending) (refusal : Refusal) → ending_refusal e ≡ Some refusal → EndsBy b a (q ∷ []) taken e → slice_get (replies_of taken) (skipped q.asking) ≡ None
failed_reply b a q taken (answers replies) refusal is ends = cc
failed_reply b a q taken (fails fault) refusal is ends = single_failed b a q taken fault ends

pub one_reply_is : (old new : List Node) (q : Request) (result : Result Tree Refusal) → (o : OneMade old new q result) → slice_get (replies_of o.taken) (skipped q.asking) ≡ reply_in result
one_reply_is old new q (Ok tree) o = single_answered o.called.before o.called.after q o.taken tree o.called.ends
one_reply_is old new q (Err e) o = failed_reply o.called.before o.called.after q o.taken (ending_of (Err e)) e o.refused o.called.ends

pub one_had_memory : (old new : List Node) (q : Request) (result : Result Tree Refusal) → result ≢ Err (by_cause Memory) → (o : OneMade old new q result) → is_memory_ending (ending_of (one_reply result)) ≡ false
one_had_memory old new q (Ok tree) m o = refl
one_had_memory old new q (Err e) m o = had_memory_by (ending_of (Err e)) e (λ k. m (ap Err k)) o.refused

pub one_fault : (old new : List Node) (q : Request) (e : Refusal) (faults : Address → LinkFault) → (o : OneMade old new q (Err e)) → AgreesAt faults q.node (ending_of (Err e)) → e ≡ refusal_by_fault (faults q.node)
one_fault old new q e faults o agrees = refusal_agrees faults q.node (ending_of (Err e)) e o.refused agrees

-- after an answered call the same links are open
pub still_open : (old new : List Node) (q : Request) (tree : Tree) (o : OneMade old new q (Ok tree)) → open_links new ≡ open_links old
still_open old new q tree o =
    ap open_links o.called.now
    ∙ set_open old q.node o.called.before o.called.after o.called.found
    (ends_usable o.called.before o.called.after (q ∷ []) o.taken (answers (tree ∷ [])) o.called.ends ∙ sym (ends_was_open o.called.before o.called.after (q ∷ []) o.taken (answers (tree ∷ [])) o.called.ends))

-- ---- whether it was answered by MOVED

-- a failed call does not count
not_answered : (e : Ending) (refusal : Refusal) → ending_refusal e ≡ Some refusal → is_answer_ending e ≡ false
not_answered (answers replies) refusal is = cc
not_answered (fails fault) refusal is = refl

-- whether the link call of one request was answered by MOVED
abbrev pub one_moved : Result Tree Refusal → Bool
one_moved result = is_moved_reply (reply_in result)

pub single_moved : (old new : List Node) (q : Request) (result : Result Tree Refusal) (o : OneMade old new q result)
    → (is_answer_ending (ending_of (one_reply result)) && list_any is_moved (exchanges_at 0 (single q o.taken result))) ≡ one_moved result
single_moved old new q (Ok tree) o =
    ap (λ r. is_moved_reply r || false) (single_answered o.called.before o.called.after q o.taken tree o.called.ends) ∙ or_none (is_moved_reply (Some tree))
single_moved old new q (Err e) o = ap (λ b. b && list_any is_moved (exchanges_at 0 (single q o.taken (Err e)))) (not_answered (ending_of (Err e)) e o.refused)
