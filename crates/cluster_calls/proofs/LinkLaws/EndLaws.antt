-- What one link call did, from the link's own contract: what came in, how many replies, what went out, and what stayed.
use Rattle.std.specs.Prelude.{slice_get, Some, None, zero, suc, filter, ◌⊎◌}
use Rattle.std.specs.Io.KnownBytes.{Appends}
use Rattle.std.proofs.Common.{◌≡◌, ◌≢◌, ℕ, ◌+◌, ◌<◌, true, false, List, [], ◌∷◌, ◌++◌, refl, sym, ap, ◌∙◌, subst, length, length-append, append-nil, inl, inr, arith}
use Rattle.std.proofs.lemmas.Bool.{false≢true}
use Rattle.resp_core.specs.Trees.{Tree}
use Rattle.resp_core.specs.Errors.{Refusal}
use Rattle.resp_core.specs.Counts.{Counts}
use Rattle.resp_core.specs.Incoming.{Takes}
use Rattle.resp_link.specs.Replies.{is_push, replies_of}
use Rattle.resp_link.specs.Call.{Seen, ReadFails, at_start}
use Rattle.cluster_calls.specs.Links.Request.{Request, bytes_of, skipped}
use Rattle.cluster_calls.specs.Links.Faults.{LinkFault, refusal_by_fault}
use Rattle.cluster_calls.specs.Links.Events.{Ending, answers, fails, AnswersFrom, FailsFrom, in_sending, in_receiving, EndsBy, reply_count, is_answer_ending}
use Rattle.cluster_calls.specs.Links.Nodes.{Came}
use Rattle.cluster_calls.proofs.LinkLaws.LinkEnds.{failed_closes}
use Rattle.cluster_calls.proofs.LinkLaws.Pairing.{few_get}
use Rattle.cluster_calls.proofs.LinkLaws.Bytes.{Came-none, came}

some_counted : (qs : List Request) → qs ≢ [] → 0 < reply_count qs
some_counted [] some = absurd (some refl)
some_counted (q ∷ qs) some = omega arith

-- ---- what came in

pub answered_came : (old new : Seen) (bytes : List ℕ) (count : ℕ) (taken replies : List Tree) → AnswersFrom old new bytes count taken replies → Came old new taken
answered_came old new bytes count taken replies a =
    let reads = a.contract.takes.reads in
    subst (λ ts. Came old new ts) a.values
    (came old new _ _ reads.trees reads.reads.takes refl refl refl reads.reads.takes.same_limit refl (λ o. refl) reads.set_aside (reads.reads.takes.promise, a.contract.sent.sound.promise))

read_came : (old new : Seen) (bytes : List ℕ) (count : ℕ) (refusal : Refusal) → (r : ReadFails old new bytes count refusal) → Came old new r.lacks.ends.trees
read_came old new bytes count refusal r =
    let shut : new.usable ≡ false = r.closed in
    let does : Takes (at_start old) (record { unread = new.unread; held = r.lacks.held; counts = new.counts; allowed = r.lacks.allowed; limit = old.limit }) r.lacks.ends.trees → Came old new r.lacks.ends.trees =
    λ t. came old new _ _ r.lacks.ends.trees t refl refl refl r.limit refl (λ o. absurd (false≢true (sym shut ∙ o))) r.lacks.ends.set_aside (t.promise, r.sent.sound.promise) in
    elim r.lacks.ends.ends as (λ _. Came old new r.lacks.ends.trees) [
      | inl s ↦ does s.0.takes
      | inr more ↦ elim more as (λ _. Came old new r.lacks.ends.trees) [ inl s ↦ does s.0.seeks.takes | inr s ↦ does s.0.takes ]
    ]

pub failed_came : (old new : Seen) (bytes : List ℕ) (count : ℕ) (taken : List Tree) (refusal : Refusal) → FailsFrom old new bytes count taken refusal → Came old new taken
failed_came old new bytes count taken refusal (in_sending s is nothing) =
    subst (λ ts. Came old new ts) (sym nothing)
    (Came-none old new s.unread s.pushes s.limit (λ o. absurd (false≢true (sym s.closed ∙ o))) (ap (λ (c : Counts). c.promise) s.counts, s.sent.counted.promise))
failed_came old new bytes count taken refusal (in_receiving r values) = subst (λ ts. Came old new ts) values (read_came old new bytes count refusal r)

pub ends_came : (old new : Seen) (qs : List Request) (taken : List Tree) (e : Ending) → EndsBy old new qs taken e → Came old new taken
ends_came old new qs taken (answers replies) h = answered_came old new (bytes_of qs) (reply_count qs) taken replies h
ends_came old new qs taken (fails fault) h = failed_came old new (bytes_of qs) (reply_count qs) taken (refusal_by_fault fault) h

-- ---- how many replies

-- an answered call took exactly the replies that its requests have, a failed one fewer
abbrev pub Pairs : List Tree → List Request → Ending → Type 0
Pairs rs qs (answers replies) = (length rs ≡ reply_count qs) × ((dropped : List Tree) × (rs ≡ dropped ++ replies))
Pairs rs qs (fails fault) = length rs < reply_count qs

pub answered_pairs : (old new : Seen) (bytes : List ℕ) (count : ℕ) (taken replies : List Tree) → AnswersFrom old new bytes count taken replies
    → (length (replies_of taken) ≡ count) × ((dropped : List Tree) × (replies_of taken ≡ dropped ++ replies))
answered_pairs old new bytes count taken replies a =
    let t = a.contract.takes in
    let rest : replies_of taken ≡ t.dropped ++ replies = ap replies_of (sym a.values) ∙ t.reads.rest in
    let l : length (t.dropped ++ replies) ≡ length t.dropped + length replies = length-append t.dropped replies in (
      ap length rest ∙ l ∙ ap (λ k. k + length replies) t.dropped_count ∙ ap (λ k. a.offset + k) t.taken_count ∙ a.whole,
      (t.dropped, rest),
    )

pub failed_pairs : (old new : Seen) (bytes : List ℕ) (count : ℕ) (taken : List Tree) (refusal : Refusal) → 0 < count → FailsFrom old new bytes count taken refusal → length (replies_of taken) < count
failed_pairs old new bytes count taken refusal some (in_sending s is nothing) = subst (λ ts. length (replies_of ts) < count) (sym nothing) some
failed_pairs old new bytes count taken refusal some (in_receiving r values) =
    subst (λ ts. length (replies_of ts) < count) values (subst (λ ts. length ts < count) (sym r.lacks.ends.rest) r.lacks.fewer)

pub ends_pairs : (old new : Seen) (qs : List Request) (taken : List Tree) (e : Ending) → qs ≢ [] → EndsBy old new qs taken e → Pairs (replies_of taken) qs e
ends_pairs old new qs taken (answers replies) some h = answered_pairs old new (bytes_of qs) (reply_count qs) taken replies h
ends_pairs old new qs taken (fails fault) some h = failed_pairs old new (bytes_of qs) (reply_count qs) taken (refusal_by_fault fault) (some_counted qs some) h

-- ---- what went out

-- all the bytes; where a link failed perhaps only a part from their front
abbrev pub Sends : Seen → Seen → List ℕ → Ending → Type 0
Sends old new bytes (fails fault) = Appends old.sent new.sent bytes ⊎ ((part : List ℕ) × (rest : List ℕ) × (part ++ rest ≡ bytes) × Appends old.sent new.sent part)
Sends old new bytes _ = Appends old.sent new.sent bytes

pub ends_sends : (old new : Seen) (qs : List Request) (taken : List Tree) (e : Ending) → EndsBy old new qs taken e → Sends old new (bytes_of qs) e
ends_sends old new qs taken (answers replies) h = h.contract.sent.written
ends_sends old new qs taken (fails fault) (in_sending s is nothing) = inr (s.sent.front, s.sent.rest, sym s.sent.joins, s.sent.written)
ends_sends old new qs taken (fails fault) (in_receiving r values) = inl r.sent.written

-- ---- what stayed

pub ends_was_open : (old new : Seen) (qs : List Request) (taken : List Tree) (e : Ending) → EndsBy old new qs taken e → old.usable ≡ true
ends_was_open old new qs taken (answers replies) h = h.contract.was_open
ends_was_open old new qs taken (fails fault) h = (failed_closes old new (bytes_of qs) (reply_count qs) taken (refusal_by_fault fault) h).0

-- the link is open exactly if it answered
pub ends_usable : (old new : Seen) (qs : List Request) (taken : List Tree) (e : Ending) → EndsBy old new qs taken e → new.usable ≡ is_answer_ending e
ends_usable old new qs taken (answers replies) h = h.contract.usable
ends_usable old new qs taken (fails fault) h = (failed_closes old new (bytes_of qs) (reply_count qs) taken (refusal_by_fault fault) h).1

failed_pushes : (old new : Seen) (bytes : List ℕ) (count : ℕ) (taken : List Tree) (refusal : Refusal) → FailsFrom old new bytes count taken refusal → new.pushes ≡ old.pushes ++ filter is_push taken
failed_pushes old new bytes count taken refusal (in_sending s is nothing) = s.pushes ∙ sym (append-nil old.pushes) ∙ ap (λ ts. old.pushes ++ filter is_push ts) (sym nothing)
failed_pushes old new bytes count taken refusal (in_receiving r values) = r.lacks.ends.set_aside ∙ ap (λ ts. old.pushes ++ filter is_push ts) values

-- the pushes among what was taken were set aside, however the call ended
pub ends_pushes : (old new : Seen) (qs : List Request) (taken : List Tree) (e : Ending) → EndsBy old new qs taken e → new.pushes ≡ old.pushes ++ filter is_push taken
ends_pushes old new qs taken (answers replies) h = h.contract.takes.reads.set_aside ∙ ap (λ ts. old.pushes ++ filter is_push ts) h.values
ends_pushes old new qs taken (fails fault) h = failed_pushes old new (bytes_of qs) (reply_count qs) taken (refusal_by_fault fault) h

-- ---- the replies that were told

-- all of them, where none was dropped
pub whole_answered : (old new : Seen) (qs : List Request) (taken replies : List Tree) → EndsBy old new qs taken (answers replies) → length replies ≡ reply_count qs → replies_of taken ≡ replies
whole_answered old new qs taken replies h all =
    let p = answered_pairs old new (bytes_of qs) (reply_count qs) taken replies h in
    let l : length (p.1.0 ++ replies) ≡ length p.1.0 + length replies = length-append p.1.0 replies in
    let k : length (p.1.0 ++ replies) ≡ reply_count qs = sym (ap length p.1.1) ∙ p.0 in
    p.1.1 ∙ ap (λ ts. ts ++ replies) (nothing p.1.0 (omega arith))
  where
    nothing : (ts : List Tree) → length ts ≡ 0 → ts ≡ []
    nothing [] e = refl
    nothing (t ∷ ts) e = absurd (omega arith)

get_last : (ts : List Tree) (t : Tree) (n : ℕ) → length ts ≡ n → slice_get (ts ++ t ∷ []) n ≡ Some t
get_last [] t zero e = refl
get_last [] t (suc n) e = absurd (omega arith)
get_last (x ∷ ts) t zero e = absurd (omega arith)
get_last (x ∷ ts) t (suc n) e = get_last ts t n (omega arith)

-- of one request, the one behind that to ASKING
pub single_answered : (old new : Seen) (q : Request) (taken : List Tree) (reply : Tree) → EndsBy old new (q ∷ []) taken (answers (reply ∷ [])) → slice_get (replies_of taken) (skipped q.asking) ≡ Some reply
single_answered old new q taken reply h =
    let p = answered_pairs old new (bytes_of (q ∷ [])) (reply_count (q ∷ [])) taken (reply ∷ []) h in
    let l : length (p.1.0 ++ reply ∷ []) ≡ length p.1.0 + 1 = length-append p.1.0 (reply ∷ []) in
    let k : length (p.1.0 ++ reply ∷ []) ≡ skipped q.asking + 1 + 0 = sym (ap length p.1.1) ∙ p.0 in
    ap (λ ts. slice_get ts (skipped q.asking)) p.1.1 ∙ get_last p.1.0 reply (skipped q.asking) (omega arith)

pub single_failed : (old new : Seen) (q : Request) (taken : List Tree) (fault : LinkFault) → EndsBy old new (q ∷ []) taken (fails fault) → slice_get (replies_of taken) (skipped q.asking) ≡ None
single_failed old new q taken fault h =
    let p : length (replies_of taken) < skipped q.asking + 1 + 0 = ends_pairs old new (q ∷ []) taken (fails fault) (λ e. cc e) h in
    few_get (replies_of taken) (skipped q.asking) (omega arith)
