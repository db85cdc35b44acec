-- A link call that its own contract describes is an event: what it took, and how it ended.
use Rattle.std.specs.Prelude.{slice_set, ◌⊎◌}
use Rattle.std.proofs.Common.{◌≡◌, ◌≢◌, ℕ, ◌+◌, true, false, List, [], Option, Some, None, Result, Ok, Err, refl, sym, ap, ◌∙◌, subst, inl, inr}
use Rattle.std.proofs.lemmas.Bool.{false≢true}
use Rattle.resp_core.specs.Trees.{Tree}
use Rattle.resp_core.specs.Errors.{Refusal, by_cause}
use Rattle.resp_core.specs.declared.errors.redis_error.Cause.TheVariants.{Io, Parse, Memory}
use Rattle.resp_link.specs.Call.{Seen, Answers, Fails, closed, sending, receiving}
use Rattle.cluster_routing.specs.Address.{Address}
use Rattle.cluster_calls.specs.Links.Request.{Request, bytes_of}
use Rattle.cluster_calls.specs.Links.World.{Node, link_at, is_usable, Called, CallsLink}
use Rattle.cluster_calls.specs.Links.Places.{IsOpenAt}
use Rattle.cluster_calls.specs.Links.Faults.{LinkFault, io, grammar, no_memory, refusal_by_fault}
use Rattle.cluster_calls.specs.Links.Events.{Ending, answers, fails, AnswersFrom, FailsFrom, in_sending, in_receiving, EndsBy, reply_count, AllTo, LinkCalled, AgreesAt, is_memory_ending}
use Rattle.cluster_calls.proofs.LinkLaws.LinkPlaces.{found, linked}

-- an answered call
pub answers_from : (old new : Seen) (bytes : List ℕ) (offset size : ℕ) (replies : List Tree) → (contract : Answers old new bytes offset size replies) → AnswersFrom old new bytes (offset + size) contract.takes.reads.trees replies
answers_from old new bytes offset size replies contract = record { offset = offset; size = size; whole = refl; contract = contract; values = refl }

-- a refused call of an open link
pub fails_from : (old new : Seen) (bytes : List ℕ) (count : ℕ) (refusal : Refusal) → old.usable ≡ true → Fails old new bytes count refusal → (taken : List Tree) × FailsFrom old new bytes count taken refusal
fails_from old new bytes count refusal open' (closed was_closed same no_link) = absurd (false≢true (sym was_closed ∙ open'))
fails_from old new bytes count refusal open' (sending contract is_io) = ([], in_sending contract is_io refl)
fails_from old new bytes count refusal open' (receiving contract) = (contract.lacks.ends.trees, in_receiving contract refl)

-- a failed call closes its link, and an answered one leaves it open
pub failed_closes : (old new : Seen) (bytes : List ℕ) (count : ℕ) (taken : List Tree) (refusal : Refusal) → FailsFrom old new bytes count taken refusal → (old.usable ≡ true) × (new.usable ≡ false)
failed_closes old new bytes count taken refusal (in_sending contract is_io nothing) = (contract.was_open, contract.closed)
failed_closes old new bytes count taken refusal (in_receiving contract values) = (contract.was_open, contract.closed)

-- ---- the ending that a link call's result tells

abbrev pub ending_of : Result (List Tree) Refusal → Ending
ending_of (Ok replies) = answers replies
ending_of (Err (by_cause Memory)) = fails no_memory
ending_of (Err (by_cause Parse)) = fails grammar
ending_of (Err _) = fails io

abbrev pub ending_refusal : Ending → Option Refusal
ending_refusal (answers replies) = None
ending_refusal (fails fault) = Some (refusal_by_fault fault)

-- a failed call's refusal is one of three
one_of_three : (old new : Seen) (bytes : List ℕ) (count : ℕ) (taken : List Tree) (e : Refusal) → FailsFrom old new bytes count taken e → (e ≡ by_cause Io) ⊎ (e ≡ by_cause Parse) ⊎ (e ≡ by_cause Memory)
one_of_three old new bytes count taken e (in_sending contract is nothing) = inl is
one_of_three old new bytes count taken e (in_receiving contract values) = elim contract.lacks.ends.ends as (λ _. (e ≡ by_cause Io) ⊎ (e ≡ by_cause Parse) ⊎ (e ≡ by_cause Memory)) [
  | inl stops ↦ inl stops.1
  | inr more ↦ elim more as (λ _. (e ≡ by_cause Io) ⊎ (e ≡ by_cause Parse) ⊎ (e ≡ by_cause Memory)) [ inl meets ↦ inr (inl meets.1) | inr s ↦ inr (inr s.1) ]
]

failed_ends : (old new : Seen) (qs : List Request) (taken : List Tree) (e : Refusal) → FailsFrom old new (bytes_of qs) (reply_count qs) taken e → (e ≡ by_cause Io) ⊎ (e ≡ by_cause Parse) ⊎ (e ≡ by_cause Memory)
    → EndsBy old new qs taken (ending_of (Err e)) × (ending_refusal (ending_of (Err e)) ≡ Some e)
failed_ends old new qs taken e f (inl is) =
    subst (λ k. EndsBy old new qs taken (ending_of (Err k)) × (ending_refusal (ending_of (Err k)) ≡ Some k)) (sym is) (subst (λ k. FailsFrom old new (bytes_of qs) (reply_count qs) taken k) is f, refl)
failed_ends old new qs taken e f (inr (inl is)) =
    subst (λ k. EndsBy old new qs taken (ending_of (Err k)) × (ending_refusal (ending_of (Err k)) ≡ Some k)) (sym is) (subst (λ k. FailsFrom old new (bytes_of qs) (reply_count qs) taken k) is f, refl)
failed_ends old new qs taken e f (inr (inr is)) =
    subst (λ k. EndsBy old new qs taken (ending_of (Err k)) × (ending_refusal (ending_of (Err k)) ≡ Some k)) (sym is) (subst (λ k. FailsFrom old new (bytes_of qs) (reply_count qs) taken k) is f, refl)

-- a call of an open link took some values, and ended as its result tells
pub ended : (old new : Seen) (qs : List Request) (offset size : ℕ) (result : Result (List Tree) Refusal) → offset + size ≡ reply_count qs → old.usable ≡ true → Called old new (bytes_of qs) offset size result
    → (taken : List Tree) × EndsBy old new qs taken (ending_of result)
ended old new qs offset size (Ok replies) whole open' called = (called.takes.reads.trees, record { offset = offset; size = size; whole = whole; contract = called; values = refl })
ended old new qs offset size (Err e) whole open' called =
    let f = fails_from old new (bytes_of qs) (offset + size) e open' called in
    let g : FailsFrom old new (bytes_of qs) (reply_count qs) f.0 e = subst (λ k. FailsFrom old new (bytes_of qs) k f.0 e) whole f.1 in
    (f.0, (failed_ends old new qs f.0 e g (one_of_three old new (bytes_of qs) (reply_count qs) f.0 e g)).0)

-- and its refusal is that of the ending
pub ended_refusal : (old new : Seen) (qs : List Request) (offset size : ℕ) (e : Refusal) → offset + size ≡ reply_count qs → old.usable ≡ true → Called old new (bytes_of qs) offset size (Err e) → ending_refusal (ending_of (Err e)) ≡ Some e
ended_refusal old new qs offset size e whole open' called =
    let f = fails_from old new (bytes_of qs) (offset + size) e open' called in
    let g : FailsFrom old new (bytes_of qs) (reply_count qs) f.0 e = subst (λ k. FailsFrom old new (bytes_of qs) k f.0 e) whole f.1 in
    (failed_ends old new qs f.0 e g (one_of_three old new (bytes_of qs) (reply_count qs) f.0 e g)).1

-- a link call that was refused otherwise had memory
pub had_memory_by : (e : Ending) (refusal : Refusal) → refusal ≢ by_cause Memory → ending_refusal e ≡ Some refusal → is_memory_ending e ≡ false
had_memory_by (answers replies) refusal m is = refl
had_memory_by (fails io) refusal m is = refl
had_memory_by (fails grammar) refusal m is = refl
had_memory_by (fails no_memory) refusal m is = absurd (m (let same : refusal ≡ by_cause Memory = cc in same))

-- and its refusal is by the fault of each function that agrees with it
pub refusal_agrees : (faults : Address → LinkFault) (node : Address) (e : Ending) (refusal : Refusal) → ending_refusal e ≡ Some refusal → AgreesAt faults node e → refusal ≡ refusal_by_fault (faults node)
refusal_agrees faults node (answers replies) refusal is agrees = cc
refusal_agrees faults node (fails fault) refusal is agrees =
    let told : refusal ≡ refusal_by_fault fault = cc in
    told ∙ ap refusal_by_fault (sym agrees)

-- ---- a call at an open place, among the nodes

pub link_called_at : (old new : List Node) (node : Address) (index : ℕ) (qs : List Request) (offset size : ℕ) (result : Result (List Tree) Refusal) → IsOpenAt old node index → qs ≢ [] → AllTo node qs → offset + size ≡ reply_count qs
    → CallsLink old new index (λ before after. Called before after (bytes_of qs) offset size result) → (taken : List Tree) × LinkCalled old new (record { node = node; requests = qs; taken = taken; ending = ending_of result })
link_called_at old new node index qs offset size result at some to_node whole calls =
    let f = found old node index at.place in
    let same : f.node ≡ calls.before = let a = f.at in let b = calls.found in cc in
    let there : link_at old node ≡ Some calls.before.link = f.link ∙ ap (λ (n : Node). Some n.link) same in
    let open' : calls.before.link.usable ≡ true = sym (ap is_usable there) ∙ sym (linked old node) ∙ at.linked in
    let e = ended calls.before.link calls.after.link qs offset size result whole open' calls.call in (
      e.0,
      record {
        before = calls.before.link;
        after = calls.after.link;
        found = there;
        now = calls.others ∙ ap (λ k. slice_set old index (record { address = k; link = calls.after.link })) (calls.address ∙ ap (λ (n : Node). n.address) (sym same)) ∙ sym (f.set calls.after.link);
        some = some;
        to_node = to_node;
        ends = e.1;
      },
    )
