-- Groups that all went out before the first reply was taken: each is as if it had been called by itself, one after another.
use Rattle.std.specs.Prelude.{nat_eq, slice_get, slice_set, unwrap_or, MatchOption}
use Rattle.std.proofs.Common.{◌≡◌, ◌≢◌, ℕ, suc, zero, ◌+◌, Bool, true, false, List, [], ◌∷◌, ◌++◌, map, length, Option, Some, None, Result, Ok, Err, refl, sym, ap, ◌∙◌, subst, inl, inr, eq-eqb, arith}
use Rattle.std.proofs.lemmas.Bool.{false≢true}
use Rattle.std.proofs.lemmas.List.{set_comm, set-set}
use Rattle.resp_core.specs.Trees.{Tree}
use Rattle.resp_core.specs.Errors.{Refusal, by_cause, cause_of}
use Rattle.resp_core.specs.declared.errors.redis_error.Cause.{Cause}
use Rattle.resp_core.specs.declared.errors.redis_error.Cause.TheVariants.{NoLink, Io, Parse, Memory}
use Rattle.resp_link.specs.Call.{Seen, Fails}
use Rattle.resp_link.specs.TwoCalls as two
use Rattle.resp_link.specs.TwoCalls.{ComesToOwe, SendRefused, ReceiveRefused}
use Rattle.resp_link.proofs.TwoCalls.{answers_in_two, fails_in_two, refused_sends_are_refused_calls}
use Rattle.cluster_routing.specs.Lists.{among}
use Rattle.cluster_calls.specs.Links.Request.{bytes_of}
use Rattle.cluster_calls.specs.Links.World.{Node, Called, CallsLink}
use Rattle.cluster_steps.specs.AtOnce.{GoesOut, ComesIn, IsSent, IsReceived, AreSent}
use Rattle.cluster_steps.specs.Groups.{NodeRequests}
use Rattle.cluster_steps.specs.declared.at_once.Sent.{Sent}
use Rattle.cluster_calls.proofs.LinkLaws.LinkRuns.{or_parts}

-- ---- one place of a list is written, and another read

pub get_other : {X : Type 0} (xs : List X) (i j : ℕ) (w : X) → j ≢ i → slice_get (slice_set xs i w) j ≡ slice_get xs j
get_other [] i j w h = refl
get_other (x ∷ xs) zero zero w h = absurd (h refl)
get_other (x ∷ xs) zero (suc j) w h = refl
get_other (x ∷ xs) (suc i) zero w h = refl
get_other (x ∷ xs) (suc i) (suc j) w h = get_other xs i j w (λ e. h (ap suc e))

pub get_same : {X : Type 0} (xs : List X) (i : ℕ) (v w : X) → slice_get xs i ≡ Some v → slice_get (slice_set xs i w) i ≡ Some w
get_same [] i v w e = cc
get_same (x ∷ xs) zero v w e = refl
get_same (x ∷ xs) (suc i) v w e = get_same xs i v w e

-- ---- calls of links at two places, in either order

pub calls_swapped : {P Q : Seen → Seen → Type 0} (old mid new : List Node) (j k : ℕ) → j ≢ k → CallsLink old mid j P → CallsLink mid new k Q → (first : List Node) × CallsLink old first k Q × CallsLink first new j P
calls_swapped old mid new j k apart p q =
    let there : slice_get old k ≡ Some q.before = sym (get_other old j k p.after (λ e. apart (sym e))) ∙ ap (λ ns. slice_get ns k) (sym p.others) ∙ q.found in (
      slice_set old k q.after,
      record { before = q.before; after = q.after; found = there; others = refl; address = q.address; call = q.call },
      record {
        before = p.before;
        after = p.after;
        found = get_other old k j q.after apart ∙ p.found;
        others = q.others ∙ ap (λ ns. slice_set ns k q.after) p.others ∙ set_comm old j k p.after q.after apart;
        address = p.address;
        call = p.call;
      },
    )

-- two calls at one place are one that does both
pub calls_joined : {P R : Seen → Seen → Type 0} (Q : Seen → Seen → Type 0) → ((a b c : Seen) → P a b → Q b c → R a c) → (old mid new : List Node) (k : ℕ) → CallsLink old mid k P → CallsLink mid new k Q → CallsLink old new k R
calls_joined Q does old mid new k p q =
    let here : Some p.after ≡ Some q.before = sym (get_same old k p.before p.after p.found) ∙ ap (λ ns. slice_get ns k) (sym p.others) ∙ q.found in
    let same : p.after ≡ q.before = cc in
    record {
      before = p.before;
      after = q.after;
      found = p.found;
      others = q.others ∙ ap (λ ns. slice_set ns k q.after) p.others ∙ set-set old k p.after q.after;
      address = q.address ∙ ap (λ (n : Node). n.address) (sym same) ∙ p.address;
      call = does p.before.link p.after.link q.after.link p.call (subst (λ (n : Node). Q n.link q.after.link) (sym same) q.call);
    }

-- what a link did is the same in other words
pub calls_as : {P Q : Seen → Seen → Type 0} → ((a b : Seen) → P a b → Q a b) → (old new : List Node) (k : ℕ) → CallsLink old new k P → CallsLink old new k Q
calls_as does old new k p = record { before = p.before; after = p.after; found = p.found; others = p.others; address = p.address; call = does p.before.link p.after.link p.call }

-- ---- causes of refusals

sent_by : {old new : Seen} {bytes : List ℕ} {e : Refusal} → SendRefused old new bytes e → (cause : Cause) × (e ≡ by_cause cause)
sent_by (two.closed was same is) = (NoLink, is)
sent_by (two.sending fails is) = (Io, is)

received_by : {old new : Seen} {wanted : ℕ} {e : Refusal} → ReceiveRefused old new wanted e → (cause : Cause) × (e ≡ by_cause cause)
received_by (two.nothing_owed none same is) = (NoLink, is)
received_by (two.receiving l) = elim l.lacks.ends.ends [ inl stops ↦ (Io, stops.1) | inr (inl meets) ↦ (Parse, meets.1) | inr (inr seeks) ↦ (Memory, seeks.1) ]

told : (e : Refusal) (cause : Cause) → (by' : (known : Cause) × (e ≡ by_cause known)) → cause ≡ unwrap_or (cause_of e) Io → e ≡ by_cause cause
told e cause by' is = by'.1 ∙ ap by_cause (sym (is ∙ ap (λ r. unwrap_or (cause_of r) Io) by'.1))

pub goes_out : (old new : Seen) (bytes : List ℕ) (e : Refusal) (cause : Cause) → cause ≡ unwrap_or (cause_of e) Io → SendRefused old new bytes e → SendRefused old new bytes (by_cause cause)
goes_out old new bytes e cause is refused = subst (SendRefused old new bytes) (told e cause (sent_by refused) is) refused

pub comes_in : (old new : Seen) (count : ℕ) (e : Refusal) (cause : Cause) → cause ≡ unwrap_or (cause_of e) Io → ReceiveRefused old new count e → ReceiveRefused old new count (by_cause cause)
comes_in old new count e cause is refused = subst (ReceiveRefused old new count) (told e cause (received_by refused) is) refused

-- ---- what went out stays so, whatever is done at another place

abbrev pub are_elsewhere : ℕ → List NodeRequests → Bool
are_elsewhere k gs = among nat_eq k (map (λ (g : NodeRequests). g.link) gs)

pub sent_stays : (Q : Seen → Seen → Type 0) (k : ℕ) (old mid new : List Node) (gs : List NodeRequests) (ss : List Sent) → are_elsewhere k gs ≡ false → AreSent old mid gs ss → CallsLink mid new k Q
    → (first : List Node) × CallsLink old first k Q × AreSent first new gs ss
sent_stays Q k old mid new [] [] apart sent call = (new, subst (λ ns. CallsLink ns new k Q) sent call, refl)
sent_stays Q k old mid new [] (s ∷ ss) apart sent call = absurd sent
sent_stays Q k old mid new (g ∷ gs) [] apart sent call = absurd sent
sent_stays Q k old mid new (g ∷ gs) (s ∷ ss) apart sent call =
    let parts = or_parts (nat_eq k g.link) (are_elsewhere k gs) apart in
    let later = sent_stays Q k sent.0 mid new gs ss parts.1 sent.2 call in
    let other : g.link ≢ k = λ e. false≢true (sym parts.0 ∙ eq-eqb k g.link (sym e)) in
    let swapped = calls_swapped old sent.0 later.0 g.link k other sent.1.call later.1 in (
      swapped.0,
      swapped.1,
      (later.0, record { link = sent.1.link; count = sent.1.count; call = swapped.2 }, later.2),
    )

-- ---- one group

-- what came, as the result of one call
abbrev pub as_result : Result (List Tree) Cause → Result (List Tree) Refusal
as_result (Ok trees) = Ok trees
as_result (Err cause) = Err (by_cause cause)

went_and_came : (bytes : List ℕ) (count : ℕ) (came : Result (List Tree) Cause) (a b c : Seen) → ComesToOwe a b bytes → ComesIn b c count came → Called a c bytes 0 count (as_result came)
went_and_came bytes count (Ok trees) a b c goes comes = answers_in_two goes comes
went_and_came bytes count (Err cause) a b c goes comes = subst (λ n. Fails a c bytes n (by_cause cause)) (omega arith) (fails_in_two goes comes)

did_not_go : (bytes : List ℕ) (count : ℕ) (cause : Cause) (a b : Seen) → SendRefused a b bytes (by_cause cause) → Called a b bytes 0 count (Err (by_cause cause))
did_not_go bytes count cause a b refused = refused_sends_are_refused_calls a b bytes (0 + count) (by_cause cause) refused

-- the first of the groups that went out is taken: it is as if it alone had been called, and the others had gone out behind it
pub received_first : (old now new : List Node) (g : NodeRequests) (gs : List NodeRequests) (s : Sent) (ss : List Sent) (came : Result (List Tree) Cause) → are_elsewhere g.link gs ≡ false → AreSent old now (g ∷ gs) (s ∷ ss) → IsReceived now new s came
    → (mid : List Node) × CallsLink old mid g.link (λ before after. Called before after (bytes_of g.requests) 0 (length g.requests) (as_result came)) × AreSent mid new gs ss
received_first old now new g gs s ss came apart sent received = by s.refusal refl received
  where
    Does : Seen → Seen → Type 0
    Does before after = Called before after (bytes_of g.requests) 0 (length g.requests) (as_result came)

    out : (o : Option Cause) → s.refusal ≡ o → CallsLink old sent.0 g.link (λ before after. GoesOut before after (bytes_of g.requests) o)
    out o is = subst (λ r. CallsLink old sent.0 g.link (λ before after. GoesOut before after (bytes_of g.requests) r)) is sent.1.call

    by : (o : Option Cause) → s.refusal ≡ o → MatchOption o (CallsLink now new s.link (λ before after. ComesIn before after s.count came)) (λ cause. (new ≡ now) × (came ≡ Err cause))
        → (mid : List Node) × CallsLink old mid g.link Does × AreSent mid new gs ss
    by None is calls =
        let here : CallsLink now new g.link (λ before after. ComesIn before after (length g.requests) came) =
        subst (λ n. CallsLink now new g.link (λ before after. ComesIn before after n came)) sent.1.count (subst (λ k. CallsLink now new k (λ before after. ComesIn before after s.count came)) sent.1.link calls) in
        let first = sent_stays (λ before after. ComesIn before after (length g.requests) came) g.link sent.0 now new gs ss apart sent.2 here in (
          first.0,
          calls_joined (λ before after. ComesIn before after (length g.requests) came) (λ a b c goes comes. went_and_came (bytes_of g.requests) (length g.requests) came a b c goes comes) old sent.0 first.0 g.link (out None is) first.1,
          first.2,
        )
    by (Some cause) is (same, told) = (
      sent.0,
      subst (λ (r : Result (List Tree) Cause). CallsLink old sent.0 g.link (λ before after. Called before after (bytes_of g.requests) 0 (length g.requests) (as_result r))) (sym told)
          (calls_as (λ a b refused. did_not_go (bytes_of g.requests) (length g.requests) cause a b refused) old sent.0 g.link (out (Some cause) is)),
      subst (λ ns. AreSent sent.0 ns gs ss) (sym same) sent.2,
    )

-- ---- one more goes out

pub sent_more : (old mid new : List Node) (gs : List NodeRequests) (ss : List Sent) (g : NodeRequests) (s : Sent) → AreSent old mid gs ss → IsSent mid new g s → AreSent old new (gs ++ g ∷ []) (ss ++ s ∷ [])
sent_more old mid new [] [] g s sent is = (new, subst (λ ns. IsSent ns new g s) sent is, refl)
sent_more old mid new [] (r ∷ ss) g s sent is = absurd sent
sent_more old mid new (h ∷ gs) [] g s sent is = absurd sent
sent_more old mid new (h ∷ gs) (r ∷ ss) g s sent is = (sent.0, sent.1, sent_more sent.0 mid new gs ss g s sent.2 is)
