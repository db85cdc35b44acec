-- The fate of a position, from the fates of its parts.
use Rattle.std.specs.Prelude.{◌&&◌, unwrap_or, MatchOption}
use Rattle.std.specs.List.{list_all, AllByRecursion}
use Rattle.std.proofs.Common.{◌≡◌, ◌≢◌, suc, Bool, true, false, cond, List, [], ◌∷◌, map, take, drop, length, Option, Some, None, Result, Ok, Err, refl, sym, ap, ◌∙◌, subst}
use Rattle.std.proofs.lemmas.Bool.{false≢true}
use Rattle.resp_core.specs.Trees.{Tree}
use Rattle.resp_core.specs.Errors.{Refusal, by_cause, by_server, by_servers, at_position}
use Rattle.resp_core.specs.declared.errors.redis_error.Cause.TheVariants as causes
use Rattle.cluster_routing.specs.Combine.{combine, part_replies}
use Rattle.cluster_routing.specs.Policies.{or_bad_reply}
use Rattle.cluster_routing.specs.Split.{Split, part_slots}
use Rattle.cluster_calls.specs.Calls.Each.{Fate, answered, redirected, lost, fate_of, link_refusal, refusal_where, reply_in}
use Rattle.cluster_calls.specs.Calls.EachInParts.{AreOutcomesOf, IsMadeOf, IsOutcomeOf, are_of_one_fate, refusal_of_parts, reply_in_parts, same_fate}
use Rattle.cluster_calls.specs.Calls.InParts.{part_count}
use Rattle.cluster_calls.specs.Calls.Refusals.{refusal_in}
use Rattle.cluster_calls.specs.Calls.Task.{first_refusal}
use Rattle.cluster_calls.specs.OneServer.Fates.{AreFatesOfParts, FateOfParts}

abbrev Outcome : Type 0
Outcome = Result Tree Refusal

abbrev HaveFate : Fate → List Outcome → Type 0
HaveFate fate os = AllByRecursion (λ (o : Outcome). fate_of o ≡ fate) os

-- ---- parts of one fate

same_is : (a b : Fate) → same_fate a b ≡ true → a ≡ b
same_is answered answered e = refl
same_is answered redirected e = absurd (false≢true e)
same_is answered lost e = absurd (false≢true e)
same_is redirected answered e = absurd (false≢true e)
same_is redirected redirected e = refl
same_is redirected lost e = absurd (false≢true e)
same_is lost answered e = absurd (false≢true e)
same_is lost redirected e = absurd (false≢true e)
same_is lost lost e = refl

have_fate : (fate : Fate) (os : List Outcome) → list_all (λ p. same_fate (fate_of p) fate) os ≡ true → HaveFate fate os
have_fate fate [] h = tt
have_fate fate (o ∷ os) h = by (same_fate (fate_of o) fate) refl h (λ k. have_fate fate os k)
  where
    by : (b : Bool) → same_fate (fate_of o) fate ≡ b → (b && list_all (λ p. same_fate (fate_of p) fate) os) ≡ true → (list_all (λ p. same_fate (fate_of p) fate) os ≡ true → HaveFate fate os) → HaveFate fate (o ∷ os)
    by true e k ih = (same_is (fate_of o) fate e, ih k)
    by false e k ih = absurd (false≢true k)

-- what is so of each part is so of the first refusal
first_so : (P : Outcome → Type 0) (os : List Outcome) (refusal : Refusal) → AllByRecursion P os → first_refusal (map refusal_in os) ≡ Some refusal → P (Err refusal)
first_so P [] refusal h e = cc
first_so P (Ok tree ∷ os) refusal h e = first_so P os refusal h.1 e
first_so P (Err other ∷ os) refusal h e = let same : other ≡ refusal = cc in subst (λ r. P (Err r)) same h.0

-- parts that refuse nothing were answered
all_answered : (os : List Outcome) → first_refusal (map refusal_in os) ≡ None → HaveFate answered os
all_answered [] e = tt
all_answered (Ok tree ∷ os) e = (refl, all_answered os e)
all_answered (Err refusal ∷ os) e = cc

-- what a link call was refused leaves it open what was done
lost_first : (os : List Outcome) (refusal : Refusal) → first_refusal (map link_refusal os) ≡ Some refusal → fate_of (Err refusal) ≡ lost
lost_first [] refusal e = cc
lost_first (Ok tree ∷ os) refusal e = lost_first os refusal e
lost_first (Err other ∷ os) refusal e = by (fate_of (Err other)) refl e (λ k. lost_first os refusal k)
  where
    by : (fate : Fate) → fate_of (Err other) ≡ fate → first_refusal (refusal_where fate other ∷ map link_refusal os) ≡ Some refusal → (first_refusal (map link_refusal os) ≡ Some refusal → fate_of (Err refusal) ≡ lost) → fate_of (Err refusal) ≡ lost
    by answered f k ih = ih k
    by redirected f k ih = ih k
    by lost f k ih = let same : other ≡ refusal = cc in subst (λ r. fate_of (Err r) ≡ lost) same f

mixed : (o : Option Refusal) → ((refusal : Refusal) → o ≡ Some refusal → fate_of (Err refusal) ≡ lost) → fate_of (Err (unwrap_or o (by_cause causes.UnexpectedReturnType))) ≡ lost
mixed None h = refl
mixed (Some refusal) h = h refusal refl

-- ---- the outcome of a command in parts

of_fate : (fate : Fate) (os : List Outcome) → HaveFate fate os → FateOfParts fate os
of_fate answered os h = h
of_fate redirected os h = h
of_fate lost os h = tt

pub refused_fate : (os : List Outcome) (refusal : Refusal) → refusal_of_parts os ≡ Some refusal → FateOfParts (fate_of (Err refusal)) os
refused_fate os refusal e = by (are_of_one_fate os) refl e
  where
    uniform : (os : List Outcome) → are_of_one_fate os ≡ true → first_refusal (map refusal_in os) ≡ Some refusal → FateOfParts (fate_of (Err refusal)) os
    uniform [] a k = cc
    uniform (o ∷ os) a k =
        let all = have_fate (fate_of o) (o ∷ os) (ap (λ b. b && list_all (λ p. same_fate (fate_of p) (fate_of o)) os) (same_refl (fate_of o)) ∙ a) in
        let is : fate_of (Err refusal) ≡ fate_of o = first_so (λ p. fate_of p ≡ fate_of o) (o ∷ os) refusal all k in
        subst (λ f. FateOfParts f (o ∷ os)) (sym is) (of_fate (fate_of o) (o ∷ os) all)
      where
        same_refl : (f : Fate) → same_fate f f ≡ true
        same_refl answered = refl
        same_refl redirected = refl
        same_refl lost = refl

    by : (b : Bool) → are_of_one_fate os ≡ b → cond b (first_refusal (map refusal_in os)) (Some (unwrap_or (first_refusal (map link_refusal os)) (by_cause causes.UnexpectedReturnType))) ≡ Some refusal → FateOfParts (fate_of (Err refusal)) os
    by true a k = uniform os a k
    by false a k =
        let same : unwrap_or (first_refusal (map link_refusal os)) (by_cause causes.UnexpectedReturnType) ≡ refusal = cc in
        let open_ : fate_of (Err refusal) ≡ lost = subst (λ r. fate_of (Err r) ≡ lost) same (mixed (first_refusal (map link_refusal os)) (λ r f. lost_first os r f)) in
        subst (λ f. FateOfParts f os) (sym open_) tt

-- parts of which none refuses were answered
unrefused : (os : List Outcome) → refusal_of_parts os ≡ None → HaveFate answered os
unrefused os e = by (are_of_one_fate os) e
  where
    by : (b : Bool) → cond b (first_refusal (map refusal_in os)) (Some (unwrap_or (first_refusal (map link_refusal os)) (by_cause causes.UnexpectedReturnType))) ≡ None → HaveFate answered os
    by true k = all_answered os k
    by false k = cc

abbrev refused : Refusal → Outcome
refused refusal = Err refusal

-- what is made of their replies is an answer, or leaves it open what was done
made_open : (o : Option Tree) (refusal : Refusal) → (refused refusal ≢ Err (by_cause causes.Memory) → refused refusal ≡ or_bad_reply o) → fate_of (Err refusal) ≡ lost
made_open o (by_cause cause) h = refl
made_open o (at_position n) h = refl
made_open o (by_servers first more) h = refl
made_open None (by_server e) h = absurd (let k = h (λ m. cc m) in cc)
made_open (Some tree) (by_server e) h = absurd (let k = h (λ m. cc m) in cc)

made_fate : (s : Split) (os : List Outcome) (outcome : Outcome) → IsMadeOf s os outcome → FateOfParts (fate_of outcome) os
made_fate s os outcome made = by (refusal_of_parts os) refl made
  where
    from_replies : (outcome : Outcome) → (outcome ≢ Err (by_cause causes.Memory) → outcome ≡ reply_in_parts s (map reply_in os)) → HaveFate answered os → FateOfParts (fate_of outcome) os
    from_replies (Ok tree) m all = all
    from_replies (Err refusal) m all = subst (λ f. FateOfParts f os) (sym (made_open (combine s (part_replies (part_slots s.tuples) (map reply_in os))) refusal m)) tt

    by : (o : Option Refusal) → refusal_of_parts os ≡ o
        → MatchOption o (outcome ≢ Err (by_cause causes.Memory) → outcome ≡ reply_in_parts s (map reply_in os)) (λ refusal. outcome ≡ Err refusal) → FateOfParts (fate_of outcome) os
    by None e m = from_replies outcome m (unrefused os e)
    by (Some refusal) e m = subst (λ o. FateOfParts (fate_of o) os) (sym m) (refused_fate os refusal e)

-- ---- position by position

one_fate : (s : Option Split) (os : List Outcome) (outcome : Outcome) → IsOutcomeOf s os outcome → FateOfParts (fate_of outcome) os
one_fate None os outcome h = subst (FateOfParts (fate_of outcome)) (sym h) (of_fate (fate_of outcome) (outcome ∷ []) (refl, tt))
one_fate (Some s) os outcome h = made_fate s os outcome h

pub fates_of_parts : (ss : List (Option Split)) (told outcomes : List Outcome) → AreOutcomesOf ss told outcomes → AreFatesOfParts ss told outcomes
fates_of_parts [] told [] h = h
fates_of_parts [] told (o ∷ os) h = absurd h
fates_of_parts (s ∷ ss) told [] h = absurd h
fates_of_parts (s ∷ ss) told (o ∷ os) h = (one_fate s (take (part_count s) told) o h.0, fates_of_parts ss (drop (part_count s) told) os h.1)

pub as_many : (ss : List (Option Split)) (told outcomes : List Outcome) → AreOutcomesOf ss told outcomes → length outcomes ≡ length ss
as_many [] told [] h = refl
as_many [] told (o ∷ os) h = absurd h
as_many (s ∷ ss) told [] h = absurd h
as_many (s ∷ ss) told (o ∷ os) h = ap suc (as_many ss (drop (part_count s) told) os h.1)
