-- Where memory may lack, over runs of link calls.
use Rattle.std.specs.Prelude.{◌||◌, ◌==◌}
use Rattle.std.specs.List.{list_any}
use Rattle.std.proofs.Common.{◌≡◌, ◌≢◌, ℕ, Bool, true, false, cond, List, [], ◌∷◌, ◌++◌, inl, inr, Option, Result, Ok, Err, refl, ap, ◌∙◌}
use Rattle.std.proofs.lemmas.Bool.{false≢true}
use Rattle.resp_core.specs.Trees.{Tree}
use Rattle.resp_core.specs.Errors.{Refusal, by_cause}
use Rattle.resp_core.specs.declared.errors.redis_error.Cause.TheVariants.{Memory}
use Rattle.cluster_routing.specs.Address.{Address}
use Rattle.cluster_calls.specs.Calls.Call.{Call}
use Rattle.cluster_calls.specs.Calls.Legal.{IsLegalCall}
use Rattle.cluster_calls.specs.Calls.Plan.{Client}
use Rattle.cluster_calls.specs.Calls.Redirects.{Next, Stays, is_going, next_of, reply_next}
use Rattle.cluster_calls.specs.Calls.Task.{task_of}
use Rattle.cluster_calls.specs.Calls.Transactions.{Fate, done, not_done, may_be_done, exec_reply, fate, first_redirect, if_not_done, is_redirect, next_attempt, redirect_in, replies_in}
use Rattle.cluster_calls.specs.Links.Converted.{value_answer}
use Rattle.cluster_calls.specs.Links.Events.{Event, exchanges_of, log_of, is_memory_ending}
use Rattle.cluster_calls.specs.Links.Lacking.{LacksWhere, MayLack, follows_redirects, is_redirected, last_is}
use Rattle.cluster_calls.specs.Links.Log.{Exchange}
use Rattle.cluster_calls.specs.Links.Request.{Request}
use Rattle.cluster_calls.proofs.LinkLaws.LinkEnds.{ending_of}

-- ---- the last link call

ends-cons : (test : Event → Bool) (x : Event) (xs : List Event) → last_is test xs ≡ true → last_is test (x ∷ xs) ≡ true
ends-cons test x [] e = absurd (false≢true e)
ends-cons test x (y ∷ ys) e = e

pub ends-append : (test : Event → Bool) (xs ys : List Event) → last_is test ys ≡ true → last_is test (xs ++ ys) ≡ true
ends-append test [] ys e = e
ends-append test (x ∷ xs) ys e = ends-cons test x (xs ++ ys) (ends-append test xs ys e)

pub ends-snoc : (test : Event → Bool) (xs : List Event) (x : Event) → test x ≡ true → last_is test (xs ++ x ∷ []) ≡ true
ends-snoc test xs x e = ends-append test xs (x ∷ []) e

-- a link call whose refusal is for want of memory
pub lacking : (result : Result (List Tree) Refusal) → result ≡ Err (by_cause Memory) → is_memory_ending (ending_of result) ≡ true
lacking result e = ap (λ r. is_memory_ending (ending_of r)) e

-- ---- from one run to another

-- a call whose redirects are followed lacks memory where its steps do
pub may_lack : (client : Client) (picks : List Address) (call : Call) (xs : List Event) {A : Type 0} → follows_redirects (task_of call) ≡ true → (A → (place : ℕ) → IsLegalCall client picks call (exchanges_of place xs)) → LacksWhere client.links xs A
    → MayLack client picks call xs
may_lack client picks call xs follows f (inl e) = inl e
may_lack client picks call xs follows f (inr (inl e)) = inr (inl (follows, e))
may_lack client picks call xs follows f (inr (inr a)) = inr (inr (f a))

pub lacks_behind : (links : List Address) (xs ys : List Event) {A B : Type 0} → (A → B) → LacksWhere links ys A → LacksWhere links (xs ++ ys) B
lacks_behind links xs ys f (inl e) = inl (ends-append (λ (x : Event). is_memory_ending x.ending) xs ys e)
lacks_behind links xs ys f (inr (inl e)) = inr (inl (ends-append (is_redirected links) xs ys e))
lacks_behind links xs ys f (inr (inr a)) = inr (inr (f a))

-- ---- redirects

pub going_reply : (links : List Address) (redirects : ℕ) (reply : Option Tree) (n : Next) → next_of links redirects reply ≡ n → is_going n ≡ true → is_going (reply_next links reply) ≡ true
going_reply links redirects reply n e g = by (redirects == 0) (ap is_going e ∙ g)
  where
    by : (b : Bool) → is_going (cond b Stays (reply_next links reply)) ≡ true → is_going (reply_next links reply) ≡ true
    by true k = absurd (false≢true k)
    by false k = k

or_true : (b c : Bool) → c ≡ true → (b || c) ≡ true
or_true true c e = refl
or_true false c e = e

module _ (links : List Address) where
  abbrev Goes_on : Option Tree → Bool
  Goes_on reply = is_going (reply_next links reply)

  first_going : (rs : List (Option Tree)) → Goes_on (first_redirect rs) ≡ true → list_any Goes_on rs ≡ true
  first_going [] e = absurd (false≢true e)
  first_going (r ∷ rs) e = by (is_redirect r) e (λ k. first_going rs k)
    where
      by : (b : Bool) → Goes_on (cond b r (first_redirect rs)) ≡ true → (Goes_on (first_redirect rs) ≡ true → list_any Goes_on rs ≡ true) → (Goes_on r || list_any Goes_on rs) ≡ true
      by true k more = ap (λ b. b || list_any Goes_on rs) k
      by false k more = or_true (Goes_on r) (list_any Goes_on rs) (more k)

  exec_going : (rs : List (Option Tree)) → Goes_on (exec_reply rs) ≡ true → list_any Goes_on rs ≡ true
  exec_going [] e = absurd (false≢true e)
  exec_going (r ∷ []) e = ap (λ b. b || false) e
  exec_going (r ∷ s ∷ rs) e = or_true (Goes_on r) (list_any Goes_on (s ∷ rs)) (exec_going (s ∷ rs) e)

  either_going : (rs : List (Option Tree)) (b : Bool) → Goes_on (exec_reply rs) ≡ b → (b || list_any Goes_on rs) ≡ true → list_any Goes_on rs ≡ true
  either_going rs true e k = exec_going rs e
  either_going rs false e k = k

  attempt_going : (redirects : ℕ) (rs : List (Option Tree)) (f : Fate) → is_going (if_not_done f (next_of links redirects (redirect_in rs))) ≡ true → list_any Goes_on rs ≡ true
  attempt_going redirects rs done e = absurd (false≢true e)
  attempt_going redirects rs may_be_done e = absurd (false≢true e)
  attempt_going redirects rs not_done e =
      let first = going_reply links redirects (redirect_in rs) (next_of links redirects (redirect_in rs)) refl e in
      either_going rs (Goes_on (exec_reply rs)) refl (first_going (exec_reply rs ∷ rs) first)

  replies_going : (xs : List Exchange) → list_any (λ (x : Exchange). Goes_on x.reply) xs ≡ list_any Goes_on (replies_in xs)
  replies_going [] = refl
  replies_going (x ∷ xs) = ap (λ b. Goes_on x.reply || b) (replies_going xs)

  -- an attempt that goes on has a reply that sends it on
  pub attempt_redirected : (redirects : ℕ) (xs : List Exchange) (rs : List (Option Tree)) (next : Next) → replies_in xs ≡ rs → next_attempt links redirects rs ≡ next → is_going next ≡ true → list_any (λ (x : Exchange). is_going (reply_next links x.reply)) xs ≡ true
  attempt_redirected redirects xs rs next are is g = replies_going xs ∙ ap (list_any Goes_on) are ∙ attempt_going redirects rs (fate rs) (ap is_going is ∙ g)

-- ---- answers and logs

pub value_lacked : (reply : Result Tree Refusal) → value_answer reply ≡ Err (by_cause Memory) → reply ≡ Err (by_cause Memory)
value_lacked (Ok tree) e = cc
value_lacked (Err refusal) e = let same : refusal ≡ by_cause Memory = cc in ap (λ k. Err k) same

-- a log that is not empty is that of some link calls
pub some_events : (log : List Request) (events : List Event) → log ≡ log_of events → log ≢ [] → events ≢ []
some_events log events e some none = some (e ∙ ap log_of none)
