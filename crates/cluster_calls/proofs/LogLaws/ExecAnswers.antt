-- When the reply to EXEC is not the answer to a transaction.
use Rattle.std.specs.Prelude.{◌&&◌, ◌||◌, is_none}
use Rattle.std.proofs.Common.{◌≡◌, ℕ, zero, suc, ◌-◌, Bool, true, false, cond, List, [], ◌∷◌, drop, Option, Some, None, Err, refl, sym, ap, ◌∙◌}
use Rattle.std.proofs.lemmas.Bool.{false≢true}
use Rattle.resp_core.specs.Errors.{by_cause}
use Rattle.resp_core.specs.Parts.{first_error, or_else}
use Rattle.resp_core.specs.Trees.{Tree, ErrorText, nil, int, bulk, array, simple, okay, map, attribute, set, double, boolean, verbatim, big_number, push, server_error}
use Rattle.resp_core.specs.declared.errors.redis_error.Cause.TheVariants.{Memory}
use Rattle.cluster_routing.specs.Address.{Address}
use Rattle.cluster_routing.specs.Policies.{or_bad_reply}
use Rattle.cluster_calls.specs.Calls.Redirects.{Hop, Goes, next_of}
use Rattle.cluster_calls.specs.Calls.Transactions.{done, not_done, may_be_done, answers, attempt_answer, error_or_bad, exec_answers, exec_reply, fate, first_own_error, first_redirect, if_not_done, is_array, is_nil, is_okay, is_redirect, is_redirect_sort, is_refused, last_attempt, multi_reply, next_attempt, own_error, redirect_in, replies_in, size}
use Rattle.cluster_calls.specs.Links.Log.{Exchange}
use Rattle.cluster_calls.specs.Links.Reply.{inner_sort}
use Rattle.cluster_calls.proofs.LinkLaws.PartLoop.{replied_next}
use Rattle.cluster_calls.proofs.LogLaws.Attempts.{goes_by}

-- ---- there is none

pub no_answer : (begun : Bool) (error : Option ErrorText) → answers begun error None ≡ false
no_answer true error = refl
no_answer false error = refl

pub lost_unanswered : (rs : List (Option Tree)) → exec_reply rs ≡ None → exec_answers rs ≡ false
lost_unanswered rs e = ap (answers (is_okay (multi_reply rs)) (first_own_error rs)) e ∙ no_answer (is_okay (multi_reply rs)) (first_own_error rs)

abbrev no_exchanges : List Exchange
no_exchanges = []

none_dropped : (n : ℕ) → drop n no_exchanges ≡ no_exchanges
none_dropped zero = refl
none_dropped (suc n) = refl

pub none_unanswered : (commands : List (List (List ℕ))) → exec_answers (replies_in (last_attempt commands [])) ≡ false
none_unanswered commands = ap (λ xs. exec_answers (replies_in xs)) (none_dropped (0 - size commands))

-- ---- one of the replies is a redirect

inner_stays : (o : Option ErrorText) → is_redirect_sort (inner_sort o) ≡ true → ⊥
inner_stays None e = false≢true e
inner_stays (Some error) e = false≢true e

-- a redirect is an error
redirect_errs : (r : Option Tree) → is_redirect r ≡ true → is_none (own_error r) ≡ false
redirect_errs None e = absurd (false≢true e)
redirect_errs (Some (server_error error)) e = refl
redirect_errs (Some nil) e = absurd (inner_stays (first_error nil) e)
redirect_errs (Some (int i)) e = absurd (inner_stays (first_error (int i)) e)
redirect_errs (Some (bulk bytes)) e = absurd (inner_stays (first_error (bulk bytes)) e)
redirect_errs (Some (array items)) e = absurd (inner_stays (first_error (array items)) e)
redirect_errs (Some (simple text)) e = absurd (inner_stays (first_error (simple text)) e)
redirect_errs (Some okay) e = absurd (inner_stays (first_error okay) e)
redirect_errs (Some (map pairs)) e = absurd (inner_stays (first_error (map pairs)) e)
redirect_errs (Some (attribute tree pairs)) e = absurd (inner_stays (first_error (attribute tree pairs)) e)
redirect_errs (Some (set items)) e = absurd (inner_stays (first_error (set items)) e)
redirect_errs (Some (double text)) e = absurd (inner_stays (first_error (double text)) e)
redirect_errs (Some (boolean b)) e = absurd (inner_stays (first_error (boolean b)) e)
redirect_errs (Some (verbatim format text)) e = absurd (inner_stays (first_error (verbatim format text)) e)
redirect_errs (Some (big_number text)) e = absurd (inner_stays (first_error (big_number text)) e)
redirect_errs (Some (push kind items)) e = absurd (inner_stays (first_error (push kind items)) e)

here_first : (own later : Option ErrorText) → is_none own ≡ false → is_none (or_else own later) ≡ false
here_first None later e = cc
here_first (Some error) later e = refl

later_first : (own later : Option ErrorText) → is_none later ≡ false → is_none (or_else own later) ≡ false
later_first None later e = e
later_first (Some error) later e = refl

first_errs : (rs : List (Option Tree)) → is_none (first_redirect rs) ≡ false → is_none (first_own_error rs) ≡ false
first_errs [] e = cc
first_errs (r ∷ rs) e = by (is_redirect r) refl e (λ k. first_errs rs k)
  where
    by : (b : Bool) → is_redirect r ≡ b → is_none (cond b r (first_redirect rs)) ≡ false → (is_none (first_redirect rs) ≡ false → is_none (first_own_error rs) ≡ false) → is_none (first_own_error (r ∷ rs)) ≡ false
    by true is k more = here_first (own_error r) (first_own_error rs) (redirect_errs r is)
    by false is k more = later_first (own_error r) (first_own_error rs) (more k)

exec_errs : (rs : List (Option Tree)) → is_none (own_error (exec_reply rs)) ≡ false → is_none (first_own_error rs) ≡ false
exec_errs [] e = cc
exec_errs (r ∷ []) e = here_first (own_error r) None e
exec_errs (r ∷ s ∷ rs) e = later_first (own_error r) (first_own_error (s ∷ rs)) (exec_errs (s ∷ rs) e)

redirected_errs : (rs : List (Option Tree)) → is_none (redirect_in rs) ≡ false → is_none (first_own_error rs) ≡ false
redirected_errs rs e = by (is_redirect (exec_reply rs)) refl e
  where
    by : (b : Bool) → is_redirect (exec_reply rs) ≡ b → is_none (cond b (exec_reply rs) (first_redirect rs)) ≡ false → is_none (first_own_error rs) ≡ false
    by true is k = exec_errs rs (redirect_errs (exec_reply rs) is)
    by false is k = first_errs rs k

-- ---- and nothing was done

refused_array : (r : Option Tree) → is_refused r ≡ true → is_array r ≡ false
refused_array None e = refl
refused_array (Some (array items)) e = absurd (false≢true e)
refused_array (Some nil) e = refl
refused_array (Some (int i)) e = refl
refused_array (Some (bulk bytes)) e = refl
refused_array (Some (simple text)) e = refl
refused_array (Some okay) e = refl
refused_array (Some (map pairs)) e = refl
refused_array (Some (attribute tree pairs)) e = refl
refused_array (Some (set items)) e = refl
refused_array (Some (double text)) e = refl
refused_array (Some (boolean b)) e = refl
refused_array (Some (verbatim format text)) e = refl
refused_array (Some (big_number text)) e = refl
refused_array (Some (push kind items)) e = refl
refused_array (Some (server_error error)) e = refl

refused_by : (begun refused array' : Bool) → cond (begun && refused) not_done (cond array' done may_be_done) ≡ not_done → refused ≡ true
refused_by true true array' e = refl
refused_by true false true e = cc
refused_by true false false e = cc
refused_by false refused true e = cc
refused_by false refused false e = cc

no_clean : (begun is : Bool) → (begun && (is && false)) ≡ false
no_clean true true = refl
no_clean true false = refl
no_clean false is = refl

-- a transaction that was not done, for a redirect, has no answer
pub redirected_unanswered : (rs : List (Option Tree)) → fate rs ≡ not_done → is_none (redirect_in rs) ≡ false → exec_answers rs ≡ false
redirected_unanswered rs f some =
    let begun = is_okay (multi_reply rs) in
    let exec = exec_reply rs in
    ap (λ b. b || (begun && (is_nil exec && is_none (first_own_error rs)))) (refused_array exec (refused_by begun (is_refused exec) (is_array exec) f))
    ∙ ap (λ b. begun && (is_nil exec && b)) (redirected_errs rs some) ∙ no_clean begun (is_nil exec)

-- so has one that goes on
pub goes_unanswered : (links : List Address) (redirects : ℕ) (rs : List (Option Tree)) (next : Hop) → next_attempt links redirects rs ≡ Goes next → exec_answers rs ≡ false
goes_unanswered links redirects rs next e =
    let on = next_of links redirects (redirect_in rs) in
    let f = goes_by (fate rs) on next e in
    redirected_unanswered rs f (replied_next links redirects (redirect_in rs) next (ap (λ g. if_not_done g on) (sym f) ∙ e))

-- ---- want of memory is no answer that replies make

memory_made : (o : Option Tree) → or_bad_reply o ≡ Err (by_cause Memory) → ⊥
memory_made None e = cc
memory_made (Some tree) e = cc

pub lacks_unanswered : (rs : List (Option Tree)) → attempt_answer rs ≡ Err (by_cause Memory) → exec_answers rs ≡ false
lacks_unanswered rs e = by (exec_answers rs) e
  where
    by : (b : Bool) → cond b (or_bad_reply (exec_reply rs)) (Err (error_or_bad (first_own_error rs))) ≡ Err (by_cause Memory) → b ≡ false
    by true k = absurd (memory_made (exec_reply rs) k)
    by false k = refl
