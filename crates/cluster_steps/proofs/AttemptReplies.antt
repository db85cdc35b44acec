-- The replies to an attempt at a transaction, by their places, and what becomes of them.
use Rattle.std.specs.Prelude.{slice_get, option_map, ◌&&◌}
use Rattle.std.proofs.Common.{◌≡◌, ℕ, suc, ◌-◌, Bool, true, false, if◌then◌else◌, List, [], ◌∷◌, ◌++◌, map, length, Option, Some, None, Result, Err, refl, sym, ap, ◌∙◌, subst, arith}
use Rattle.std.proofs.lemmas.List.{length-map, map-append}
use Rattle.std.proofs.lemmas.Option.{slice_get-map}
use Rattle.resp_core.specs.Errors.{Refusal}
use Rattle.resp_core.specs.Trees.{Tree}
use Rattle.resp_core.specs.View.{view}
use Rattle.resp_core.specs.declared.value.Value.{Value}
use Rattle.cluster_routing.specs.Address.{Address}
use Rattle.cluster_routing.specs.Policies.{or_bad_reply}
use Rattle.cluster_calls.specs.Links.Request.{exec}
use Rattle.cluster_calls.specs.Calls.Redirects.{Next, Stays, is_going, next_of}
use Rattle.cluster_calls.specs.Calls.Transactions.{Fate, done, not_done, may_be_done, attempt_answer, error_or_bad, exec_answers, exec_reply, fate_by, first_own_error, if_not_done, is_array, is_refused, multi_reply, unless_lost, without_asking}
use Rattle.cluster_calls.proofs.LinkLaws.ChainLoop.{next_none}
use Rattle.cluster_steps.specs.Attempts.{heard, is_not_done}

-- ---- by their places

pub exec_there : (trees : List Tree) → exec_reply (heard trees) ≡ slice_get trees (length trees - 1)
exec_there [] = refl
exec_there (t ∷ []) = refl
exec_there (t ∷ u ∷ trees) =
    let e : length (t ∷ u ∷ trees) - 1 ≡ suc (length (u ∷ trees) - 1) = omega arith in
    exec_there (u ∷ trees) ∙ sym (ap (slice_get (t ∷ u ∷ trees)) e)

multi_there : (trees : List Tree) → multi_reply (heard trees) ≡ slice_get trees 0
multi_there [] = refl
multi_there (t ∷ trees) = refl

-- MULTI's is the first
pub multi_is : (vs : List Value) (o : Option Value) → o ≡ slice_get vs 0 → multi_reply (heard (map view vs)) ≡ option_map view o
multi_is vs o e = multi_there (map view vs) ∙ slice_get-map view vs 0 ∙ ap (option_map view) (sym e)

-- and EXEC's the last
pub exec_is : (vs : List Value) (o : Option Value) → o ≡ slice_get vs (length vs - 1) → exec_reply (heard (map view vs)) ≡ option_map view o
exec_is vs o e =
    exec_there (map view vs) ∙ ap (λ n. slice_get (map view vs) (n - 1)) (length-map vs view) ∙ slice_get-map view vs (length vs - 1) ∙ ap (option_map view) (sym e)

exec_last : (trees : List Tree) (tree : Tree) → exec_reply (heard (trees ++ tree ∷ [])) ≡ Some tree
exec_last [] tree = refl
exec_last (t ∷ []) tree = refl
exec_last (t ∷ u ∷ trees) tree = exec_last (u ∷ trees) tree

pub last_is : (vs others : List Value) (v : Value) → vs ≡ others ++ v ∷ [] → exec_reply (heard (map view vs)) ≡ Some (view v)
last_is vs others v e =
    ap (λ xs. exec_reply (heard (map view xs))) e ∙ ap (λ ts. exec_reply (heard ts)) (map-append view others (v ∷ [])) ∙ exec_last (map view others) (view v)

-- ---- where nothing was done

not_done_if : (a b : Bool) → is_not_done (if a then not_done else if b then done else may_be_done) ≡ a
not_done_if true b = refl
not_done_if false true = refl
not_done_if false false = refl

pub not_done_by : (begun : Bool) (reply : Option Tree) → is_not_done (fate_by begun reply) ≡ (begun && is_refused reply)
not_done_by begun reply = not_done_if (begun && is_refused reply) (is_array reply)

pub not_done_is : (f : Fate) → is_not_done f ≡ true → f ≡ not_done
not_done_is done e = cc
not_done_is not_done e = refl
not_done_is may_be_done e = cc

pub not_done_so : (f : Fate) (n : Next) → is_not_done f ≡ true → if_not_done f n ≡ n
not_done_so done n e = cc
not_done_so not_done n e = refl
not_done_so may_be_done n e = cc

pub done_so : (f : Fate) (n : Next) → is_not_done f ≡ false → if_not_done f n ≡ Stays
done_so done n e = refl
done_so not_done n e = cc
done_so may_be_done n e = refl

-- without a redirect it leads nowhere
pub none_stays : (links : List Address) (redirects : ℕ) (reply : Option Tree) → reply ≡ None → Stays ≡ next_of links redirects reply
none_stays links redirects reply e = sym (ap (next_of links redirects) e ∙ next_none links redirects)

-- ---- the answer

pub answered_so : (replies : List (Option Tree)) (b : Bool) → b ≡ exec_answers replies → b ≡ true → attempt_answer replies ≡ or_bad_reply (exec_reply replies)
answered_so replies b is e = ap (λ k. if k then or_bad_reply (exec_reply replies) else Err (error_or_bad (first_own_error replies))) (sym is ∙ e)

pub refused_so : (replies : List (Option Tree)) (b : Bool) → b ≡ exec_answers replies → b ≡ false → attempt_answer replies ≡ Err (error_or_bad (first_own_error replies))
refused_so replies b is e = ap (λ k. if k then or_bad_reply (exec_reply replies) else Err (error_or_bad (first_own_error replies))) (sym is ∙ e)

pub stays_so : (next : Next) (answer : Result Tree Refusal) → Stays ≡ next → (is_going next ≡ false) × (unless_lost next answer ≡ answer)
stays_so next answer e = subst (λ n. (is_going n ≡ false) × (unless_lost n answer ≡ answer)) e (refl, refl)

-- ---- the requests

pub with_exec : (node : Address) (commands : List (List (List ℕ))) → map (without_asking node) commands ++ without_asking node exec ∷ [] ≡ map (without_asking node) (commands ++ exec ∷ [])
with_exec node commands = sym (map-append (without_asking node) commands (exec ∷ []))
