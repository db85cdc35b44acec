-- The errors in the replies to a pipeline, and the replies that are kept.
use Rattle.std.specs.Prelude.{◌&&◌, ◌||◌}
use Rattle.std.specs.List.{list_any}
use Rattle.std.proofs.Common.{◌≡◌, ℕ, suc, Bool, true, false, cond, List, [], ◌∷◌, ◌++◌, map, Option, Some, None, Ok, Err, refl, sym, ap, ◌∙◌, append-nil, append_assoc}
use Rattle.resp_core.specs.Trees.{Tree, ErrorText}
use Rattle.resp_core.specs.Errors.{Refusal, by_servers}
use Rattle.resp_core.specs.Parts.{first_error}
use Rattle.cluster_routing.specs.Address.{Address, same_address}
use Rattle.cluster_routing.specs.Combine.{array_of}
use Rattle.cluster_calls.specs.Calls.Answer.{Value}
use Rattle.cluster_calls.specs.Calls.Call.{Entry}
use Rattle.cluster_calls.specs.Calls.Refusals.{errors_from, errors_refusal, pipeline_refusal, with_error}
use Rattle.cluster_calls.specs.Calls.Replies.{not_ignored, reply_or_nil}
use Rattle.cluster_calls.specs.Calls.Parts.{unless}
use Rattle.cluster_calls.specs.Links.Converted.{value_answer}
use Rattle.cluster_calls.specs.Links.Faults.{LinkFault, refusal_by_fault}
use Rattle.cluster_calls.specs.Links.Log.{Exchange, is_unanswered, has_lost}
use Rattle.cluster_calls.specs.Links.PipeReplies.{errors_in, pipeline_result}
use Rattle.cluster_calls.proofs.LinkLaws.LinkRuns.{or_parts}

one_error : (position : ℕ) (o : Option ErrorText) (errors later : List (ℕ × ErrorText)) → (errors ++ with_error position o []) ++ later ≡ errors ++ with_error position o later
one_error position None errors later = ap (λ es. es ++ later) (append-nil errors)
one_error position (Some e) errors later = append_assoc errors ((position, e) ∷ []) later

-- the next reply's error was put behind the errors so far
pub errors_more : (errors all more : List (ℕ × ErrorText)) (position : ℕ) (tree : Tree) (trees : List Tree) → errors ++ errors_in position (tree ∷ trees) ≡ all → more ≡ errors ++ with_error position (first_error tree) []
    → more ++ errors_in (suc position) trees ≡ all
errors_more errors all more position tree trees h m = ap (λ es. es ++ errors_in (suc position) trees) m ∙ one_error position (first_error tree) errors (errors_in (suc position) trees) ∙ h

-- the next reply was kept or not
pub kept_more : (kept all more : List Tree) (e : Entry) (es : List Entry) (tree : Tree) (trees : List Tree) → kept ++ not_ignored (e ∷ es) (tree ∷ trees) ≡ all → more ≡ cond e.ignored kept (kept ++ tree ∷ []) → more ++ not_ignored es trees ≡ all
kept_more kept all more e es tree trees h m = by e.ignored refl
  where
    by : (b : Bool) → e.ignored ≡ b → more ++ not_ignored es trees ≡ all
    by true f = ap (λ ts. ts ++ not_ignored es trees) (m ∙ ap (λ b. cond b kept (kept ++ tree ∷ [])) f) ∙ sym (ap (λ b. kept ++ cond b (not_ignored es trees) (tree ∷ not_ignored es trees)) f) ∙ h
    by false f =
        ap (λ ts. ts ++ not_ignored es trees) (m ∙ ap (λ b. cond b kept (kept ++ tree ∷ [])) f) ∙ append_assoc kept (tree ∷ []) (not_ignored es trees)
        ∙ sym (ap (λ b. kept ++ cond b (not_ignored es trees) (tree ∷ not_ignored es trees)) f) ∙ h

pub none_wanted : (trees : List Tree) → not_ignored [] trees ≡ []
none_wanted [] = refl
none_wanted (t ∷ ts) = refl

pub none_left : (entries : List Entry) → not_ignored entries [] ≡ []
none_left [] = refl
none_left (e ∷ es) = refl

-- ---- the one reply

pub no_errors : (entries : List Entry) (trees : List Tree) → errors_in 0 trees ≡ [] → Ok (array_of (not_ignored entries trees)) ≡ pipeline_result entries trees
no_errors entries trees e = ap (λ es. unless (errors_refusal es) (Ok (array_of (not_ignored entries trees)))) (sym e)

pub some_errors : (entries : List Entry) (trees : List Tree) (first : ℕ × ErrorText) (more : List (ℕ × ErrorText)) → errors_in 0 trees ≡ first ∷ more → Err (by_servers first more) ≡ pipeline_result entries trees
some_errors entries trees first more e = ap (λ es. unless (errors_refusal es) (Ok (array_of (not_ignored entries trees)))) (sym e)

-- ---- lost requests, and the answer

lost_by : (s u l v : Bool) → ((s && u) || l) ≡ true → (l ≡ true → v ≡ true) → (u || v) ≡ true
lost_by true true l v e f = refl
lost_by true false l v e f = f e
lost_by false true l v e f = refl
lost_by false false l v e f = f e

pub lost_unanswered : (a : Address) (xs : List Exchange) → has_lost a xs ≡ true → list_any is_unanswered xs ≡ true
lost_unanswered a [] e = e
lost_unanswered a (x ∷ xs) e = lost_by (same_address x.request.node a) (is_unanswered x) (has_lost a xs) (list_any is_unanswered xs) e (λ f. lost_unanswered a xs f)

-- replied requests refuse nothing
pub refused_behind : (faults : Address → LinkFault) (xs ys : List Exchange) (errors : List (ℕ × ErrorText)) → list_any is_unanswered xs ≡ false → pipeline_refusal faults (xs ++ ys) errors ≡ pipeline_refusal faults ys errors
refused_behind faults [] ys errors e = refl
refused_behind faults (x ∷ xs) ys errors e =
    let parts = or_parts (is_unanswered x) (list_any is_unanswered xs) e in
    ap (λ b. cond b (Some (refusal_by_fault (faults x.request.node))) (pipeline_refusal faults (xs ++ ys) errors)) parts.0 ∙ refused_behind faults xs ys errors parts.1

pub same_errors : (position : ℕ) (xs : List Exchange) → errors_from position xs ≡ errors_in position (map reply_or_nil xs)
same_errors position [] = refl
same_errors position (x ∷ xs) = ap (with_error position (first_error (reply_or_nil x))) (same_errors (suc position) xs)

pub all_answered : (faults : Address → LinkFault) (xs : List Exchange) (errors : List (ℕ × ErrorText)) → list_any is_unanswered xs ≡ false → pipeline_refusal faults xs errors ≡ errors_refusal errors
all_answered faults [] errors e = refl
all_answered faults (x ∷ xs) errors e =
    let parts = or_parts (is_unanswered x) (list_any is_unanswered xs) e in
    ap (λ b. cond b (Some (refusal_by_fault (faults x.request.node))) (pipeline_refusal faults xs errors)) parts.0 ∙ all_answered faults xs errors parts.1

pub value_or : (o : Option Refusal) (tree : Tree) → value_answer (unless o (Ok tree)) ≡ unless o (Ok (Value tree))
value_or None tree = refl
value_or (Some refusal) tree = refl
