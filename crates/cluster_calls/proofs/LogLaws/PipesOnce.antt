-- A pipeline sends each command at most once.
use Rattle.std.proofs.Common.{◌≡◌, Bool, true, false, cond, List, [], ◌∷◌, ◌++◌, map, length, take, drop, Some, None, MatchBool, refl, sym, ap, ◌∙◌, subst, append-nil}
use Rattle.std.specs.List.{list_any}
use Rattle.std.proofs.lemmas.Bool.{false≢true}
use Rattle.std.proofs.lemmas.List.{drop-map, length-map, map-append, take-append-drop, take-map}
use Rattle.std.proofs.Math.Seq.{drop-append_seam, take-append_seam}
use Rattle.resp_core.specs.Trees.{ErrorText}
use Rattle.std.specs.Prelude.{ℕ, ◌||◌}
use Rattle.cluster_routing.specs.Address.{Address}
use Rattle.cluster_routing.specs.Lists.{concat}
use Rattle.cluster_calls.specs.Links.Faults.{LinkFault, refusal_by_fault}
use Rattle.cluster_calls.specs.Links.Log.{Exchange, requests, is_unanswered}
use Rattle.cluster_calls.specs.Calls.Legal.{direct, NodeByNode}
use Rattle.cluster_calls.specs.Calls.Plan.{Dispatch}
use Rattle.cluster_calls.specs.Calls.Refusals.{pipeline_refusal}

both_parts : (xs : List Exchange) (group : List Dispatch) → requests (take (length group) xs) ≡ map direct group → requests xs ≡ map direct group ++ requests (drop (length group) xs)
both_parts xs group e =
    ap requests (sym (take-append-drop (length group) xs)) ∙ map-append (λ (x : Exchange). x.request) (take (length group) xs) (drop (length group) xs) ∙ ap (λ qs. qs ++ requests (drop (length group) xs)) e

-- ---- where no link failed

halves_by : (y : Exchange) (ys zs : List Exchange) (b : Bool) → is_unanswered y ≡ b → (b || list_any is_unanswered (ys ++ zs)) ≡ false
    → (list_any is_unanswered (ys ++ zs) ≡ false → (list_any is_unanswered ys ≡ false) × (list_any is_unanswered zs ≡ false)) → ((is_unanswered y || list_any is_unanswered ys) ≡ false) × (list_any is_unanswered zs ≡ false)
halves_by y ys zs true f e ih = absurd (false≢true (sym e))
halves_by y ys zs false f e ih = let r = ih e in (ap (λ b. b || list_any is_unanswered ys) f ∙ r.0, r.1)

halves : (ys zs : List Exchange) → list_any is_unanswered (ys ++ zs) ≡ false → (list_any is_unanswered ys ≡ false) × (list_any is_unanswered zs ≡ false)
halves [] zs e = (refl, e)
halves (y ∷ ys) zs e = halves_by y ys zs (is_unanswered y) refl e (λ f. halves ys zs f)

none_taken : (n : ℕ) (xs : List Exchange) → list_any is_unanswered xs ≡ false → (list_any is_unanswered (take n xs) ≡ false) × (list_any is_unanswered (drop n xs) ≡ false)
none_taken n xs e = halves (take n xs) (drop n xs) (ap (list_any is_unanswered) (take-append-drop n xs) ∙ e)

-- those that were asked are the first ones
pub asked_first : (groups : List (List Dispatch)) (xs : List Exchange) → NodeByNode groups xs
    → (asked left : List (List Dispatch)) × (groups ≡ asked ++ left) × (requests xs ≡ map direct (concat asked)) × (list_any is_unanswered xs ≡ false → left ≡ [])
asked_first [] xs h = ([], [], refl, ap requests h, λ none. refl)
asked_first (group ∷ groups) xs h = by (list_any is_unanswered (take (length group) xs)) refl h.1 (λ g. asked_first groups (drop (length group) xs) g)
  where
    by : (b : Bool) → list_any is_unanswered (take (length group) xs) ≡ b → MatchBool b (drop (length group) xs ≡ []) (NodeByNode groups (drop (length group) xs))
        → (NodeByNode groups (drop (length group) xs)
        → (asked left : List (List Dispatch)) × (groups ≡ asked ++ left) × (requests (drop (length group) xs) ≡ map direct (concat asked)) × (list_any is_unanswered (drop (length group) xs) ≡ false → left ≡ []))
        → (asked left : List (List Dispatch)) × (group ∷ groups ≡ asked ++ left) × (requests xs ≡ map direct (concat asked)) × (list_any is_unanswered xs ≡ false → left ≡ [])
    by true f e ih = (
      group ∷ [],
      groups,
      refl,
      both_parts xs group h.0 ∙ ap (λ ys. map direct group ++ requests ys) e ∙ sym (ap (map direct) (append-nil group) ∙ sym (append-nil (map direct group))),
      λ none. absurd (false≢true (sym (none_taken (length group) xs none).0 ∙ f)),
    )
    by false f g ih =
        let r = ih g in (
          group ∷ r.0,
          r.1,
          ap (λ gs. group ∷ gs) r.2,
          both_parts xs group h.0 ∙ ap (λ qs. map direct group ++ qs) r.3 ∙ sym (map-append direct group (concat r.0)),
          λ none. r.4 (none_taken (length group) xs none).1,
        )

-- where all were asked and none is unanswered, they went node by node
pub all_asked : (groups : List (List Dispatch)) (xs : List Exchange) → requests xs ≡ map direct (concat groups) → list_any is_unanswered xs ≡ false → NodeByNode groups xs
all_asked [] xs e none = no_requests xs e
  where
    no_requests : (ys : List Exchange) → requests ys ≡ [] → ys ≡ []
    no_requests [] f = refl
    no_requests (y ∷ ys) f = cc
all_asked (group ∷ groups) xs e none =
    let n = length group in
    let whole : requests xs ≡ map direct group ++ map direct (concat groups) = e ∙ map-append direct group (concat groups) in
    let long : length (map direct group) ≡ n = length-map group direct in
    let fine = none_taken n xs none in (
      sym (take-map (λ (x : Exchange). x.request) n xs) ∙ ap (take n) whole ∙ ap (λ k. take k (map direct group ++ map direct (concat groups))) (sym long) ∙ take-append_seam (map direct group) (map direct (concat groups)),
      subst (λ b. MatchBool b (drop n xs ≡ []) (NodeByNode groups (drop n xs))) (sym fine.0) (all_asked groups (drop n xs)
          (sym (drop-map (λ (x : Exchange). x.request) n xs) ∙ ap (drop n) whole ∙ ap (λ k. drop k (map direct group ++ map direct (concat groups))) (sym long) ∙ drop-append_seam (map direct group) (map direct (concat groups))) fine.1),
    )

pub none_unanswered : (faults : Address → LinkFault) (xs : List Exchange) (errors : List (ℕ × ErrorText)) → pipeline_refusal faults xs errors ≡ None → list_any is_unanswered xs ≡ false
none_unanswered faults [] errors e = refl
none_unanswered faults (x ∷ xs) errors e = by (is_unanswered x) e (λ f. none_unanswered faults xs errors f)
  where
    by : (b : Bool) → cond b (Some (refusal_by_fault (faults x.request.node))) (pipeline_refusal faults xs errors) ≡ None → (pipeline_refusal faults xs errors ≡ None → list_any is_unanswered xs ≡ false) → (b || list_any is_unanswered xs) ≡ false
    by true e ih = cc
    by false e ih = ih e
