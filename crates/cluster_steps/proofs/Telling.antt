-- What is told of one number after another.
use Rattle.std.specs.Prelude.{slice_get, slice_set, unwrap_or}
use Rattle.std.proofs.Common.{◌≡◌, ◌≢◌, ℕ, suc, zero, ◌==◌, Bool, true, false, cond, List, [], ◌∷◌, ◌++◌, map, Some, Result, Ok, refl, sym, ap, ◌∙◌, append_assoc, eqb-true, eq-eqb}
use Rattle.std.proofs.lemmas.Bool.{false≢true}
use Rattle.resp_core.specs.Trees.{Tree}
use Rattle.resp_core.specs.Errors.{Refusal}
use Rattle.resp_core.specs.declared.errors.redis_error.Cause.{Cause}
use Rattle.cluster_steps.specs.Each.{came_from, next_outcome, told_each, without_next, without_next_from}
use Rattle.cluster_steps.proofs.AtOnce.{get_other, get_same}

told_same : (ks : List ℕ) (f g : ℕ → Result (List Tree) Cause) → ((k : ℕ) → f k ≡ g k) → told_each ks f ≡ told_each ks g
told_same [] f g h = refl
told_same (k ∷ ks) f g h =
    ap (λ a. next_outcome a ∷ told_each ks (without_next_from k f)) (h k) ∙ ap (λ os. next_outcome (g k) ∷ os) (told_same ks (without_next_from k f) (without_next_from k g) (λ n. ap (λ a. cond (n == k) (without_next a) a) (h n)))

pub told_more : (number : ℕ) (left : List ℕ) (old new : ℕ → Result (List Tree) Cause) (before all more : List (Result Tree Refusal)) (outcome : Result Tree Refusal)
    → before ++ told_each (number ∷ left) old ≡ all → outcome ≡ next_outcome (old number) → ((k : ℕ) → new k ≡ without_next_from number old k) → more ≡ before ++ outcome ∷ [] → more ++ told_each left new ≡ all
told_more number left old new before all more outcome h o q m =
    ap (λ os. os ++ told_each left new) m ∙ append_assoc before (outcome ∷ []) (told_each left new) ∙ ap (λ x. before ++ x ∷ told_each left new) o
    ∙ ap (λ os. before ++ next_outcome (old number) ∷ os) (told_same left new (without_next_from number old) q) ∙ h

-- what came from each number where one was told
pub came_more : (came : List (Result (List Tree) Cause)) (n : ℕ) (a b : Result (List Tree) Cause) → slice_get came n ≡ Some a → b ≡ without_next a → (k : ℕ) → came_from (slice_set came n b) k ≡ without_next_from n (came_from came) k
came_more came n a b found is k = by (k == n) refl
  where
    by : (t : Bool) → (k == n) ≡ t → came_from (slice_set came n b) k ≡ cond t (without_next (came_from came k)) (came_from came k)
    by true t =
        let same = eqb-true k n t in
        ap (λ i. came_from (slice_set came n b) i) same ∙ ap (λ o. unwrap_or o (Ok [])) (get_same came n a b found) ∙ is ∙ ap without_next (sym (ap (λ i. came_from came i) same ∙ ap (λ o. unwrap_or o (Ok [])) found))
    by false t = ap (λ o. unwrap_or o (Ok [])) (get_other came n k b (λ e. false≢true (sym t ∙ eq-eqb k n e)))

pub get_mapped : {X Y : Type 0} (f : X → Y) (xs : List X) (n : ℕ) (x : X) → slice_get xs n ≡ Some x → slice_get (map f xs) n ≡ Some (f x)
get_mapped f [] n x e = cc
get_mapped f (y ∷ xs) zero x e = let same : y ≡ x = cc in ap (λ z. Some (f z)) same
get_mapped f (y ∷ xs) (suc n) x e = get_mapped f xs n x e
