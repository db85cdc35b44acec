-- Lists of steps that agree on each slot have the same sums.
use Rattle.std.proofs.Common.{◌≡◌, ℕ, ◌+◌, Bool, true, false, cond, ◌==◌, List, [], ◌∷◌, refl, sym, ap, ◌∙◌, subst, sum_by, arith, eqb-true, eq-eqb}
use Rattle.std.proofs.lemmas.List.Sums.{sum_by-cons}
use Rattle.cluster_calls.specs.OneServer.Keyspace.{Step, on_slot}

-- the list without its first step on slot k
without_first : ℕ → List Step → List Step
without_first k [] = []
without_first k (y ∷ ys) = cond (k == y.slot) ys (y ∷ without_first k ys)

pub nothing_left : (ys : List Step) → ((s : ℕ) → on_slot s ys ≡ []) → ys ≡ []
nothing_left [] h = refl
nothing_left (y ∷ ys) h = let e : y ∷ on_slot y.slot ys ≡ [] = subst (λ b. cond b (y ∷ on_slot y.slot ys) (on_slot y.slot ys) ≡ []) (eq-eqb y.slot y.slot refl) (h y.slot) in cc

module _ (f : Step → ℕ) where
  -- the first step on a slot, taken out
  taken_out : (k : ℕ) (x : Step) (r : List Step) (ys : List Step) → on_slot k ys ≡ x ∷ r → (sum_by f ys ≡ f x + sum_by f (without_first k ys)) × (on_slot k (without_first k ys) ≡ r)
  unfolding without_first
  taken_out k x r [] e = cc
  taken_out k x r (y ∷ ys) e = by (k == y.slot) refl e (λ g. taken_out k x r ys g)
    where
      by : (b : Bool) → k == y.slot ≡ b → cond b (y ∷ on_slot k ys) (on_slot k ys) ≡ x ∷ r → (on_slot k ys ≡ x ∷ r → (sum_by f ys ≡ f x + sum_by f (without_first k ys)) × (on_slot k (without_first k ys) ≡ r))
          → (sum_by f (y ∷ ys) ≡ f x + sum_by f (cond b ys (y ∷ without_first k ys))) × (on_slot k (cond b ys (y ∷ without_first k ys)) ≡ r)
      by true h g ih = let n : y ≡ x = cc in let m : on_slot k ys ≡ r = cc in (sum_by-cons f y ys ∙ ap (λ z. f z + sum_by f ys) n, m)
      by false h g ih =
          let i = ih g in (
            let a = sum_by-cons f y ys in let c = sum_by-cons f y (without_first k ys) in let j = i.0 in omega arith,
            ap (λ b. cond b (y ∷ on_slot k (without_first k ys)) (on_slot k (without_first k ys))) h ∙ i.1,
          )

  -- the other slots are as before
  others_stay : (k s : ℕ) (ys : List Step) → s == k ≡ false → on_slot s (without_first k ys) ≡ on_slot s ys
  unfolding without_first
  others_stay k s [] n = refl
  others_stay k s (y ∷ ys) n = by (k == y.slot) refl (others_stay k s ys n)
    where
      by : (b : Bool) → k == y.slot ≡ b → on_slot s (without_first k ys) ≡ on_slot s ys → on_slot s (cond b ys (y ∷ without_first k ys)) ≡ cond (s == y.slot) (y ∷ on_slot s ys) (on_slot s ys)
      by true h ih = sym (ap (λ c. cond c (y ∷ on_slot s ys) (on_slot s ys)) (ap (λ m. s == m) (sym (eqb-true k y.slot h)) ∙ n))
      by false h ih = ap (λ q. cond (s == y.slot) (y ∷ q) q) ih

  pub sum_same_slots : (xs ys : List Step) → ((s : ℕ) → on_slot s xs ≡ on_slot s ys) → sum_by f xs ≡ sum_by f ys
  sum_same_slots [] ys h = ap (sum_by f) (sym (nothing_left ys (λ s. sym (h s))))
  sum_same_slots (x ∷ xs) ys h =
      let k = x.slot in
      let first : on_slot k ys ≡ x ∷ on_slot k xs = sym (h k) ∙ ap (λ b. cond b (x ∷ on_slot k xs) (on_slot k xs)) (eq-eqb k k refl) in
      let out = taken_out k x (on_slot k xs) ys first in
      sum_by-cons f x xs ∙ ap (λ n. f x + n) (sum_same_slots xs (without_first k ys) (λ s. by s (s == k) refl out.1)) ∙ sym out.0
    where
      by : (s : ℕ) (b : Bool) → s == x.slot ≡ b → on_slot x.slot (without_first x.slot ys) ≡ on_slot x.slot xs → on_slot s xs ≡ on_slot s (without_first x.slot ys)
      by s true e out = subst (λ n. on_slot n xs ≡ on_slot n (without_first x.slot ys)) (sym (eqb-true s x.slot e)) (sym out)
      by s false e out = sym (ap (λ b. cond b (x ∷ on_slot s xs) (on_slot s xs)) e) ∙ h s ∙ sym (others_stay x.slot s ys e)
