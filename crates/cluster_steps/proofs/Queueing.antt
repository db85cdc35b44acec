-- Queues at their places.
use Rattle.std.specs.Prelude.{slice_get, slice_set, option_to_list, MatchOption}
use Rattle.std.proofs.Common.{◌≡◌, ◌<◌, ℕ, zero, suc, ◌+◌, ◌==◌, Bool, true, false, cond, List, [], ◌∷◌, ◌++◌, length, Option, Some, None, refl, sym, ap, ◌∙◌, subst, arith, eqb-true, eq-eqb, append_assoc}
use Rattle.std.proofs.lemmas.Bool.{false≢true}
use Rattle.std.proofs.lemmas.List.{nil_from_length}
use Rattle.cluster_routing.specs.Lists.{draw, front, rest, without_front_of}
use Rattle.cluster_steps.specs.Queues.{list_or_none, queue_in}
use Rattle.cluster_calls.proofs.Lists.{set_other}
use Rattle.cluster_calls.proofs.ServerLaws.Draw.{drawn_same}

set_here : {X : Type 0} (xs : List X) (n : ℕ) (a : X) → n < length xs → slice_get (slice_set xs n a) n ≡ Some a
set_here [] n a h = absurd (let f : ⊥ = omega (arith, h) in f)
set_here (x ∷ xs) zero a h = refl
set_here (x ∷ xs) (suc n) a h = set_here xs n a (omega (arith, h))

-- another queue at one place
pub queue_set : {T : Type 0} (queues : List (List T)) (link : ℕ) (queue : List T) → link < length queues → (k : ℕ) → queue_in (slice_set queues link queue) k ≡ cond (k == link) queue (queue_in queues k)
queue_set queues link queue within k = by (k == link) refl
  where
    by : (b : Bool) → (k == link) ≡ b → queue_in (slice_set queues link queue) k ≡ cond b queue (queue_in queues k)
    by true e = ap list_or_none (subst (λ n. slice_get (slice_set queues link queue) n ≡ Some queue) (sym (eqb-true k link e)) (set_here queues link queue within))
    by false e = ap list_or_none (set_other queues link k queue (λ f. false≢true (sym e ∙ eq-eqb k link (sym f))))

-- what is left behind the front of a queue
pub rest_popped : {T : Type 0} (xs : List T) (o : Option T) (ys : List T) (n m : ℕ) → xs ≡ option_to_list o ++ ys → n ≡ length xs → MatchOption o ((n ≡ 0) × (m ≡ 0)) (λ _. m + 1 ≡ n) → ys ≡ rest xs
rest_popped xs None ys n m e len none = let nothing : xs ≡ [] = nil_from_length xs (sym len ∙ none.0) in sym e ∙ nothing ∙ sym (ap rest nothing)
rest_popped xs (Some x) ys n m e len some = sym (ap rest e)

pub front_popped : {T : Type 0} (xs : List T) (o : Option T) (ys : List T) (n m : ℕ) → xs ≡ option_to_list o ++ ys → n ≡ length xs → MatchOption o ((n ≡ 0) × (m ≡ 0)) (λ _. m + 1 ≡ n) → option_to_list o ≡ front xs
front_popped xs None ys n m e len none = sym (ap front (nil_from_length xs (sym len ∙ none.0)))
front_popped xs (Some x) ys n m e len some = sym (ap front e)

-- the queues behind it
pub queue_popped : {T : Type 0} (queues : List (List T)) (place : ℕ) (old new : List T) → place < length queues → slice_get queues place ≡ Some old → new ≡ rest old
    → (k : ℕ) → queue_in (slice_set queues place new) k ≡ without_front_of place (queue_in queues) k
queue_popped queues place old new within at is k = queue_set queues place new within k ∙ by (k == place) refl
  where
    by : (b : Bool) → (k == place) ≡ b → cond b new (queue_in queues k) ≡ cond b (rest (queue_in queues k)) (queue_in queues k)
    by true e = is ∙ ap (λ o. rest (list_or_none o)) (sym at) ∙ ap (λ n. rest (queue_in queues n)) (sym (eqb-true k place e))
    by false e = refl

-- ---- drawing on

-- the next item was drawn for the next place
pub drawn_more : {T : Type 0} (items : List T) (place : ℕ) (left : List ℕ) (old new : ℕ → List T) (all next more : List T) → items ++ draw (place ∷ left) old ≡ all → next ≡ front (old place) → ((k : ℕ) → new k ≡ without_front_of place old k) → more ≡ items ++ next
    → more ++ draw left new ≡ all
drawn_more items place left old new all next more h f r m =
    ap (λ xs. xs ++ draw left new) (m ∙ ap (λ xs. items ++ xs) f) ∙ ap (λ xs. (items ++ front (old place)) ++ xs) (drawn_same left new (without_front_of place old) r)
    ∙ append_assoc items (front (old place)) (draw left (without_front_of place old)) ∙ h
