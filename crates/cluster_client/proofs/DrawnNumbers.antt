-- What is drawn by the numbers of the groups is what is drawn by their places.
use Rattle.std.specs.Prelude.{nat_eq, slice_get}
use Rattle.std.proofs.Common.{◌≡◌, ℕ, zero, suc, ◌==◌, cond, List, [], ◌∷◌, ◌++◌, map, Some, refl, sym, ap, ◌∙◌, subst}
use Rattle.resp_core.specs.Trees.{Tree}
use Rattle.cluster_routing.specs.Lists.{IsDistinct, draw, front, rest, without_front_of}
use Rattle.cluster_calls.proofs.ServerLaws.Draw.{draw-map}
use Rattle.cluster_steps.specs.declared.drawn.Answered.{Answered as CodeAnswered}
use Rattle.cluster_steps.specs.GroupRuns.{answered_at}
use Rattle.cluster_steps.specs.Queues.{items_in, list_or_none, no_queues, queue_in, queued}
use Rattle.cluster_steps.proofs.PipeGroups.{map_twice}
use Rattle.cluster_steps.proofs.PipeOrder.{queued_each}
use Rattle.cluster_steps.proofs.Telling.{get_mapped}
use Rattle.cluster_client.proofs.EachPiping.{numbers_agree}

-- each number's queue is that of the place with this number
by_places : {X : Type 0} (order : List ℕ) → IsDistinct nat_eq order → (ns ks : List ℕ) (f g : ℕ → List X) → map (slice_get order) ns ≡ map (λ k. Some k) ks → ((n k : ℕ) → slice_get order n ≡ Some k → f n ≡ g k) → draw ns f ≡ draw ks g
by_places order d [] [] f g e h = refl
by_places order d [] (k ∷ ks) f g e h = cc
by_places order d (n ∷ ns) [] f g e h = cc
by_places order d (n ∷ ns) (k ∷ ks) f g e h =
    let here : slice_get order n ≡ Some k = cc in
    let more : map (slice_get order) ns ≡ map (λ j. Some j) ks = cc in
    ap (λ q. front q ++ draw ns (without_front_of n f)) (h n k here)
    ∙ ap (λ r. front (g k) ++ r) (by_places order d ns ks (without_front_of n f) (without_front_of k g) more
    (λ m j at. ap (λ b. cond b (rest (f m)) (f m)) (numbers_agree order d m n j k at here) ∙ ap (λ q. cond (j == k) (rest q) q) (h m j at)))

-- a queue's values as their trees
in_trees : {V : Type 0} (view : V → Tree) (answers : List (CodeAnswered V)) (n : ℕ) → map view (queue_in (map items_in answers) n) ≡ queue_in (map (λ (a : CodeAnswered V). map view a.items.items) answers) n
in_trees view [] zero = refl
in_trees view [] (suc n) = refl
in_trees view (a ∷ answers) zero = refl
in_trees view (a ∷ answers) (suc n) = in_trees view answers n

pub replies_are : {V : Type 0} (view : V → Tree) (order numbers ks : List ℕ) (answers : List (CodeAnswered V)) (replies : List V) → IsDistinct nat_eq order → map (λ (a : ℕ × List Tree). a.0) (map (answered_at view) answers) ≡ order
    → map (slice_get order) numbers ≡ map (λ k. Some k) ks → replies ≡ draw numbers (queue_in (map items_in answers)) → map view replies ≡ draw ks (queued no_queues (map (answered_at view) answers))
replies_are {V} view order numbers ks answers replies d links numbered are =
    let told = map (answered_at view) answers in
    let queue = queued no_queues told in
    let lists : map (λ (a : CodeAnswered V). map view a.items.items) answers ≡ map queue order =
    sym (map_twice (answered_at view) (λ (a : ℕ × List Tree). a.1) answers) ∙ queued_each no_queues told (subst (IsDistinct nat_eq) (sym links) d) ∙ sym (map_twice (λ (a : ℕ × List Tree). a.0) queue told) ∙ ap (map queue) links in
    ap (map view) are ∙ sym (draw-map view numbers (queue_in (map items_in answers)))
    ∙ by_places order d numbers ks (λ n. map view (queue_in (map items_in answers) n)) queue numbered (λ n k at. in_trees view answers n ∙ ap (λ qs. queue_in qs n) lists ∙ ap list_or_none (get_mapped queue order n k at))
