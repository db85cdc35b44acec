-- The exchange of each position of a pipeline: its own request's.
use Rattle.std.specs.Prelude.{◌&&◌, ◌||◌}
use Rattle.std.specs.List.{AllByRecursion}
use Rattle.std.proofs.Common.{◌≡◌, Bool, true, false, cond, List, [], ◌∷◌, ◌++◌, map, filter, refl, sym, ap, ◌∙◌, subst}
use Rattle.cluster_routing.specs.Address.{Address, same_address}
use Rattle.cluster_routing.specs.Lists.{among, concat, front, group_by_group, Pairwise, rest}
use Rattle.cluster_calls.specs.Links.Log.{Exchange, requests, is_unanswered, has_lost}
use Rattle.cluster_calls.specs.Links.Request.{Request}
use Rattle.cluster_calls.specs.Calls.Each.{exchanges_with, without_first_with, by_nodes, nodes_of, position_exchanges}
use Rattle.cluster_calls.specs.Calls.Legal.{direct, node_groups, nodes_in_use}
use Rattle.cluster_calls.specs.Calls.Plan.{Dispatch}
use Rattle.cluster_calls.proofs.LinkLaws.Addresses.{same_true, same_refl}
use Rattle.cluster_calls.proofs.LogLaws.Plans.{or_right}
use Rattle.cluster_calls.proofs.ServerLaws.Distinct.{among-firsts, firsts_distinct}
use Rattle.cluster_calls.proofs.ServerLaws.Draw.{pairwise-cons, pairwise-nil}
use Rattle.cluster_calls.proofs.ServerLaws.Grouping.{pairwise-filter}
use Rattle.cluster_calls.proofs.ServerLaws.Pipes.{IsSent, sent_pairs}
use Rattle.cluster_calls.proofs.ServerLaws.Regroup.{filter-grouped_all}

-- ---- drawing by nodes

-- what goes to a node
abbrev pub dispatches_to : Address → List Dispatch → List Dispatch
dispatches_to a ds = filter (λ (d : Dispatch). same_address d.node a) ds

-- the queue of each node has the exchanges of its dispatches
abbrev pub AreQueued : (Dispatch → Exchange → Type 0) → List Dispatch → (Address → List Exchange) → Type 0
AreQueued R ds queues = (a : Address) → Pairwise R (dispatches_to a ds) (queues a)

module _ (R : Dispatch → Exchange → Type 0) (same : (d : Dispatch) (x : Exchange) → R d x → x.request.node ≡ d.node) where
  -- behind the first dispatch the queues are those of the others
  left_queued : (d : Dispatch) (ds : List Dispatch) (queues : Address → List Exchange) → AreQueued R (d ∷ ds) queues → AreQueued R ds (without_first_with d.node queues)
  left_queued d ds queues h a = by (same_address d.node a) (queues a) (h a)
    where
      by : (b : Bool) (xs : List Exchange) → Pairwise R (cond b (d ∷ dispatches_to a ds) (dispatches_to a ds)) xs → Pairwise R (dispatches_to a ds) (cond b (rest xs) xs)
      by true [] k = absurd k
      by true (x ∷ xs) k = k.1
      by false xs k = k

  put_back : (queues : Address → List Exchange) (node a : Address) (x : Exchange) (xs : List Exchange) (b : Bool) → same_address node a ≡ b → queues node ≡ x ∷ xs → cond b (x ∷ cond b (rest (queues a)) (queues a)) (cond b (rest (queues a)) (queues a)) ≡ queues a
  put_back queues node a x xs true e w = subst (λ n. x ∷ rest (queues n) ≡ queues n) (same_true node a e) (ap (λ q. x ∷ rest q) w ∙ sym w)
  put_back queues node a x xs false e w = refl

  -- each dispatch gets its own, and each queue is used up
  pub drawn_by_nodes : (ds : List Dispatch) (queues : Address → List Exchange) → AreQueued R ds queues
      → Pairwise R ds (by_nodes (nodes_of ds) queues) × ((a : Address) → exchanges_with (by_nodes (nodes_of ds) queues) a ≡ queues a)
  drawn_by_nodes [] queues h = (tt, λ a. sym (pairwise-nil R (queues a) (h a)))
  drawn_by_nodes (d ∷ ds) queues h =
      let own = subst (λ b. Pairwise R (cond b (d ∷ dispatches_to d.node ds) (dispatches_to d.node ds)) (queues d.node)) (same_refl d.node) (h d.node) in
      let w = pairwise-cons R d (dispatches_to d.node ds) (queues d.node) own in
      let ih = drawn_by_nodes ds (without_first_with d.node queues) (left_queued d ds queues h) in
      let later = by_nodes (nodes_of ds) (without_first_with d.node queues) in (
        subst (λ q. Pairwise R (d ∷ ds) (front q ++ later)) (sym w.2) (w.3, ih.0),
        λ a. subst (λ q. exchanges_with (front q ++ later) a ≡ queues a) (sym w.2)
            (ap (λ n. cond (same_address n a) (w.0 ∷ exchanges_with later a) (exchanges_with later a)) (same d w.0 w.3)
            ∙ ap (λ q. cond (same_address d.node a) (w.0 ∷ q) q) (ih.1 a) ∙ put_back queues d.node a w.0 w.1 (same_address d.node a) refl w.2),
      )

-- ---- the log of a pipeline

-- an unanswered exchange makes its node lost
abbrev pub LosesItsNode : List Exchange → Exchange → Type 0
LosesItsNode xs x = is_unanswered x ≡ true → has_lost x.request.node xs ≡ true

each_loses : (xs : List Exchange) → AllByRecursion (LosesItsNode xs) xs
each_loses xs = within xs (λ y lost. lost)
  where
    within : (ys : List Exchange) → ((a : Address) → has_lost a ys ≡ true → has_lost a xs ≡ true) → AllByRecursion (LosesItsNode xs) ys
    within [] h = tt
    within (y ∷ ys) h = (
      λ u. h y.request.node (ap (λ s. (s && is_unanswered y) || has_lost y.request.node ys) (same_refl y.request.node) ∙ ap (λ b. b || has_lost y.request.node ys) u),
      within ys (λ a l. h a (or_right (same_address y.request.node a && is_unanswered y) l)),
    )

-- an exchange of the log that is the dispatch's own
abbrev pub IsItsOwn : List Exchange → Dispatch → Exchange → Type 0
IsItsOwn xs d x = IsSent d x × LosesItsNode xs x

own_pairs : (xs : List Exchange) (ds : List Dispatch) (ys : List Exchange) → Pairwise IsSent ds ys → AllByRecursion (LosesItsNode xs) ys → Pairwise (IsItsOwn xs) ds ys
own_pairs xs [] [] p l = tt
own_pairs xs [] (y ∷ ys) p l = absurd p
own_pairs xs (d ∷ ds) [] p l = absurd p
own_pairs xs (d ∷ ds) (y ∷ ys) p l = ((p.0, l.0), own_pairs xs ds ys p.1 l.1)

-- what goes to each of these nodes
abbrev pub groups_to : List Dispatch → List Address → List (List Dispatch)
groups_to ds nodes = map (λ node. dispatches_to node ds) nodes

pub concat_groups : (ds : List Dispatch) (nodes : List Address) → concat (groups_to ds nodes) ≡ group_by_group same_address (λ (d : Dispatch). d.node) nodes ds
concat_groups ds [] = refl
concat_groups ds (node ∷ nodes) = ap (λ es. dispatches_to node ds ++ es) (concat_groups ds nodes)

-- each dispatch's node is used, where each node of theirs is
all_in_use : (used : Address → Bool) (ds : List Dispatch) → ((a : Address) → among same_address a (nodes_of ds) ≡ true → used a ≡ true) → AllByRecursion (λ (d : Dispatch). used d.node ≡ true) ds
all_in_use used [] h = tt
all_in_use used (d ∷ ds) h = (h d.node (ap (λ b. b || among same_address d.node (nodes_of ds)) (same_refl d.node)), all_in_use used ds (λ a k. h a (or_right (same_address a d.node) k)))

-- sent group by group, what goes to a node stays as it is
to_node : (ds : List Dispatch) (a : Address) → dispatches_to a (concat (node_groups ds)) ≡ dispatches_to a ds
to_node ds a =
    ap (dispatches_to a) (concat_groups ds (nodes_in_use ds))
    ∙ filter-grouped_all same_address same_true (λ (d : Dispatch). d.node) (λ (d : Dispatch). same_address d.node a) a (λ d t. same_true d.node a t) (nodes_in_use ds) ds (firsts_distinct same_address (nodes_of ds))
    (all_in_use (λ n. among same_address n (nodes_in_use ds)) ds (λ n k. among-firsts same_address same_true n (nodes_of ds) k))

module _ (ds : List Dispatch) (xs : List Exchange) (sent : requests xs ≡ map direct (concat (node_groups ds))) where
  queued : AreQueued (IsItsOwn xs) ds (exchanges_with xs)
  queued a =
      subst (λ es. Pairwise (IsItsOwn xs) es (exchanges_with xs a)) (to_node ds a)
      (pairwise-filter (IsItsOwn xs) (λ (d : Dispatch). same_address d.node a) (λ (x : Exchange). same_address x.request.node a) (λ d x s. ap (λ (q : Request). same_address q.node a) (sym s.0)) (concat (node_groups ds)) xs
      (own_pairs xs (concat (node_groups ds)) xs (sent_pairs (concat (node_groups ds)) xs sent) (each_loses xs)))

  -- each position has its own exchange, and each exchange with a node is that of one position, in their order
  pub positions_drawn : Pairwise (IsItsOwn xs) ds (position_exchanges ds xs) × ((a : Address) → exchanges_with (position_exchanges ds xs) a ≡ exchanges_with xs a)
  positions_drawn = drawn_by_nodes (IsItsOwn xs) (λ d x s. ap (λ (q : Request). q.node) s.0) ds (exchanges_with xs) queued
