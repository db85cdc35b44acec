-- A split call is as good as its command on one server.
use Rattle.std.proofs.Common.{◌≡◌, ℕ, Bool, ◌==◌, nat_eq, List, [], ◌∷◌, map, filter, Some, refl, sym, ap, ◌∙◌, subst, MatchOption, Contains, eqb-true}
use Rattle.std.specs.List.{AllByRecursion}
use Rattle.resp_core.specs.Trees.{Tree}
use Rattle.cluster_routing.specs.Lists.{concat, among, IsDistinct, Pairwise, draw}
use Rattle.cluster_routing.specs.Parts.{Tuple, tuple_slot}
use Rattle.cluster_routing.specs.Split.{Split, split_of, part_tuples, sub, join_split}
use Rattle.cluster_calls.specs.Calls.Replies.{slot_by, args_slot, exchange_slot}
use Rattle.cluster_calls.specs.OneServer.Keyspace.{Step, on_slot}
use Rattle.cluster_calls.specs.OneServer.Meaning.{Meaning, DoesTuple, IsWholeStep, AreAllowed, DoCommand, tree_of_steps, step_trees}
use Rattle.cluster_calls.specs.OneServer.Operations.{RunCommand, Response, Reply, run_each}
use Rattle.cluster_calls.specs.Links.Log.{Exchange}
use Rattle.cluster_calls.specs.Calls.Plan.{Dispatch}
use Rattle.cluster_calls.specs.OneServer.Commands.{split_with}
use Rattle.cluster_routing.proofs.Recut.{split_of_some}
use Rattle.cluster_calls.proofs.ServerLaws.Pieces.{with_some, SamePieces, IsDoneAs, ServedIn, one_piece}
use Rattle.cluster_calls.proofs.ServerLaws.Splits.{DoesAllowed, pairwise-zip, pairwise-left, filter-head, part_on_slot, in_argument_order}

-- the dispatch sends a part of the split command
pub record IsDispatchOf (split : Split) (d : Dispatch) : Type 0 where
  pub args : d.args ≡ sub split (args_slot d.args)
  pub some : (t : Tuple) × (ts : List Tuple) × (part_tuples (args_slot d.args) split.tuples ≡ t ∷ ts)

-- a command with these tuples of the split one
abbrev with_tuples_of : Split → List Tuple → Split
with_tuples_of split us = record { word = split.word; splitting = split.splitting; tuples = us; shared = split.shared }

module _ (meaning : Meaning) (args : List (List ℕ)) (split : Split) (is_split : split_of args ≡ Some split) where
  reparsed : (d : Dispatch) → (w : IsDispatchOf split d) → (x : Exchange) → x.request.args ≡ d.args → split_of x.request.args ≡ Some (with_tuples_of split (w.some.0 ∷ w.some.1))
  reparsed d w x e =
      ap split_of (e ∙ w.args ∙ ap (λ us. join_split split.word split.shared us) w.some.2)
      ∙ split_of_some args split is_split (λ t. (args_slot d.args) == tuple_slot t) w.some.0 w.some.1 w.some.2

  -- what a counted request of a part did
  pub record PartDone (d : Dispatch) (x : Exchange) (st : List Step) (tree : Tree) : Type 0 where
    pub steps : Pairwise (DoesAllowed meaning split.splitting.policy split.word split.shared) (part_tuples (args_slot d.args) split.tuples) st
    pub tree_is : tree ≡ tree_of_steps (split.splitting.policy) (step_trees st)
    pub slot_is : exchange_slot x ≡ (args_slot d.args)

  pub part_done : (d : Dispatch) → IsDispatchOf split d → (x : Exchange) → x.request.args ≡ d.args → (st : List Step) → (h : IsDoneAs meaning RunCommand x st) → PartDone d x st h.done.0
  part_done d w x e st h =
      let p = reparsed d w x e in
      let does = subst (λ o. MatchOption o ((s : Step) × (st ≡ s ∷ []) × IsWholeStep x.request.args s h.done.0) (λ sp. Pairwise (DoesTuple sp.splitting.policy sp.word sp.shared) sp.tuples st × (h.done.0 ≡ tree_of_steps (sp.splitting.policy) (step_trees st)))) p h.done.2 in
      record {
        steps = subst (λ us. Pairwise (DoesAllowed meaning split.splitting.policy split.word split.shared) us st) (sym w.some.2)
            (pairwise-zip (DoesTuple split.splitting.policy split.word split.shared) (Contains meaning) (w.some.0 ∷ w.some.1) st does.0 h.allowed);
        tree_is = does.1;
        slot_is = ap (slot_by x.request.args) p ∙ sym (eqb-true (args_slot d.args) (tuple_slot w.some.0) (filter-head (λ t. (args_slot d.args) == tuple_slot t) split.tuples w.some.0 w.some.1 w.some.2));
      }

  -- the parts that count, with their steps
  pub record PartsDone (ds : List Dispatch) (xs : List Exchange) (sts : List (List Step)) : Type 0 where
    pub steps : Pairwise (λ k st. Pairwise (DoesAllowed meaning split.splitting.policy split.word split.shared) (part_tuples k split.tuples) st) (map (λ (d : Dispatch). (args_slot d.args)) ds) sts
    pub slots : map exchange_slot xs ≡ map (λ (d : Dispatch). (args_slot d.args)) ds

  pub parts_done_steps : (ds : List Dispatch) → AllByRecursion (IsDispatchOf split) ds → (xs : List Exchange) → Pairwise (λ (d : Dispatch) (x : Exchange). x.request.args ≡ d.args) ds xs
      → (sts : List (List Step)) → Pairwise (IsDoneAs meaning RunCommand) xs sts → PartsDone ds xs sts
  parts_done_steps [] w [] p [] h = record { steps = tt; slots = refl }
  parts_done_steps [] w [] p (st ∷ sts) h = absurd h
  parts_done_steps [] w (x ∷ xs) p sts h = absurd p
  parts_done_steps (d ∷ ds) w [] p sts h = absurd p
  parts_done_steps (d ∷ ds) w (x ∷ xs) p [] h = absurd h
  parts_done_steps (d ∷ ds) w (x ∷ xs) p (st ∷ sts) h =
      let here = part_done d w.0 x p.0 st h.0 in
      let r = parts_done_steps ds w.1 xs p.1 sts h.1 in
      record { steps = (here.steps, r.steps); slots = ap (λ n. n ∷ map exchange_slot xs) here.slot_is ∙ ap (λ ns. (args_slot d.args) ∷ ns) r.slots }

  -- each part's steps are on its slot
  parts_on : (slots : List ℕ) (sts : List (List Step)) → Pairwise (λ k st. Pairwise (DoesAllowed meaning split.splitting.policy split.word split.shared) (part_tuples k split.tuples) st) slots sts
      → Pairwise (λ k st. AllByRecursion (λ (x : Step). x.slot ≡ k) st) slots sts
  parts_on [] [] h = tt
  parts_on [] (st ∷ sts) h = absurd h
  parts_on (k ∷ ks) [] h = absurd h
  parts_on (k ∷ ks) (st ∷ sts) h = (part_on_slot meaning split.splitting.policy split.word split.shared k split.tuples st h.0, parts_on ks sts h.1)

  -- the counted parts on one server: the same word with their tuples in argument order
  pub record Regrouped (moves : List (List Step)) (us : List Tuple) (sts : List (List Step)) : Type 0 where
    pub steps : List Step
    pub does : Pairwise (DoesTuple split.splitting.policy split.word split.shared) us steps
    pub allowed : AreAllowed meaning steps
    pub drawn_from : steps ≡ draw (map tuple_slot us) (λ s. on_slot s (concat sts))
    pub same : (s : ℕ) → on_slot s steps ≡ on_slot s (concat sts)
    pub pieces_are : SamePieces (steps ∷ []) moves

  pub regrouped : (moves : List (List Step)) (ds : List Dispatch) (xs : List Exchange) (sts : List (List Step)) → IsDistinct nat_eq (map (λ (d : Dispatch). (args_slot d.args)) ds) → PartsDone ds xs sts → SamePieces sts moves
      → Regrouped moves (filter (λ t. among nat_eq (tuple_slot t) (map exchange_slot xs)) split.tuples) sts
  regrouped moves ds xs sts distinct h c =
      subst (λ slots. Regrouped moves (filter (λ t. among nat_eq (tuple_slot t) slots) split.tuples) sts) (sym h.slots)
      (let slots = map (λ (d : Dispatch). (args_slot d.args)) ds in
      let r = in_argument_order meaning split.splitting.policy split.word split.shared split.tuples slots sts distinct h.steps in
      let us = filter (λ t. among nat_eq (tuple_slot t) slots) split.tuples in
      let steps = draw (map tuple_slot us) (λ s. on_slot s (concat sts)) in
      let both = pairwise-left (DoesTuple split.splitting.policy split.word split.shared) (Contains meaning) us steps r.0 in
      record {
        steps = steps;
        does = both.0;
        allowed = both.1;
        drawn_from = refl;
        same = r.1;
        pieces_are = λ s. ap (λ q. with_some q []) (r.1 s) ∙ sym (one_piece slots sts distinct (parts_on slots sts h.steps) s) ∙ c s;
      })

  -- a split command with some of the tuples, done by these steps
  does_some : (us : List Tuple) (q : Tuple → Bool) (t : Tuple) (ts : List Tuple) → filter q split.tuples ≡ t ∷ ts → (steps : List Step) → Pairwise (DoesTuple split.splitting.policy split.word split.shared) (t ∷ ts) steps
      → DoCommand (join_split split.word split.shared (t ∷ ts)) steps (tree_of_steps (split.splitting.policy) (step_trees steps))
  does_some us q t ts e steps h =
      let args' = join_split split.word split.shared (t ∷ ts) in
      let tree = tree_of_steps (split.splitting.policy) (step_trees steps) in
      subst (λ o. MatchOption o ((s : Step) × (steps ≡ s ∷ []) × IsWholeStep args' s tree) (λ sp. Pairwise (DoesTuple sp.splitting.policy sp.word sp.shared) sp.tuples steps × (tree ≡ tree_of_steps (sp.splitting.policy) (step_trees steps))))
      (sym (split_of_some args split is_split q t ts e)) (h, refl)

  pub kept_served : (moves : List (List Step)) (q : Tuple → Bool) (sts : List (List Step)) → Regrouped moves (filter q split.tuples) sts
      → (responses : List Response) × ServedIn meaning (run_each (split_with split (filter q split.tuples))) responses moves
  kept_served moves q sts r = by (filter q split.tuples) refl r
    where
      by : (us : List Tuple) → filter q split.tuples ≡ us → Regrouped moves us sts → (responses : List Response) × ServedIn meaning (run_each (split_with split us)) responses moves
      by [] e r = ([], ([], tt, subst (λ q. SamePieces (q ∷ []) moves) r.drawn_from r.pieces_are))
      by (t ∷ ts) e r = (
        Reply (tree_of_steps (split.splitting.policy) (step_trees r.steps)) ∷ [],
        (r.steps ∷ [], (((tree_of_steps (split.splitting.policy) (step_trees r.steps), refl, does_some (t ∷ ts) q t ts e r.steps r.does), r.allowed), tt), r.pieces_are),
      )
