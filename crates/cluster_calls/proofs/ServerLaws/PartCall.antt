-- A call of one command, part by part, is as good as the command on one server.
use Rattle.std.proofs.Common.{◌≡◌, ℕ, Bool, true, false, cond, ◌||◌, nat_eq, List, [], ◌∷◌, ◌++◌, map, filter, Option, Some, None, refl, sym, ap, ◌∙◌, subst, MatchOption}
use Rattle.std.specs.Prelude.{IfSome, unwrap_or}
use Rattle.std.specs.List.{AllByRecursion}
use Rattle.std.proofs.lemmas.Bool.{false≢true}
use Rattle.resp_core.specs.Trees.{Tree, nil}
use Rattle.cluster_routing.specs.Lists.{among, IsDistinct, Pairwise}
use Rattle.cluster_routing.specs.Address.{Address}
use Rattle.cluster_routing.specs.Split.{Split, split_of}
use Rattle.cluster_routing.specs.Parts.{tuple_slot}
use Rattle.cluster_calls.specs.OneServer.Keyspace.{Step}
use Rattle.cluster_calls.specs.OneServer.Meaning.{Meaning, DoesTuple, IsWholeStep, DoCommand, tree_of_steps, step_trees}
use Rattle.cluster_calls.specs.OneServer.Operations.{RunCommand, Response, Reply, response_by, run_each}
use Rattle.cluster_routing.specs.Combine.{combine_by}
use Rattle.cluster_calls.specs.Links.Log.{Exchange, is_answered, is_data_reply, behind_answers}
use Rattle.cluster_calls.specs.Calls.Plan.{Client, Dispatch}
use Rattle.cluster_calls.specs.Calls.Legal.{PartByPart}
use Rattle.cluster_calls.specs.Calls.Replies.{args_slot, exchange_slot, reply_or_nil, part_replies, reply_of_parts, reply_by_split}
use Rattle.cluster_calls.specs.OneServer.Honest.{is_counted}
use Rattle.cluster_calls.specs.OneServer.Commands.{kept_by, kept_of}
use Rattle.cluster_calls.proofs.ServerLaws.Pieces.{SamePieces, IsDoneAs, HonestIn, ServedIn}
use Rattle.cluster_calls.proofs.ServerLaws.Counted.{counted_steps, Begun, parts_begun, AllDone, parts_done}
use Rattle.cluster_calls.proofs.ServerLaws.Grouping.{all-halves}
use Rattle.cluster_calls.proofs.ServerLaws.Splits.{part_on_slot}
use Rattle.cluster_calls.proofs.ServerLaws.SplitCall.{IsDispatchOf, part_done, parts_done_steps, Regrouped, regrouped, kept_served}
use Rattle.cluster_calls.proofs.ServerLaws.Combined.{Tells, combined_told}
use Rattle.cluster_calls.proofs.LogLaws.Plans.{SendsParts}
use Rattle.cluster_calls.specs.Links.Faults.{LinkFault}
use Rattle.cluster_calls.specs.Calls.Refusals.{part_refusal}

-- what the dispatches of a command are: its parts, or itself
abbrev pub Sends : List (List ℕ) → List Dispatch → Option Split → Type 0
Sends args ds None = (d : Dispatch) × (ds ≡ d ∷ []) × (d.args ≡ args)
Sends args ds (Some split) = SendsParts split ds

among-front : (k : ℕ) (xs ys : List Dispatch) → among nat_eq k (map (λ (d : Dispatch). (args_slot d.args)) (xs ++ ys)) ≡ false → among nat_eq k (map (λ (d : Dispatch). (args_slot d.args)) xs) ≡ false
among-front k [] ys h = refl
among-front k (x ∷ xs) ys h = by (nat_eq k (args_slot x.args)) h (λ g. among-front k xs ys g)
  where
    by : (b : Bool) → (b || among nat_eq k (map (λ (d : Dispatch). (args_slot d.args)) (xs ++ ys))) ≡ false → (among nat_eq k (map (λ (d : Dispatch). (args_slot d.args)) (xs ++ ys)) ≡ false → among nat_eq k (map (λ (d : Dispatch). (args_slot d.args)) xs) ≡ false) → (b || among nat_eq k (map (λ (d : Dispatch). (args_slot d.args)) xs)) ≡ false
    by true h ih = h
    by false h ih = ih h

distinct-front : (xs ys : List Dispatch) → IsDistinct nat_eq (map (λ (d : Dispatch). (args_slot d.args)) (xs ++ ys)) → IsDistinct nat_eq (map (λ (d : Dispatch). (args_slot d.args)) xs)
distinct-front [] ys h = tt
distinct-front (x ∷ xs) ys h = (among-front (args_slot x.args) xs ys h.0, distinct-front xs ys h.1)

pub filter_all : {X : Type 0} (q : X → Bool) (xs : List X) → AllByRecursion (λ x. q x ≡ true) xs → filter q xs ≡ xs
filter_all q [] h = refl
filter_all q (x ∷ xs) h = ap (λ b. cond b (x ∷ filter q xs) (filter q xs)) h.0 ∙ ap (λ zs. x ∷ zs) (filter_all q xs h.1)

pub reply_is : (meaning : Meaning) (x : Exchange) (steps : List Step) → is_answered x ≡ true → (h : IsDoneAs meaning RunCommand x steps) → reply_or_nil x ≡ h.done.0
reply_is meaning x steps a h = by x.reply a h.reply
  where
    same : (t : Tree) → Reply t ≡ Reply h.done.0 → t ≡ h.done.0
    same t e = cc

    by : (r : Option Tree) → is_data_reply r ≡ true → IfSome r (λ tree. response_by (RunCommand x.request.args) tree ≡ h.response) → unwrap_or r nil ≡ h.done.0
    by None a e = absurd (false≢true a)
    by (Some t) a e = same t (e ∙ h.done.1)

module _ (meaning : Meaning) (done : ℕ → Bool) (args : List (List ℕ)) (moves : List (List Step)) where
  -- ---- what is kept

  pub whole_kept : (d : Dispatch) → d.args ≡ args → (begun later : List Dispatch) → d ∷ [] ≡ begun ++ later → (xs : List Exchange) → Pairwise (λ (d : Dispatch) (x : Exchange). x.request.args ≡ d.args) begun xs
      → (sts : List (List Step)) → Pairwise (IsDoneAs meaning RunCommand) xs sts → SamePieces sts moves → (responses : List Response) × ServedIn meaning (run_each (kept_by args None xs)) responses moves
  whole_kept d e begun later all [] p [] h c = ([], ([], tt, c))
  whole_kept d e begun later all [] p (st ∷ sts) h c = absurd h
  whole_kept d e begun later all (x ∷ xs) p [] h c = absurd h
  whole_kept d e [] later all (x ∷ xs) p (st ∷ sts) h c = absurd p
  whole_kept d e (d2 ∷ d3 ∷ ds) later all (x ∷ xs) p (st ∷ sts) h c = cc
  whole_kept d e (d2 ∷ []) later all (x ∷ x2 ∷ xs) p (st ∷ sts) h c = absurd p.1
  whole_kept d e (d2 ∷ []) later all (x ∷ []) p (st ∷ st2 ∷ sts) h c = absurd h.1
  whole_kept d e (d2 ∷ []) later all (x ∷ []) p (st ∷ []) h c =
      let same : d ≡ d2 = cc in
      let is_args : x.request.args ≡ args = p.0 ∙ ap (λ (b : Dispatch). b.args) (sym same) ∙ e in
      (h.0.response ∷ [], (st ∷ [], (((h.0.done.0, h.0.done.1, subst (λ a. DoCommand a st h.0.done.0) is_args h.0.done.2), h.0.allowed), tt), c))

  -- of counted parts
  pub parts_kept : (split : Split) → split_of args ≡ Some split → (ds : List Dispatch) → AllByRecursion (IsDispatchOf split) ds → IsDistinct nat_eq (map (λ (d : Dispatch). (args_slot d.args)) ds)
      → (xs : List Exchange) → Pairwise (λ (d : Dispatch) (x : Exchange). x.request.args ≡ d.args) ds xs → (sts : List (List Step)) → Pairwise (IsDoneAs meaning RunCommand) xs sts → SamePieces sts moves
      → (responses : List Response) × ServedIn meaning (run_each (kept_by args (Some split) xs)) responses moves
  parts_kept split e ds each distinct xs p sts h c =
      kept_served meaning args split e moves (λ t. among nat_eq (tuple_slot t) (map exchange_slot xs)) sts
      (regrouped meaning args split e moves ds xs sts distinct (parts_done_steps meaning args split e ds each xs p sts h) c)

  pub command_kept : (client : Client) (ds : List Dispatch) (xs : List Exchange) → Sends args ds (split_of args) → PartByPart client ds xs → HonestIn meaning done RunCommand xs moves
      → (responses : List Response) × ServedIn meaning (run_each (kept_of args (filter (is_counted done) xs))) responses moves
  command_kept client ds xs sends legal honest = by (split_of args) refl sends
    where
      begun : Begun done ds xs
      begun = parts_begun client done ds xs legal

      steps : (ts : List (List Step)) × Pairwise (IsDoneAs meaning RunCommand) (filter (is_counted done) xs) ts × SamePieces ts honest.0
      steps = counted_steps meaning done RunCommand xs honest.0 honest.1

      same : SamePieces steps.0 moves
      same slot = steps.2 slot ∙ honest.2 slot

      by : (o : Option Split) → split_of args ≡ o → Sends args ds o → (responses : List Response) × ServedIn meaning (run_each (kept_by args o (filter (is_counted done) xs))) responses moves
      by None e s = whole_kept s.0 s.2 begun.begun begun.later (sym s.1 ∙ begun.all) (filter (is_counted done) xs) begun.args steps.0 steps.1 same
      by (Some split) e s =
          parts_kept split e begun.begun (all-halves (IsDispatchOf split) begun.begun begun.later (subst (AllByRecursion (IsDispatchOf split)) begun.all s.each)).0
          (distinct-front begun.begun begun.later (subst (λ q. IsDistinct nat_eq (map (λ (d : Dispatch). (args_slot d.args)) q)) begun.all s.distinct))
          (filter (is_counted done) xs) begun.args steps.0 steps.1 same

  -- ---- what is told

  -- each answered part tells what its steps tell
  tells : (split : Split) (e : split_of args ≡ Some split) (ds : List Dispatch) → AllByRecursion (IsDispatchOf split) ds → (xs : List Exchange) → Pairwise (λ (d : Dispatch) (x : Exchange). x.request.args ≡ d.args) ds xs
      → AllByRecursion (λ x. is_answered x ≡ true) xs → (sts : List (List Step)) → Pairwise (IsDoneAs meaning RunCommand) xs sts → Pairwise (Tells (split.splitting.policy)) (map (λ x. record { slot = exchange_slot x; tree = reply_or_nil x }) xs) sts
  tells split e [] w [] p a [] h = tt
  tells split e [] w [] p a (st ∷ sts) h = absurd h
  tells split e [] w (x ∷ xs) p a sts h = absurd p
  tells split e (d ∷ ds) w [] p a sts h = absurd p
  tells split e (d ∷ ds) w (x ∷ xs) p a [] h = absurd h
  tells split e (d ∷ ds) w (x ∷ xs) p a (st ∷ sts) h =
      let here = part_done meaning args split e d w.0 x p.0 st h.0 in (
        record {
          tree_is = reply_is meaning x st a.0 h.0 ∙ here.tree_is;
          slots = subst (λ n. AllByRecursion (λ (y : Step). y.slot ≡ n) st) (sym here.slot_is) (part_on_slot meaning split.splitting.policy split.word split.shared (args_slot d.args) split.tuples st here.steps);
        },
        tells split e ds w.1 xs p.1 a.1 sts h.1,
      )

  pub split_told : (split : Split) (e : split_of args ≡ Some split) (ds : List Dispatch) → SendsParts split ds → (xs : List Exchange) → AllDone done ds xs → (sts : List (List Step)) → Pairwise (IsDoneAs meaning RunCommand) (filter (is_counted done) xs) sts
      → SamePieces sts moves → (tree : Tree) → reply_by_split (Some split) (part_replies xs) ≡ Some tree → ServedIn meaning (run_each (args ∷ [])) (Reply tree ∷ []) moves
  split_told split e ds s xs all sts h c tree told =
      let counted = filter (is_counted done) xs in
      let parts = parts_done_steps meaning args split e ds s.each counted all.args sts h in
      let r = regrouped meaning args split e moves ds counted sts s.distinct parts c in
      let us : filter (λ t. among nat_eq (tuple_slot t) (map exchange_slot counted)) split.tuples ≡ split.tuples =
      ap (λ q. filter (λ t. among nat_eq (tuple_slot t) q) split.tuples) parts.slots ∙ filter_all (λ t. among nat_eq (tuple_slot t) (map (λ (d : Dispatch). (args_slot d.args)) ds)) split.tuples s.whole in
      let g = subst (λ q. Regrouped meaning args split e moves q sts) us r in
      let replies : combine_by split.splitting.policy split (map (λ x. record { slot = exchange_slot x; tree = reply_or_nil x }) counted) ≡ Some tree =
      subst (λ q. combine_by split.splitting.policy split (map (λ x. record { slot = exchange_slot x; tree = reply_or_nil x }) q) ≡ Some tree) all.answers told in
      let tree_is = combined_told split (map (λ x. record { slot = exchange_slot x; tree = reply_or_nil x }) counted) sts g.steps (split.splitting.policy)
      (tells split e ds s.each counted all.args all.answered sts h) g.same g.drawn_from tree replies in (
        g.steps ∷ [],
        (
          (
            (tree, refl, subst (λ o. MatchOption o ((y : Step) × (g.steps ≡ y ∷ []) × IsWholeStep args y tree) (λ sp. Pairwise (DoesTuple sp.splitting.policy sp.word sp.shared) sp.tuples g.steps × (tree ≡ tree_of_steps (sp.splitting.policy) (step_trees g.steps)))) (sym e) (g.does, tree_is)),
            g.allowed,
          ),
          tt,
        ),
        g.pieces_are,
      )

  pub whole_told : (d : Dispatch) → d.args ≡ args → (xs : List Exchange) → AllDone done (d ∷ []) xs → (sts : List (List Step)) → Pairwise (IsDoneAs meaning RunCommand) (filter (is_counted done) xs) sts
      → SamePieces sts moves → (tree : Tree) → reply_by_split None (part_replies xs) ≡ Some tree → ServedIn meaning (run_each (args ∷ [])) (Reply tree ∷ []) moves
  whole_told d e xs all sts h c tree told =
      by (filter (is_counted done) xs) all.args all.answered sts h c (subst (λ q. reply_by_split None (map (λ x. record { slot = exchange_slot x; tree = reply_or_nil x }) q) ≡ Some tree) all.answers told)
    where
      by : (ys : List Exchange) → Pairwise (λ (d : Dispatch) (x : Exchange). x.request.args ≡ d.args) (d ∷ []) ys → AllByRecursion (λ x. is_answered x ≡ true) ys → (sts : List (List Step)) → Pairwise (IsDoneAs meaning RunCommand) ys sts → SamePieces sts moves
          → reply_by_split None (map (λ x. record { slot = exchange_slot x; tree = reply_or_nil x }) ys) ≡ Some tree → ServedIn meaning (run_each (args ∷ [])) (Reply tree ∷ []) moves
      by [] p a sts h c t = absurd p
      by (y ∷ z ∷ ys) p a sts h c t = absurd p.1
      by (y ∷ []) p a [] h c t = absurd h
      by (y ∷ []) p a (st ∷ st2 ∷ sts) h c t = absurd h.1
      by (y ∷ []) p a (st ∷ []) h c t =
          let told_is : reply_or_nil y ≡ tree = cc in
          let same : h.0.done.0 ≡ tree = sym (reply_is meaning y st a.0 h.0) ∙ told_is in
          (st ∷ [], (((tree, refl, subst (λ a. DoCommand a st tree) (p.0 ∙ e) (subst (λ t. DoCommand y.request.args st t) same h.0.done.2)), h.0.allowed), tt), c)

  pub command_told : (client : Client) (faults : Address → LinkFault) (ds : List Dispatch) (xs : List Exchange) → Sends args ds (split_of args) → PartByPart client ds xs → HonestIn meaning done RunCommand xs moves
      → part_refusal client faults (behind_answers xs) ≡ None → (tree : Tree) → reply_of_parts args (part_replies xs) ≡ Some tree → ServedIn meaning (run_each (args ∷ [])) (Reply tree ∷ []) moves
  command_told client faults ds xs sends legal honest fine tree told = by (split_of args) refl sends told
    where
      all : AllDone done ds xs
      all = parts_done client faults done ds xs legal fine

      steps : (ts : List (List Step)) × Pairwise (IsDoneAs meaning RunCommand) (filter (is_counted done) xs) ts × SamePieces ts honest.0
      steps = counted_steps meaning done RunCommand xs honest.0 honest.1

      same : SamePieces steps.0 moves
      same slot = steps.2 slot ∙ honest.2 slot

      by : (o : Option Split) → split_of args ≡ o → Sends args ds o → reply_by_split o (part_replies xs) ≡ Some tree → ServedIn meaning (run_each (args ∷ [])) (Reply tree ∷ []) moves
      by None e s t = whole_told s.0 s.2 xs (subst (λ q. AllDone done q xs) s.1 all) steps.0 steps.1 same tree t
      by (Some split) e s t = split_told split e ds s xs all steps.0 steps.1 same tree t
