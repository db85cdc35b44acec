-- What the replies of the parts are combined to is what the steps in argument order tell.
use Rattle.std.proofs.Common.{◌≡◌, ℕ, pos, ◌+ℤ◌, ◌+◌, Bool, true, false, cond, ◌==◌, List, [], ◌∷◌, ◌++◌, map, Some, None, option_map, refl, sym, ap, ◌∙◌, sum_by}
use Rattle.std.specs.Prelude.{option_and_then}
use Rattle.std.specs.List.{AllByRecursion}
use Rattle.std.proofs.lemmas.List.{map-append}
use Rattle.std.proofs.lemmas.List.Elements.{filter-append}
use Rattle.std.proofs.lemmas.List.Sums.{sum_by-append, sum_by-cons}
use Rattle.resp_core.specs.Trees.{Tree, int}
use Rattle.cluster_routing.specs.SlotsReply.{items}
use Rattle.cluster_routing.specs.Lists.{concat, Pairwise, draw}
use Rattle.cluster_routing.specs.Split.{Split}
use Rattle.cluster_routing.specs.Parts.{tuple_slot}
use Rattle.cluster_routing.specs.declared.policy.ResponsePolicy.{ResponsePolicy}
use Rattle.cluster_routing.specs.declared.policy.ResponsePolicy.TheVariants.{OneSucceeded, FirstSucceededNonEmptyOrAllEmpty, AllSucceeded, AggregateLogical, Aggregate, CombineArrays, Special, CombineMaps}
use Rattle.cluster_routing.specs.declared.policy.AggregateOp.TheVariants.{Min, Sum}
use Rattle.cluster_calls.specs.OneServer.Keyspace.{Step, on_slot}
use Rattle.cluster_calls.specs.OneServer.Meaning.{tree_of_steps, number_in, step_trees}
use Rattle.cluster_calls.specs.OneServer.Operations.{reply_tree}
use Rattle.cluster_routing.specs.Combine.{PartReply, trees_of, items_or_none, items_for, plus, sum_of, trees_in, as_int, combine_by, array_of}
use Rattle.cluster_calls.proofs.ServerLaws.Draw.{drawn_same, draw-map}
use Rattle.cluster_calls.proofs.ServerLaws.Splits.{on_one_slot}
use Rattle.cluster_calls.proofs.ServerLaws.SameSlots.{sum_same_slots}

-- a part's reply tells what its steps tell, and they are on its slot
pub record Tells (c : ResponsePolicy) (r : PartReply) (st : List Step) : Type 0 where
  pub tree_is : r.tree ≡ tree_of_steps c (step_trees st)
  pub slots : AllByRecursion (λ (x : Step). x.slot ≡ r.slot) st

items_back : (ts : List Tree) → items (trees_of ts) ≡ ts
items_back [] = refl
items_back (t ∷ ts) = ap (λ q. t ∷ q) (items_back ts)

items_on_slot : (rs : List PartReply) (sts : List (List Step)) → Pairwise (Tells CombineArrays) rs sts → (s : ℕ) → items_for rs s ≡ step_trees (on_slot s (concat sts))
items_on_slot [] [] h s = refl
items_on_slot [] (st ∷ sts) h s = absurd h
items_on_slot (r ∷ rs) [] h s = absurd h
items_on_slot (r ∷ rs) (st ∷ sts) h s =
    ap (λ q. cond (s == r.slot) (items_or_none r.tree) [] ++ q) (items_on_slot rs sts h.1 s)
    ∙ ap (λ t. cond (s == r.slot) (items_or_none t) [] ++ step_trees (on_slot s (concat sts))) h.0.tree_is
    ∙ by (s == r.slot)
    ∙ sym (map-append (λ (x : Step). reply_tree x.response) (cond (s == r.slot) st []) (on_slot s (concat sts)))
    ∙ sym (ap (λ q. step_trees (q ++ on_slot s (concat sts))) (on_one_slot s r.slot st h.0.slots))
    ∙ sym (ap step_trees (filter-append (λ (x : Step). s == x.slot) st (concat sts)))
  where
    by : (b : Bool) → cond b (items (trees_of (step_trees st))) [] ++ step_trees (on_slot s (concat sts)) ≡ step_trees (cond b st []) ++ step_trees (on_slot s (concat sts))
    by true = ap (λ q. q ++ step_trees (on_slot s (concat sts))) (items_back (step_trees st))
    by false = refl

some_if : {A : Type 0} (b : Bool) (x y : A) → cond b (Some x) None ≡ Some y → y ≡ x
some_if true x y e = cc
some_if false x y e = cc

trees_number : (xs : List Step) → sum_by number_in (step_trees xs) ≡ sum_by (λ (x : Step). number_in (reply_tree x.response)) xs
trees_number [] = refl
trees_number (x ∷ xs) = sum_by-cons number_in (reply_tree x.response) (step_trees xs) ∙ ap (λ n. number_in (reply_tree x.response) + n) (trees_number xs) ∙ sym (sum_by-cons (λ (y : Step). number_in (reply_tree y.response)) x xs)

sums : (rs : List PartReply) (sts : List (List Step)) → Pairwise (Tells (Aggregate Sum)) rs sts → sum_of (trees_in rs) ≡ Some (pos (sum_by (λ (x : Step). number_in (reply_tree x.response)) (concat sts)))
sums [] [] h = refl
sums [] (st ∷ sts) h = absurd h
sums (r ∷ rs) [] h = absurd h
sums (r ∷ rs) (st ∷ sts) h =
    ap (λ t. plus t (sum_of (trees_in rs))) h.0.tree_is
    ∙ ap (λ o. option_map (λ m. pos (sum_by number_in (step_trees st)) +ℤ m) o) (sums rs sts h.1)
    ∙ ap (λ n. Some (pos (n + sum_by (λ (x : Step). number_in (reply_tree x.response)) (concat sts)))) (trees_number st)
    ∙ ap (λ n. Some (pos n)) (sym (sum_by-append (λ (x : Step). number_in (reply_tree x.response)) st (concat sts)))

pub combined_told : (split : Split) (rs : List PartReply) (sts : List (List Step)) (steps : List Step) → (c : ResponsePolicy)
    → Pairwise (Tells c) rs sts → ((s : ℕ) → on_slot s steps ≡ on_slot s (concat sts)) → steps ≡ draw (map tuple_slot split.tuples) (λ s. on_slot s (concat sts))
    → (tree : Tree) → combine_by c split rs ≡ Some tree → tree ≡ tree_of_steps c (step_trees steps)
combined_told split rs sts steps CombineArrays h same draws tree e =
    some_if _ _ tree e
    ∙ ap array_of (drawn_same (map tuple_slot split.tuples) (items_for rs) (λ s. step_trees (on_slot s (concat sts))) (items_on_slot rs sts h)
    ∙ draw-map (λ (x : Step). reply_tree x.response) (map tuple_slot split.tuples) (λ s. on_slot s (concat sts)) ∙ ap step_trees (sym draws))
combined_told split rs sts steps (Aggregate Sum) h same draws tree e =
    some_if _ _ tree (sym (ap (λ o. option_and_then as_int o) (sums rs sts h)) ∙ e)
    ∙ ap (λ n. int (pos n)) (sym (sum_same_slots (λ (x : Step). number_in (reply_tree x.response)) steps (concat sts) same) ∙ sym (trees_number steps))
combined_told split rs sts steps AllSucceeded h same draws tree e = some_if _ _ tree e
combined_told split rs sts steps OneSucceeded h same draws tree e = cc
combined_told split rs sts steps FirstSucceededNonEmptyOrAllEmpty h same draws tree e = cc
combined_told split rs sts steps (AggregateLogical op) h same draws tree e = cc
combined_told split rs sts steps (Aggregate Min) h same draws tree e = cc
combined_told split rs sts steps Special h same draws tree e = cc
combined_told split rs sts steps CombineMaps h same draws tree e = cc
