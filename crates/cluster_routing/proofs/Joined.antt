-- Items of several arrays.
use Rattle.std.specs.Prelude.{is_some, flat_map}
use Rattle.std.specs.List.{list_all}
use Rattle.std.proofs.Common.{◌≡◌, Bool, true, false, ◌&&◌, List, [], ◌∷◌, ◌++◌, map, refl, sym, ap, ◌∙◌, Option, Some, None, option_map, option_and_then}
use Rattle.resp_core.specs.Trees.{Tree, array}
use Rattle.resp_core.specs.View.{view}
use Rattle.resp_core.specs.declared.value.Value.{Value}
use Rattle.resp_args.specs.Convert.{traverse}
use Rattle.cluster_routing.specs.Combine.{array_of, items_or_none}
use Rattle.cluster_routing.specs.Lists.{concat}
use Rattle.cluster_routing.specs.Policies.{array_of_all}
use Rattle.cluster_routing.specs.SlotsReply.{array_items}

are_arrays : List Value → Bool
are_arrays vs = list_all (λ v. is_some (array_items (view v))) vs

items_are : (t : Tree) (ts : List Tree) → array_items t ≡ Some ts → items_or_none t ≡ ts
items_are (array us) ts e = cc
items_are t ts e = cc

onto : (us fs : List Tree) (lists : Option (List (List Tree))) → option_map (λ ls. concat ls) lists ≡ Some fs → option_map (λ ls. concat ls) (option_map (λ ls. us ∷ ls) lists) ≡ Some (us ++ fs)
onto us fs None e = cc
onto us fs (Some ls) e = let same : concat ls ≡ fs = cc in ap (λ gs. Some (us ++ gs)) same

each_array : (vs : List Value) → are_arrays vs ≡ true → option_map (λ ls. concat ls) (traverse array_items (map view vs)) ≡ Some (flat_map items_or_none (map view vs))
unfolding are_arrays
each_array [] e = refl
each_array (v ∷ vs) e = by (array_items (view v)) refl e (λ d. each_array vs d)
  where
    by : (q : Option (List Tree)) → array_items (view v) ≡ q → (is_some q && list_all (λ v. is_some (array_items (view v))) vs) ≡ true
        → (list_all (λ v. is_some (array_items (view v))) vs ≡ true → option_map (λ ls. concat ls) (traverse array_items (map view vs)) ≡ Some (flat_map items_or_none (map view vs)))
        → option_map (λ ls. concat ls) (option_and_then (λ y. option_map (λ ys. y ∷ ys) (traverse array_items (map view vs))) q) ≡ Some (items_or_none (view v) ++ flat_map items_or_none (map view vs))
    by None k d behind = cc
    by (Some us) k d behind = onto us (flat_map items_or_none (map view vs)) (traverse array_items (map view vs)) (behind d) ∙ ap (λ ys. Some (ys ++ flat_map items_or_none (map view vs))) (sym (items_are (view v) us k))

pub all_arrays : (vs : List Value) → list_all (λ v. is_some (array_items (view v))) vs ≡ true → Some (array_of (flat_map items_or_none (map view vs))) ≡ array_of_all (map view vs)
unfolding are_arrays
all_arrays vs e = by (traverse array_items (map view vs)) (each_array vs e)
  where
    by : (o : Option (List (List Tree))) → option_map (λ ls. concat ls) o ≡ Some (flat_map items_or_none (map view vs)) → Some (array_of (flat_map items_or_none (map view vs))) ≡ option_map (λ ls. array_of (concat ls)) o
    by None d = cc
    by (Some ls) d = let same : concat ls ≡ flat_map items_or_none (map view vs) = cc in ap (λ fs. Some (array_of fs)) (sym same)

pub no_array : (vs : List Value) → list_all (λ v. is_some (array_items (view v))) vs ≡ false → None ≡ array_of_all (map view vs)
no_array [] e = cc
no_array (v ∷ vs) e = by (array_items (view v)) e (λ d. no_array vs d)
  where
    none : (us : List Tree) (o : Option (List (List Tree))) → None ≡ option_map (λ ls. array_of (concat ls)) o → None ≡ option_map (λ ls. array_of (concat ls)) (option_map (λ ls. us ∷ ls) o)
    none us None d = refl
    none us (Some ls) d = cc

    by : (q : Option (List Tree)) → (is_some q && list_all (λ v. is_some (array_items (view v))) vs) ≡ false
        → (list_all (λ v. is_some (array_items (view v))) vs ≡ false → None ≡ array_of_all (map view vs))
        → None ≡ option_map (λ ls. array_of (concat ls)) (option_and_then (λ y. option_map (λ ys. y ∷ ys) (traverse array_items (map view vs))) q)
    by None d behind = refl
    by (Some us) d behind = none us (traverse array_items (map view vs)) (behind d)
