-- The node at the place with a number, where the places are those of all nodes.
use Rattle.std.proofs.Common.{◌≡◌, ◌∙◌, ℕ, ◌%◌, List, Option, Some, None, option_map, map, length, slice_get, sym, ap}
use Rattle.std.proofs.lemmas.List.{length-map}
use Rattle.std.proofs.lemmas.Option.{slice_get-map}
use Rattle.cluster_routing.specs.AllNodes.{all_nodes}
use Rattle.cluster_routing.specs.Address.{Address}
use Rattle.cluster_routing.specs.NodePlaces.{AreOfAll, node_at}
use Rattle.cluster_routing.specs.SlotMap.{SlotEntries}
use Rattle.cluster_routing.specs.declared.node_places.NodePlace.{NodePlace}
use Rattle.cluster_calls.specs.Calls.Plan.{by_number}

by_number_of : {A B : Type 0} (f : A → B) (n : ℕ) (xs : List A) → by_number n (map f xs) ≡ option_map f (by_number n xs)
by_number_of f n xs = ap (λ l. slice_get (map f xs) (n % l)) (length-map xs f) ∙ slice_get-map f xs (n % length xs)

inside : {A : Type 0} (x : Option A) (o : Option A) → Some x ≡ option_map (λ a. Some a) o → x ≡ o
inside x None h = cc
inside x (Some a) h = cc

pub numbered : (entries : SlotEntries) (places : List NodePlace) (n : ℕ) (p : NodePlace) → AreOfAll entries places → Some p ≡ by_number n places → node_at entries p ≡ by_number n (all_nodes entries)
numbered entries places n p all is =
    inside (node_at entries p) (by_number n (all_nodes entries))
    (ap (option_map (node_at entries)) is ∙ sym (by_number_of (node_at entries) n places) ∙ ap (by_number n) all ∙ by_number_of (λ (a : Address). Some a) n (all_nodes entries))
