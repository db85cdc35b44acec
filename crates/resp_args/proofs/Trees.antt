-- Values as trees.
use Rattle.std.proofs.Common.{◌≡◌, List, [], ◌∷◌, refl, ap, Vec, Global, rules}
use Rattle.std.proofs.Common.{map as each}
use Rattle.resp_core.specs.Trees.{Tree, array, set, map}
use Rattle.resp_args.specs.Convert.{items}
use Rattle.resp_core.specs.Parts.{pair_list}
use Rattle.resp_core.specs.View.{view, trees_of, pairs_of}
use Rattle.resp_core.specs.View.{pair_view}
use Rattle.resp_core.specs.declared.value.Value.{Value, Array, Set, Map, the_lemmas}

pub items-trees_of : (ts : List Tree) → items (trees_of ts) ≡ ts
items-trees_of [] = refl
items-trees_of (t ∷ ts) = ap (λ l. t ∷ l) (items-trees_of ts)

pub pair_list-pairs_of : (ps : List (Tree × Tree)) → pair_list (pairs_of ps) ≡ ps
pair_list-pairs_of [] = refl
pair_list-pairs_of (p ∷ ps) = ap (λ l. p ∷ l) (pair_list-pairs_of ps)

pub view-Array : (v : Vec Value Global) → view (Array v) ≡ array (trees_of (each view v.items))
view-Array v = search (rules, the_lemmas)

pub view-Map : (v : Vec (Value × Value) Global) → view (Map v) ≡ map (pairs_of (each pair_view v.items))
view-Map v = search (rules, the_lemmas)

pub view-Set : (v : Vec Value Global) → view (Set v) ≡ set (trees_of (each view v.items))
view-Set v = search (rules, the_lemmas)
