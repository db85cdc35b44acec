-- The groups of a pipeline by the places of links are those by nodes.
use Rattle.std.specs.Prelude.{not, filter, nat_eq, slice_get, take, drop, option_map, MatchBool}
use Rattle.std.specs.List.{list_any, AllByRecursion}
use Rattle.std.proofs.Common.{◌≡◌, ◌≢◌, ℕ, suc, ◌+◌, ◌==◌, Bool, true, false, cond, List, [], ◌∷◌, map, length, Option, Some, None, refl, sym, ap, ◌∙◌, subst, arith, eqb-true, eq-eqb}
use Rattle.std.proofs.lemmas.Bool.{false≢true}
use Rattle.std.proofs.lemmas.List.{length-map}
use Rattle.cluster_routing.specs.Address.{Address, same_address}
use Rattle.cluster_routing.specs.Info.{texts}
use Rattle.cluster_routing.specs.Lists.{firsts, IsDistinct}
use Rattle.cluster_routing.specs.Seen.{address}
use Rattle.cluster_steps.specs.Requests.{CodeDispatch}
use Rattle.cluster_calls.specs.Links.Log.{Exchange, requests, is_unanswered}
use Rattle.cluster_calls.specs.Links.World.{Node, addresses_of, place_at}
use Rattle.cluster_calls.specs.Links.Events.{AllTo}
use Rattle.cluster_calls.specs.Links.Places.{IsOpenAt}
use Rattle.cluster_steps.specs.Dispatches.{IsPlaced, dispatch_of}
use Rattle.cluster_steps.specs.Groups.{NodeRequests, group_at, place_in, request_in}
use Rattle.cluster_steps.specs.GroupRuns.{GroupByGroup, IsGroupPlaced, group_node, group_nodes, request_lists}
use Rattle.cluster_calls.specs.Calls.Plan.{Dispatch}
use Rattle.cluster_calls.specs.Calls.Legal.{NodeByNode, direct, node_groups, nodes_in_use}
use Rattle.cluster_calls.proofs.LinkLaws.Addresses.{same_true, same_refl}
use Rattle.cluster_calls.proofs.LinkLaws.OpenLinks.{swapped}
use Rattle.cluster_steps.proofs.GroupCalls.{AreDirect}
use Rattle.cluster_calls.proofs.ServerLaws.Distinct.{firsts_distinct}
use Rattle.cluster_calls.proofs.ServerLaws.Grouping.{filter-map, filter-same}
use Rattle.cluster_routing.proofs.Recut.{all-filter}

-- ---- lists

pub map_twice : {A B C : Type 0} (f : A → B) (g : B → C) (xs : List A) → map g (map f xs) ≡ map (λ x. g (f x)) xs
map_twice f g [] = refl
map_twice f g (x ∷ xs) = ap (λ r. g (f x) ∷ r) (map_twice f g xs)

pub all_mapped : {A B : Type 0} (P : B → Type 0) (f : A → B) (xs : List A) → AllByRecursion (λ x. P (f x)) xs → AllByRecursion P (map f xs)
all_mapped P f [] h = tt
all_mapped P f (x ∷ xs) h = (h.0, all_mapped P f xs h.1)

pub all_unmapped : {A B : Type 0} (P : B → Type 0) (f : A → B) (xs : List A) → AllByRecursion P (map f xs) → AllByRecursion (λ x. P (f x)) xs
all_unmapped P f [] h = tt
all_unmapped P f (x ∷ xs) h = (h.0, all_unmapped P f xs h.1)

pub all_both : {A : Type 0} (P Q R : A → Type 0) → ((x : A) → P x → Q x → R x) → (xs : List A) → AllByRecursion P xs → AllByRecursion Q xs → AllByRecursion R xs
all_both P Q R f [] h k = tt
all_both P Q R f (x ∷ xs) h k = (f x h.0 k.0, all_both P Q R f xs h.1 k.1)

pub map-firsts : {A B : Type 0} (f : A → B) (eq : B → B → Bool) (xs : List A) → map f (firsts (λ x y. eq (f x) (f y)) xs) ≡ firsts eq (map f xs)
map-firsts f eq [] = refl
map-firsts f eq (x ∷ xs) =
    ap (λ r. f x ∷ r) (filter-map f (λ y. not (eq (f x) y)) (firsts (λ x y. eq (f x) (f y)) xs) ∙ ap (filter (λ y. not (eq (f x) y))) (map-firsts f eq xs))

pub all-firsts : {A : Type 0} (P : A → Type 0) (eq : A → A → Bool) (xs : List A) → AllByRecursion P xs → AllByRecursion P (firsts eq xs)
all-firsts P eq [] h = tt
all-firsts P eq (x ∷ xs) h = (h.0, all-filter P (λ y. not (eq x y)) (firsts eq xs) (all-firsts P eq xs h.1))

module _ {A : Type 0} (P : A → Type 0) (eq eq' : A → A → Bool) (agree : (x y : A) → P x → P y → eq x y ≡ eq' x y) where
  from_first : (x : A) → P x → (ys : List A) → AllByRecursion P ys → AllByRecursion (λ y. not (eq x y) ≡ not (eq' x y)) ys
  from_first x p [] h = tt
  from_first x p (y ∷ ys) h = (ap not (agree x y p h.0), from_first x p ys h.1)

  pub firsts-agree : (xs : List A) → AllByRecursion P xs → firsts eq xs ≡ firsts eq' xs
  firsts-agree [] h = refl
  firsts-agree (x ∷ xs) h =
      ap (λ r. x ∷ filter (λ y. not (eq x y)) r) (firsts-agree xs h.1)
      ∙ ap (λ r. x ∷ r) (filter-same (λ y. not (eq x y)) (λ y. not (eq' x y)) (firsts eq' xs) (from_first x h.0 (firsts eq' xs) (all-firsts P eq' xs h.1)))

-- each element's own group has it
pub some_alike : {A : Type 0} (key : A → ℕ) (xs : List A) → AllByRecursion (λ x. filter (λ y. key x == key y) xs ≢ []) xs
some_alike {A} key [] = tt
some_alike {A} key (x ∷ xs) = (
  own (key x == key x) (eq-eqb (key x) (key x) refl),
  all_both (λ y. filter (λ z. key y == key z) xs ≢ []) (λ y. filter (λ z. key y == key z) xs ≢ []) (λ y. filter (λ z. key y == key z) (x ∷ xs) ≢ [])
      (λ y h k. more (key y == key x) (filter (λ z. key y == key z) xs) h) xs (some_alike key xs) (some_alike key xs),
)
  where
    own : (b : Bool) → b ≡ true → cond b (x ∷ filter (λ z. key x == key z) xs) (filter (λ z. key x == key z) xs) ≢ []
    own true e f = cc
    own false e f = absurd (false≢true e)

    more : (b : Bool) (ys : List A) → ys ≢ [] → cond b (x ∷ ys) ys ≢ []
    more true ys h f = cc
    more false ys h f = h f

-- ---- places and addresses

get_at : (ns : List Node) (a : Address) (i : ℕ) → place_at ns a ≡ Some i → slice_get (addresses_of ns) i ≡ Some a
get_at [] a i e = cc
get_at (n ∷ ns) a i e = by (same_address n.address a) refl e (λ j f. get_at ns a j f)
  where
    behind : (o : Option ℕ) → place_at ns a ≡ o → option_map (λ j. j + 1) o ≡ Some i → ((j : ℕ) → place_at ns a ≡ Some j → slice_get (addresses_of ns) j ≡ Some a) → slice_get (n.address ∷ addresses_of ns) i ≡ Some a
    behind None f g ih = cc
    behind (Some j) f g ih =
        let is : suc j ≡ i = let s : j + 1 ≡ suc j = omega arith in cc in
        subst (λ k. slice_get (n.address ∷ addresses_of ns) k ≡ Some a) is (ih j f)

    by : (b : Bool) → same_address n.address a ≡ b → cond b (Some 0) (option_map (λ j. j + 1) (place_at ns a)) ≡ Some i → ((j : ℕ) → place_at ns a ≡ Some j → slice_get (addresses_of ns) j ≡ Some a)
        → slice_get (n.address ∷ addresses_of ns) i ≡ Some a
    by true t f ih = let is : 0 ≡ i = cc in subst (λ k. slice_get (n.address ∷ addresses_of ns) k ≡ Some a) is (ap (λ k. Some k) (same_true n.address a t))
    by false t f ih = behind (place_at ns a) refl f ih

one_of : {X : Type 0} (o : Option X) (x y : X) → o ≡ Some x → o ≡ Some y → x ≡ y
one_of None x y e f = cc
one_of (Some z) x y e f = cc

-- two addresses have one place exactly if they are the same
pub same_place : (ns : List Node) (a b : Address) (i j : ℕ) → place_at ns a ≡ Some i → place_at ns b ≡ Some j → nat_eq i j ≡ same_address a b
same_place ns a b i j e f = by (nat_eq i j) refl (same_address a b) refl
  where
    by : (t : Bool) → nat_eq i j ≡ t → (u : Bool) → same_address a b ≡ u → t ≡ u
    by true t true u = refl
    by false t false u = refl
    by true t false u =
        let there : slice_get (addresses_of ns) i ≡ Some b = subst (λ k. slice_get (addresses_of ns) k ≡ Some b) (sym (eqb-true i j t)) (get_at ns b j f) in
        let same : a ≡ b = one_of (slice_get (addresses_of ns) i) a b (get_at ns a i e) there in
        absurd (false≢true (sym u ∙ subst (λ k. same_address a k ≡ true) same (same_refl a)))
    by false t true u =
        let there : place_at ns b ≡ Some i = subst (λ k. place_at ns k ≡ Some i) (same_true a b u) e in
        absurd (false≢true (sym t ∙ eq-eqb i j (one_of (place_at ns b) i j there f)))

-- ---- node by node

match_weaker : (A B C : Type 0) (b : Bool) → (B → C) → MatchBool b A B → MatchBool b A C
match_weaker A B C true f h = h
match_weaker A B C false f h = f h

pub by_node : (gs : List (List Dispatch)) (xs : List Exchange) → GroupByGroup (map (λ (g : List Dispatch). map direct g) gs) xs → NodeByNode gs xs
by_node [] xs h = h
by_node (g ∷ gs) xs h = at (length (map direct g)) (length g) (length-map g direct) h (λ ys k. by_node gs ys k)
  where
    at : (n m : ℕ) → n ≡ m → (requests (take n xs) ≡ map direct g) × MatchBool (list_any is_unanswered (take n xs)) (drop n xs ≡ []) (GroupByGroup (map (λ (g : List Dispatch). map direct g) gs) (drop n xs))
        → ((ys : List Exchange) → GroupByGroup (map (λ (g : List Dispatch). map direct g) gs) ys → NodeByNode gs ys)
        → (requests (take m xs) ≡ map direct g) × MatchBool (list_any is_unanswered (take m xs)) (drop m xs ≡ []) (NodeByNode gs (drop m xs))
    at n m e k ih = subst (λ i. (requests (take i xs) ≡ map direct g) × MatchBool (list_any is_unanswered (take i xs)) (drop i xs ≡ []) (NodeByNode gs (drop i xs))) e
        (k.0, match_weaker _ _ _ (list_any is_unanswered (take n xs)) (λ l. ih (drop n xs) l) k.1)

-- ---- the dispatches of a pipeline, each with the place of its open link

abbrev pub node_of : CodeDispatch → Address
node_of d = address d.to.node

-- the requests to the place of a dispatch
abbrev pub alike : List CodeDispatch → CodeDispatch → List CodeDispatch
alike cds c = filter (λ e. place_in c == place_in e) cds

module _ (ns : List Node) (cds : List CodeDispatch) (placed : AllByRecursion (IsPlaced ns) cds) where
  abbrev of_place : CodeDispatch → CodeDispatch → Bool
  of_place c d = nat_eq (place_in c) (place_in d)

  abbrev of_node : CodeDispatch → CodeDispatch → Bool
  of_node c d = same_address (node_of c) (node_of d)

  -- the first dispatch to each place
  abbrev pub first_ones : List CodeDispatch
  first_ones = firsts of_place cds

  pub agree : (c d : CodeDispatch) → IsPlaced ns c → IsPlaced ns d → of_place c d ≡ of_node c d
  agree c d p q = same_place ns (node_of c) (node_of d) (place_in c) (place_in d) p.place.place q.place.place

  pub first_places : map place_in first_ones ≡ firsts nat_eq (map place_in cds)
  first_places = map-firsts place_in nat_eq cds

  pub first_nodes : map node_of first_ones ≡ nodes_in_use (map dispatch_of cds)
  first_nodes =
      ap (map node_of) (firsts-agree (IsPlaced ns) of_place of_node agree cds placed) ∙ map-firsts node_of same_address cds
      ∙ ap (firsts same_address) (sym (map_twice dispatch_of (λ (d : Dispatch). d.node) cds))

  first_placed : AllByRecursion (IsPlaced ns) first_ones
  first_placed = all-firsts (IsPlaced ns) of_place cds placed

  -- ---- the groups by nodes

  one_more : (b : Bool) (e : CodeDispatch) (es : List CodeDispatch) (fs : List Dispatch) → IsPlaced ns e → map direct fs ≡ map request_in es → map direct (cond b (dispatch_of e ∷ fs) fs) ≡ map request_in (cond b (e ∷ es) es)
  one_more true e es fs p h =
      ap (λ a. record { node = node_of e; args = texts e.args.items; asking = a } ∷ map direct fs) (sym p.direct) ∙ ap (λ qs. request_in e ∷ qs) h
  one_more false e es fs p h = h

  one_group : (c : CodeDispatch) → IsPlaced ns c → (es : List CodeDispatch) → AllByRecursion (IsPlaced ns) es → map direct (filter (λ (d : Dispatch). same_address d.node (node_of c)) (map dispatch_of es)) ≡ map request_in (alike es c)
  one_group c p [] h = refl
  one_group c p (e ∷ es) h =
      ap (λ b. map direct (cond b (dispatch_of e ∷ filter (λ (d : Dispatch). same_address d.node (node_of c)) (map dispatch_of es)) (filter (λ (d : Dispatch). same_address d.node (node_of c)) (map dispatch_of es)))) (swapped (node_of e) (node_of c) ∙ sym (agree c e p h.0))
      ∙ one_more (place_in c == place_in e) e (alike es c) (filter (λ (d : Dispatch). same_address d.node (node_of c)) (map dispatch_of es)) h.0 (one_group c p es h.1)

  each_group : (es : List CodeDispatch) → AllByRecursion (IsPlaced ns) es
      → map (λ c. map direct (filter (λ (d : Dispatch). same_address d.node (node_of c)) (map dispatch_of cds))) es ≡ map (λ c. map request_in (alike cds c)) es
  each_group [] h = refl
  each_group (c ∷ es) h =
      ap (λ qs. qs ∷ map (λ c. map direct (filter (λ (d : Dispatch). same_address d.node (node_of c)) (map dispatch_of cds))) es) (one_group c h.0 cds placed) ∙ ap (λ r. map request_in (alike cds c) ∷ r) (each_group es h.1)

  abbrev pub place_groups : List NodeRequests
  place_groups = map (group_at cds) (firsts nat_eq (map place_in cds))

  groups_first : place_groups ≡ map (λ c. group_at cds (place_in c)) first_ones
  groups_first = ap (map (group_at cds)) (sym first_places) ∙ map_twice place_in (group_at cds) first_ones

  abbrev to_node : Address → List Dispatch
  to_node node = filter (λ (d : Dispatch). same_address d.node node) (map dispatch_of cds)

  pub groups_are : map (λ (g : List Dispatch). map direct g) (node_groups (map dispatch_of cds)) ≡ request_lists place_groups
  groups_are =
      ap (λ nodes. map (λ (g : List Dispatch). map direct g) (map to_node nodes)) (sym first_nodes)
      ∙ map_twice to_node (λ (g : List Dispatch). map direct g) (map node_of first_ones) ∙ map_twice node_of (λ node. map direct (to_node node)) first_ones
      ∙ each_group first_ones first_placed
      ∙ sym (ap request_lists groups_first ∙ map_twice (λ c. group_at cds (place_in c)) (λ (g : NodeRequests). g.requests) first_ones)

  -- ---- each group goes to its one node

  one_node : (c : CodeDispatch) → IsPlaced ns c → (es : List CodeDispatch) → AllByRecursion (IsPlaced ns) es → AllByRecursion (λ e. node_of e ≡ node_of c) (alike es c)
  one_node c p [] h = tt
  one_node c p (e ∷ es) h = by (place_in c == place_in e) refl (one_node c p es h.1)
    where
      by : (b : Bool) → (place_in c == place_in e) ≡ b → AllByRecursion (λ e. node_of e ≡ node_of c) (alike es c) → AllByRecursion (λ e. node_of e ≡ node_of c) (cond b (e ∷ alike es c) (alike es c))
      by true t k = (sym (same_true (node_of c) (node_of e) (sym (agree c e p h.0) ∙ t)), k)
      by false t k = k

  to_one : (node : Address) (es : List CodeDispatch) → AllByRecursion (λ e. node_of e ≡ node) es → AllTo node (map request_in es)
  to_one node [] h = tt
  to_one node (e ∷ es) h = (h.0, to_one node es h.1)

  none_asking : (es : List CodeDispatch) → AllByRecursion (IsPlaced ns) es → AreDirect (map request_in es)
  none_asking [] h = tt
  none_asking (e ∷ es) h = (h.0.direct, none_asking es h.1)

  first_of_group : (node : Address) (es : List CodeDispatch) → es ≢ [] → AllByRecursion (λ e. node_of e ≡ node) es → group_node (map request_in es) ≡ node
  first_of_group node [] some h = absurd (some refl)
  first_of_group node (e ∷ es) some h = h.0

  some_requests : (es : List CodeDispatch) → es ≢ [] → map request_in es ≢ []
  some_requests [] some e = some refl
  some_requests (x ∷ es) some e = cc

  pub group_node_is : (c : CodeDispatch) → IsPlaced ns c → alike cds c ≢ [] → group_node (map request_in (alike cds c)) ≡ node_of c
  group_node_is c p some = first_of_group (node_of c) (alike cds c) some (one_node c p cds placed)

  group_placed : (c : CodeDispatch) → IsPlaced ns c → alike cds c ≢ [] → IsGroupPlaced ns (group_at cds (place_in c))
  group_placed c p some =
      let node = group_node_is c p some in
      record {
        place = subst (λ a. IsOpenAt ns a (place_in c)) (sym node) p.place;
        within = p.within;
        some = some_requests (alike cds c) some;
        to_node = subst (λ a. AllTo a (map request_in (alike cds c))) (sym node) (to_one (node_of c) (alike cds c) (one_node c p cds placed));
        direct = none_asking (alike cds c) (all-filter (IsPlaced ns) (λ e. place_in c == place_in e) cds placed);
      }

  some_first : AllByRecursion (λ c. alike cds c ≢ []) first_ones
  some_first = all-firsts (λ c. alike cds c ≢ []) of_place cds (some_alike place_in cds)

  pub groups_placed : AllByRecursion (IsGroupPlaced ns) place_groups
  groups_placed =
      subst (AllByRecursion (IsGroupPlaced ns)) (sym groups_first)
      (all_mapped (IsGroupPlaced ns) (λ c. group_at cds (place_in c)) first_ones
      (all_both (IsPlaced ns) (λ c. alike cds c ≢ []) (λ c. IsGroupPlaced ns (group_at cds (place_in c))) group_placed first_ones first_placed some_first))

  nodes_of_groups : (es : List CodeDispatch) → AllByRecursion (IsPlaced ns) es → AllByRecursion (λ c. alike cds c ≢ []) es → map (λ c. group_node (map request_in (alike cds c))) es ≡ map node_of es
  nodes_of_groups [] h k = refl
  nodes_of_groups (c ∷ es) h k = ap (λ a. a ∷ map (λ c. group_node (map request_in (alike cds c))) es) (group_node_is c h.0 k.0) ∙ ap (λ r. node_of c ∷ r) (nodes_of_groups es h.1 k.1)

  -- and no node has two
  pub groups_distinct : IsDistinct same_address (group_nodes place_groups)
  groups_distinct =
      subst (IsDistinct same_address)
      (sym (ap group_nodes groups_first ∙ map_twice (λ c. group_at cds (place_in c)) (λ (g : NodeRequests). group_node g.requests) first_ones ∙ nodes_of_groups first_ones first_placed some_first ∙ first_nodes))
      (firsts_distinct same_address (map (λ (d : Dispatch). d.node) (map dispatch_of cds)))
