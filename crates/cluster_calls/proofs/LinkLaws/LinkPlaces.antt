-- Places, links and open links.
use Rattle.std.specs.Prelude.{slice_get, slice_set, option_map, filter, not, is_some, ◌||◌}
use Rattle.std.specs.List.{list_any}
use Rattle.std.proofs.Common.{◌≡◌, ℕ, suc, ◌+◌, Bool, true, false, cond, List, [], ◌∷◌, map, Option, Some, None, refl, sym, ap, ◌∙◌, subst, arith}
use Rattle.resp_link.specs.Call.{Seen}
use Rattle.cluster_routing.specs.Address.{Address, same_address}
use Rattle.cluster_calls.proofs.LinkLaws.Addresses.{same_true}
use Rattle.cluster_calls.specs.Links.World.{Node, place_at, link_at, set_link, is_usable, is_linked, open_links, addresses_of}

pub record Found (ns : List Node) (a : Address) (i : ℕ) : Type 0 where
  pub node : Node
  pub at : slice_get ns i ≡ Some node
  pub link : link_at ns a ≡ Some node.link
  pub set : (v : Seen) → set_link ns a v ≡ slice_set ns i (record { address = node.address; link = v })

found_behind : (n : Node) (ns : List Node) (a : Address) (i : ℕ) (o : Option ℕ) → (same_address n.address a) ≡ false → option_map (λ j. j + 1) o ≡ Some i → ((j : ℕ) → o ≡ Some j → Found ns a j) → Found (n ∷ ns) a i
found_behind n ns a i None t e f = cc
found_behind n ns a i (Some j) t e f =
    let r = f j refl in
    let is : suc j ≡ i = let s : j + 1 ≡ suc j = omega arith in cc in
    subst (λ k. Found (n ∷ ns) a k) is (record {
      node = r.node;
      at = r.at;
      link = rw t r.link;
      set = λ v. rw t (ap (λ m. n ∷ m) (r.set v));
    })

found_by : (n : Node) (ns : List Node) (a : Address) (i : ℕ) (b : Bool) → (same_address n.address a) ≡ b → cond b (Some 0) (option_map (λ j. j + 1) (place_at ns a)) ≡ Some i → ((j : ℕ) → place_at ns a ≡ Some j → Found ns a j) → Found (n ∷ ns) a i
found_by n ns a i true t e f =
    let is : 0 ≡ i = cc in
    subst (λ k. Found (n ∷ ns) a k) is (record { node = n; at = refl; link = rw t refl; set = λ v. rw t refl })
found_by n ns a i false t e f = found_behind n ns a i (place_at ns a) t e f

pub found : (ns : List Node) (a : Address) (i : ℕ) → place_at ns a ≡ Some i → Found ns a i
found [] a i e = cc
found (n ∷ ns) a i e = found_by n ns a i (same_address n.address a) refl e (λ j f. found ns a j f)

nowhere_behind : (o : Option ℕ) → option_map (λ (j : ℕ). j + 1) o ≡ None → o ≡ None
nowhere_behind None e = refl
nowhere_behind (Some j) e = cc

nowhere_by : (n : Node) (ns : List Node) (a : Address) (b : Bool) → (same_address n.address a) ≡ b → cond b (Some 0) (option_map (λ j. j + 1) (place_at ns a)) ≡ None → (place_at ns a ≡ None → link_at ns a ≡ None) → link_at (n ∷ ns) a ≡ None
nowhere_by n ns a true t e f = cc
nowhere_by n ns a false t e f = rw t (f (nowhere_behind (place_at ns a) e))

pub nowhere : (ns : List Node) (a : Address) → place_at ns a ≡ None → link_at ns a ≡ None
nowhere [] a e = refl
nowhere (n ∷ ns) a e = nowhere_by n ns a (same_address n.address a) refl e (λ f. nowhere ns a f)

-- ---- another link at an address

set_same_by : (n : Node) (ns : List Node) (a : Address) (s v : Seen) (b : Bool) → (same_address n.address a) ≡ b → cond b (Some n.link) (link_at ns a) ≡ Some s → (link_at ns a ≡ Some s → link_at (set_link ns a v) a ≡ Some v) → link_at (set_link (n ∷ ns) a v) a ≡ Some v
set_same_by n ns a s v true t e f = rw (t, t) refl
set_same_by n ns a s v false t e f = rw (t, t) (f e)

pub set_same : (ns : List Node) (a : Address) (s v : Seen) → link_at ns a ≡ Some s → link_at (set_link ns a v) a ≡ Some v
set_same [] a s v e = cc
set_same (n ∷ ns) a s v e = set_same_by n ns a s v (same_address n.address a) refl e (λ f. set_same ns a s v f)

set_other_by : (n : Node) (ns : List Node) (a c : Address) (v : Seen) (b : Bool) → (same_address n.address a) ≡ b → (same_address a c) ≡ false → link_at (set_link ns a v) c ≡ link_at ns c → link_at (cond b (record { address = n.address; link = v } ∷ ns) (n ∷ set_link ns a v)) c ≡ link_at (n ∷ ns) c
set_other_by n ns a c v true t ne h =
    let e : (same_address n.address c) ≡ false = ap (λ k. same_address k c) (same_true n.address a t) ∙ ne in
    rw e refl
set_other_by n ns a c v false t ne h = ap (λ r. cond (same_address n.address c) (Some n.link) r) h

pub set_other : (ns : List Node) (a c : Address) (v : Seen) → (same_address a c) ≡ false → link_at (set_link ns a v) c ≡ link_at ns c
set_other [] a c v ne = refl
set_other (n ∷ ns) a c v ne = set_other_by n ns a c v (same_address n.address a) refl ne (set_other ns a c v ne)

set_addresses_by : (n : Node) (ns : List Node) (a : Address) (v : Seen) (b : Bool) → map (λ (m : Node). m.address) (set_link ns a v) ≡ map (λ (m : Node). m.address) ns
    → map (λ (m : Node). m.address) (cond b (record { address = n.address; link = v } ∷ ns) (n ∷ set_link ns a v)) ≡ map (λ (m : Node). m.address) (n ∷ ns)
set_addresses_by n ns a v true h = refl
set_addresses_by n ns a v false h = ap (λ r. n.address ∷ r) h

pub set_addresses : (ns : List Node) (a : Address) (v : Seen) → map (λ (m : Node). m.address) (set_link ns a v) ≡ map (λ (m : Node). m.address) ns
set_addresses [] a v = refl
set_addresses (n ∷ ns) a v = set_addresses_by n ns a v (same_address n.address a) (set_addresses ns a v)

set_open_by : (n : Node) (ns : List Node) (a : Address) (s v : Seen) (b : Bool) → cond b (Some n.link) (link_at ns a) ≡ Some s → v.usable ≡ s.usable
    → (link_at ns a ≡ Some s → open_links (set_link ns a v) ≡ open_links ns)
    → open_links (cond b (record { address = n.address; link = v } ∷ ns) (n ∷ set_link ns a v)) ≡ open_links (n ∷ ns)
set_open_by n ns a s v true e u f =
    let is : n.link ≡ s = cc in
    let w : v.usable ≡ n.link.usable = u ∙ ap (λ (l : Seen). l.usable) (sym is) in
    ap (λ u. cond u (n.address ∷ filter (λ k. not (same_address k n.address)) (open_links ns)) (filter (λ k. not (same_address k n.address)) (open_links ns))) w
set_open_by n ns a s v false e u f =
    ap (λ os. cond n.link.usable (n.address ∷ filter (λ k. not (same_address k n.address)) os) (filter (λ k. not (same_address k n.address)) os)) (f e)

-- the open links stay where a link stays as open as it was
pub set_open : (ns : List Node) (a : Address) (s v : Seen) → link_at ns a ≡ Some s → v.usable ≡ s.usable → open_links (set_link ns a v) ≡ open_links ns
set_open [] a s v e u = cc
set_open (n ∷ ns) a s v e u = set_open_by n ns a s v (same_address n.address a) e u (λ f. set_open ns a s v f u)

-- ---- open links

gone_by : (x m : Address) (xs : List Address) (b : Bool) → (same_address x m) ≡ b → list_any (λ k. same_address k m) (filter (λ k. not (same_address k m)) xs) ≡ false
    → list_any (λ k. same_address k m) (cond (not b) (x ∷ filter (λ k. not (same_address k m)) xs) (filter (λ k. not (same_address k m)) xs)) ≡ false
gone_by x m xs true t h = h
gone_by x m xs false t h = rw t h

gone : (m : Address) (xs : List Address) → list_any (λ k. same_address k m) (filter (λ k. not (same_address k m)) xs) ≡ false
gone m [] = refl
gone m (x ∷ xs) = gone_by x m xs (same_address x m) refl (gone m xs)

stays_by : (x m a : Address) (xs : List Address) (b : Bool) → (same_address x m) ≡ b → (same_address m a) ≡ false → list_any (λ k. same_address k a) (filter (λ k. not (same_address k m)) xs) ≡ list_any (λ k. same_address k a) xs
    → list_any (λ k. same_address k a) (cond (not b) (x ∷ filter (λ k. not (same_address k m)) xs) (filter (λ k. not (same_address k m)) xs)) ≡ (same_address x a || list_any (λ k. same_address k a) xs)
stays_by x m a xs true t ne h =
    let e : (same_address x a) ≡ false = ap (λ k. same_address k a) (same_true x m t) ∙ ne in
    rw e h
stays_by x m a xs false t ne h = ap (λ r. (same_address x a) || r) h

stays : (m a : Address) (xs : List Address) → (same_address m a) ≡ false → list_any (λ k. same_address k a) (filter (λ k. not (same_address k m)) xs) ≡ list_any (λ k. same_address k a) xs
stays m a [] ne = refl
stays m a (x ∷ xs) ne = stays_by x m a xs (same_address x m) refl ne (stays m a xs ne)

linked_by : (n : Node) (ns : List Node) (a : Address) (b u : Bool) → (same_address n.address a) ≡ b → n.link.usable ≡ u → is_linked (open_links ns) a ≡ is_usable (link_at ns a)
    → is_linked (cond u (n.address ∷ filter (λ k. not (same_address k n.address)) (open_links ns)) (filter (λ k. not (same_address k n.address)) (open_links ns))) a ≡ is_usable (cond b (Some n.link) (link_at ns a))
linked_by n ns a true true t w h = rw (t, w) refl
linked_by n ns a true false t w h =
    rw w (subst (λ k. list_any (λ x. same_address x k) (filter (λ x. not (same_address x n.address)) (open_links ns)) ≡ false) (same_true n.address a t) (gone n.address (open_links ns)))
linked_by n ns a false true t w h = rw t (stays n.address a (open_links ns) t ∙ h)
linked_by n ns a false false t w h = stays n.address a (open_links ns) t ∙ h

-- the open links are those that are usable
pub linked : (ns : List Node) (a : Address) → is_linked (open_links ns) a ≡ is_usable (link_at ns a)
linked [] a = refl
linked (n ∷ ns) a = linked_by n ns a (same_address n.address a) n.link.usable refl refl (linked ns a)

-- ---- what was found at a place

pub unlinked_nowhere : (ns : List Node) (a : Address) → place_at ns a ≡ None → is_linked (open_links ns) a ≡ false
unlinked_nowhere ns a e = linked ns a ∙ ap is_usable (nowhere ns a e)

pub linked_there : (ns : List Node) (a : Address) (i : ℕ) (node : Node) (b : Bool) → place_at ns a ≡ Some i → slice_get ns i ≡ Some node → node.link.usable ≡ b → is_linked (open_links ns) a ≡ b
linked_there ns a i node b e f u =
    let r = found ns a i e in
    let same : r.node ≡ node = let at = r.at in cc in
    linked ns a ∙ ap is_usable r.link ∙ ap (λ (n : Node). n.link.usable) same ∙ u

-- ---- repeated addresses

some_behind : (o : Option ℕ) → is_some (option_map (λ (j : ℕ). j + 1) o) ≡ is_some o
some_behind None = refl
some_behind (Some j) = refl

placed_by : (b c : Bool) (o : Option ℕ) → c ≡ is_some o → (b || c) ≡ is_some (cond b (Some 0) (option_map (λ (j : ℕ). j + 1) o))
placed_by true c o e = refl
placed_by false c o e = e ∙ sym (some_behind o)

-- an address is among those of the nodes where it has a place
pub placed : (ns : List Node) (a : Address) → list_any (λ b. same_address b a) (addresses_of ns) ≡ is_some (place_at ns a)
placed [] a = refl
placed (n ∷ ns) a = placed_by (same_address n.address a) _ (place_at ns a) (placed ns a)
