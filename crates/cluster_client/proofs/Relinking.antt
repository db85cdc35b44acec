-- A link that is put in where one stands, and behind the others.
use Rattle.std.specs.Prelude.{option_map, slice_set, ◌++◌}
use Rattle.std.proofs.Common.{◌≡◌, ℕ, ◌+◌, Bool, true, false, cond, List, [], ◌∷◌, Option, Some, None, refl, sym, ap, ◌∙◌}
use Rattle.std.proofs.lemmas.List.{map-append}
use Rattle.resp_link.specs.Call.{Seen}
use Rattle.cluster_routing.specs.Address.{Address, same_address}
use Rattle.cluster_routing.specs.Seen.{address}
use Rattle.cluster_routing.specs.declared.address.NodeAddress.{NodeAddress}
use Rattle.cluster_calls.specs.Links.World.{CallsLink, Node, link_at, nodes, place_at, set_link}
use Rattle.cluster_calls.proofs.LinkLaws.LinkPlaces.{found}
use Rattle.cluster_client.specs.Relinks.{put_link}

there_behind : (o : Option ℕ) (i : ℕ) (P : Type 0) → option_map (λ (j : ℕ). j + 1) o ≡ Some i → ((j : ℕ) → o ≡ Some j → P) → P
there_behind None i P e f = cc
there_behind (Some j) i P e f = f j refl

there_by : (n : Node) (ns : List Node) (a : Address) (i : ℕ) (v : Seen) (b : Bool) → cond b (Some 0) (option_map (λ (j : ℕ). j + 1) (place_at ns a)) ≡ Some i
    → ((j : ℕ) → place_at ns a ≡ Some j → put_link ns a v ≡ set_link ns a v)
    → cond b (record { address = n.address; link = v } ∷ ns) (n ∷ put_link ns a v) ≡ cond b (record { address = n.address; link = v } ∷ ns) (n ∷ set_link ns a v)
there_by n ns a i v true e f = refl
there_by n ns a i v false e f = ap (λ m. n ∷ m) (there_behind (place_at ns a) i _ e f)

-- where a node has a link, the new one takes its place
pub put_there : (ns : List Node) (a : Address) (i : ℕ) (v : Seen) → place_at ns a ≡ Some i → put_link ns a v ≡ set_link ns a v
put_there [] a i v e = cc
put_there (n ∷ ns) a i v e = there_by n ns a i v (same_address n.address a) e (λ j f. put_there ns a j v f)

nowhere_behind : (o : Option ℕ) → option_map (λ (j : ℕ). j + 1) o ≡ None → o ≡ None
nowhere_behind None e = refl
nowhere_behind (Some j) e = cc

behind_by : (n : Node) (ns : List Node) (a : Address) (v : Seen) (b : Bool) → cond b (Some 0) (option_map (λ (j : ℕ). j + 1) (place_at ns a)) ≡ None
    → (place_at ns a ≡ None → put_link ns a v ≡ ns ++ (record { address = a; link = v } ∷ []))
    → cond b (record { address = n.address; link = v } ∷ ns) (n ∷ put_link ns a v) ≡ n ∷ (ns ++ (record { address = a; link = v } ∷ []))
behind_by n ns a v true e f = cc
behind_by n ns a v false e f = ap (λ m. n ∷ m) (f (nowhere_behind (place_at ns a) e))

-- where it has none, node and link come behind the others
pub put_behind : (ns : List Node) (a : Address) (v : Seen) → place_at ns a ≡ None → put_link ns a v ≡ ns ++ (record { address = a; link = v } ∷ [])
put_behind [] a v e = refl
put_behind (n ∷ ns) a v e = behind_by n ns a v (same_address n.address a) e (λ f. put_behind ns a v f)

-- ---- by the links themselves

node_of : (n : Node) (a : Address) (l : Seen) → n.address ≡ a → n.link ≡ l → n ≡ record { address = a; link = l }
node_of n a l e f = rw (← e, ← f) refl

-- the link that stood at a node's place gave way to another
pub replaced : (old new : List Node) (a : Address) (i : ℕ) (s v : Seen) → place_at old a ≡ Some i → CallsLink old new i (λ before after. (before ≡ s) × (after ≡ v)) → new ≡ put_link old a v
replaced old new a i s v e c =
    let r = found old a i e in
    let same : r.node ≡ c.before = let at = r.at in let there = c.found in cc in
    c.others ∙ ap (λ n. slice_set old i n) (node_of c.after r.node.address v (c.address ∙ ap (λ (n : Node). n.address) (sym same)) c.call.1) ∙ sym (r.set v) ∙ sym (put_there old a i v e)

-- and it was the node's link
pub gave_way : (old new : List Node) (a : Address) (i : ℕ) (s v : Seen) → place_at old a ≡ Some i → CallsLink old new i (λ before after. (before ≡ s) × (after ≡ v)) → Some s ≡ link_at old a
gave_way old new a i s v e c =
    let r = found old a i e in
    let same : r.node ≡ c.before = let at = r.at in let there = c.found in cc in
    ap Some (sym c.call.0) ∙ ap (λ (n : Node). Some n.link) (sym same) ∙ sym r.link

-- a node and its link behind the others
pub added : {L : Type 0} (seen : L → Seen) (links : List (NodeAddress × L)) (node : NodeAddress) (link : L) → place_at (nodes seen links) (address node) ≡ None
    → nodes seen (links ++ ((node, link) ∷ [])) ≡ put_link (nodes seen links) (address node) (seen link)
added seen links node link e =
    map-append (λ pair. record { address = address pair.0; link = seen pair.1 }) links ((node, link) ∷ []) ∙ sym (put_behind (nodes seen links) (address node) (seen link) e)
