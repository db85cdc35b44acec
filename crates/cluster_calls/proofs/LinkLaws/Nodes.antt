-- A call of one link in a list.
use Rattle.std.specs.Prelude.{slice_get, Some, None, ⊤, not, nat_lt}
use Rattle.std.specs.List.{position, position_or_len}
use Rattle.std.proofs.Common.{◌≡◌, ℕ, suc, ◌+◌, ◌<◌, Bool, true, false, cond, List, [], ◌∷◌, length, set, get_or, refl, ap, ◌∙◌, arith}
use Rattle.std.proofs.lemmas.Bool.Decides.{nat_tests}
use Rattle.std.proofs.lemmas.List.{map-set}
use Rattle.std.proofs.lemmas.Option.{slice_get-map, slice_get_read}
use Rattle.std.specs.Option.{option_map}
use Rattle.resp_link.specs.Call.{Seen}
use Rattle.cluster_routing.specs.Address.{Address, same_address}
use Rattle.cluster_routing.specs.Seen.{address}
use Rattle.cluster_routing.specs.declared.address.NodeAddress.{NodeAddress}
use Rattle.cluster_calls.specs.Links.World.{Node, nodes, place_at, CallsLink}

pub calls_one : {L : Type 0} (seen : L → Seen) (links : List (NodeAddress × L)) (index : ℕ) (pair : NodeAddress × L) (new : L) (Call : Seen → Seen → Type 0)
    → index < length links → pair ≡ get_or links index pair → Call (seen pair.1) (seen new)
    → CallsLink (nodes seen links) (nodes seen (set links index (pair.0, new))) index Call
calls_one seen links index pair new Call within is call =
    let node : NodeAddress × _ → Node = λ p. record { address = address p.0; link = seen p.1 } in
    record {
      before = node pair;
      after = node (pair.0, new);
      found = slice_get-map node links index ∙ ap (λ o. option_map node o) (slice_get_read links (length links) index pair refl within is);
      others = map-set node links index (pair.0, new);
      address = refl;
      call = call;
    }

-- the node at an index is the one that was read there
pub node_there : {L : Type 0} (seen : L → Seen) (links : List (NodeAddress × L)) (index : ℕ) (pair : NodeAddress × L)
    → index < length links → pair ≡ get_or links index pair → slice_get (nodes seen links) index ≡ Some (record { address = address pair.0; link = seen pair.1 })
node_there seen links index pair within is =
    let node : NodeAddress × _ → Node = λ p. record { address = address p.0; link = seen p.1 } in
    slice_get-map node links index ∙ ap (λ o. option_map node o) (slice_get_read links (length links) index pair refl within is)

-- whatever the call was
pub calls_any : {old new : List Node} {index : ℕ} {Call : Seen → Seen → Type 0} → CallsLink old new index Call → CallsLink old new index (λ link link'. ⊤)
calls_any c = record { before = c.before; after = c.after; found = c.found; others = c.others; address = c.address; call = tt }

-- ---- the first link with an address

later : (b : Bool) (n : ℕ) → cond b (Some (1 + n)) None ≡ option_map (λ i. i + 1) (cond b (Some n) None)
later true n = ap (λ i. Some i) (omega arith)
later false n = refl

behind : (b : Bool) (n m : ℕ) → cond (nat_lt (cond (not b) (1 + n) 0) (suc m)) (Some (cond (not b) (1 + n) 0)) None ≡ cond b (Some 0) (option_map (λ i. i + 1) (cond (nat_lt n m) (Some n) None))
behind true n m = let e : nat_lt 0 (suc m) ≡ true = grind (arith, nat_tests) in rw e refl
behind false n m = let e : nat_lt (1 + n) (suc m) ≡ nat_lt n m = grind (arith, nat_tests) in rw e (later (nat_lt n m) n)

pub first_placed : {L : Type 0} (seen : L → Seen) (links : List (NodeAddress × L)) (a : Address) → position (λ link. same_address (address link.0) a) links ≡ place_at (nodes seen links) a
first_placed seen [] a = refl
first_placed seen (link ∷ links) a =
    behind (same_address (address link.0) a) (position_or_len (λ l. same_address (address l.0) a) links) (length links)
    ∙ ap (λ o. cond (same_address (address link.0) a) (Some 0) (option_map (λ i. i + 1) o)) (first_placed seen links a)
