-- Links of which no two have the same address.
use Rattle.std.specs.Prelude.{is_some, option_map, slice_get, ◌++◌, ◌||◌}
use Rattle.std.specs.List.{list_any}
use Rattle.std.proofs.Common.{◌≡◌, ℕ, suc, ◌+◌, Bool, true, false, cond, List, [], ◌∷◌, Some, None, map, refl, sym, ap, ◌∙◌, subst, arith, zero}
use Rattle.std.proofs.lemmas.Bool.{false≢true, or_parts}
use Rattle.std.proofs.lemmas.List.{map-append}
use Rattle.std.proofs.lemmas.List.Folds.{list_any-append}
use Rattle.std.proofs.lemmas.Option.{slice_get-map}
use Rattle.resp_link.specs.Call.{Seen}
use Rattle.cluster_routing.specs.Address.{Address, same_address}
use Rattle.cluster_routing.specs.Seen.{address}
use Rattle.cluster_routing.specs.declared.address.NodeAddress.{NodeAddress}
use Rattle.cluster_calls.specs.Links.World.{Node, addresses_of, has_repeats, nodes, place_at}
use Rattle.cluster_calls.proofs.LinkLaws.Addresses.{same_true}
use Rattle.cluster_calls.proofs.LinkLaws.LinkPlaces.{placed}
use Rattle.cluster_calls.proofs.LinkLaws.OpenLinks.{swapped}
use Rattle.cluster_steps.proofs.PipeGroups.{map_twice}

abbrev pub are_repeated : {L : Type 0} → List (NodeAddress × L) → Bool
are_repeated links = has_repeats (map (λ link. address link.0) links)

-- the same by what is seen of them
pub as_seen : {L : Type 0} (seen : L → Seen) (links : List (NodeAddress × L)) → has_repeats (addresses_of (nodes seen links)) ≡ are_repeated links
as_seen seen links = ap has_repeats (map_twice (λ pair. record { address = address pair.0; link = seen pair.1 }) (λ (n : Node). n.address) links)

-- ---- a node that stands at a place is the first with its address

other_first : (m : Node) (ns : List Node) (a : Address) (i : ℕ) (b : Bool) → same_address m.address a ≡ b → list_any (λ k. same_address k m.address) (addresses_of ns) ≡ false → place_at ns a ≡ Some i
    → cond b (Some 0) (option_map (λ (j : ℕ). j + 1) (place_at ns a)) ≡ Some (suc i)
other_first m ns a i true t none e =
    absurd (false≢true (sym none ∙ subst (λ k. list_any (λ x. same_address x k) (addresses_of ns) ≡ true) (sym (same_true m.address a t)) (placed ns a ∙ ap is_some e)))
other_first m ns a i false t none e =
    let next : i + 1 ≡ suc i = omega arith in
    ap (λ o. option_map (λ (j : ℕ). j + 1) o) e ∙ ap Some next

first_there : (ns : List Node) (a : Address) (i : ℕ) (n : Node) → has_repeats (addresses_of ns) ≡ false → slice_get ns i ≡ Some n → same_address n.address a ≡ true → place_at ns a ≡ Some i
first_there [] a i n d e t = cc
first_there (m ∷ ns) a zero n d e t =
    let same : m ≡ n = cc in
    let here : same_address m.address a ≡ true = ap (λ (k : Node). same_address k.address a) same ∙ t in
    ap (λ b. cond b (Some 0) (option_map (λ (j : ℕ). j + 1) (place_at ns a))) here
first_there (m ∷ ns) a (suc i) n d e t =
    let parts = or_parts (list_any (λ k. same_address k m.address) (addresses_of ns)) (has_repeats (addresses_of ns)) d in
    other_first m ns a i (same_address m.address a) refl parts.0 (first_there ns a i n parts.1 e t)

pub told : {L : Type 0} (seen : L → Seen) (links : List (NodeAddress × L)) (a : Address) (i : ℕ) (link : NodeAddress × L) → are_repeated links ≡ false → slice_get links i ≡ Some link → same_address (address link.0) a ≡ true
    → place_at (nodes seen links) a ≡ Some i
told seen links a i link d e t =
    let node : NodeAddress × _ → Node = λ pair. record { address = address pair.0; link = seen pair.1 } in
    first_there (nodes seen links) a i (node link) (as_seen seen links ∙ d) (slice_get-map node links i ∙ ap (option_map node) e) t

-- ---- they stay so

one_more : (known : List Address) (a : Address) → has_repeats known ≡ false → list_any (λ k. same_address k a) known ≡ false → has_repeats (known ++ a ∷ []) ≡ false
one_more [] a d new = refl
one_more (k ∷ known) a d new =
    let parts = or_parts (list_any (λ b. same_address b k) known) (has_repeats known) d in
    let news = or_parts (same_address k a) (list_any (λ b. same_address b a) known) new in
    let unlike : list_any (λ b. same_address b k) (known ++ a ∷ []) ≡ false =
    list_any-append (λ b. same_address b k) known (a ∷ []) ∙ ap (λ b. b || (same_address a k || false)) parts.0 ∙ ap (λ b. b || false) (swapped a k ∙ news.0) in
    ap (λ b. b || has_repeats (known ++ a ∷ [])) unlike ∙ one_more known a parts.1 news.1

-- with a new node behind the others
pub distinct_behind : {L : Type 0} (seen : L → Seen) (links : List (NodeAddress × L)) (node : NodeAddress) (link : L) → are_repeated links ≡ false → place_at (nodes seen links) (address node) ≡ None
    → are_repeated (links ++ ((node, link) ∷ [])) ≡ false
distinct_behind seen links node link d none =
    let known = map (λ l. address l.0) links in
    let new : list_any (λ k. same_address k (address node)) known ≡ false =
    ap (λ as'. list_any (λ k. same_address k (address node)) as') (sym (map_twice (λ pair. record { address = address pair.0; link = seen pair.1 }) (λ (n : Node). n.address) links))
    ∙ placed (nodes seen links) (address node) ∙ ap is_some none in
    ap has_repeats (map-append (λ l. address l.0) links ((node, link) ∷ [])) ∙ one_more known (address node) d new
