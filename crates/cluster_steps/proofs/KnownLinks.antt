-- A table that has each address of the links.
use Rattle.std.specs.Prelude.{option_map, slice_get, slice_set, IfOk, IfSome, Result, Ok, Err, Vec, ◌&&◌, ◌||◌, ◌++◌}
use Rattle.std.specs.List.{list_all, list_any}
use Rattle.std.specs.declared.alloc.Global.{Global}
use Rattle.std.specs.Vec.{with_items}
use Rattle.std.specs.Result.{result_ok, result_unwrap_or}
use Rattle.std.proofs.Common.{◌≡◌, ℕ, zero, suc, ◌+◌, ◌<◌, Bool, true, false, cond, not, List, [], ◌∷◌, Option, Some, None, length, map, take, get_or, refl, sym, ap, ◌∙◌, subst}
use Rattle.std.proofs.lemmas.Bool.{false≢true, and_parts, and_from, not-true}
use Rattle.std.proofs.lemmas.List.{append_assoc, length-map, map-append, take_more, with_items_is}
use Rattle.std.proofs.lemmas.List.Folds.{list_all-append, list_any-append}
use Rattle.indexmap.specs.IndexSet.{IndexSet, insert_key}
use Rattle.resp_link.specs.Call.{Seen}
use Rattle.cluster_routing.specs.Address.{Address, same_address}
use Rattle.cluster_routing.specs.Lists.{among}
use Rattle.cluster_routing.specs.Seen.{address, addresses}
use Rattle.cluster_routing.specs.declared.address.NodeAddress.{NodeAddress}
use Rattle.cluster_calls.specs.Links.World.{CallsLink, Node, addresses_of, has_repeats, nodes, place_at}
use Rattle.cluster_calls.proofs.LinkLaws.Addresses.{same_true, same_refl}
use Rattle.cluster_steps.specs.LinkTable.{knows_all, knows_links}
use Rattle.cluster_steps.proofs.DistinctKeys.{any_of}
use Rattle.cluster_steps.proofs.DistinctLinks.{are_repeated}
use Rattle.cluster_steps.proofs.PipeGroups.{map_twice}

abbrev pub of_links : {L : Type 0} → List (NodeAddress × L) → List Address
of_links links = map (λ link. address link.0) links

abbrev all_among : List Address → List Address → Bool
all_among keys as' = list_all (λ a. among same_address a keys) as'

-- the same by what is seen of the links
pub of_nodes : {L : Type 0} (seen : L → Seen) (links : List (NodeAddress × L)) → addresses_of (nodes seen links) ≡ of_links links
of_nodes seen links = map_twice (λ pair. record { address = address pair.0; link = seen pair.1 }) (λ (n : Node). n.address) links

-- ---- a link call leaves the addresses

addresses_set : (ns : List Node) (link : ℕ) (before after : Node) → slice_get ns link ≡ Some before → after.address ≡ before.address → addresses_of (slice_set ns link after) ≡ addresses_of ns
addresses_set [] link before after found same = refl
addresses_set (n ∷ ns) zero before after found same =
    let is : n ≡ before = cc in
    ap (λ a. a ∷ addresses_of ns) (same ∙ ap (λ (m : Node). m.address) (sym is))
addresses_set (n ∷ ns) (suc link) before after found same = ap (λ as'. n.address ∷ as') (addresses_set ns link before after found same)

addresses_stay : {old new : List Node} {link : ℕ} {Call : Seen → Seen → Type 0} → CallsLink old new link Call → addresses_of new ≡ addresses_of old
addresses_stay {old = old} {link = link} c = ap addresses_of c.others ∙ addresses_set old link c.before c.after c.found c.address

as_many : {old new : List Node} {link : ℕ} {Call : Seen → Seen → Type 0} → CallsLink old new link Call → length new ≡ length old
as_many c = sym (length-map _ _) ∙ ap length (addresses_stay c) ∙ length-map _ _

-- the list with what a call made of its links, which were lent for it
links_stay : {L : Type 0} (seen : L → Seen) (list : Vec (NodeAddress × L) Global) (old new : List (NodeAddress × L)) {link : ℕ} {Call : Seen → Seen → Type 0} → old ≡ list.items → CallsLink (nodes seen old) (nodes seen new) link Call
    → of_links (with_items list new).items ≡ of_links list.items
links_stay seen list old new lent c =
    ap of_links (with_items_is list new (sym (length-map new _) ∙ as_many c ∙ length-map old _ ∙ ap length lent ∙ sym list.ok.0)) ∙ sym (of_nodes seen new) ∙ addresses_stay c ∙ of_nodes seen old ∙ ap of_links lent

pub distinct_stay : {L : Type 0} (seen : L → Seen) (list : Vec (NodeAddress × L) Global) (old new : List (NodeAddress × L)) {link : ℕ} {Call : Seen → Seen → Type 0} → are_repeated list.items ≡ false → old ≡ list.items
    → CallsLink (nodes seen old) (nodes seen new) link Call → are_repeated (with_items list new).items ≡ false
distinct_stay seen list old new distinct lent c = ap has_repeats (links_stay seen list old new lent c) ∙ distinct

pub known_stay : {L S : Type 0} (seen : L → Seen) (places : Option (IndexSet NodeAddress S)) (list : Vec (NodeAddress × L) Global) (old new : List (NodeAddress × L)) {link : ℕ} {Call : Seen → Seen → Type 0} → knows_links places list.items ≡ true → old ≡ list.items
    → CallsLink (nodes seen old) (nodes seen new) link Call → knows_links places (with_items list new).items ≡ true
known_stay seen places list old new known lent c = ap (knows_all places) (links_stay seen list old new lent c) ∙ known

-- ---- a node that the table lacks has no place

lacked_by : (n : Node) (ns : List Node) (keys : List Address) (a : Address) (b : Bool) → same_address n.address a ≡ b → among same_address n.address keys ≡ true → among same_address a keys ≡ false → place_at ns a ≡ None
    → cond b (Some 0) (option_map (λ (i : ℕ). i + 1) (place_at ns a)) ≡ None
lacked_by n ns keys a true t has lacks none = absurd (false≢true (sym lacks ∙ subst (λ k. among same_address k keys ≡ true) (same_true n.address a t) has))
lacked_by n ns keys a false t has lacks none = ap (λ o. option_map (λ (i : ℕ). i + 1) o) none

lacked : (ns : List Node) (keys : List Address) (a : Address) → all_among keys (addresses_of ns) ≡ true → among same_address a keys ≡ false → place_at ns a ≡ None
lacked [] keys a all lacks = refl
lacked (n ∷ ns) keys a all lacks =
    let both = and_parts (among same_address n.address keys) (all_among keys (addresses_of ns)) all in
    lacked_by n ns keys a (same_address n.address a) refl both.0 lacks (lacked ns keys a both.1 lacks)

pub not_in_table : {L S : Type 0} (seen : L → Seen) (links : List (NodeAddress × L)) (places : Option (IndexSet NodeAddress S)) (table : IndexSet NodeAddress S) (a : Address) → knows_links places links ≡ true → places ≡ Some table
    → list_any (λ (key : NodeAddress). same_address a (address key)) table.keys ≡ false → place_at (nodes seen links) a ≡ None
not_in_table seen links places table a known is lacks =
    let all : all_among (addresses table.keys) (of_links links) ≡ true = ap (λ t. knows_all t (of_links links)) (sym is) ∙ known in
    lacked (nodes seen links) (addresses table.keys) a (ap (all_among (addresses table.keys)) (of_nodes seen links) ∙ all) (sym (any_of same_address address address a table.keys) ∙ lacks)

-- ---- one more address

put_by : (c : Bool) (keys : List NodeAddress) (key : NodeAddress) → addresses (cond c keys (keys ++ key ∷ [])) ≡ cond c (addresses keys) (addresses keys ++ address key ∷ [])
put_by true keys key = refl
put_by false keys key = map-append address keys (key ∷ [])

-- a key that is inserted is an address that is inserted
pub put : (keys : List NodeAddress) (key : NodeAddress) → addresses (insert_key (λ (a c : NodeAddress). same_address (address a) (address c)) keys key) ≡ insert_key same_address (addresses keys) (address key)
put keys key =
    put_by (list_any (λ (k : NodeAddress). same_address (address key) (address k)) keys) keys key
    ∙ ap (λ c. cond c (addresses keys) (addresses keys ++ address key ∷ [])) (any_of same_address address address (address key) keys)

stays_by : (c : Bool) (keys : List Address) (a k : Address) → among same_address a keys ≡ true → among same_address a (cond c keys (keys ++ k ∷ [])) ≡ true
stays_by true keys a k h = h
stays_by false keys a k h = list_any-append (λ x. same_address a x) keys (k ∷ []) ∙ ap (λ b. b || (same_address a k || false)) h

comes_by : (c : Bool) (keys : List Address) (k : Address) → among same_address k keys ≡ c → among same_address k (cond c keys (keys ++ k ∷ [])) ≡ true
comes_by true keys k h = h
comes_by false keys k h = list_any-append (λ x. same_address k x) keys (k ∷ []) ∙ ap (λ b. b || (same_address k k || false)) h ∙ ap (λ b. b || false) (same_refl k)

all_stay : (c : Bool) (keys as' : List Address) (k : Address) → all_among keys as' ≡ true → all_among (cond c keys (keys ++ k ∷ [])) as' ≡ true
all_stay c keys [] k all = refl
all_stay c keys (a ∷ as') k all =
    let more = cond c keys (keys ++ k ∷ []) in
    let both = and_parts (among same_address a keys) (all_among keys as') all in
    and_from (among same_address a more) (all_among more as') (stays_by c keys a k both.0) (all_stay c keys as' k both.1)

one_more : (keys as' : List Address) (k : Address) → all_among keys as' ≡ true → all_among (insert_key same_address keys k) (as' ++ k ∷ []) ≡ true
one_more keys as' k all =
    let more = insert_key same_address keys k in
    let is_old = among same_address k keys in
    list_all-append (λ a. among same_address a more) as' (k ∷ [])
    ∙ and_from (all_among more as') (among same_address k more && true) (all_stay is_old keys as' k all) (and_from (among same_address k more) true (comes_by is_old keys k refl) refl)

learned_by : {S E : Type 0} (table : IndexSet NodeAddress S) (made : Result (IndexSet NodeAddress S) E) (as' : List Address) (k : Address)
    → IfOk made (λ more. addresses more.keys ≡ insert_key same_address (addresses table.keys) k) → all_among (addresses table.keys) as' ≡ true → knows_all (result_ok made) (as' ++ k ∷ []) ≡ true
learned_by table (Err e) as' k put all = refl
learned_by table (Ok more) as' k put all = ap (λ keys. all_among keys (as' ++ k ∷ [])) put ∙ one_more (addresses table.keys) as' k all

-- the table that was made of another has one more address, or there is none
pub learned : {S E : Type 0} (places : Option (IndexSet NodeAddress S)) (table : IndexSet NodeAddress S) (made : Result (IndexSet NodeAddress S) E) (new : Option (IndexSet NodeAddress S)) (as' : List Address) (k : Address) → knows_all places as' ≡ true
    → places ≡ Some table → IfOk made (λ more. addresses more.keys ≡ insert_key same_address (addresses table.keys) k) → new ≡ result_ok made → knows_all new (as' ++ k ∷ []) ≡ true
learned places table made new as' k known is put ok =
    ap (λ t. knows_all t (as' ++ k ∷ [])) ok ∙ learned_by table made as' k put (ap (λ t. knows_all t as') (sym is) ∙ known)

-- with the new node behind the others
pub behind_known : {L S : Type 0} (seen : L → Seen) (places : Option (IndexSet NodeAddress S)) (links : List (NodeAddress × L)) (node : NodeAddress) (link : L) → knows_all places (addresses_of (nodes seen links) ++ address node ∷ []) ≡ true
    → knows_links places (links ++ (node, link) ∷ []) ≡ true
behind_known seen places links node link known =
    ap (knows_all places) (map-append (λ l. address l.0) links ((node, link) ∷ []) ∙ ap (λ as'. as' ++ address node ∷ []) (sym (of_nodes seen links))) ∙ known

-- ---- the table of the links

or_true : (b c : Bool) → c ≡ true → (b || c) ≡ true
or_true true c h = refl
or_true false c h = h

all_within : (front as' : List Address) → all_among (front ++ as') as' ≡ true
all_within front [] = refl
all_within front (a ∷ as') =
    let keys = front ++ a ∷ as' in
    let here : among same_address a keys ≡ true =
    list_any-append (λ x. same_address a x) front (a ∷ as') ∙ or_true (among same_address a front) (same_address a a || among same_address a as') (ap (λ b. b || among same_address a as') (same_refl a)) in
    and_from (among same_address a keys) (all_among keys as') here (subst (λ ks. all_among ks as' ≡ true) (append_assoc front (a ∷ []) as') (all_within (front ++ a ∷ []) as'))

own_known : {S : Type 0} (table : Option (IndexSet NodeAddress S)) (as' : List Address) → IfSome table (λ keys. addresses keys.keys ≡ as') → knows_all table as' ≡ true
own_known None as' is = refl
own_known (Some table) as' is = ap (λ keys. all_among keys as') is ∙ all_within [] as'

-- a table of these very links
pub table_known : {L S : Type 0} (seen : L → Seen) (table : Option (IndexSet NodeAddress S)) (links : List (NodeAddress × L)) → IfSome table (λ keys. addresses keys.keys ≡ addresses_of (nodes seen links)) → knows_links table links ≡ true
table_known seen table links is = ap (knows_all table) (sym (of_nodes seen links)) ∙ own_known table (addresses_of (nodes seen links)) is

pub made_known : {L S E : Type 0} (seen : L → Seen) (made : Result (Option (IndexSet NodeAddress S)) E) (links : List (NodeAddress × L)) → IfOk made (λ table. IfSome table (λ keys. addresses keys.keys ≡ addresses_of (nodes seen links)))
    → knows_links (result_unwrap_or made None) links ≡ true
made_known seen (Err e) links is = refl
made_known seen (Ok table) links is = table_known seen table links is

-- a new key is put behind those of the links before it
pub next_key : {L : Type 0} (keys : List NodeAddress) (key : NodeAddress) (b : Bool) (more : List NodeAddress) → b ≡ not (list_any (λ (k : NodeAddress). same_address (address key) (address k)) keys) → b ≡ true
    → more ≡ insert_key (λ (a c : NodeAddress). same_address (address a) (address c)) keys key
    → (links : List (NodeAddress × L)) (i : ℕ) (d : NodeAddress × L) → i < length links → address key ≡ address (get_or links i d).0 → addresses keys ≡ of_links (take i links) → addresses more ≡ of_links (take (i + 1) links)
next_key keys key b more is new made links i d within its so =
    let absent : list_any (λ (k : NodeAddress). same_address (address key) (address k)) keys ≡ false = not-true _ (sym is ∙ new) in
    let last : more ≡ keys ++ key ∷ [] = made ∙ ap (λ c. cond c keys (keys ++ key ∷ [])) absent in
    ap addresses last ∙ map-append address keys (key ∷ []) ∙ ap (λ as'. as' ++ address key ∷ []) so ∙ ap (λ a. of_links (take i links) ++ a ∷ []) its
    ∙ sym (ap of_links (take_more links i d within) ∙ map-append (λ l. address l.0) (take i links) (get_or links i d ∷ []))
