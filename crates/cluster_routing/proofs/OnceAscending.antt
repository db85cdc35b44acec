-- Addresses put into their places ascend, and none is lost or added.
use Rattle.std.proofs.Common.{◌≡◌, ℕ, Bool, true, false, ◌||◌, List, [], ◌∷◌, refl, sym, subst, ap, ◌∙◌, eq-eqb}
use Rattle.std.specs.Ordering.{match_ordering, nat_cmp, ordering_reverse, is_eq}
use Rattle.std.specs.Cmp.{nat_cmp_total, unsigned_tied}
use Rattle.std.specs.Cmp.Lexicographic.{slice_cmp, nat_list_cmp_total, bytes_decides}
use Rattle.std.specs.declared.cmp.Ordering.{Ordering}
use Rattle.std.specs.declared.cmp.Ordering.TheVariants.{Less, Equal, Greater}
use Rattle.std.proofs.lemmas.Bool.{eqb-true}
use Rattle.std.proofs.lemmas.Map.Text.{is_eq-slice_cmp}
use Rattle.cluster_routing.specs.Address.{Address, address_cmp, same_address}
use Rattle.cluster_routing.specs.Lists.{among}
use Rattle.cluster_routing.specs.AllNodes.{put_address, put_addresses}
use Rattle.cluster_routing.specs.Laws.{AddressesAscend, IsBelowFirst, EachAddressOnce, OrderAgrees}
use Rattle.cluster_routing.proofs.DistinctNodes.{address_same, address_same_of}

-- what is not below and not equal is above
turned : (p q : Ordering) → match_ordering (ordering_reverse p) Less (ordering_reverse q) Greater ≡ Greater → match_ordering p Less q Greater ≡ Less
turned Less q h = refl
turned Equal Less h = refl
turned Equal Equal h = cc
turned Equal Greater h = cc
turned Greater q h = cc

pub greater : (a b : Address) → address_cmp a b ≡ Greater → address_cmp b a ≡ Less
greater a b h =
    turned (slice_cmp nat_cmp b.host a.host) (nat_cmp b.port a.port)
    (sym (ap (λ p. match_ordering p Less (ordering_reverse (nat_cmp b.port a.port)) Greater) (nat_list_cmp_total.antisymm a.host b.host)) ∙ sym (ap (λ q. match_ordering (slice_cmp nat_cmp a.host b.host) Less q Greater) (nat_cmp_total.antisymm a.port b.port)) ∙ h)

-- equal by the order
both_equal : (p q : Ordering) → match_ordering p Less q Greater ≡ Equal → (p ≡ Equal) × (q ≡ Equal)
both_equal Less q h = cc
both_equal Equal q h = (refl, h)
both_equal Greater q h = cc

pub equal : (a b : Address) → address_cmp a b ≡ Equal → a ≡ b
equal a b h =
    let e = both_equal (slice_cmp nat_cmp a.host b.host) (nat_cmp a.port b.port) h in
    let host : a.host ≡ b.host = (bytes_decides a.host b.host).0 (sym (is_eq-slice_cmp a.host b.host) ∙ ap is_eq e.0) in
    let port : a.port ≡ b.port = eqb-true a.port b.port (sym (unsigned_tied a.port b.port) ∙ ap is_eq e.1) in
    ap (λ (n : List ℕ). let r : Address = record { host = n; port = a.port } in r) host ∙ ap (λ (n : ℕ). let r : Address = record { host = b.host; port = n } in r) port

-- the list ascends
below_put : (c a : Address) (bs : List Address) → IsBelowFirst c bs → address_cmp c a ≡ Less → IsBelowFirst c (put_address a bs)
below_put c a [] h l = l
below_put c a (b ∷ bs) h l = by (address_cmp a b)
  where
    by : (o : Ordering) → IsBelowFirst c (match_ordering o (a ∷ b ∷ bs) (b ∷ bs) (b ∷ put_address a bs))
    by Less = l
    by Equal = h
    by Greater = h

pub put-ascends : (a : Address) (bs : List Address) → AddressesAscend bs → AddressesAscend (put_address a bs)
put-ascends a [] h = (tt, tt)
put-ascends a (b ∷ bs) h = by (address_cmp a b) refl (put-ascends a bs h.1)
  where
    by : (o : Ordering) → address_cmp a b ≡ o → AddressesAscend (put_address a bs) → AddressesAscend (match_ordering o (a ∷ b ∷ bs) (b ∷ bs) (b ∷ put_address a bs))
    by Less e later = (e, h)
    by Equal e later = h
    by Greater e later = (below_put b a bs h.0 (greater a b e), later)

all-ascend : (sorted more : List Address) → AddressesAscend sorted → AddressesAscend (put_addresses sorted more)
all-ascend sorted [] h = h
all-ascend sorted (a ∷ more) h = all-ascend (put_address a sorted) more (put-ascends a sorted h)

-- it has the same addresses
or_or : (s t : Bool) → (s || t) ≡ (s || (s || t))
or_or true t = refl
or_or false t = refl

or_swap : (s t r : Bool) → (s || (t || r)) ≡ (t || (s || r))
or_swap true true r = refl
or_swap true false r = refl
or_swap false true r = refl
or_swap false false r = refl

or_assoc : (s t r : Bool) → ((s || t) || r) ≡ (s || (t || r))
or_assoc true t r = refl
or_assoc false t r = refl

pub put-among : (x a : Address) (bs : List Address) → among same_address x (put_address a bs) ≡ (same_address x a || among same_address x bs)
put-among x a [] = refl
put-among x a (b ∷ bs) = by (address_cmp a b) refl (put-among x a bs)
  where
    by : (o : Ordering) → address_cmp a b ≡ o → among same_address x (put_address a bs) ≡ (same_address x a || among same_address x bs)
        → among same_address x (match_ordering o (a ∷ b ∷ bs) (b ∷ bs) (b ∷ put_address a bs)) ≡ (same_address x a || (same_address x b || among same_address x bs))
    by Less e later = refl
    by Equal e later = or_or (same_address x b) (among same_address x bs) ∙ ap (λ c. same_address x c || (same_address x b || among same_address x bs)) (sym (equal a b e))
    by Greater e later = ap (λ r. same_address x b || r) later ∙ or_swap (same_address x b) (same_address x a) (among same_address x bs)

all-among : (x : Address) (sorted more : List Address) → among same_address x (put_addresses sorted more) ≡ (among same_address x sorted || among same_address x more)
all-among x sorted [] = or-false (among same_address x sorted)
  where
    or-false : (b : Bool) → b ≡ (b || false)
    or-false true = refl
    or-false false = refl
all-among x sorted (a ∷ more) =
    all-among x (put_address a sorted) more ∙ ap (λ s. s || among same_address x more) (put-among x a sorted) ∙ or_assoc (same_address x a) (among same_address x sorted) (among same_address x more)
    ∙ or_swap (same_address x a) (among same_address x sorted) (among same_address x more)

pub each_address_once : EachAddressOnce
each_address_once = record { ascends = λ as'. all-ascend [] as' tt; same = λ as' a. all-among a [] as' }

only_equal : (o : Ordering) → is_eq o ≡ true → o ≡ Equal
only_equal Less h = cc
only_equal Equal h = refl
only_equal Greater h = cc

pub equal_to_itself : (a : Address) → address_cmp a a ≡ Equal
equal_to_itself a =
    let host : slice_cmp nat_cmp a.host a.host ≡ Equal = only_equal (slice_cmp nat_cmp a.host a.host) (is_eq-slice_cmp a.host a.host ∙ (bytes_decides a.host a.host).1 refl) in
    let port : nat_cmp a.port a.port ≡ Equal = only_equal (nat_cmp a.port a.port) (unsigned_tied a.port a.port ∙ eq-eqb a.port a.port refl) in
    ap (λ p. match_ordering p Less (nat_cmp a.port a.port) Greater) host ∙ port

pub order_agrees : OrderAgrees
order_agrees a b = (λ h. address_same_of a b (equal a b h), λ h. subst (λ c. address_cmp a c ≡ Equal) (address_same a b h) (equal_to_itself a))
