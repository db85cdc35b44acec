-- Sorted addresses, each taken once, are the addresses put into their places.
use Rattle.std.proofs.Common.{◌≡◌, ℕ, suc, ◌+◌, Bool, true, false, true≢false, ◌||◌, if◌then◌else◌, List, [], ◌∷◌, ◌++◌, Option, Some, None, option_map, unwrap_or, map, get_or, IsPermutation, refl, sym, subst, ap, ◌∙◌, arith}
use Rattle.std.specs.List.Sorted.{IsSortedBy}
use Rattle.std.specs.Ordering.{match_ordering, nat_cmp, ordering_reverse, then_cmp, on, is_lt}
use Rattle.std.specs.Cmp.{IsTotalOrder, nat_cmp_total, then_total, on_total}
use Rattle.std.specs.Cmp.Lexicographic.{slice_cmp, nat_list_cmp_total}
use Rattle.std.specs.declared.cmp.Ordering.{Ordering}
use Rattle.std.specs.declared.cmp.Ordering.TheVariants.{Less, Equal, Greater}
use Rattle.std.proofs.lemmas.List.Sorted.{list_any-IsPermutation, IsPermutation-map}
use Rattle.cluster_routing.specs.Address.{Address, address_cmp, same_address}
use Rattle.cluster_routing.specs.Lists.{among}
use Rattle.cluster_routing.specs.AllNodes.{ascending, put_address, put_addresses}
use Rattle.cluster_routing.specs.Laws.{AddressesAscend, IsBelowFirst}
use Rattle.cluster_routing.proofs.AllNodes.{then_is}
use Rattle.cluster_routing.proofs.DistinctNodes.{address_same, address_same_of}
use Rattle.cluster_routing.proofs.OnceAscending.{each_address_once, equal, equal_to_itself, greater, put-among, put-ascends}

-- ---- the order of addresses

abbrev parts_cmp : Address → Address → Ordering
parts_cmp = then_cmp (on (λ a. a.host) (slice_cmp nat_cmp)) (on (λ a. a.port) nat_cmp)

by_parts : (a b : Address) → parts_cmp a b ≡ address_cmp a b
by_parts a b = then_is (slice_cmp nat_cmp a.host b.host) (nat_cmp a.port b.port)

parts_total : IsTotalOrder parts_cmp
parts_total = then_total (on_total (λ (a : Address). a.host) nat_list_cmp_total) (on_total (λ (a : Address). a.port) nat_cmp_total)

less_trans : (a b c : Address) → address_cmp a b ≡ Less → address_cmp b c ≡ Less → address_cmp a c ≡ Less
less_trans a b c p q = sym (by_parts a c) ∙ parts_total.trans a b c (by_parts a b ∙ p) (by_parts b c ∙ q)

turned : (a b : Address) → address_cmp a b ≡ ordering_reverse (address_cmp b a)
turned a b = sym (by_parts a b) ∙ parts_total.antisymm a b ∙ ap ordering_reverse (by_parts b a)

above : (a b : Address) → address_cmp a b ≡ Less → address_cmp b a ≡ Greater
above a b h = turned b a ∙ ap ordering_reverse h

unlike : (a b : Address) → address_cmp a b ≡ Less → same_address a b ≡ false
unlike a b h = by (same_address a b) refl
  where
    by : (s : Bool) → same_address a b ≡ s → s ≡ false
    by true e =
        let itself : address_cmp a b ≡ Equal = subst (λ c. address_cmp a c ≡ Equal) (address_same a b e) (equal_to_itself a) in
        cc
    by false e = refl

-- ---- ascending lists with the same addresses are the same

lower : (c a : Address) (as' : List Address) → address_cmp c a ≡ Less → IsBelowFirst a as' → IsBelowFirst c as'
lower c a [] h s = tt
lower c a (b ∷ as') h s = less_trans c a b h s

absent : (c : Address) (as' : List Address) → IsBelowFirst c as' → AddressesAscend as' → among same_address c as' ≡ false
absent c [] h s = refl
absent c (a ∷ as') h s = ap (λ b. b || among same_address c as') (unlike c a h) ∙ absent c as' (lower c a as' h s.0) s.1

own : (a : Address) (as' : List Address) → among same_address a (a ∷ as') ≡ true
own a as' = ap (λ b. b || among same_address a as') (address_same_of a a refl)

tails : (a : Address) (as' bs : List Address) → among same_address a as' ≡ false → among same_address a bs ≡ false → (x : Address) → (same_address x a || among same_address x as') ≡ (same_address x a || among same_address x bs)
    → among same_address x as' ≡ among same_address x bs
tails a as' bs none nor x h = by (same_address x a) refl h
  where
    by : (s : Bool) → same_address x a ≡ s → (s || among same_address x as') ≡ (s || among same_address x bs) → among same_address x as' ≡ among same_address x bs
    by true e k = subst (λ c. among same_address c as' ≡ among same_address c bs) (sym (address_same x a e)) (none ∙ sym nor)
    by false e k = k

unique : (as' bs : List Address) → AddressesAscend as' → AddressesAscend bs → ((x : Address) → among same_address x as' ≡ among same_address x bs) → as' ≡ bs
unique [] [] s t h = refl
unique [] (b ∷ bs) s t h = absurd (true≢false (sym (own b bs) ∙ sym (h b)))
unique (a ∷ as') [] s t h = absurd (true≢false (sym (own a as') ∙ h a))
unique (a ∷ as') (b ∷ bs) s t h = by (address_cmp a b) refl (unique as' bs s.1 t.1)
  where
    by : (o : Ordering) → address_cmp a b ≡ o → (((x : Address) → among same_address x as' ≡ among same_address x bs) → as' ≡ bs) → a ∷ as' ≡ b ∷ bs
    by Less e later = absurd (true≢false (sym (own a as') ∙ h a ∙ absent a (b ∷ bs) e t))
    by Greater e later = absurd (true≢false (sym (own b bs) ∙ sym (h b) ∙ absent b (a ∷ as') (greater a b e) s))
    by Equal e later =
        let same : a ≡ b = equal a b e in
        let rest : (x : Address) → (same_address x a || among same_address x as') ≡ (same_address x a || among same_address x bs) =
        λ x. h x ∙ ap (λ c. same_address x c || among same_address x bs) (sym same) in
        let nor : among same_address a bs ≡ false = ap (λ c. among same_address c bs) same ∙ absent b bs t.0 t.1 in
        ap (λ c. c ∷ as') same ∙ ap (λ r. b ∷ r) (later (λ x. tails a as' bs (absent a as' s.0 s.1) nor x (rest x)))

-- one that is among them is put in already
pub put_there : (a : Address) (xs : List Address) → among same_address a xs ≡ true → put_address a (ascending xs) ≡ ascending xs
put_there a xs h = unique (put_address a (ascending xs)) (ascending xs) (put-ascends a (ascending xs) (each_address_once.ascends xs)) (each_address_once.ascends xs) (λ x. put-among x a (ascending xs) ∙ by x (same_address x a) refl)
  where
    by : (x : Address) (s : Bool) → same_address x a ≡ s → (s || among same_address x (ascending xs)) ≡ among same_address x (ascending xs)
    by x true e = sym (ap (λ c. among same_address c (ascending xs)) (address_same x a e) ∙ each_address_once.same xs a ∙ h)
    by x false e = refl

-- ---- one walk over sorted addresses

abbrev pub is_last : Option Address → Address → Bool
is_last last x = unwrap_or (option_map (λ l. same_address l x) last) false

-- each that is not the last that was taken is taken
abbrev pub taken : List Address → Option Address → List Address → List Address
taken done last [] = done
taken done last (x ∷ xs) = if (is_last last x) then (taken done last xs) else (taken (done ++ x ∷ []) (Some x) xs)

abbrev AllBelow : Address → List Address → Type 0
AllBelow x [] = Unit {0}
AllBelow x (a ∷ as') = (address_cmp a x ≡ Less) × AllBelow x as'

-- one step of it
pub takes : (done : List Address) (last : Option Address) (x : Address) (xs : List Address) → is_last last x ≡ false → taken done last (x ∷ xs) ≡ taken (done ++ x ∷ []) (Some x) xs
takes done last x xs h = ap (λ b. if b then (taken done last xs) else (taken (done ++ x ∷ []) (Some x) xs)) h

pub leaves : (done : List Address) (last : Option Address) (x : Address) (xs : List Address) → is_last last x ≡ true → taken done last (x ∷ xs) ≡ taken done last xs
leaves done last x xs h = ap (λ b. if b then (taken done last xs) else (taken (done ++ x ∷ []) (Some x) xs)) h

raised : (l x : Address) (as' : List Address) → AllBelow l as' → address_cmp l x ≡ Less → AllBelow x (as' ++ l ∷ [])
raised l x [] h e = (e, tt)
raised l x (a ∷ as') h e = (less_trans a l x h.0 e, raised l x as' h.1 e)

put_last : (x : Address) (as' : List Address) → AllBelow x as' → put_address x as' ≡ as' ++ x ∷ []
put_last x [] h = refl
put_last x (a ∷ as') h = ap (λ o. match_ordering o (x ∷ a ∷ as') (a ∷ as') (a ∷ put_address x as')) (above a x h.0) ∙ ap (λ r. a ∷ r) (put_last x as' h.1)

put_same : (l : Address) (as' : List Address) → AllBelow l as' → put_address l (as' ++ l ∷ []) ≡ as' ++ l ∷ []
put_same l [] h = ap (λ o. match_ordering o (l ∷ l ∷ []) (l ∷ []) (l ∷ l ∷ [])) (equal_to_itself l)
put_same l (a ∷ as') h = ap (λ o. match_ordering o (l ∷ a ∷ (as' ++ l ∷ [])) (a ∷ (as' ++ l ∷ [])) (a ∷ put_address l (as' ++ l ∷ []))) (above a l h.0) ∙ ap (λ r. a ∷ r) (put_same l as' h.1)

-- none is below the one before it
abbrev Rises : Address → List Address → Type 0
Rises l [] = Unit {0}
Rises l (x ∷ xs) = (is_lt (address_cmp x l) ≡ false) × Rises x xs

walk : (done : List Address) (l : Address) (xs : List Address) → AllBelow l done → Rises l xs → taken (done ++ l ∷ []) (Some l) xs ≡ put_addresses (done ++ l ∷ []) xs
walk done l [] h r = refl
walk done l (x ∷ xs) h r = by (address_cmp l x) refl (walk done l xs h) (walk (done ++ l ∷ []) x xs)
  where
    by : (o : Ordering) → address_cmp l x ≡ o → (Rises l xs → taken (done ++ l ∷ []) (Some l) xs ≡ put_addresses (done ++ l ∷ []) xs)
        → (AllBelow x (done ++ l ∷ []) → Rises x xs → taken ((done ++ l ∷ []) ++ x ∷ []) (Some x) xs ≡ put_addresses ((done ++ l ∷ []) ++ x ∷ []) xs)
        → (if (same_address l x) then (taken (done ++ l ∷ []) (Some l) xs) else (taken ((done ++ l ∷ []) ++ x ∷ []) (Some x) xs)) ≡ put_addresses (put_address x (done ++ l ∷ [])) xs
    by Less e stays goes =
        let below = raised l x done h e in
        ap (λ b. if b then (taken (done ++ l ∷ []) (Some l) xs) else (taken ((done ++ l ∷ []) ++ x ∷ []) (Some x) xs)) (unlike l x e) ∙ goes below r.1 ∙ ap (λ s. put_addresses s xs) (sym (put_last x (done ++ l ∷ []) below))
    by Equal e stays goes =
        let same : l ≡ x = equal l x e in
        ap (λ b. if b then (taken (done ++ l ∷ []) (Some l) xs) else (taken ((done ++ l ∷ []) ++ x ∷ []) (Some x) xs)) (address_same_of l x same)
        ∙ stays (subst (λ c. Rises c xs) (sym same) r.1) ∙ ap (λ s. put_addresses s xs) (sym (put_same l done h)) ∙ ap (λ c. put_addresses (put_address c (done ++ l ∷ [])) xs) same
    by Greater e stays goes = absurd (true≢false (sym (ap is_lt (greater l x e)) ∙ r.0))

-- any list of things that have an address
rises : {A : Type 0} (seen : A → Address) (cmp : A → A → Ordering) → ((x y : A) → is_lt (address_cmp (seen x) (seen y)) ≡ true → is_lt (cmp x y) ≡ true) → (p : A) (ps : List A) → IsSortedBy (λ x y. is_lt (cmp x y)) (p ∷ ps) → Rises (seen p) (map seen ps)
rises seen cmp below p [] s = tt
rises seen cmp below p (q ∷ ps) s = (
  by (is_lt (address_cmp (seen q) (seen p))) refl,
  rises seen cmp below q ps (λ k d low high.
      let next : suc k + 1 ≡ suc (k + 1) = omega arith in
      subst (λ (n : ℕ). is_lt (cmp (get_or (p ∷ q ∷ ps) n d) (get_or (q ∷ ps) k d)) ≡ false) next (s (suc k) d (omega arith) (omega arith))),
)
  where
    by : (b : Bool) → is_lt (address_cmp (seen q) (seen p)) ≡ b → b ≡ false
    by false e = refl
    by true e = absurd (true≢false (sym (below q p e) ∙ s 0 p (omega arith) (omega arith)))

sorted_once : {A : Type 0} (seen : A → Address) (cmp : A → A → Ordering) → ((x y : A) → is_lt (address_cmp (seen x) (seen y)) ≡ true → is_lt (cmp x y) ≡ true) → (sorted : List A) → IsSortedBy (λ x y. is_lt (cmp x y)) sorted → taken [] None (map seen sorted) ≡ ascending (map seen sorted)
sorted_once seen cmp below [] s = refl
sorted_once seen cmp below (p ∷ ps) s = walk [] (seen p) (map seen ps) tt (rises seen cmp below p ps s)

-- sorted by an order that puts lower addresses first, each address taken once
pub taken_once : {A : Type 0} (seen : A → Address) (cmp : A → A → Ordering) → ((x y : A) → is_lt (address_cmp (seen x) (seen y)) ≡ true → is_lt (cmp x y) ≡ true) → (all sorted : List A) → IsPermutation all sorted → IsSortedBy (λ x y. is_lt (cmp x y)) sorted → taken [] None (map seen sorted) ≡ ascending (map seen all)
taken_once seen cmp below all sorted moved s =
    sorted_once seen cmp below sorted s
    ∙ unique (ascending (map seen sorted)) (ascending (map seen all)) (each_address_once.ascends (map seen sorted)) (each_address_once.ascends (map seen all))
    (λ x. each_address_once.same (map seen sorted) x ∙ sym (list_any-IsPermutation (same_address x) (map seen all) (map seen sorted) (IsPermutation-map seen all sorted moved)) ∙ sym (each_address_once.same (map seen all) x))
