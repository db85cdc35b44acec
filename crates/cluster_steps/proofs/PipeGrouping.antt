-- Requests are put to their places one after another.
use Rattle.std.specs.Prelude.{not, ◌||◌, filter, nat_eq, slice_get, slice_set, MatchOption}
use Rattle.std.specs.List.{AllByRecursion}
use Rattle.std.proofs.Common.{◌≡◌, ◌<◌, ℕ, zero, suc, ◌==◌, Bool, true, false, cond, List, [], ◌∷◌, ◌++◌, map, length, Option, Some, None, option_map, refl, sym, ap, subst, ◌∙◌, eqb-true, eq-eqb, append-nil}
use Rattle.std.proofs.lemmas.Bool.{false≢true}
use Rattle.std.proofs.lemmas.List.{map-append}
use Rattle.std.proofs.lemmas.List.Elements.{filter-append}
use Rattle.std.proofs.lemmas.Option.{slice_get-map}
use Rattle.cluster_routing.specs.Lists.{among, firsts, IsDistinct}
use Rattle.cluster_steps.specs.Requests.{CodeDispatch}
use Rattle.cluster_steps.specs.declared.grouped.Gathered.{Gathered}
use Rattle.cluster_calls.specs.Links.Request.{Request}
use Rattle.cluster_steps.specs.Groups.{NodeRequests, AreNumbered, Puts, empty_group, group_at, gathered_of, place_in, places_in_use, request_in, with_place, with_request}
use Rattle.cluster_calls.proofs.ServerLaws.Distinct.{firsts_distinct}
use Rattle.cluster_steps.proofs.PipeGroups.{all-firsts}
use Rattle.cluster_steps.proofs.PipeOrder.{eq_swap, none_kept}

-- ---- elements by their places

at_front : {X : Type 0} (xs ys : List X) (i : ℕ) (x : X) → slice_get xs i ≡ Some x → slice_get (xs ++ ys) i ≡ Some x
at_front [] ys i x e = cc
at_front (z ∷ xs) ys zero x e = e
at_front (z ∷ xs) ys (suc i) x e = at_front xs ys i x e

at_end : {X : Type 0} (xs : List X) (x : X) → slice_get (xs ++ x ∷ []) (length xs) ≡ Some x
at_end [] x = refl
at_end (z ∷ xs) x = at_end xs x

told_still : (ks more ns : List ℕ) (ds : List CodeDispatch) → map (slice_get ks) ns ≡ map (λ d. Some (place_in d)) ds → map (slice_get (ks ++ more)) ns ≡ map (λ d. Some (place_in d)) ds
told_still ks more [] ds e = e
told_still ks more (n ∷ ns) [] e = cc
told_still ks more (n ∷ ns) (d ∷ ds) e =
    let first : slice_get ks n ≡ Some (place_in d) = cc in
    let others : map (slice_get ks) ns ≡ map (λ d. Some (place_in d)) ds = cc in
    ap (λ o. o ∷ map (slice_get (ks ++ more)) ns) (at_front ks more n (place_in d) first) ∙ ap (λ r. Some (place_in d) ∷ r) (told_still ks more ns ds others)

-- ---- first uses

firsts_last : (xs : List ℕ) (x : ℕ) → firsts nat_eq (xs ++ x ∷ []) ≡ cond (among nat_eq x xs) (firsts nat_eq xs) (firsts nat_eq xs ++ x ∷ [])
firsts_last [] x = refl
firsts_last (y ∷ ys) x = ap (λ r. y ∷ filter q r) (firsts_last ys x) ∙ by (among nat_eq x ys) (nat_eq x y) (eq_swap y x)
  where
    q : ℕ → Bool
    q z = not (nat_eq y z)

    by : (a b : Bool) → nat_eq y x ≡ b → y ∷ filter (λ z. not (nat_eq y z)) (cond a (firsts nat_eq ys) (firsts nat_eq ys ++ x ∷ []))
        ≡ cond (b || a) (y ∷ filter (λ z. not (nat_eq y z)) (firsts nat_eq ys)) (y ∷ (filter (λ z. not (nat_eq y z)) (firsts nat_eq ys) ++ x ∷ []))
    by true true h = refl
    by true false h = refl
    by false true h =
        ap (λ r. y ∷ r) (filter-append (λ z. not (nat_eq y z)) (firsts nat_eq ys) (x ∷ []) ∙ ap (λ c. filter (λ z. not (nat_eq y z)) (firsts nat_eq ys) ++ cond (not c) (x ∷ []) []) h ∙ append-nil _)
    by false false h =
        ap (λ r. y ∷ r) (filter-append (λ z. not (nat_eq y z)) (firsts nat_eq ys) (x ∷ []) ∙ ap (λ c. filter (λ z. not (nat_eq y z)) (firsts nat_eq ys) ++ cond (not c) (x ∷ []) []) h)

among-unlike : (x y : ℕ) (zs : List ℕ) → nat_eq x y ≡ false → among nat_eq x (filter (λ z. not (nat_eq y z)) zs) ≡ among nat_eq x zs
among-unlike x y [] n = refl
among-unlike x y (z ∷ zs) n = by (nat_eq y z) refl (among-unlike x y zs n)
  where
    by : (b : Bool) → nat_eq y z ≡ b → among nat_eq x (filter (λ z. not (nat_eq y z)) zs) ≡ among nat_eq x zs
        → among nat_eq x (cond (not b) (z ∷ filter (λ z. not (nat_eq y z)) zs) (filter (λ z. not (nat_eq y z)) zs)) ≡ (nat_eq x z || among nat_eq x zs)
    by true e ih = ih ∙ ap (λ b. b || among nat_eq x zs) (sym (subst (λ k. nat_eq x k ≡ false) (eqb-true y z e) n))
    by false e ih = ap (λ b. nat_eq x z || b) ih

among_firsts : (x : ℕ) (xs : List ℕ) → among nat_eq x (firsts nat_eq xs) ≡ among nat_eq x xs
among_firsts x [] = refl
among_firsts x (y ∷ ys) = by (nat_eq x y) refl (among_firsts x ys)
  where
    by : (b : Bool) → nat_eq x y ≡ b → among nat_eq x (firsts nat_eq ys) ≡ among nat_eq x ys → (b || among nat_eq x (filter (λ z. not (nat_eq y z)) (firsts nat_eq ys))) ≡ (b || among nat_eq x ys)
    by true e ih = refl
    by false e ih = among-unlike x y (firsts nat_eq ys) e ∙ ih

among_at : (x : ℕ) (xs : List ℕ) (n : ℕ) → slice_get xs n ≡ Some x → among nat_eq x xs ≡ true
among_at x [] n e = cc
among_at x (y ∷ ys) zero e = let same : x ≡ y = cc in ap (λ b. b || among nat_eq x ys) (eq-eqb x y same)
among_at x (y ∷ ys) (suc n) e = by (nat_eq x y) (among_at x ys n e)
  where
    by : (b : Bool) → among nat_eq x ys ≡ true → (b || among nat_eq x ys) ≡ true
    by true h = refl
    by false h = h

among_last : (x y : ℕ) (xs : List ℕ) → nat_eq x y ≡ false → among nat_eq x xs ≡ false → among nat_eq x (xs ++ y ∷ []) ≡ false
among_last x y [] n h = ap (λ b. b || false) n
among_last x y (z ∷ zs) n h = by (nat_eq x z) h (among_last x y zs n)
  where
    by : (b : Bool) → (b || among nat_eq x zs) ≡ false → (among nat_eq x zs ≡ false → among nat_eq x (zs ++ y ∷ []) ≡ false) → (b || among nat_eq x (zs ++ y ∷ [])) ≡ false
    by true h ih = absurd (false≢true (sym h))
    by false h ih = ih h

-- ---- one element of a list by places is changed

unlike_all : {X : Type 0} (g : ℕ → X) (v : X) (w : ℕ) (ks : List ℕ) → among nat_eq w ks ≡ false → map g ks ≡ map (λ k. cond (k == w) v (g k)) ks
unlike_all g v w [] h = refl
unlike_all g v w (k ∷ ks) h = by (nat_eq w k) refl h (unlike_all g v w ks)
  where
    by : (b : Bool) → nat_eq w k ≡ b → (b || among nat_eq w ks) ≡ false → (among nat_eq w ks ≡ false → map g ks ≡ map (λ k. cond (k == w) v (g k)) ks)
        → g k ∷ map g ks ≡ cond (k == w) v (g k) ∷ map (λ k. cond (k == w) v (g k)) ks
    by true e h ih = absurd (false≢true (sym h))
    by false e h ih = ap (λ b. cond b v (g k) ∷ map g ks) (sym (eq_swap k w ∙ e)) ∙ ap (λ r. cond (k == w) v (g k) ∷ r) (ih h)

unlike_at : (k w : ℕ) (ks : List ℕ) (n : ℕ) → among nat_eq k ks ≡ false → slice_get ks n ≡ Some w → nat_eq k w ≡ false
unlike_at k w ks n h e = by (nat_eq k w) refl
  where
    by : (b : Bool) → nat_eq k w ≡ b → b ≡ false
    by true f = absurd (false≢true (sym h ∙ among_at k ks n (e ∙ ap (λ j. Some j) (sym (eqb-true k w f)))))
    by false f = refl

set_one : {X : Type 0} (g : ℕ → X) (v : X) (w : ℕ) (ks : List ℕ) (n : ℕ) → IsDistinct nat_eq ks → slice_get ks n ≡ Some w → slice_set (map g ks) n v ≡ map (λ k. cond (k == w) v (g k)) ks
set_one g v w [] n d e = cc
set_one g v w (k ∷ ks) zero d e =
    let same : k ≡ w = cc in
    ap (λ b. cond b v (g k) ∷ map g ks) (sym (eq-eqb k w same)) ∙ ap (λ r. cond (k == w) v (g k) ∷ r) (unlike_all g v w ks (subst (λ j. among nat_eq j ks ≡ false) same d.0))
set_one g v w (k ∷ ks) (suc n) d e =
    ap (λ b. cond b v (g k) ∷ slice_set (map g ks) n v) (sym (unlike_at k w ks n d.0 e)) ∙ ap (λ r. cond (k == w) v (g k) ∷ r) (set_one g v w ks n d.1 e)

alike : {X : Type 0} (g h : ℕ → X) (ks : List ℕ) → ((k : ℕ) → g k ≡ h k) → map g ks ≡ map h ks
alike g h [] e = refl
alike g h (k ∷ ks) e = ap (λ x. x ∷ map g ks) (e k) ∙ ap (λ r. h k ∷ r) (alike g h ks e)

-- ---- one more place in use

pub places_of_groups : (ds : List CodeDispatch) (ks : List ℕ) → places_in_use (map (group_at ds) ks) ≡ ks
places_of_groups ds [] = refl
places_of_groups ds (k ∷ ks) = ap (λ r. k ∷ r) (places_of_groups ds ks)

place_more : (ds : List CodeDispatch) (link : ℕ) → with_place (map (group_at ds) (firsts nat_eq (map place_in ds))) link ≡ map (group_at ds) (firsts nat_eq (map place_in ds ++ link ∷ []))
place_more ds link =
    ap (λ b. cond b (map (group_at ds) used) (map (group_at ds) used ++ empty_group link ∷ [])) (ap (among nat_eq link) (places_of_groups ds used) ∙ among_firsts link (map place_in ds))
    ∙ by (among nat_eq link (map place_in ds)) refl ∙ ap (map (group_at ds)) (sym (firsts_last (map place_in ds) link))
  where
    used : List ℕ
    used = firsts nat_eq (map place_in ds)

    by : (b : Bool) → among nat_eq link (map place_in ds) ≡ b
        → cond b (map (group_at ds) (firsts nat_eq (map place_in ds))) (map (group_at ds) (firsts nat_eq (map place_in ds)) ++ empty_group link ∷ [])
        ≡ map (group_at ds) (cond b (firsts nat_eq (map place_in ds)) (firsts nat_eq (map place_in ds) ++ link ∷ []))
    by true e = refl
    by false e =
        ap (λ (found : List CodeDispatch). map (group_at ds) (firsts nat_eq (map place_in ds)) ++ record { link = link; requests = map request_in found } ∷ []) (sym (none_kept place_in link ds e))
        ∙ sym (map-append (group_at ds) (firsts nat_eq (map place_in ds)) (link ∷ []))

-- a place that has no number is new, and one that has one is there
pub place_new : (told : ℕ → Option ℕ) (groups : List NodeRequests) (link : ℕ) → AreNumbered told groups → told link ≡ None → groups ++ empty_group link ∷ [] ≡ with_place groups link
place_new told groups link numbered none =
    let new : among nat_eq link (places_in_use groups) ≡ false = subst (λ o. MatchOption o (among nat_eq link (places_in_use groups) ≡ false) (λ n. slice_get (places_in_use groups) n ≡ Some link)) none (numbered link) in
    ap (λ b. cond b groups (groups ++ empty_group link ∷ [])) (sym new)

pub place_numbered : (told : ℕ → Option ℕ) (groups : List NodeRequests) (link number : ℕ) → AreNumbered told groups → told link ≡ Some number → slice_get (places_in_use groups) number ≡ Some link
place_numbered told groups link number numbered some =
    subst (λ o. MatchOption o (among nat_eq link (places_in_use groups) ≡ false) (λ n. slice_get (places_in_use groups) n ≡ Some link)) some (numbered link)

pub place_there : (told : ℕ → Option ℕ) (groups : List NodeRequests) (link number : ℕ) → AreNumbered told groups → told link ≡ Some number → groups ≡ with_place groups link
place_there told groups link number numbered some =
    ap (λ b. cond b groups (groups ++ empty_group link ∷ [])) (sym (among_at link (places_in_use groups) number (place_numbered told groups link number numbered some)))

pub place_last : (groups : List NodeRequests) (link : ℕ) → slice_get (places_in_use (groups ++ empty_group link ∷ [])) (length groups) ≡ Some link
place_last groups link =
    slice_get-map (λ (g : NodeRequests). g.link) (groups ++ empty_group link ∷ []) (length groups) ∙ ap (option_map (λ (g : NodeRequests). g.link)) (at_end groups (empty_group link))

pub numbered_more : (told told' : ℕ → Option ℕ) (groups : List NodeRequests) (link : ℕ) → AreNumbered told groups → ((k : ℕ) → told' k ≡ cond (k == link) (Some (length groups)) (told k))
    → AreNumbered told' (groups ++ empty_group link ∷ [])
numbered_more told told' groups link numbered given = λ k. subst (λ o. Told k o) (sym (given k)) (by k (k == link) refl)
  where
    Told : ℕ → Option ℕ → Type 0
    Told k o = MatchOption o (among nat_eq k (places_in_use (groups ++ empty_group link ∷ [])) ≡ false) (λ n. slice_get (places_in_use (groups ++ empty_group link ∷ [])) n ≡ Some k)

    places : places_in_use (groups ++ empty_group link ∷ []) ≡ places_in_use groups ++ link ∷ []
    places = map-append (λ (g : NodeRequests). g.link) groups (empty_group link ∷ [])

    before : (k : ℕ) → nat_eq k link ≡ false → (o : Option ℕ) → told k ≡ o → MatchOption o (among nat_eq k (places_in_use groups) ≡ false) (λ n. slice_get (places_in_use groups) n ≡ Some k)
        → MatchOption o (among nat_eq k (places_in_use (groups ++ empty_group link ∷ [])) ≡ false) (λ n. slice_get (places_in_use (groups ++ empty_group link ∷ [])) n ≡ Some k)
    before k other None e h = ap (among nat_eq k) places ∙ among_last k link (places_in_use groups) other h
    before k other (Some n) e h = ap (λ ks. slice_get ks n) places ∙ at_front (places_in_use groups) (link ∷ []) n k h

    by : (k : ℕ) (b : Bool) → (k == link) ≡ b
        → MatchOption (cond b (Some (length groups)) (told k)) (among nat_eq k (places_in_use (groups ++ empty_group link ∷ [])) ≡ false) (λ n. slice_get (places_in_use (groups ++ empty_group link ∷ [])) n ≡ Some k)
    by k true e = place_last groups link ∙ ap (λ j. Some j) (sym (eqb-true k link e))
    by k false e = before k e (told k) refl (numbered k)

-- ---- one more request

one_more : (ds : List CodeDispatch) (d : CodeDispatch) (k : ℕ) → cond (k == place_in d) (with_request (group_at ds (place_in d)) (request_in d)) (group_at ds k) ≡ group_at (ds ++ d ∷ []) k
one_more ds d k = by (k == place_in d) refl
  where
    whole : (b : Bool) → (k == place_in d) ≡ b → map request_in (filter (λ e. k == place_in e) (ds ++ d ∷ [])) ≡ map request_in (filter (λ e. k == place_in e) ds) ++ map request_in (cond b (d ∷ []) [])
    whole b e =
        ap (map request_in) (filter-append (λ e. k == place_in e) ds (d ∷ [])) ∙ map-append request_in (filter (λ e. k == place_in e) ds) (filter (λ e. k == place_in e) (d ∷ []))
        ∙ ap (λ c. map request_in (filter (λ e. k == place_in e) ds) ++ map request_in (cond c (d ∷ []) [])) e

    by : (b : Bool) → (k == place_in d) ≡ b → cond b (with_request (group_at ds (place_in d)) (request_in d)) (group_at ds k) ≡ group_at (ds ++ d ∷ []) k
    by true e =
        ap (λ n. with_request (group_at ds n) (request_in d)) (sym (eqb-true k (place_in d) e)) ∙ ap (λ qs. record { link = k; requests = qs }) (sym (whole true e))
    by false e = ap (λ qs. record { link = k; requests = qs }) (sym (whole false e ∙ append-nil _))

-- what the loop over dispatches keeps of the groups and of the numbers of their requests
pub record Grouping (ds : List CodeDispatch) (groups : List NodeRequests) (numbers : List ℕ) : Type 0 where
  pub are : groups ≡ map (group_at ds) (firsts nat_eq (map place_in ds))
  pub numbered : map (slice_get (firsts nat_eq (map place_in ds))) numbers ≡ map (λ d. Some (place_in d)) ds

pub grouping_start : (groups : List NodeRequests) (numbers : List ℕ) → groups ≡ [] → numbers ≡ [] → Grouping [] groups numbers
grouping_start groups numbers e f = record { are = e; numbered = ap (map (slice_get [])) f }

-- a request to a place leads on from what is kept so far: first the place has a group, and then the group has the request
pub grouping_more : (ds : List CodeDispatch) (d : CodeDispatch) (groups placed put : List NodeRequests) (numbers : List ℕ) (number : ℕ) → Grouping ds groups numbers → placed ≡ with_place groups (place_in d)
    → slice_get (places_in_use placed) number ≡ Some (place_in d) → Puts placed put number (request_in d) → Grouping (ds ++ d ∷ []) put (numbers ++ number ∷ [])
grouping_more ds d groups placed put numbers number g made at puts = record {
  are = puts (group_at ds (place_in d)) found ∙ ap (λ gs. slice_set gs number more) are
      ∙ set_one (group_at ds) more (place_in d) used number (firsts_distinct nat_eq (map place_in ds ++ place_in d ∷ [])) there
      ∙ alike (λ k. cond (k == place_in d) more (group_at ds k)) (group_at (ds ++ d ∷ [])) used (one_more ds d) ∙ ap (λ ks. map (group_at (ds ++ d ∷ [])) ks) together;
  numbered = ap (λ ks. map (slice_get ks) (numbers ++ number ∷ [])) (sym together) ∙ map-append (slice_get used) numbers (number ∷ [])
      ∙ ap (λ os. os ++ slice_get used number ∷ []) (still (among nat_eq (place_in d) (map place_in ds)) (firsts_last (map place_in ds) (place_in d)))
      ∙ ap (λ o. map (λ e. Some (place_in e)) ds ++ o ∷ []) there ∙ sym (map-append (λ e. Some (place_in e)) ds (d ∷ []));
}
  where
    used : List ℕ
    used = firsts nat_eq (map place_in ds ++ place_in d ∷ [])

    more : NodeRequests
    more = with_request (group_at ds (place_in d)) (request_in d)

    together : firsts nat_eq (map place_in ds ++ place_in d ∷ []) ≡ firsts nat_eq (map place_in (ds ++ d ∷ []))
    together = ap (firsts nat_eq) (sym (map-append place_in ds (d ∷ [])))

    are : placed ≡ map (group_at ds) (firsts nat_eq (map place_in ds ++ place_in d ∷ []))
    are = made ∙ ap (λ gs. with_place gs (place_in d)) g.are ∙ place_more ds (place_in d)

    there : slice_get (firsts nat_eq (map place_in ds ++ place_in d ∷ [])) number ≡ Some (place_in d)
    there = ap (λ ks. slice_get ks number) (sym (ap places_in_use are ∙ places_of_groups ds _)) ∙ at

    found : slice_get placed number ≡ Some (group_at ds (place_in d))
    found = ap (λ gs. slice_get gs number) are ∙ slice_get-map (group_at ds) _ number ∙ ap (option_map (group_at ds)) there

    still : (b : Bool) → firsts nat_eq (map place_in ds ++ place_in d ∷ []) ≡ cond b (firsts nat_eq (map place_in ds)) (firsts nat_eq (map place_in ds) ++ place_in d ∷ [])
        → map (slice_get (firsts nat_eq (map place_in ds ++ place_in d ∷ []))) numbers ≡ map (λ e. Some (place_in e)) ds
    still true e = ap (λ ks. map (slice_get ks) numbers) e ∙ g.numbered
    still false e = ap (λ ks. map (slice_get ks) numbers) e ∙ told_still (firsts nat_eq (map place_in ds)) (place_in d ∷ []) numbers ds g.numbered

-- ---- one group

pub put_is : (items : List Gathered) (number : ℕ) (old : Gathered) (group : NodeRequests) (requests : List Request) (q : Request) → slice_get items number ≡ Some old → slice_get (map gathered_of items) number ≡ Some group → requests ≡ old.requests.items ++ q ∷ []
    → record { link = old.link; requests = requests } ≡ with_request group q
put_is items number old group requests q at found is =
    let there : slice_get (map gathered_of items) number ≡ Some (gathered_of old) = slice_get-map gathered_of items number ∙ ap (option_map gathered_of) at in
    let same : gathered_of old ≡ group = cc in
    ap (λ qs. record { link = old.link; requests = qs }) is ∙ ap (λ g. with_request g q) same

-- a request to a group leaves the places, so their numbers too
set_same : {A B : Type 0} (f : A → B) (xs : List A) (i : ℕ) (x y : A) → slice_get xs i ≡ Some x → f y ≡ f x → map f (slice_set xs i y) ≡ map f xs
set_same f [] i x y at e = refl
set_same f (z ∷ zs) zero x y at e = let same : z ≡ x = cc in ap (λ b. b ∷ map f zs) (e ∙ ap f (sym same))
set_same f (z ∷ zs) (suc i) x y at e = ap (λ r. f z ∷ r) (set_same f zs i x y at e)

pub still_numbered : (told : ℕ → Option ℕ) (old new : List NodeRequests) (number link : ℕ) (q : Request) → slice_get (places_in_use old) number ≡ Some link → Puts old new number q → AreNumbered told old → AreNumbered told new
still_numbered told old new number link q at puts numbered = by (slice_get old number) refl
  where
    by : (o : Option NodeRequests) → slice_get old number ≡ o → AreNumbered told new
    by None e = let none : None ≡ Some link = sym (slice_get-map (λ (g : NodeRequests). g.link) old number ∙ ap (option_map (λ (g : NodeRequests). g.link)) e) ∙ at in cc
    by (Some group) e =
        let same : places_in_use new ≡ places_in_use old = ap places_in_use (puts group e) ∙ set_same (λ (g : NodeRequests). g.link) old number group (with_request group q) e refl in
        λ k. subst (λ ks. MatchOption (told k) (among nat_eq k ks ≡ false) (λ n. slice_get ks n ≡ Some k)) (sym same) (numbered k)

-- ---- places within the links

places_within : (count : ℕ) (ds : List CodeDispatch) → AllByRecursion (λ d. place_in d < count) ds → AllByRecursion (λ n. n < count) (map place_in ds)
places_within count [] h = tt
places_within count (d ∷ ds) h = (h.0, places_within count ds h.1)

pub order_within : (count : ℕ) (ds : List CodeDispatch) → AllByRecursion (λ d. place_in d < count) ds → AllByRecursion (λ n. n < count) (firsts nat_eq (map place_in ds))
order_within count ds h = all-firsts (λ n. n < count) nat_eq (map place_in ds) (places_within count ds h)
