-- The parts of a split, gathered in one walk over its slots.
use Rattle.std.specs.Prelude.{nat_eq, slice_index_or, slice_set}
use Rattle.std.proofs.Common.{◌≡◌, ◌≤◌, ◌<◌, ℕ, zero, suc, ◌+◌, nat_lt, Option, Some, None, Bool, true, false, not, ◌||◌, if◌then◌else◌, List, [], ◌∷◌, ◌++◌, length, map, filter, refl, sym, ap, ◌∙◌, append-nil, add-one, arith, get_or, take, Vec}
use Rattle.std.specs.Global.{Global}
use Rattle.std.specs.List.{position, position_or_len}
use Rattle.indexmap.specs.IndexSet.{insert_key}
use Rattle.std.proofs.Math.Seq.{take-suc}
use Rattle.std.proofs.lemmas.Bool.{eqb-true, ltb-false}
use Rattle.std.proofs.lemmas.Bool.Decides.{nat_tests}
use Rattle.std.proofs.lemmas.List.{length-take}
use Rattle.std.proofs.lemmas.List.Elements.{filter-append}
use Rattle.cluster_routing.specs.declared.route.Route.{Route}
use Rattle.cluster_routing.specs.declared.route.SlotAddr.{SlotAddr}
use Rattle.cluster_routing.specs.Info.{shown_part}
use Rattle.cluster_routing.specs.Laws.{StandOnce}
use Rattle.cluster_routing.specs.Lists.{among, firsts}
use Rattle.cluster_routing.specs.Parts.{group, groups, places_from}
use Rattle.cluster_routing.specs.Routing.{part_slots, part_to, put_place, route_to}
use Rattle.cluster_routing.proofs.Distinct.{nat_tells}
use Rattle.cluster_routing.proofs.ServingShards.{among-firsts}

-- ---- one part more, or one place more in a part

abbrev Part : Type 0
Part = Route × Vec ℕ Global

abbrev slots : List Part → List ℕ
slots ps = part_slots (map shown_part ps)

pub put_at : (ps : List Part) (route : Route) (place i : ℕ) (x : Part) (w : Vec ℕ Global) → i ≡ position_or_len (nat_eq route.slot) (slots ps) → among nat_eq route.slot (slots ps) ≡ true → x ≡ slice_index_or ps i x
    → w.items ≡ x.1.items ++ place ∷ [] → map shown_part (slice_set ps i (x.0, w)) ≡ put_place route place (map shown_part ps)
put_at [] route place i x w e a v h = cc
put_at (p ∷ ps) route place zero x w e a v h = by (nat_eq route.slot p.0.slot) (position_or_len (nat_eq route.slot) (slots ps)) e
  where
    by : (b : Bool) (n : ℕ) → 0 ≡ (if not b then 1 + n else 0)
        → (x.0, w.items) ∷ map shown_part ps ≡ (if b then (p.0, p.1.items ++ place ∷ []) ∷ map shown_part ps else (p.0, p.1.items) ∷ put_place route place (map shown_part ps))
    by true n z = ap (λ ys. (x.0, ys) ∷ map shown_part ps) h ∙ ap (λ (q : Part). (q.0, q.1.items ++ place ∷ []) ∷ map shown_part ps) v
    by false n z = absurd (omega (arith, z))
put_at (p ∷ ps) route place (suc i) x w e a v h = by (nat_eq route.slot p.0.slot) e a (λ k l. put_at ps route place i x w k l v h)
  where
    by : (b : Bool) → suc i ≡ (if not b then 1 + position_or_len (nat_eq route.slot) (slots ps) else 0) → (b || among nat_eq route.slot (slots ps)) ≡ true
        → (i ≡ position_or_len (nat_eq route.slot) (slots ps) → among nat_eq route.slot (slots ps) ≡ true → map shown_part (slice_set ps i (x.0, w)) ≡ put_place route place (map shown_part ps))
        → shown_part p ∷ map shown_part (slice_set ps i (x.0, w)) ≡ (if b then (p.0, p.1.items ++ place ∷ []) ∷ map shown_part ps else (p.0, p.1.items) ∷ put_place route place (map shown_part ps))
    by true z l later = absurd (omega (arith, z))
    by false z l later = ap (λ ys. shown_part p ∷ ys) (later (omega (arith, z)) l)

-- an empty part behind the others changes nothing of what is put in
pub put_behind : (ps : List Part) (route : Route) (place : ℕ) (v : Vec ℕ Global) → v.items ≡ [] → among nat_eq route.slot (slots ps) ≡ false → put_place route place (map shown_part (ps ++ (route, v) ∷ [])) ≡ put_place route place (map shown_part ps)
put_behind [] route place v e h =
    let same : nat_eq route.slot route.slot ≡ true = grind (arith, nat_tests) in
    ap (λ b. if b then (route, v.items ++ place ∷ []) ∷ [] else (route, v.items) ∷ (route, place ∷ []) ∷ []) same ∙ ap (λ ys. (route, ys ++ place ∷ []) ∷ []) e
put_behind (p ∷ ps) route place v e h = by (nat_eq route.slot p.0.slot) h (put_behind ps route place v e)
  where
    by : (b : Bool) → (b || among nat_eq route.slot (slots ps)) ≡ false
        → (among nat_eq route.slot (slots ps) ≡ false → put_place route place (map shown_part (ps ++ (route, v) ∷ [])) ≡ put_place route place (map shown_part ps))
        → (if b then (p.0, p.1.items ++ place ∷ []) ∷ map shown_part (ps ++ (route, v) ∷ []) else (p.0, p.1.items) ∷ put_place route place (map shown_part (ps ++ (route, v) ∷ [])))
        ≡ (if b then (p.0, p.1.items ++ place ∷ []) ∷ map shown_part ps else (p.0, p.1.items) ∷ put_place route place (map shown_part ps))
    by true z later = cc
    by false z later = ap (λ ys. shown_part p ∷ ys) (later z)

pub place_behind : (ps : List Part) (route : Route) (v : Vec ℕ Global) → among nat_eq route.slot (slots ps) ≡ false → position_or_len (nat_eq route.slot) (slots ps) ≡ position_or_len (nat_eq route.slot) (slots (ps ++ (route, v) ∷ []))
place_behind [] route v h = let same : nat_eq route.slot route.slot ≡ true = grind (arith, nat_tests) in ap (λ b. if not b then 1 + 0 else 0) (sym same)
place_behind (p ∷ ps) route v h = by (nat_eq route.slot p.0.slot) h (place_behind ps route v)
  where
    by : (b : Bool) → (b || among nat_eq route.slot (slots ps)) ≡ false
        → (among nat_eq route.slot (slots ps) ≡ false → position_or_len (nat_eq route.slot) (slots ps) ≡ position_or_len (nat_eq route.slot) (slots (ps ++ (route, v) ∷ [])))
        → (if not b then 1 + position_or_len (nat_eq route.slot) (slots ps) else 0) ≡ (if not b then 1 + position_or_len (nat_eq route.slot) (slots (ps ++ (route, v) ∷ [])) else 0)
    by true z later = refl
    by false z later = ap (λ n. 1 + n) (later z)

among_behind : (ps : List Part) (route : Route) (v : Vec ℕ Global) → among nat_eq route.slot (slots (ps ++ (route, v) ∷ [])) ≡ true
among_behind [] route v = let same : nat_eq route.slot route.slot ≡ true = grind (arith, nat_tests) in ap (λ b. b || false) same
among_behind (p ∷ ps) route v = by (nat_eq route.slot p.0.slot) (among_behind ps route v)
  where
    by : (b : Bool) → among nat_eq route.slot (slots (ps ++ (route, v) ∷ [])) ≡ true → (b || among nat_eq route.slot (slots (ps ++ (route, v) ∷ []))) ≡ true
    by true z = refl
    by false z = z

pub put_added : (ps : List Part) (route : Route) (place i : ℕ) (v : Vec ℕ Global) (x : Part) (w : Vec ℕ Global) → i ≡ position_or_len (nat_eq route.slot) (slots ps) → among nat_eq route.slot (slots ps) ≡ false → v.items ≡ []
    → x ≡ slice_index_or (ps ++ (route, v) ∷ []) i x → w.items ≡ x.1.items ++ place ∷ [] → map shown_part (slice_set (ps ++ (route, v) ∷ []) i (x.0, w)) ≡ put_place route place (map shown_part ps)
put_added ps route place i v x w e a empty k h = put_at (ps ++ (route, v) ∷ []) route place i x w (e ∙ place_behind ps route v a) (among_behind ps route v) k h ∙ put_behind ps route place v empty a

-- where the part of a slot stands, by a look through the parts
part_place : (ps : List Part) (slot : ℕ) → position_or_len (λ (p : Part). nat_eq slot p.0.slot) ps ≡ position_or_len (nat_eq slot) (slots ps)
part_place [] slot = refl
part_place (p ∷ ps) slot = ap (λ n. if not (nat_eq slot p.0.slot) then 1 + n else 0) (part_place ps slot)

pub part_found : (ps : List Part) (slot i : ℕ) → position (λ (p : Part). nat_eq slot p.0.slot) ps ≡ Some i → i ≡ position_or_len (nat_eq slot) (slots ps)
part_found ps slot i e = by (nat_lt (position_or_len (λ (p : Part). nat_eq slot p.0.slot) ps) (length ps)) e ∙ part_place ps slot
  where
    by : (b : Bool) → (if b then Some (position_or_len (λ (p : Part). nat_eq slot p.0.slot) ps) else None) ≡ Some i → i ≡ position_or_len (λ (p : Part). nat_eq slot p.0.slot) ps
    by true z = cc
    by false z = absurd cc

pub part_within : (ps : List Part) (slot : ℕ) → position_or_len (nat_eq slot) (slots ps) ≤ length ps
part_within [] slot = omega arith
part_within (p ∷ ps) slot = by (nat_eq slot p.0.slot) (part_within ps slot)
  where
    by : (b : Bool) → position_or_len (nat_eq slot) (slots ps) ≤ length ps → (if not b then 1 + position_or_len (nat_eq slot) (slots ps) else 0) ≤ suc (length ps)
    by true z = omega arith
    by false z = omega (arith, z)

pub part_missed : (ps : List Part) (slot : ℕ) → position (λ (p : Part). nat_eq slot p.0.slot) ps ≡ None → length ps ≡ position_or_len (nat_eq slot) (slots ps)
part_missed ps slot e = by (nat_lt (position_or_len (λ (p : Part). nat_eq slot p.0.slot) ps) (length ps)) refl e ∙ part_place ps slot
  where
    by : (b : Bool) → nat_lt (position_or_len (λ (p : Part). nat_eq slot p.0.slot) ps) (length ps) ≡ b → (if b then Some (position_or_len (λ (p : Part). nat_eq slot p.0.slot) ps) else None) ≡ None → length ps ≡ position_or_len (λ (p : Part). nat_eq slot p.0.slot) ps
    by true t z = absurd cc
    by false t z = omega (arith, ltb-false _ _ t, part_place ps slot, part_within ps slot)

-- a part stands there, or behind all
pub among_within : (ps : List Part) (slot : ℕ) → position_or_len (nat_eq slot) (slots ps) ≡ length ps → among nat_eq slot (slots ps) ≡ false
among_within [] slot e = refl
among_within (p ∷ ps) slot e = by (nat_eq slot p.0.slot) e (among_within ps slot)
  where
    by : (b : Bool) → (if not b then 1 + position_or_len (nat_eq slot) (slots ps) else 0) ≡ suc (length ps) → (position_or_len (nat_eq slot) (slots ps) ≡ length ps → among nat_eq slot (slots ps) ≡ false) → (b || among nat_eq slot (slots ps)) ≡ false
    by true z later = absurd (omega (arith, z))
    by false z later = later (omega (arith, z))

pub among_before : (ps : List Part) (slot : ℕ) → position_or_len (nat_eq slot) (slots ps) < length ps → among nat_eq slot (slots ps) ≡ true
among_before [] slot h = absurd (omega (arith, h))
among_before (p ∷ ps) slot h = by (nat_eq slot p.0.slot) h (among_before ps slot)
  where
    by : (b : Bool) → (if not b then 1 + position_or_len (nat_eq slot) (slots ps) else 0) < suc (length ps) → (position_or_len (nat_eq slot) (slots ps) < length ps → among nat_eq slot (slots ps) ≡ true) → (b || among nat_eq slot (slots ps)) ≡ true
    by true z later = refl
    by false z later = later (omega (arith, z))

-- what a test that is turned tells
pub told_true : (a b : Bool) → b ≡ not a → b ≡ false → a ≡ true
told_true true b e h = refl
told_true false b e h = cc

pub told_false : (a b : Bool) → b ≡ not a → b ≡ true → a ≡ false
told_false true b e h = cc
told_false false b e h = refl

pub put_slots : (ps : List (Route × List ℕ)) (route : Route) (place : ℕ) → part_slots (put_place route place ps) ≡ insert_key nat_eq (part_slots ps) route.slot
put_slots [] route place = refl
put_slots (p ∷ ps) route place = by (nat_eq route.slot p.0.slot) (among nat_eq route.slot (part_slots ps)) (put_slots ps route place)
  where
    by : (b a : Bool) → part_slots (put_place route place ps) ≡ (if a then part_slots ps else part_slots ps ++ route.slot ∷ [])
        → part_slots (if b then (p.0, p.1 ++ place ∷ []) ∷ ps else p ∷ put_place route place ps) ≡ (if b || a then p.0.slot ∷ part_slots ps else (p.0.slot ∷ part_slots ps) ++ route.slot ∷ [])
    by true a e = refl
    by false true e = ap (λ ks. p.0.slot ∷ ks) e
    by false false e = ap (λ ks. p.0.slot ∷ ks) e

-- ---- slots, each once

firsts_more : (xs : List ℕ) (s : ℕ) → firsts nat_eq (xs ++ s ∷ []) ≡ (if among nat_eq s xs then firsts nat_eq xs else firsts nat_eq xs ++ s ∷ [])
firsts_more [] s = refl
firsts_more (x ∷ xs) s = ap (λ ys. x ∷ filter q ys) (firsts_more xs s) ∙ by (among nat_eq s xs) (nat_eq s x) (nat_tells.turned x s)
  where
    q : ℕ → Bool
    q = λ y. not (nat_eq x y)

    by : (a b : Bool) → nat_eq x s ≡ b → x ∷ filter q (if a then firsts nat_eq xs else firsts nat_eq xs ++ s ∷ []) ≡ (if b || a then x ∷ filter q (firsts nat_eq xs) else (x ∷ filter q (firsts nat_eq xs)) ++ s ∷ [])
    by true true h = refl
    by true false h = refl
    by false true h = ap (λ ys. x ∷ ys) (filter-append q (firsts nat_eq xs) (s ∷ []) ∙ ap (λ c. filter q (firsts nat_eq xs) ++ (if not c then s ∷ [] else [])) h ∙ append-nil _)
    by false false h = ap (λ ys. x ∷ ys) (filter-append q (firsts nat_eq xs) (s ∷ []) ∙ ap (λ c. filter q (firsts nat_eq xs) ++ (if not c then s ∷ [] else [])) h)

left_out : (x y : ℕ) (xs : List ℕ) → nat_eq x y ≡ true → among nat_eq y (filter (λ z. not (nat_eq x z)) xs) ≡ false
left_out x y [] h = refl
left_out x y (z ∷ zs) h = by (nat_eq x z) refl (left_out x y zs h)
  where
    by : (b : Bool) → nat_eq x z ≡ b → among nat_eq y (filter (λ z. not (nat_eq x z)) zs) ≡ false → among nat_eq y (if not b then z ∷ filter (λ z. not (nat_eq x z)) zs else filter (λ z. not (nat_eq x z)) zs) ≡ false
    by true e later = later
    by false e later =
        let same : x ≡ y = eqb-true x y h in
        let other : nat_eq y z ≡ false = ap (λ u. nat_eq u z) (sym same) ∙ e in
        ap (λ b. b || among nat_eq y (filter (λ z. not (nat_eq x z)) zs)) other ∙ later

still_out : (p : ℕ → Bool) (y : ℕ) (xs : List ℕ) → among nat_eq y xs ≡ false → among nat_eq y (filter p xs) ≡ false
still_out p y [] h = refl
still_out p y (z ∷ zs) h = by (p z) (nat_eq y z) refl h (still_out p y zs)
  where
    by : (b c : Bool) → nat_eq y z ≡ c → (c || among nat_eq y zs) ≡ false → (among nat_eq y zs ≡ false → among nat_eq y (filter p zs) ≡ false) → among nat_eq y (if b then z ∷ filter p zs else filter p zs) ≡ false
    by b true k e later = cc
    by true false k e later = ap (λ b. b || among nat_eq y (filter p zs)) k ∙ later e
    by false false k e later = later e

still_once : (p : ℕ → Bool) (xs : List ℕ) → StandOnce xs → StandOnce (filter p xs)
still_once p [] h = tt
still_once p (x ∷ xs) h = by (p x) (still_once p xs h.1)
  where
    by : (b : Bool) → StandOnce (filter p xs) → StandOnce (if b then x ∷ filter p xs else filter p xs)
    by true later = (still_out p x xs h.0, later)
    by false later = later

pub once : (xs : List ℕ) → StandOnce (firsts nat_eq xs)
once [] = tt
once (x ∷ xs) = (left_out x x (firsts nat_eq xs) (grind (arith, nat_tests)), still_once (λ y. not (nat_eq x y)) (firsts nat_eq xs) (once xs))

group_slots : (xs ks : List ℕ) → map (λ (g : ℕ × List ℕ). g.0) (map (group xs) ks) ≡ ks
group_slots xs [] = refl
group_slots xs (k ∷ ks) = ap (λ ys. k ∷ ys) (group_slots xs ks)

pub groups_once : (xs : List ℕ) → StandOnce (map (λ (g : ℕ × List ℕ). g.0) (groups xs))
groups_once xs = rw (group_slots xs (firsts nat_eq xs)) (once xs)

pub groups_each : (xs : List ℕ) (slot : ℕ) → among nat_eq slot (map (λ (g : ℕ × List ℕ). g.0) (groups xs)) ≡ among nat_eq slot xs
groups_each xs slot = ap (among nat_eq slot) (group_slots xs (firsts nat_eq xs)) ∙ among-firsts nat_eq nat_tells slot xs

-- ---- places

places_more : (slot n : ℕ) (xs : List ℕ) (s : ℕ) → places_from slot n (xs ++ s ∷ []) ≡ places_from slot n xs ++ (if nat_eq slot s then (n + length xs) ∷ [] else [])
places_more slot n [] s = let e : n ≡ n + 0 = omega arith in ap (λ k. if nat_eq slot s then k ∷ [] else []) e
places_more slot n (x ∷ xs) s =
    let e : suc n + length xs ≡ n + suc (length xs) = omega arith in
    by (nat_eq slot x) (places_more slot (suc n) xs s ∙ ap (λ k. places_from slot (suc n) xs ++ (if nat_eq slot s then k ∷ [] else [])) e)
  where
    by : (b : Bool) → places_from slot (suc n) (xs ++ s ∷ []) ≡ places_from slot (suc n) xs ++ (if nat_eq slot s then (n + suc (length xs)) ∷ [] else [])
        → (if b then n ∷ places_from slot (suc n) (xs ++ s ∷ []) else places_from slot (suc n) (xs ++ s ∷ []))
        ≡ (if b then n ∷ places_from slot (suc n) xs else places_from slot (suc n) xs) ++ (if nat_eq slot s then (n + suc (length xs)) ∷ [] else [])
    by true rest = ap (λ ys. n ∷ ys) rest
    by false rest = rest

no_places : (slot n : ℕ) (xs : List ℕ) → among nat_eq slot xs ≡ false → places_from slot n xs ≡ []
no_places slot n [] h = refl
no_places slot n (x ∷ xs) h = by (nat_eq slot x) h (no_places slot (suc n) xs)
  where
    by : (b : Bool) → (b || among nat_eq slot xs) ≡ false → (among nat_eq slot xs ≡ false → places_from slot (suc n) xs ≡ []) → (if b then n ∷ places_from slot (suc n) xs else places_from slot (suc n) xs) ≡ []
    by true e later = cc
    by false e later = later e

-- ---- a slot more

module _ (role : SlotAddr) (xs : List ℕ) (s : ℕ) where
  abbrev before : List ℕ → List (Route × List ℕ)
  before ks = map (part_to role) (map (group xs) ks)

  abbrev behind : List ℕ → List (Route × List ℕ)
  behind ks = map (part_to role) (map (group (xs ++ s ∷ [])) ks)

  as_before : (k : ℕ) → nat_eq s k ≡ false → places_from k 0 xs ≡ places_from k 0 (xs ++ s ∷ [])
  as_before k h = sym (places_more k 0 xs s ∙ ap (λ b. places_from k 0 xs ++ (if b then (0 + length xs) ∷ [] else [])) (nat_tells.turned k s ∙ h) ∙ append-nil _)

  one_more : (k : ℕ) → nat_eq s k ≡ true → places_from k 0 xs ++ length xs ∷ [] ≡ places_from k 0 (xs ++ s ∷ [])
  one_more k h =
      let e : 0 + length xs ≡ length xs = omega arith in
      sym (places_more k 0 xs s ∙ ap (λ b. places_from k 0 xs ++ (if b then (0 + length xs) ∷ [] else [])) (nat_tells.turned k s ∙ h) ∙ ap (λ n. places_from k 0 xs ++ n ∷ []) e)

  rest_stays : (ks : List ℕ) → among nat_eq s ks ≡ false → before ks ≡ behind ks
  rest_stays [] h = refl
  rest_stays (k ∷ ks) h = by (nat_eq s k) refl h (rest_stays ks)
    where
      by : (b : Bool) → nat_eq s k ≡ b → (b || among nat_eq s ks) ≡ false → (among nat_eq s ks ≡ false → before ks ≡ behind ks) → before (k ∷ ks) ≡ behind (k ∷ ks)
      by true e z later = cc
      by false e z later = ap (λ ys. (route_to role k, ys) ∷ before ks) (as_before k e) ∙ ap (λ ps. (route_to role k, places_from k 0 (xs ++ s ∷ [])) ∷ ps) (later z)

  put_old : (ks : List ℕ) → StandOnce ks → among nat_eq s ks ≡ true → put_place (route_to role s) (length xs) (before ks) ≡ behind ks
  put_old [] o h = cc
  put_old (k ∷ ks) o h = by (nat_eq s k) refl h (put_old ks o.1)
    where
      by : (b : Bool) → nat_eq s k ≡ b → (b || among nat_eq s ks) ≡ true → (among nat_eq s ks ≡ true → put_place (route_to role s) (length xs) (before ks) ≡ behind ks)
          → (if b then (route_to role k, places_from k 0 xs ++ length xs ∷ []) ∷ before ks else (route_to role k, places_from k 0 xs) ∷ put_place (route_to role s) (length xs) (before ks)) ≡ behind (k ∷ ks)
      by true e z later = ap (λ ys. (route_to role k, ys) ∷ before ks) (one_more k e) ∙ ap (λ ps. (route_to role k, places_from k 0 (xs ++ s ∷ [])) ∷ ps) (rest_stays ks (ap (λ t. among nat_eq t ks) (eqb-true s k e) ∙ o.0))
      by false e z later = ap (λ ys. (route_to role k, ys) ∷ put_place (route_to role s) (length xs) (before ks)) (as_before k e) ∙ ap (λ ps. (route_to role k, places_from k 0 (xs ++ s ∷ [])) ∷ ps) (later z)

  put_new : (ks : List ℕ) → among nat_eq s ks ≡ false → put_place (route_to role s) (length xs) (before ks) ≡ before ks ++ (route_to role s, length xs ∷ []) ∷ []
  put_new [] h = refl
  put_new (k ∷ ks) h = by (nat_eq s k) h (put_new ks)
    where
      by : (b : Bool) → (b || among nat_eq s ks) ≡ false → (among nat_eq s ks ≡ false → put_place (route_to role s) (length xs) (before ks) ≡ before ks ++ (route_to role s, length xs ∷ []) ∷ [])
          → (if b then (route_to role k, places_from k 0 xs ++ length xs ∷ []) ∷ before ks else (route_to role k, places_from k 0 xs) ∷ put_place (route_to role s) (length xs) (before ks)) ≡ before (k ∷ ks) ++ (route_to role s, length xs ∷ []) ∷ []
      by true z later = cc
      by false z later = ap (λ ps. (route_to role k, places_from k 0 xs) ∷ ps) (later z)

  behind_append : (ks : List ℕ) → behind (ks ++ s ∷ []) ≡ behind ks ++ (route_to role s, places_from s 0 (xs ++ s ∷ [])) ∷ []
  behind_append [] = refl
  behind_append (k ∷ ks) = ap (λ ps. (route_to role k, places_from k 0 (xs ++ s ∷ [])) ∷ ps) (behind_append ks)

  pub put_next : put_place (route_to role s) (length xs) (map (part_to role) (groups xs)) ≡ map (part_to role) (groups (xs ++ s ∷ []))
  put_next = by (among nat_eq s xs) refl
    where
      f : among nat_eq s (firsts nat_eq xs) ≡ among nat_eq s xs
      f = among-firsts nat_eq nat_tells s xs

      by : (a : Bool) → among nat_eq s xs ≡ a → put_place (route_to role s) (length xs) (before (firsts nat_eq xs)) ≡ behind (firsts nat_eq (xs ++ s ∷ []))
      by true h = put_old (firsts nat_eq xs) (once xs) (f ∙ h) ∙ ap behind (sym (firsts_more xs s ∙ ap (λ a. if a then firsts nat_eq xs else firsts nat_eq xs ++ s ∷ []) h))
      by false h =
          let same : nat_eq s s ≡ true = grind (arith, nat_tests) in
          let own : length xs ∷ [] ≡ places_from s 0 (xs ++ s ∷ []) = ap (λ ys. ys ++ length xs ∷ []) (sym (no_places s 0 xs h)) ∙ one_more s same in
          put_new (firsts nat_eq xs) (f ∙ h)
          ∙ ap (λ ps. ps ++ (route_to role s, length xs ∷ []) ∷ []) (rest_stays (firsts nat_eq xs) (f ∙ h))
          ∙ ap (λ ys. behind (firsts nat_eq xs) ++ (route_to role s, ys) ∷ []) own
          ∙ sym (behind_append (firsts nat_eq xs))
          ∙ ap behind (sym (firsts_more xs s ∙ ap (λ a. if a then firsts nat_eq xs else firsts nat_eq xs ++ s ∷ []) h))

-- the place of one slot more of many
pub put_slot : (role : SlotAddr) (all : List ℕ) (i : ℕ) (parts : List (Route × List ℕ)) → i < length all → parts ≡ map (part_to role) (groups (take i all))
    → put_place (route_to role (get_or all i 0)) i parts ≡ map (part_to role) (groups (take (i + 1) all))
put_slot role all i parts within same =
    let s : ℕ = get_or all i 0 in
    let l : length (take i all) ≡ i = length-take i all ∙ omega (arith, within) in
    let more : take (i + 1) all ≡ take i all ++ s ∷ [] = rw add-one (take-suc all i 0 within) in
    ap (put_place (route_to role s) i) same
    ∙ ap (λ n. put_place (route_to role s) n (map (part_to role) (groups (take i all)))) (sym l)
    ∙ put_next role (take i all) s
    ∙ ap (λ ys. map (part_to role) (groups ys)) (sym more)
