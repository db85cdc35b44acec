-- Range maps of places, and the values at the places.
use Rattle.std.proofs.Common.{◌≡◌, ℕ, zero, suc, Bool, true, false, nat_lt, nat_le, ◌==◌, if◌then◌else◌, List, [], ◌∷◌, drop, map, refl, sym, ap, ◌∙◌, Option, Some, None, option_map, option_and_then}
use Rattle.std.specs.Prelude.{slice_get}
use Rattle.cluster_routing.specs.Ranges.{Entry, first_from, put, value_at, value_if_begun}
use Rattle.cluster_routing.specs.Topology.{ShardOf, put_places, put_ranges, put_shards, shard_at}

-- the entries with other values
abbrev pub with_value : {V W : Type 0} → (V → W) → Entry V → Entry W
with_value f e = (e.0, (e.1.0, f e.1.1))

abbrev pub with_values : {V W : Type 0} → (V → W) → List (Entry V) → List (Entry W)
with_values f es = map (with_value f) es

pub put-values : {V W : Type 0} (f : V → W) (es : List (Entry V)) (e : Entry V) → with_values f (put es e) ≡ put (with_values f es) (with_value f e)
put-values f [] e = refl
put-values {V} f (q ∷ qs) e = by (nat_lt e.0 q.0) (e.0 == q.0) (put-values f qs e)
  where
    by : (a b : Bool) → with_values f (put qs e) ≡ put (with_values f qs) (with_value f e)
        → with_values f (if a then e ∷ (q ∷ qs) else (if b then e ∷ qs else q ∷ put qs e))
        ≡ (if a then with_value f e ∷ (with_value f q ∷ with_values f qs) else (if b then with_value f e ∷ with_values f qs else with_value f q ∷ put (with_values f qs) (with_value f e)))
    by true b h = refl
    by false true h = refl
    by false false h = ap (λ l. with_value f q ∷ l) h

pub put_ranges-values : {V W : Type 0} (f : V → W) (es : List (Entry V)) (rs : List (ℕ × ℕ)) (v : V) → with_values f (put_ranges es rs v) ≡ put_ranges (with_values f es) rs (f v)
put_ranges-values f es [] v = refl
put_ranges-values f es (r ∷ rs) v = put_ranges-values f (put es (r.1, (r.0, v))) rs v ∙ ap (λ m. put_ranges m rs (f v)) (put-values f es (r.1, (r.0, v)))

pub value_at-values : {V W : Type 0} (f : V → W) (slot : ℕ) (es : List (Entry V)) → value_at slot (with_values f es) ≡ option_map f (value_at slot es)
value_at-values f slot [] = refl
value_at-values {V} f slot (q ∷ qs) = by (nat_lt q.0 slot) (value_at-values f slot qs)
  where
    begun : (b : Bool) → (if b then Some (f q.1.1) else None) ≡ option_map f (if b then Some q.1.1 else None)
    begun true = refl
    begun false = refl

    by : (b : Bool) → value_at slot (with_values f qs) ≡ option_map f (value_at slot qs)
        → option_and_then (value_if_begun slot) (if b then first_from slot (with_values f qs) else Some (with_value f q)) ≡ option_map f (option_and_then (value_if_begun slot) (if b then first_from slot qs else Some q))
    by true h = h
    by false h = begun (nat_le q.1.0 slot)

-- what stands at a place
at_place : {X : Type 0} (xs : List X) (n : ℕ) (x : X) (rest : List X) → drop n xs ≡ x ∷ rest → (slice_get xs n ≡ Some x) × (drop (suc n) xs ≡ rest)
at_place [] zero x rest h = cc
at_place [] (suc n) x rest h = cc
at_place (y ∷ xs) zero x rest h = let e : y ≡ x = cc in let t : xs ≡ rest = cc in (ap (λ z. Some z) e, t)
at_place (y ∷ xs) (suc n) x rest h = at_place xs n x rest h

-- places that stand for shards
pub places : (whole : List ShardOf) (n : ℕ) (ss : List ShardOf) (es : List (Entry ℕ)) (fs : List (Entry ShardOf)) → drop n whole ≡ ss → with_values (slice_get whole) es ≡ with_values (λ s. Some s) fs
    → with_values (slice_get whole) (put_places n es ss) ≡ with_values (λ s. Some s) (put_shards fs ss)
places whole n [] es fs d h = h
places whole n (s ∷ ss) es fs d h =
    let p = at_place whole n s ss d in
    places whole (suc n) ss (put_ranges es s.ranges n) (put_ranges fs s.ranges s) p.1
    (put_ranges-values (slice_get whole) es s.ranges n ∙ ap (λ m. put_ranges m s.ranges (slice_get whole n)) h ∙ ap (λ v. put_ranges (with_values (λ t. Some t) fs) s.ranges v) p.0 ∙ sym (put_ranges-values (λ t. Some t) fs s.ranges s))

joined : {V X : Type 0} (f : V → Option X) (o : Option V) → option_and_then f o ≡ option_and_then (λ x. x) (option_map f o)
joined f None = refl
joined f (Some v) = refl

unjoined : {X : Type 0} (o : Option X) → option_and_then (λ x. x) (option_map (λ x. Some x) o) ≡ o
unjoined None = refl
unjoined (Some x) = refl

pub shard_by_place : (slot : ℕ) (shards : List ShardOf) → option_and_then (slice_get shards) (value_at slot (put_places 0 [] shards)) ≡ shard_at slot shards
shard_by_place slot shards =
    joined (slice_get shards) (value_at slot (put_places 0 [] shards))
    ∙ ap (option_and_then (λ x. x)) (sym (value_at-values (slice_get shards) slot (put_places 0 [] shards)) ∙ ap (value_at slot) (places shards 0 shards [] [] refl refl) ∙ value_at-values (λ s. Some s) slot (put_shards [] shards))
    ∙ unjoined (shard_at slot shards)
