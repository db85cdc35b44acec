-- The shards of a map, put together again, are the map.
use Rattle.std.proofs.Common.{◌≡◌, ℕ, ◌<◌, Bool, true, false, not, ◌||◌, nat_lt, ◌==◌, if◌then◌else◌, List, [], ◌∷◌, ◌++◌, map, filter, refl, sym, ap, ◌∙◌, subst, append_assoc, arith, Option, Some, None, option_map, Result, Ok, Err}
use Rattle.std.specs.Prelude.{IfOk}
use Rattle.std.specs.Bool.{⊤}
use Rattle.std.proofs.lemmas.Bool.Decides.{nat_tests}
use Rattle.cluster_routing.specs.AllNodes.{node_sets}
use Rattle.cluster_routing.specs.Lists.{among, firsts}
use Rattle.cluster_routing.specs.Ranges.{Entry, IsAscending, IsBelowEnds, put, value_at}
use Rattle.cluster_routing.specs.SlotMap.{Nodes, SlotEntries, nodes_at}
use Rattle.cluster_routing.specs.Topology.{ShardOf, put_ranges, put_shards, same_nodes, shard_at, shard_with, shards_of, span, spans_of}
use Rattle.cluster_routing.specs.Laws.{TopologyServes}
use Rattle.cluster_routing.proofs.Distinct.{Tells}
use Rattle.cluster_routing.proofs.DistinctNodes.{nodes_own, nodes_tell}
use Rattle.cluster_routing.proofs.RangeMaps.{AllAbove, above-rest}
use Rattle.cluster_routing.proofs.PlacedShards.{put_ranges-values, value_at-values, with_values}

-- entries put in, one after another
abbrev put_each : {V : Type 0} → List (Entry V) → List (Entry V) → List (Entry V)
put_each es [] = es
put_each es (x ∷ xs) = put_each (put es x) xs

above-filter : {V : Type 0} (e : ℕ) (p : Entry V → Bool) (qs : List (Entry V)) → AllAbove e qs → AllAbove e (filter p qs)
above-filter e p [] h = tt
above-filter {V} e p (q ∷ qs) h = by (p q) (above-filter e p qs h.1)
  where
    by : (b : Bool) → AllAbove e (filter p qs) → AllAbove e (if b then q ∷ filter p qs else filter p qs)
    by true k = (h.0, k)
    by false k = k

put-behind : {V : Type 0} (q : Entry V) (es : List (Entry V)) (x : Entry V) → q.0 < x.0 → put (q ∷ es) x ≡ q ∷ put es x
put-behind q es x l =
    ap (λ b. if b then x ∷ (q ∷ es) else (if x.0 == q.0 then x ∷ es else q ∷ put es x)) (not_less x.0 q.0 l) ∙ ap (λ b. if b then x ∷ es else q ∷ put es x) (not_equal x.0 q.0 l)
  where
    not_less : (a b : ℕ) → b < a → nat_lt a b ≡ false
    not_less a b k = grind (arith, nat_tests)

    not_equal : (a b : ℕ) → b < a → (a == b) ≡ false
    not_equal a b k = grind (arith, nat_tests)

put_each-behind : {V : Type 0} (q : Entry V) (es xs : List (Entry V)) → AllAbove q.0 xs → put_each (q ∷ es) xs ≡ q ∷ put_each es xs
put_each-behind q es [] h = refl
put_each-behind q es (x ∷ xs) h = ap (λ l. put_each l xs) (put-behind q es x h.0) ∙ put_each-behind q (put es x) xs h.1

put-front : {V : Type 0} (x : Entry V) (es : List (Entry V)) → AllAbove x.0 es → put es x ≡ x ∷ es
put-front x [] h = refl
put-front x (q ∷ qs) h = ap (λ b. if b then x ∷ (q ∷ qs) else (if x.0 == q.0 then x ∷ qs else q ∷ put qs x)) (less x.0 q.0 h.0)
  where
    less : (a b : ℕ) → a < b → nat_lt a b ≡ true
    less a b k = grind (arith, nat_tests)

put-own : {V : Type 0} (e : Entry V) (es : List (Entry V)) → put (e ∷ es) e ≡ e ∷ es
put-own e es = ap (λ b. if b then e ∷ (e ∷ es) else (if e.0 == e.0 then e ∷ es else e ∷ put es e)) (not_less e.0) ∙ ap (λ b. if b then e ∷ es else e ∷ put es e) (equal e.0)
  where
    not_less : (a : ℕ) → nat_lt a a ≡ false
    not_less a = grind (arith, nat_tests)

    equal : (a : ℕ) → (a == a) ≡ true
    equal a = grind (arith, nat_tests)

-- some of the entries put among others of them
merge : {V : Type 0} (p q : Entry V → Bool) (es : List (Entry V)) → IsAscending es → put_each (filter p es) (filter q es) ≡ filter (λ e. p e || q e) es
merge p q [] h = refl
merge {V} p q (e ∷ es) h =
    by (p e) (q e) (merge p q es h.1) (above-filter e.0 p es (above-rest e.0 es h.0 h.1)) (above-filter e.0 q es (above-rest e.0 es h.0 h.1))
  where
    by : (a b : Bool) → put_each (filter p es) (filter q es) ≡ filter (λ x. p x || q x) es → AllAbove e.0 (filter p es) → AllAbove e.0 (filter q es)
        → put_each (if a then e ∷ filter p es else filter p es) (if b then e ∷ filter q es else filter q es) ≡ (if a || b then e ∷ filter (λ x. p x || q x) es else filter (λ x. p x || q x) es)
    by true true k u v = ap (λ l. put_each l (filter q es)) (put-own e (filter p es)) ∙ put_each-behind e (filter p es) (filter q es) v ∙ ap (λ l. e ∷ l) k
    by true false k u v = put_each-behind e (filter p es) (filter q es) v ∙ ap (λ l. e ∷ l) k
    by false true k u v = ap (λ l. put_each l (filter q es)) (put-front e (filter p es) u) ∙ put_each-behind e (filter p es) (filter q es) v ∙ ap (λ l. e ∷ l) k
    by false false k u v = k

-- filters that agree, that keep nothing, and that keep all
filter-same : {X : Type 0} (p q : X → Bool) → ((x : X) → p x ≡ q x) → (xs : List X) → filter p xs ≡ filter q xs
filter-same p q h [] = refl
filter-same p q h (x ∷ xs) = ap (λ b. if b then x ∷ filter p xs else filter p xs) (h x) ∙ ap (λ l. if q x then x ∷ l else l) (filter-same p q h xs)

filter-none : {X : Type 0} (xs : List X) → filter (λ _. false) xs ≡ []
filter-none [] = refl
filter-none (x ∷ xs) = filter-none xs

abbrev AllPass : {X : Type 0} → (X → Bool) → List X → Type 0
AllPass p [] = ⊤
AllPass p (x ∷ xs) = (p x ≡ true) × AllPass p xs

filter-all : {X : Type 0} (p : X → Bool) (xs : List X) → AllPass p xs → filter p xs ≡ xs
filter-all p [] h = refl
filter-all p (x ∷ xs) h = ap (λ b. if b then x ∷ filter p xs else filter p xs) h.0 ∙ ap (λ l. x ∷ l) (filter-all p xs h.1)

filter-pass : {X : Type 0} (p : X → Bool) (xs : List X) → AllPass p (filter p xs)
filter-pass p [] = tt
filter-pass {X} p (x ∷ xs) = by (p x) refl (filter-pass p xs)
  where
    by : (b : Bool) → p x ≡ b → AllPass p (filter p xs) → AllPass p (if b then x ∷ filter p xs else filter p xs)
    by true e h = (e, h)
    by false e h = h

-- the entries of one set of nodes after another
abbrev has_nodes : Nodes → Entry Nodes → Bool
has_nodes n e = same_nodes n e.1.1

abbrev put_groups : SlotEntries → SlotEntries → List Nodes → SlotEntries
put_groups es entries [] = es
put_groups es entries (n ∷ ns) = put_groups (put_each es (filter (has_nodes n) entries)) entries ns

groups : (ns : List Nodes) (p : Entry Nodes → Bool) (entries : SlotEntries) → IsAscending entries → put_groups (filter p entries) entries ns ≡ filter (λ e. p e || among same_nodes e.1.1 ns) entries
groups [] p entries h = filter-same p (λ e. p e || false) (λ e. or-false (p e)) entries
  where
    or-false : (b : Bool) → b ≡ (b || false)
    or-false true = refl
    or-false false = refl
groups (n ∷ ns) p entries h =
    ap (λ l. put_groups l entries ns) (merge p (has_nodes n) entries h) ∙ groups ns (λ e. p e || has_nodes n e) entries h
    ∙ filter-same (λ e. (p e || has_nodes n e) || among same_nodes e.1.1 ns) (λ e. p e || (same_nodes e.1.1 n || among same_nodes e.1.1 ns))
    (λ e. or-assoc (p e) (has_nodes n e) (among same_nodes e.1.1 ns) ∙ ap (λ b. p e || (b || among same_nodes e.1.1 ns)) (nodes_tell.turned n e.1.1)) entries
  where
    or-assoc : (a b c : Bool) → ((a || b) || c) ≡ (a || (b || c))
    or-assoc true b c = refl
    or-assoc false b c = refl

-- the first appearances lack nothing
kept : {X : Type 0} (eq : X → X → Bool) → Tells eq → (x y : X) → eq y x ≡ false → (zs : List X) → among eq y (filter (λ z. not (eq x z)) zs) ≡ among eq y zs
kept eq tells x y f [] = refl
kept {X} eq tells x y f (z ∷ zs) = by (eq x z) refl (kept eq tells x y f zs)
  where
    by : (b : Bool) → eq x z ≡ b → among eq y (filter (λ w. not (eq x w)) zs) ≡ among eq y zs
        → among eq y (if not b then z ∷ filter (λ w. not (eq x w)) zs else filter (λ w. not (eq x w)) zs) ≡ (eq y z || among eq y zs)
    by true e h = h ∙ ap (λ b. b || among eq y zs) (sym (ap (eq y) (sym (tells.same x z e)) ∙ f))
    by false e h = ap (λ b. eq y z || b) h

pub among-firsts : {X : Type 0} (eq : X → X → Bool) → Tells eq → (y : X) (xs : List X) → among eq y (firsts eq xs) ≡ among eq y xs
among-firsts eq tells y [] = refl
among-firsts {X} eq tells y (x ∷ xs) = by (eq y x) refl (among-firsts eq tells y xs)
  where
    by : (b : Bool) → eq y x ≡ b → among eq y (firsts eq xs) ≡ among eq y xs → (b || among eq y (filter (λ z. not (eq x z)) (firsts eq xs))) ≡ (b || among eq y xs)
    by true e h = refl
    by false e h = kept eq tells x y e (firsts eq xs) ∙ h

among-mid : (n : Nodes) (before behind : List Nodes) → among same_nodes n (before ++ n ∷ behind) ≡ true
among-mid n [] behind = ap (λ b. b || among same_nodes n behind) (nodes_own n)
among-mid n (m ∷ before) behind = ap (λ b. same_nodes n m || b) (among-mid n before behind) ∙ or-true (same_nodes n m)
  where
    or-true : (b : Bool) → (b || true) ≡ true
    or-true true = refl
    or-true false = refl

each_among : (before : List Nodes) (es : SlotEntries) → AllPass (λ e. among same_nodes e.1.1 (before ++ node_sets es)) es
each_among before [] = tt
each_among before (e ∷ es) =
    let P : List Nodes → Type 0 = λ l. AllPass (λ x. among same_nodes x.1.1 l) es in
    (among-mid e.1.1 before (node_sets es), subst P (append_assoc before (e.1.1 ∷ []) (node_sets es)) (each_among (before ++ e.1.1 ∷ []) es))

-- a shard's ranges are the entries that have its nodes
spans_put : (es : SlotEntries) (n : Nodes) (xs : SlotEntries) → AllPass (has_nodes n) xs → put_ranges es (map span xs) n ≡ put_each es xs
spans_put es n [] h = refl
spans_put es n (x ∷ xs) h = ap (λ m. put_ranges (put es (x.0, (x.1.0, m))) (map span xs) n) (nodes_tell.same n x.1.1 h.0) ∙ spans_put (put es x) n xs h.1

shards_put : (entries : SlotEntries) (ns : List Nodes) (es : List (Entry ShardOf)) → with_values (λ s. s.nodes) (put_shards es (map (shard_with entries) ns)) ≡ put_groups (with_values (λ s. s.nodes) es) entries ns
shards_put entries [] es = refl
shards_put entries (n ∷ ns) es =
    shards_put entries ns (put_ranges es (spans_of n entries) (shard_with entries n))
    ∙ ap (λ l. put_groups l entries ns)
    (put_ranges-values (λ s. s.nodes) es (spans_of n entries) (shard_with entries n) ∙ spans_put (with_values (λ s. s.nodes) es) n (filter (has_nodes n) entries) (filter-pass (has_nodes n) entries))

pub whole : (entries : SlotEntries) → IsAscending entries → with_values (λ s. s.nodes) (put_shards [] (shards_of entries)) ≡ entries
whole entries h =
    let ns : List Nodes = firsts same_nodes (node_sets entries) in
    shards_put entries ns [] ∙ ap (λ l. put_groups l entries ns) (sym (filter-none entries)) ∙ groups ns (λ _. false) entries h
    ∙ filter-same (λ e. among same_nodes e.1.1 ns) (λ e. among same_nodes e.1.1 (node_sets entries)) (λ e. among-firsts same_nodes nodes_tell e.1.1 (node_sets entries)) entries
    ∙ filter-all (λ e. among same_nodes e.1.1 (node_sets entries)) entries (each_among [] entries)

serves : (entries : SlotEntries) (slot : ℕ) → IsAscending entries → option_map (λ s. s.nodes) (shard_at slot (shards_of entries)) ≡ nodes_at slot entries
serves entries slot h = sym (value_at-values (λ s. s.nodes) slot (put_shards [] (shards_of entries))) ∙ ap (value_at slot) (whole entries h)

serves_as : (topology : List ShardOf) (entries : SlotEntries) → topology ≡ shards_of entries → IsAscending entries → (slot : ℕ) → option_map (λ s. s.nodes) (shard_at slot topology) ≡ nodes_at slot entries
serves_as topology entries e h slot = ap (λ t. option_map (λ s. s.nodes) (shard_at slot t)) e ∙ serves entries slot h

pub serves_if : {E : Type 0} (made : Result (List ShardOf) E) (shards : List ShardOf) (entries : SlotEntries) → shards ≡ shards_of entries → IsAscending entries → IfOk made (λ t. t ≡ shards)
    → IfOk made (λ t. (slot : ℕ) → option_map (λ s. s.nodes) (shard_at slot t) ≡ nodes_at slot entries)
serves_if (Ok topology) shards entries e h is = serves_as topology entries (is ∙ e) h
serves_if (Err x) shards entries e h is = tt

primary_of : (o : Option ShardOf) → option_map (λ s. s.nodes.primary) o ≡ option_map (λ n. n.primary) (option_map (λ s. s.nodes) o)
primary_of None = refl
primary_of (Some s) = refl

pub topology_serves : TopologyServes
topology_serves = record {
  nodes = serves;
  primary = λ entries slot h. primary_of (shard_at slot (shards_of entries)) ∙ ap (option_map (λ n. n.primary)) (serves entries slot h);
}
