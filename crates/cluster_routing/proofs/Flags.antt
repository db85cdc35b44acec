-- Flags of arrays of integers, one array more at a time.
use Rattle.std.specs.Prelude.{not}
use Rattle.std.proofs.Common.{◌≡◌, ℕ, suc, ◌+◌, ◌<◌, Bool, true, false, ◌&&◌, List, [], ◌∷◌, map, length, drop, refl, sym, ap, ◌∙◌, arith, Vec, Global, Option, Some, None, option_map, option_and_then, get_or, drop-cons, add-one}
use Rattle.resp_core.specs.Trees.{Tree}
use Rattle.resp_core.specs.View.{view}
use Rattle.resp_core.specs.declared.value.Value.{Value, Array}
use Rattle.resp_args.specs.Convert.{is_zero, traverse}
use Rattle.cluster_routing.specs.Policies.{all_flags, both_flags, flags_in, int_in}
use Rattle.cluster_routing.proofs.Replies.{items-Array}

abbrev flag_of : Tree → Option Bool
flag_of t = option_map (λ n. not (is_zero n)) (int_in t)

pub array_flags : (v : Vec Value Global) (vs : List Value) → vs ≡ v.items → traverse (λ t. option_map (λ n. not (is_zero n)) (int_in t)) (map view vs) ≡ flags_in (view (Array v))
array_flags v vs e = ap (λ us. traverse flag_of (map view us)) e ∙ sym (ap (option_and_then (λ ts. traverse flag_of ts)) (items-Array v))

pub none_beside : (flags left : List Bool) (i : ℕ) → i < length flags → length left < 1 → both_flags (drop i flags) left ≡ None
none_beside flags [] i h e = ap (λ fs. both_flags fs []) (drop-cons flags i true h)
none_beside flags (c ∷ cs) i h e = absurd (omega (arith, e))

-- ---- in turn

both_behind : (a b : Bool) (as' : List Bool) (o : Option (List Bool)) → option_and_then (both_flags (a ∷ as')) (option_map (λ ds. b ∷ ds) o) ≡ option_map (λ ds. (a && b) ∷ ds) (option_and_then (both_flags as') o)
both_behind a b as' None = refl
both_behind a b as' (Some ds) = refl

both_before : (b c : Bool) (cs : List Bool) (o : Option (List Bool)) → option_and_then (λ fg. both_flags fg (c ∷ cs)) (option_map (λ ds. b ∷ ds) o) ≡ option_map (λ ds. (b && c) ∷ ds) (option_and_then (λ fg. both_flags fg cs) o)
both_before b c cs None = refl
both_before b c cs (Some ds) = refl

and_in_turn : (a b c : Bool) → (a && (b && c)) ≡ ((a && b) && c)
and_in_turn true b c = refl
and_in_turn false b c = refl

both_in_turn : (f g h : List Bool) → option_and_then (both_flags f) (both_flags g h) ≡ option_and_then (λ fg. both_flags fg h) (both_flags f g)
both_in_turn [] [] [] = refl
both_in_turn [] [] (c ∷ cs) = refl
both_in_turn [] (b ∷ bs) [] = refl
both_in_turn [] (b ∷ bs) (c ∷ cs) = behind (both_flags bs cs)
  where
    behind : (o : Option (List Bool)) → option_and_then (both_flags []) (option_map (λ ds. (b && c) ∷ ds) o) ≡ None
    behind None = refl
    behind (Some ds) = refl
both_in_turn (a ∷ as') [] [] = refl
both_in_turn (a ∷ as') [] (c ∷ cs) = refl
both_in_turn (a ∷ as') (b ∷ bs) [] = before (both_flags as' bs)
  where
    before : (o : Option (List Bool)) → None ≡ option_and_then (λ fg. both_flags fg []) (option_map (λ ds. (a && b) ∷ ds) o)
    before None = refl
    before (Some ds) = refl
both_in_turn (a ∷ as') (b ∷ bs) (c ∷ cs) =
    both_behind a (b && c) as' (both_flags bs cs)
    ∙ ap (λ x. option_map (λ ds. x ∷ ds) (option_and_then (both_flags as') (both_flags bs cs))) (and_in_turn a b c)
    ∙ ap (option_map (λ ds. ((a && b) && c) ∷ ds)) (both_in_turn as' bs cs)
    ∙ sym (both_before (a && b) c cs (both_flags as' bs))

-- what the first flags and those of more make
abbrev with_first : Option (List (List Bool)) → List Bool → Option (List Bool)
with_first more flags = option_and_then (λ lists. all_flags (flags ∷ lists)) more

flags_in_turn : (fs bs : List Bool) (more : Option (List (List Bool))) → with_first (option_map (λ lists. bs ∷ lists) more) fs ≡ option_and_then (with_first more) (both_flags fs bs)
flags_in_turn fs bs None = none (both_flags fs bs)
  where
    none : (o : Option (List Bool)) → None ≡ option_and_then (with_first None) o
    none None = refl
    none (Some gs) = refl
flags_in_turn fs bs (Some []) = same (both_flags fs bs)
  where
    same : (o : Option (List Bool)) → o ≡ option_and_then (with_first (Some [])) o
    same None = refl
    same (Some gs) = refl
flags_in_turn fs bs (Some (cs ∷ css)) = last (all_flags (cs ∷ css))
  where
    none : (o : Option (List Bool)) → None ≡ option_and_then (λ gs. option_and_then (both_flags gs) None) o
    none None = refl
    none (Some gs) = refl

    last : (o : Option (List Bool)) → option_and_then (both_flags fs) (option_and_then (both_flags bs) o) ≡ option_and_then (λ gs. option_and_then (both_flags gs) o) (both_flags fs bs)
    last None = none (both_flags fs bs)
    last (Some hs) = both_in_turn fs bs hs

pub flags_step : (fs gs : List Bool) (vs : List Value) (i : ℕ) (v : Value) (p q : Option (Vec Bool Global)) → i < length vs → v ≡ get_or vs i v → gs ≡ fs → option_map (λ w. w.items) p ≡ option_and_then (both_flags gs) (flags_in (view v)) → p ≡ q
    → option_and_then (λ lists. all_flags (fs ∷ lists)) (traverse flags_in (map view (drop i vs))) ≡ option_and_then (λ hs. option_and_then (λ lists. all_flags (hs ∷ lists)) (traverse flags_in (map view (drop (i + 1) vs)))) (option_map (λ w. w.items) q)
flags_step fs gs vs i v p q h e same k d =
    let more : Option (List (List Bool)) = traverse flags_in (map view (drop (i + 1) vs)) in
    ap (λ us. with_first (traverse flags_in (map view us)) fs) (drop-cons vs i v h ∙ ap (λ w. w ∷ drop (suc i) vs) (sym e) ∙ ap (λ n. v ∷ drop n vs) (sym (add-one i)))
    ∙ told (flags_in (view v))
    ∙ ap (λ hs. option_and_then (with_first more) (option_and_then (both_flags hs) (flags_in (view v)))) (sym same)
    ∙ ap (option_and_then (with_first more)) (sym k)
    ∙ ap (λ o. option_and_then (with_first more) (option_map (λ w. w.items) o)) d
  where
    told : (o : Option (List Bool)) → with_first (option_and_then (λ bs. option_map (λ lists. bs ∷ lists) (traverse flags_in (map view (drop (i + 1) vs)))) o) fs ≡ option_and_then (with_first (traverse flags_in (map view (drop (i + 1) vs)))) (option_and_then (both_flags fs) o)
    told None = refl
    told (Some bs) = flags_in_turn fs bs (traverse flags_in (map view (drop (i + 1) vs)))

pub first_flags : (v : Value) (vs : List Value) (fs : List Bool) → Some fs ≡ flags_in (view v) → option_and_then all_flags (traverse flags_in (map view (v ∷ vs))) ≡ option_and_then (λ lists. all_flags (fs ∷ lists)) (traverse flags_in (map view vs))
first_flags v vs fs e = ap (λ o. option_and_then all_flags (option_and_then (λ bs. option_map (λ lists. bs ∷ lists) (traverse flags_in (map view vs))) o)) (sym e) ∙ by (traverse flags_in (map view vs))
  where
    by : (more : Option (List (List Bool))) → option_and_then all_flags (option_map (λ lists. fs ∷ lists) more) ≡ option_and_then (λ lists. all_flags (fs ∷ lists)) more
    by None = refl
    by (Some lists) = refl
