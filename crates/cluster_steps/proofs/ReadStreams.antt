-- The parts of a read, and the places of their streams among all.
use Rattle.std.proofs.Common.{◌≡◌, ℕ, zero, suc, Bool, true, false, cond, not, ◌&&◌, ◌||◌, ◌+◌, ◌<◌, ◌≤◌, ◌==◌, append_assoc, nat_eq, List, [], ◌∷◌, ◌++◌, map, take, take-suc, get_or, add-one, Bor, length, Option, Some, None, refl, sym, ap, ◌∙◌, subst, eqb-true, eq-eqb}
use Rattle.std.specs.Prelude.{nat_lt, slice_get, flat_map, option_map}
use Rattle.std.specs.List.{cons_option, list_all, list_any}
use Rattle.std.proofs.lemmas.List.{length-map, map-append}
use Rattle.std.proofs.lemmas.Option.{slice_get-get_or, slice_get-map, slice_get_past}
use Rattle.cluster_routing.specs.HashSlot.{hash_slot}
use Rattle.cluster_routing.specs.Lists.{among, concat, firsts, is_distinct, is_permutation, numbers_below, IsDistinct}
use Rattle.cluster_routing.specs.Parts.{group, places_from}
use Rattle.cluster_routing.specs.Routing as routing
use Rattle.cluster_routing.specs.Routing.{route_to}
use Rattle.cluster_routing.specs.Split.{key_routes}
use Rattle.cluster_routing.specs.declared.route.Route.{Route}
use Rattle.cluster_routing.specs.declared.route.SlotAddr.{SlotAddr}
use Rattle.cluster_routing.proofs.SlotPlaces.{Covers, all_places, are_permuted, as_many_places}
use Rattle.resp_args.specs.Packed.{sent}
use Rattle.std.proofs.lemmas.Simd.{map-map}
use Rattle.stream_commands.specs.Commands as commands
use Rattle.stream_commands.specs.Commands.{plain_command}
use Rattle.stream_commands.specs.Join.{are_distinct, positions_below, share}
use Rattle.stream_commands.specs.Settings.{ReadSettings}
use Rattle.cluster_calls.specs.Calls.Call.{Stream}
use Rattle.cluster_calls.specs.Calls.Parts.{at_slot, part_to, read_part}
use Rattle.cluster_calls.specs.Calls.Reads.{key_places, stream_slots, streams_at}
use Rattle.cluster_calls.specs.Calls.Task.{stream_ids, stream_keys}
use Rattle.cluster_calls.proofs.ServerLaws.Distinct.{among-firsts, firsts_distinct}
use Rattle.cluster_calls.proofs.ServerLaws.ReadJoin.{one_on}
use Rattle.cluster_steps.specs.declared.read_parts.Stream.{Stream as CodeStream}
use Rattle.cluster_steps.specs.Reads.{found_at, lent_streams, part_at, read_places, stream_of, streams_in}

-- ---- the streams at a part's places

behind_first : (s : Stream) (streams : List Stream) (places : List ℕ) → found_at (map suc places) (s ∷ streams) ≡ found_at places streams
behind_first s streams [] = refl
behind_first s streams (p ∷ places) = ap (cons_option (slice_get streams p)) (behind_first s streams places)

found_there : (slot : ℕ) (streams : List Stream) → found_at (key_places slot streams) streams ≡ streams_at slot streams
found_there slot [] = refl
found_there slot (s ∷ streams) =
    by (slot == hash_slot s.key)
    (ap (λ ps. found_at ps (s ∷ streams)) (one_on slot 0 (map hash_slot (stream_keys streams))) ∙ behind_first s streams (key_places slot streams) ∙ found_there slot streams)
  where
    by : (b : Bool) → found_at (places_from slot 1 (map hash_slot (stream_keys streams))) (s ∷ streams) ≡ streams_at slot streams
        → found_at (cond b (0 ∷ places_from slot 1 (map hash_slot (stream_keys streams))) (places_from slot 1 (map hash_slot (stream_keys streams)))) (s ∷ streams) ≡ cond b (s ∷ streams_at slot streams) (streams_at slot streams)
    by true h = ap (λ q. s ∷ q) h
    by false h = h

found-append : (ps qs : List ℕ) (streams : List Stream) → found_at (ps ++ qs) streams ≡ found_at ps streams ++ found_at qs streams
found-append [] qs streams = refl
found-append (p ∷ ps) qs streams = by (slice_get streams p) (found-append ps qs streams)
  where
    by : (o : Option Stream) → found_at (ps ++ qs) streams ≡ found_at ps streams ++ found_at qs streams → cons_option o (found_at (ps ++ qs) streams) ≡ cons_option o (found_at ps streams) ++ found_at qs streams
    by None h = h
    by (Some s) h = ap (λ q. s ∷ q) h

-- the stream at a position
pub found_one : (streams : List CodeStream) (p : ℕ) (s : CodeStream) → p < length streams → s ≡ get_or streams p s → slice_get (streams_in streams) p ≡ Some (stream_of s)
found_one streams p s within is = slice_get-map stream_of streams p ∙ ap (option_map stream_of) (slice_get-get_or streams p s within ∙ ap (λ x. Some x) (sym is))

pub found_none : (streams : List CodeStream) (p : ℕ) → length streams ≤ p → slice_get (streams_in streams) p ≡ None
found_none streams p past = slice_get-map stream_of streams p ∙ ap (option_map stream_of) (slice_get_past streams p past)

-- one position more
pub found_more : (ps : List ℕ) (i d : ℕ) (streams : List Stream) → i < length ps → found_at (take (i + 1) ps) streams ≡ found_at (take i ps) streams ++ cons_option (slice_get streams (get_or ps i d)) []
found_more ps i d streams h = ap (λ qs. found_at qs streams) (ap (λ n. take n ps) (add-one i) ∙ take-suc ps i d h) ∙ found-append (take i ps) (get_or ps i d ∷ []) streams

-- ---- the parts

pub slots_of_keys : (streams : List Stream) → map hash_slot (stream_keys streams) ≡ map (λ (s : Stream). hash_slot s.key) streams
slots_of_keys [] = refl
slots_of_keys (s ∷ streams) = ap (λ q. hash_slot s.key ∷ q) (slots_of_keys streams)

-- the next one is listed too
pub one_listed : {A B C : Type 0} (f : A → C) (g : B → C) (xs : List A) (x : A) (b : B) (bs : List B) (all : List C) → f x ≡ g b → map f xs ++ map g (b ∷ bs) ≡ all → map f (xs ++ x ∷ []) ++ map g bs ≡ all
one_listed f g xs x b bs all same so =
    ap (λ q. q ++ map g bs) (map-append f xs (x ∷ [])) ∙ append_assoc (map f xs) (f x ∷ []) (map g bs) ∙ ap (λ c. map f xs ++ c ∷ map g bs) same ∙ so

module _ (role : SlotAddr) (streams : List Stream) where
  abbrev routes_of : List ℕ → List (Route × List ℕ)
  routes_of ks = map (routing.part_to role) (map (group (map hash_slot (stream_keys streams))) ks)

  parts_on : (options : ReadSettings) (ks : List ℕ) → map (part_at options streams) (routes_of ks) ≡ map (read_part role options streams) ks
  parts_on options [] = refl
  parts_on options (k ∷ ks) =
      ap (λ q. part_to (commands.xread options (stream_keys q) (stream_ids q)) (at_slot (route_to role k)) ∷ map (part_at options streams) (routes_of ks)) (found_there k streams)
      ∙ ap (λ ps. read_part role options streams k ∷ ps) (parts_on options ks)

  pub parts_are : (options : ReadSettings) → map (part_at options streams) (key_routes role (stream_keys streams)) ≡ map (read_part role options streams) (stream_slots streams)
  parts_are options = parts_on options (firsts nat_eq (map hash_slot (stream_keys streams))) ∙ ap (λ ss. map (read_part role options streams) (firsts nat_eq ss)) (slots_of_keys streams)

  places_on : (ks : List ℕ) → map (λ (g : Route × List ℕ). g.1) (routes_of ks) ≡ map (λ slot. key_places slot streams) ks
  places_on [] = refl
  places_on (k ∷ ks) = ap (λ q. key_places k streams ∷ q) (places_on ks)

  pub places_are : map (λ (g : Route × List ℕ). g.1) (key_routes role (stream_keys streams)) ≡ read_places streams
  places_are = places_on (firsts nat_eq (map hash_slot (stream_keys streams))) ∙ ap (λ ss. map (λ slot. key_places slot streams) (firsts nat_eq ss)) (slots_of_keys streams)

-- ---- the command of a part

pub sent_plain : (args : List (List ℕ)) → sent (plain_command args) ≡ args
sent_plain [] = refl
sent_plain (a ∷ args) = ap (λ q. a ∷ q) (sent_plain args)

pub read_lent : (options : ReadSettings) (lent : List (Bor (List ℕ) × Bor (List ℕ))) (found : List Stream) → lent_streams lent ≡ found
    → sent (plain_command (commands.xread options (map (λ s. s.0.now) lent) (map (λ s. s.1.now) lent))) ≡ commands.xread options (stream_keys found) (stream_ids found)
read_lent options lent found h =
    sent_plain (commands.xread options (map (λ s. s.0.now) lent) (map (λ s. s.1.now) lent))
    ∙ ap (λ ks. commands.xread options ks (map (λ s. s.1.now) lent)) (sym (map-map _ _ lent) ∙ ap stream_keys h)
    ∙ ap (commands.xread options (stream_keys found)) (sym (map-map _ _ lent) ∙ ap stream_ids h)

-- ---- the parts share the places

distinct_told : (xs : List ℕ) → IsDistinct nat_eq xs → is_distinct nat_eq xs ≡ true
distinct_told [] d = refl
distinct_told (x ∷ xs) d = ap (λ b. not b && is_distinct nat_eq xs) d.0 ∙ distinct_told xs d.1

or_true : (a b : Bool) → b ≡ true → (a || b) ≡ true
or_true true b h = refl
or_true false b h = h

is_among : (k i : ℕ) (ks : List ℕ) → slice_get ks i ≡ Some k → among nat_eq k ks ≡ true
is_among k i [] h = cc
is_among k zero (x ∷ ks) h = let same : x ≡ k = cc in ap (λ b. b || among nat_eq k ks) (eq-eqb k x (sym same))
is_among k (suc i) (x ∷ ks) h = or_true (nat_eq k x) (among nat_eq k ks) (is_among k i ks h)

same_numbers : (n : ℕ) → positions_below n ≡ numbers_below n
same_numbers zero = refl
same_numbers (suc n) = ap (λ q. q ++ n ∷ []) (same_numbers n)

same_test : (xs : List ℕ) → are_distinct xs ≡ is_distinct nat_eq xs
same_test [] = refl
same_test (x ∷ xs) = ap (λ b. not (list_any (nat_eq x) xs) && b) (same_test xs)

same_places : (parts : List (List ℕ)) → flat_map (λ part. part) parts ≡ concat parts
same_places [] = refl
same_places (p ∷ parts) = ap (λ q. p ++ q) (same_places parts)

permuted_share : (parts : List (List ℕ)) (n : ℕ) → share parts n ≡ is_permutation n (concat parts)
permuted_share parts n =
    ap (λ all. list_all (λ p. nat_lt p n) all && list_all (λ p. list_any (nat_eq p) all) (positions_below n) && are_distinct all) (same_places parts)
    ∙ ap (λ ns. list_all (λ p. nat_lt p n) (concat parts) && list_all (λ p. list_any (nat_eq p) (concat parts)) ns && are_distinct (concat parts)) (same_numbers n)
    ∙ ap (λ b. list_all (λ p. nat_lt p n) (concat parts) && list_all (λ p. list_any (nat_eq p) (concat parts)) (numbers_below n) && b) (same_test (concat parts))

module _ (streams : List Stream) where
  abbrev slots : List ℕ
  slots = map hash_slot (stream_keys streams)

  slots_differ : is_distinct nat_eq (stream_slots streams) ≡ true
  slots_differ = distinct_told (stream_slots streams) (firsts_distinct nat_eq (map (λ (s : Stream). hash_slot s.key) streams))

  covered : Covers (stream_slots streams) slots
  covered i k h = among-firsts nat_eq eqb-true k (map (λ (s : Stream). hash_slot s.key) streams) (subst (λ ss. among nat_eq k ss ≡ true) (slots_of_keys streams) (is_among k i slots h))

  pub places_shared : share (read_places streams) (length (stream_keys streams)) ≡ true
  places_shared =
      permuted_share (read_places streams) (length (stream_keys streams))
      ∙ ap (λ n. is_permutation n (all_places slots (stream_slots streams))) (sym (as_many_places 0 slots (stream_slots streams) slots_differ covered ∙ length-map (stream_keys streams) hash_slot))
      ∙ are_permuted slots (stream_slots streams) slots_differ covered
