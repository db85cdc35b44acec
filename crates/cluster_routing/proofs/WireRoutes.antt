-- Commands with gaps, and as they stand on the wire.
use Rattle.std.specs.Prelude.{slice_get, codes, decimal, nat_eq, ◌&&◌}
use Rattle.std.proofs.Common.{◌≡◌, ℕ, zero, suc, ◌+◌, ◌<◌, ◌^◌, Bool, true, false, not, ◌||◌, nat_lt, if◌then◌else◌, cond, List, [], ◌∷◌, length, map, refl, sym, ap, ◌∙◌, Option, Some, None, option_map, option_and_then, arith}
use Rattle.std.specs.List.{list_all, position_or_len}
use Rattle.std.specs.Char.{to_ascii_lowercase}
use Rattle.std.specs.Bool.{⊤}
use Rattle.std.specs.Str.{bytes_eq, str_eq_ignore_ascii_case, str_to_ascii_lowercase}
use Rattle.std.proofs.lemmas.Bool.Decides.{nat_tests}
use Rattle.std.proofs.lemmas.Slice.Eq.{bytes_eq-Decides}
use Rattle.std.proofs.lemmas.Fmt.{digits_decimal}
use Rattle.resp_args.specs.declared.cmd.Arg.{Arg}
use Rattle.resp_args.specs.declared.cmd.Arg.TheVariants.{Simple, Cursor}
use Rattle.resp_args.specs.Packed.{wire, wire_arg}
use Rattle.cluster_routing.specs.declared.route.SlotAddr.{SlotAddr}
use Rattle.cluster_routing.specs.HashSlot.{hash_slot}
use Rattle.resp_core.specs.Numbers.{is_digit, number_below}
use Rattle.cluster_routing.specs.Command.{Args, all_bytes, bytes_of, is_one_of, is_word, if_counted, name_by, place_of}
use Rattle.cluster_routing.specs.Table.{Rule, split, key_after_streams, counted_key_or_random, counted_key, key_at, random, all_masters, all_nodes, nowhere, families, is_family, rule_in, rule_of, table, other_rule}
use Rattle.cluster_routing.specs.Routing.{Destination, destination, destination_by, destination_of_name, destination_of_word, role_of, route_to, to_any_node, to_counted_key, to_key, to_key_behind, to_key_by_count, to_route, to_split}
use Rattle.cluster_routing.specs.Laws.{RoutesAsOnTheWire}
use Rattle.resp_core.proofs.TextNumbers.{own}
use Rattle.cluster_routing.proofs.LawProofs.{rule_in-lower}

-- the arguments with each gap filled
abbrev filled : ℕ → Args → Args
filled cursor args = map (λ bytes. Simple bytes) (wire cursor args)

stays : (cursor : ℕ) (args : Args) (i : ℕ) (b : List ℕ) → bytes_of (slice_get args i) ≡ Some b → bytes_of (slice_get (filled cursor args) i) ≡ Some b
stays cursor [] i b h = cc
stays cursor (Simple x ∷ args) zero b h = h
stays cursor (Cursor ∷ args) zero b h = cc
stays cursor (a ∷ args) (suc i) b h = stays cursor args i b h

no_gap : (cursor : ℕ) (args : Args) (all : List (List ℕ)) → all_bytes args ≡ Some all → filled cursor args ≡ args
no_gap cursor [] all h = refl
no_gap cursor (Cursor ∷ args) all h = cc
no_gap cursor (Simple x ∷ args) all h = by (all_bytes args) h (no_gap cursor args)
  where
    by : (o : Option (List (List ℕ))) → option_map (λ rest. x ∷ rest) o ≡ Some all → ((rest : List (List ℕ)) → o ≡ Some rest → filled cursor args ≡ args) → Simple x ∷ filled cursor args ≡ Simple x ∷ args
    by None e later = cc
    by (Some rest) e later = ap (λ xs. Simple x ∷ xs) (later rest refl)

-- a number is not the word STREAMS
no_digit : (d : ℕ) → is_digit d ≡ true → nat_eq 115 (to_ascii_lowercase d) ≡ false
no_digit d h = grind (arith, nat_tests, h)

no_word : (ds : List ℕ) → list_all is_digit ds ≡ true → str_eq_ignore_ascii_case (codes "STREAMS") ds ≡ false
no_word [] h = refl
no_word (d ∷ ds) h = by (is_digit d) refl h
  where
    by : (b : Bool) → is_digit d ≡ b → (b && list_all is_digit ds) ≡ true → str_eq_ignore_ascii_case (codes "STREAMS") (d ∷ ds) ≡ false
    by true e k = ap (λ b. b && bytes_eq (str_to_ascii_lowercase (codes "TREAMS")) (str_to_ascii_lowercase ds)) (no_digit d e)
    by false e k = cc

module _ (cursor : ℕ) (fits : cursor < 2 ^ 64) where
  same_word : (a : Arg (List ℕ)) → is_word (codes "STREAMS") (Simple (wire_arg cursor a)) ≡ is_word (codes "STREAMS") a
  same_word (Simple x) = refl
  same_word Cursor = no_word (decimal cursor) (digits_decimal own cursor fits)

  same_place : (args : Args) → position_or_len (is_word (codes "STREAMS")) (filled cursor args) ≡ position_or_len (is_word (codes "STREAMS")) args
  same_place [] = refl
  same_place (a ∷ args) =
      ap (λ b. cond (not b) (1 + position_or_len (is_word (codes "STREAMS")) (filled cursor args)) 0) (same_word a)
      ∙ ap (λ n. cond (not (is_word (codes "STREAMS") a)) (1 + n) 0) (same_place args)

  same_length : (args : Args) → length (filled cursor args) ≡ length args
  same_length [] = refl
  same_length (a ∷ args) = ap (λ n. suc n) (same_length args)

  same_streams : (args : Args) → place_of (codes "STREAMS") (filled cursor args) ≡ place_of (codes "STREAMS") args
  same_streams args =
      ap (λ n. option_and_then if_counted (cond (nat_lt n (length (filled cursor args))) (Some n) None)) (same_place args)
      ∙ ap (λ n. option_and_then if_counted (cond (nat_lt (position_or_len (is_word (codes "STREAMS")) args) n) (Some (position_or_len (is_word (codes "STREAMS")) args)) None)) (same_length args)

  -- by the rule
  module _ (role : SlotAddr) (args : Args) (to : Destination) where
    by_key : (i : ℕ) → to_key role (slice_get args i) ≡ Some to → to_key role (slice_get (filled cursor args) i) ≡ Some to
    by_key i h = by (bytes_of (slice_get args i)) refl h
      where
        by : (o : Option (List ℕ)) → bytes_of (slice_get args i) ≡ o → option_map (λ bytes. to_route (route_to role (hash_slot bytes))) o ≡ Some to → to_key role (slice_get (filled cursor args) i) ≡ Some to
        by None e k = cc
        by (Some b) e k = ap (option_map (λ bytes. to_route (route_to role (hash_slot bytes)))) (stays cursor args i b e) ∙ k

    by_count : (i : ℕ) (elsewhere : Option Destination) → to_counted_key role elsewhere (slice_get args i) (slice_get args (i + 1)) ≡ Some to
        → to_counted_key role elsewhere (slice_get (filled cursor args) i) (slice_get (filled cursor args) (i + 1)) ≡ Some to
    by_count i elsewhere h = by (bytes_of (slice_get args i)) refl h
      where
        counted : (o : Option ℕ) → to_key_by_count role elsewhere (slice_get args (i + 1)) o ≡ Some to → to_key_by_count role elsewhere (slice_get (filled cursor args) (i + 1)) o ≡ Some to
        counted None k = cc
        counted (Some zero) k = k
        counted (Some (suc n)) k = by_key (i + 1) k

        by : (o : Option (List ℕ)) → bytes_of (slice_get args i) ≡ o → to_key_by_count role elsewhere (slice_get args (i + 1)) (option_and_then (number_below (2 ^ 64)) o) ≡ Some to
            → to_counted_key role elsewhere (slice_get (filled cursor args) i) (slice_get (filled cursor args) (i + 1)) ≡ Some to
        by None e k = cc
        by (Some b) e k =
            ap (λ o. to_key_by_count role elsewhere (slice_get (filled cursor args) (i + 1)) (option_and_then (number_below (2 ^ 64)) o)) (stays cursor args i b e)
            ∙ counted (number_below (2 ^ 64) b) k

    by_place : (o : Option ℕ) → to_key_behind role args o ≡ Some to → to_key_behind role (filled cursor args) o ≡ Some to
    by_place None h = cc
    by_place (Some place) h = by_key (place + 1) h

    by_rule : (rule : Rule) → destination_by role args rule ≡ Some to → destination_by role (filled cursor args) rule ≡ Some to
    by_rule (split pattern policy) h = by (all_bytes args) refl h
      where
        by : (o : Option (List (List ℕ))) → all_bytes args ≡ o → option_and_then (to_split role pattern policy) o ≡ Some to → option_and_then (to_split role pattern policy) (all_bytes (filled cursor args)) ≡ Some to
        by None e k = cc
        by (Some all) e k = ap (λ xs. option_and_then (to_split role pattern policy) (all_bytes xs)) (no_gap cursor args all e) ∙ ap (option_and_then (to_split role pattern policy)) e ∙ k
    by_rule key_after_streams h = ap (to_key_behind role (filled cursor args)) (same_streams args) ∙ by_place (place_of (codes "STREAMS") args) h
    by_rule (counted_key_or_random i) h = by_count i (Some to_any_node) h
    by_rule (counted_key i) h = by_count i None h
    by_rule (key_at i) h = by_key i h
    by_rule random h = h
    by_rule (all_masters policy) h = h
    by_rule (all_nodes policy) h = h
    by_rule nowhere h = h

-- a family's word alone goes nowhere
abbrev Each : (List ℕ → Type 0) → List (List ℕ) → Type 0
Each P [] = ⊤
Each P (w ∷ ws) = P w × Each P ws

one_of : (P : List ℕ → Type 0) (word : List ℕ) → ((w : List ℕ) → str_to_ascii_lowercase w ≡ str_to_ascii_lowercase word → P w → P word) → (ws : List (List ℕ)) → Each P ws → is_one_of ws word ≡ true → P word
one_of P word carry [] each h = cc
one_of P word carry (w ∷ ws) each h = by (str_eq_ignore_ascii_case w word) refl h (one_of P word carry ws each.1)
  where
    by : (b : Bool) → str_eq_ignore_ascii_case w word ≡ b → (b || is_one_of ws word) ≡ true → (is_one_of ws word ≡ true → P word) → P word
    by true e k later = carry w ((bytes_eq-Decides (str_to_ascii_lowercase w) (str_to_ascii_lowercase word)).0 e) each.0
    by false e k later = later k

alone : (word : List ℕ) → is_family word ≡ true → rule_of word true ≡ nowhere
unfolding rule_of table
alone word h =
    one_of (λ w. rule_in table w (other_rule true) ≡ nowhere) word (λ w e k. rule_in-lower table word w (other_rule true) (sym e) ∙ k) families
    (refl, (refl, (refl, (refl, (refl, (refl, (refl, (refl, (refl, (refl, (refl, (refl, (refl, tt))))))))))))) h

pub routes_as_on_the_wire : RoutesAsOnTheWire
unfolding destination
routes_as_on_the_wire args cursor read_only to fits h = by_word (bytes_of (slice_get args 0)) refl h
  where
    by_name : (word : List ℕ) (family : Bool) (second : Option (List ℕ)) → is_family word ≡ family → bytes_of (slice_get args 1) ≡ second
        → destination_of_name (name_by word family second) family args read_only ≡ Some to
        → destination_of_name (name_by word family (bytes_of (slice_get (filled cursor args) 1))) family (filled cursor args) read_only ≡ Some to
    by_name word false second f e k = by_rule cursor fits (role_of word read_only) args to (rule_of word false) k
    by_name word true None f e k = let n : destination_by (role_of word read_only) args (rule_of word true) ≡ None = ap (destination_by (role_of word read_only) args) (alone word f) in cc
    by_name word true (Some second) f e k =
        ap (λ o. destination_of_name (name_by word true o) true (filled cursor args) read_only) (stays cursor args 1 second e)
        ∙ by_rule cursor fits (role_of (name_by word true (Some second)) read_only) args to (rule_of (name_by word true (Some second)) true) k

    by_word : (o : Option (List ℕ)) → bytes_of (slice_get args 0) ≡ o → destination_of_word o args read_only ≡ Some to → destination_of_word (bytes_of (slice_get (filled cursor args) 0)) (filled cursor args) read_only ≡ Some to
    by_word None e k = cc
    by_word (Some word) e k = ap (λ o. destination_of_word o (filled cursor args) read_only) (stays cursor args 0 word e) ∙ by_name word (is_family word) (bytes_of (slice_get args 1)) refl refl k
