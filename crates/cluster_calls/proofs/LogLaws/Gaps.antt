-- A command with a gap routes as the arguments that it is sent as.
use Rattle.std.proofs.Common.{◌≡◌, ℕ, zero, suc, ◌+◌, ◌<◌, ◌^◌, Bool, true, false, not, cond, List, [], ◌∷◌, map, length, Option, Some, None, option_map, refl, sym, ap, ◌∙◌, arith, codes, nat_lt, ◌%◌, ◌/◌, ◌==◌, lt-ltb, decimal}
use Rattle.std.specs.Prelude.{option_and_then, slice_get, unwrap_or}
use Rattle.std.specs.List.{position_or_len, prefix_len}
use Rattle.std.specs.Str.{str_eq_ignore_ascii_case}
use Rattle.std.specs.Fmt.{digit_glyph, digits, digits_onto}
use Rattle.resp_args.specs.Command.{Command}
use Rattle.resp_args.specs.Packed.{sent, wire}
use Rattle.resp_args.specs.declared.cmd.Arg.TheVariants.{Simple, Cursor}
use Rattle.cluster_routing.specs.Command.{Args, bytes_of, all_bytes, name_by, place_of, is_word, if_counted}
use Rattle.cluster_routing.specs.HashSlot.{hash_slot}
use Rattle.resp_core.specs.Numbers.{number_below}
use Rattle.cluster_routing.specs.Table.{Rule, split, key_after_streams, counted_key_or_random, counted_key, key_at, random, all_masters, all_nodes, nowhere, is_family, rule_of}
use Rattle.cluster_routing.specs.Routing.{Destination, to_any_node, to_route, to_key, to_key_by_count, to_counted_key, to_key_behind, to_split, role_of, destination_by, destination}
use Rattle.cluster_routing.specs.declared.route.Route.{Route}
use Rattle.cluster_routing.specs.declared.route.SlotAddr.{SlotAddr}
use Rattle.cluster_routing.proofs.SplitWords.{family_nowhere}

-- ---- arguments as they are sent

abbrev pub as_sent : ℕ → Args → Args
as_sent c args = map (λ bytes. Simple bytes) (wire c args)

bytes_stay : (c : ℕ) (args : Args) (i : ℕ) (b : List ℕ) → bytes_of (slice_get args i) ≡ Some b → bytes_of (slice_get (as_sent c args) i) ≡ Some b
bytes_stay c [] i b e = cc
bytes_stay c (Simple x ∷ args) zero b e = e
bytes_stay c (Cursor ∷ args) zero b e = cc
bytes_stay c (a ∷ args) (suc i) b e = bytes_stay c args i b e

all_stay : (c : ℕ) (args : Args) (bs : List (List ℕ)) → all_bytes args ≡ Some bs → all_bytes (as_sent c args) ≡ Some bs
all_stay c [] bs e = e
all_stay c (Cursor ∷ args) bs e = cc
all_stay c (Simple x ∷ args) bs e = by (all_bytes args) refl e (λ r f. all_stay c args r f)
  where
    by : (o : Option (List (List ℕ))) → all_bytes args ≡ o → option_map (λ rest. x ∷ rest) o ≡ Some bs → ((r : List (List ℕ)) → all_bytes args ≡ Some r → all_bytes (as_sent c args) ≡ Some r) → option_map (λ rest. x ∷ rest) (all_bytes (as_sent c args)) ≡ Some bs
    by None f g ih = cc
    by (Some r) f g ih = ap (option_map (λ rest. x ∷ rest)) (ih r f) ∙ g

key_stays : (c : ℕ) (role : SlotAddr) (args : Args) (i : ℕ) (d : Destination) → to_key role (slice_get args i) ≡ Some d → to_key role (slice_get (as_sent c args) i) ≡ Some d
key_stays c role args i d e = by (bytes_of (slice_get args i)) refl e
  where
    by : (o : Option (List ℕ)) → bytes_of (slice_get args i) ≡ o → option_map (λ bytes. to_route (record { slot = hash_slot bytes; slot_addr = role })) o ≡ Some d → to_key role (slice_get (as_sent c args) i) ≡ Some d
    by None h g = cc
    by (Some b) h g = ap (λ o. option_map (λ bytes. to_route (record { slot = hash_slot bytes; slot_addr = role })) o) (bytes_stay c args i b h) ∙ g

counted_stays : (c : ℕ) (role : SlotAddr) (elsewhere : Option Destination) (args : Args) (i : ℕ) (route : Route) → (elsewhere ≡ Some (to_route route) → ⊥)
    → to_counted_key role elsewhere (slice_get args i) (slice_get args (i + 1)) ≡ Some (to_route route) → to_counted_key role elsewhere (slice_get (as_sent c args) i) (slice_get (as_sent c args) (i + 1)) ≡ Some (to_route route)
counted_stays c role elsewhere args i route apart e = by (bytes_of (slice_get args i)) refl e
  where
    by_number : (n : Option ℕ) → to_key_by_count role elsewhere (slice_get args (i + 1)) n ≡ Some (to_route route) → to_key_by_count role elsewhere (slice_get (as_sent c args) (i + 1)) n ≡ Some (to_route route)
    by_number None g = cc
    by_number (Some zero) g = absurd (apart g)
    by_number (Some (suc n)) g = key_stays c role args (i + 1) (to_route route) g

    by : (o : Option (List ℕ)) → bytes_of (slice_get args i) ≡ o → to_key_by_count role elsewhere (slice_get args (i + 1)) (option_and_then (number_below (2 ^ 64)) o) ≡ Some (to_route route)
        → to_counted_key role elsewhere (slice_get (as_sent c args) i) (slice_get (as_sent c args) (i + 1)) ≡ Some (to_route route)
    by None h g = cc
    by (Some b) h g =
        ap (λ o. to_key_by_count role elsewhere (slice_get (as_sent c args) (i + 1)) (option_and_then (number_below (2 ^ 64)) o)) (bytes_stay c args i b h) ∙ by_number (number_below (2 ^ 64) b) g

-- ---- a number is not the word behind which the keys stand

prefix_stays : (c : ℕ) (word : List ℕ) → str_eq_ignore_ascii_case word (decimal c) ≡ false → (args : Args) → prefix_len (λ x. not (is_word word x)) (as_sent c args) ≡ prefix_len (λ x. not (is_word word x)) args
prefix_stays c word apart [] = refl
prefix_stays c word apart (Simple x ∷ args) = ap (λ n. cond (not (str_eq_ignore_ascii_case word x)) (1 + n) 0) (prefix_stays c word apart args)
prefix_stays c word apart (Cursor ∷ args) = ap (λ b. cond (not b) (1 + (prefix_len (λ x. not (is_word word x)) (as_sent c args))) 0) apart ∙ ap (λ n. 1 + n) (prefix_stays c word apart args)

length_stays : (c : ℕ) (args : Args) → length (as_sent c args) ≡ length args
length_stays c [] = refl
length_stays c (a ∷ args) = ap suc (length_stays c args)

place_stays : (c : ℕ) (word : List ℕ) → str_eq_ignore_ascii_case word (decimal c) ≡ false → (args : Args) → place_of word (as_sent c args) ≡ place_of word args
place_stays c word apart args =
    ap (λ n. option_and_then if_counted (cond (nat_lt n (length (as_sent c args))) (Some n) None)) (prefix_stays c word apart args)
    ∙ ap (λ l. option_and_then if_counted (cond (nat_lt (position_or_len (is_word word) args) l) (Some (position_or_len (is_word word) args)) None)) (length_stays c args)

-- ---- the rules

module _ (c : ℕ) (streams_apart : str_eq_ignore_ascii_case (codes "STREAMS") (decimal c) ≡ false) where
  rule_stays : (role : SlotAddr) (args : Args) (rule : Rule) (route : Route) → destination_by role args rule ≡ Some (to_route route) → destination_by role (as_sent c args) rule ≡ Some (to_route route)
  rule_stays role args (split pattern policy) route e = by (all_bytes args) refl e
    where
      by : (o : Option (List (List ℕ))) → all_bytes args ≡ o → option_and_then (to_split role pattern policy) o ≡ Some (to_route route) → option_and_then (to_split role pattern policy) (all_bytes (as_sent c args)) ≡ Some (to_route route)
      by None f g = cc
      by (Some bs) f g = ap (option_and_then (to_split role pattern policy)) (all_stay c args bs f) ∙ g
  rule_stays role args key_after_streams route e = ap (to_key_behind role (as_sent c args)) (place_stays c (codes "STREAMS") streams_apart args) ∙ by (place_of (codes "STREAMS") args) e
    where
      by : (o : Option ℕ) → to_key_behind role args o ≡ Some (to_route route) → to_key_behind role (as_sent c args) o ≡ Some (to_route route)
      by None g = cc
      by (Some place) g = key_stays c role args (place + 1) (to_route route) g
  rule_stays role args (counted_key_or_random i) route e = counted_stays c role (Some to_any_node) args i route (λ h. cc) e
  rule_stays role args (counted_key i) route e = counted_stays c role None args i route (λ h. cc) e
  rule_stays role args (key_at i) route e = key_stays c role args i (to_route route) e
  rule_stays role args random route e = cc
  rule_stays role args (all_masters policy) route e = cc
  rule_stays role args (all_nodes policy) route e = cc
  rule_stays role args nowhere route e = cc

  abbrev by_name : List (List ℕ) → Args → List ℕ → Bool → Option Destination
  by_name read_only args name family = destination_by (role_of name read_only) args (rule_of name family)

  pub destination_stays : (args : Args) (read_only : List (List ℕ)) (route : Route) → destination args read_only ≡ Some (to_route route) → destination (as_sent c args) read_only ≡ Some (to_route route)
  unfolding destination
  destination_stays [] read_only route e = cc
  destination_stays (Cursor ∷ args) read_only route e = cc
  destination_stays (Simple word ∷ args) read_only route e = by (is_family word) refl e
    where
      whole : Args
      whole = Simple word ∷ args

      second : (o : Option (List ℕ)) → is_family word ≡ true → bytes_of (slice_get whole 1) ≡ o → by_name read_only whole (name_by word true o) true ≡ Some (to_route route)
          → by_name read_only (as_sent c whole) (name_by word true (bytes_of (slice_get (as_sent c whole) 1))) true ≡ Some (to_route route)
      second None f h g = let n : None ≡ Some (to_route route) = sym (ap (destination_by (role_of word read_only) whole) (family_nowhere word f)) ∙ g in cc
      second (Some b) f h g =
          ap (λ o. by_name read_only (as_sent c whole) (name_by word true o) true) (bytes_stay c whole 1 b h)
          ∙ rule_stays (role_of (name_by word true (Some b)) read_only) whole (rule_of (name_by word true (Some b)) true) route g

      by : (b : Bool) → is_family word ≡ b → by_name read_only whole (name_by word b (bytes_of (slice_get whole 1))) b ≡ Some (to_route route)
          → by_name read_only (as_sent c whole) (name_by word b (bytes_of (slice_get (as_sent c whole) 1))) b ≡ Some (to_route route)
      by true f g = second (bytes_of (slice_get whole 1)) f refl g
      by false f g = rule_stays (role_of word read_only) whole (rule_of word false) route g

-- ---- the law

digit_apart : (d : ℕ) (ds : List ℕ) → d < 10 → str_eq_ignore_ascii_case (codes "STREAMS") ((48 + d) ∷ ds) ≡ false
digit_apart zero ds h = refl
digit_apart (suc zero) ds h = refl
digit_apart (suc (suc zero)) ds h = refl
digit_apart (suc (suc (suc zero))) ds h = refl
digit_apart (suc (suc (suc (suc zero)))) ds h = refl
digit_apart (suc (suc (suc (suc (suc zero))))) ds h = refl
digit_apart (suc (suc (suc (suc (suc (suc zero)))))) ds h = refl
digit_apart (suc (suc (suc (suc (suc (suc (suc zero))))))) ds h = refl
digit_apart (suc (suc (suc (suc (suc (suc (suc (suc zero)))))))) ds h = refl
digit_apart (suc (suc (suc (suc (suc (suc (suc (suc (suc zero))))))))) ds h = refl
digit_apart (suc (suc (suc (suc (suc (suc (suc (suc (suc (suc d)))))))))) ds h = absurd (let f : ⊥ = omega (arith, h) in f)

-- a decimal begins with a digit
record BeginsByDigit (ds : List ℕ) : Type 0 where
  digit : ℕ
  rest : List ℕ
  small : digit < 10
  are : ds ≡ (48 + digit) ∷ rest

one_digit : (n : ℕ) (acc : List ℕ) → BeginsByDigit (digit_glyph false (n % 10) ∷ acc)
one_digit n acc =
    let small : n % 10 < 10 = omega arith in
    record { digit = n % 10; rest = acc; small = small; are = ap (λ b. cond b (48 + n % 10) (87 + n % 10) ∷ acc) (lt-ltb (n % 10) 10 small) }

begins_onto : (k n : ℕ) (acc : List ℕ) → BeginsByDigit acc → BeginsByDigit (digits_onto k 10 false n acc)
begins_onto zero n acc h = h
begins_onto (suc k) n acc h = by (n / 10 == 0) (begins_onto k (n / 10) (digit_glyph false (n % 10) ∷ acc) (one_digit n acc))
  where
    by : (b : Bool) → BeginsByDigit (digits_onto k 10 false (n / 10) (digit_glyph false (n % 10) ∷ acc))
        → BeginsByDigit (cond b (digit_glyph false (n % 10) ∷ acc) (digits_onto k 10 false (n / 10) (digit_glyph false (n % 10) ∷ acc)))
    by true later = one_digit n acc
    by false later = later

begins_some : (k n : ℕ) → BeginsByDigit (digits_onto (suc k) 10 false n [])
begins_some k n = by (n / 10 == 0)
  where
    by : (b : Bool) → BeginsByDigit (cond b (digit_glyph false (n % 10) ∷ []) (digits_onto k 10 false (n / 10) (digit_glyph false (n % 10) ∷ [])))
    by true = one_digit n []
    by false = begins_onto k (n / 10) (digit_glyph false (n % 10) ∷ []) (one_digit n [])

number_apart : (c : ℕ) → str_eq_ignore_ascii_case (codes "STREAMS") (decimal c) ≡ false
unfolding digits
number_apart c = let b = begins_some 63 c in ap (str_eq_ignore_ascii_case (codes "STREAMS")) b.are ∙ digit_apart b.digit b.rest b.small

-- whatever the number for the gaps is
pub every_gap_names_no_key : (command : Command) (read_only : List (List ℕ)) (route : Route)
    → destination command.args read_only ≡ Some (to_route route) → destination (map (λ bytes. Simple bytes) (sent command)) read_only ≡ Some (to_route route)
every_gap_names_no_key command read_only route e = destination_stays (unwrap_or command.cursor 0) (number_apart (unwrap_or command.cursor 0)) command.args read_only route e
