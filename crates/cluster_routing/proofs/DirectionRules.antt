-- The direction by the rule of a command's name is that of its word, its parts and its destination.
use Rattle.std.specs.List.{list_any, list_all}
use Rattle.std.specs.Prelude.{is_some, slice_get, if◌then◌else◌, option_and_then}
use Rattle.std.proofs.Common.{◌≡◌, ℕ, ◌==◌, ◌||◌, Bool, true, false, cond, not, List, [], ◌∷◌, ◌++◌, Option, Some, None, refl, sym, ap, ◌∙◌}
use Rattle.std.proofs.lemmas.Bool.{false≢true, and_parts}
use Rattle.resp_core.specs.declared.errors.redis_error.Cause.TheVariants.{NoRoute}
use Rattle.cluster_routing.specs.Command.{Args, all_bytes, bytes_of, is_one_of, name_by}
use Rattle.cluster_routing.specs.Directions.{Direction, nowhere_by, direction, direction_by, split_direction, whole_direction}
use Rattle.cluster_routing.specs.Routing.{Destination, destination, destination_by, destination_of_word, name_of_word, role_of}
use Rattle.cluster_routing.specs.Split.{PartsByPlace, Splitting, parts_by_place, parts_by_role, splitting_by, splitting_of, is_split_word}
use Rattle.cluster_routing.specs.Table.{Row, Rule, split, key_after_streams, counted_key_or_random, counted_key, key_at, random, all_masters, all_nodes, nowhere, table, is_family, rule_in, rule_of}
use Rattle.cluster_routing.specs.declared.route.SlotAddr.{SlotAddr}
use Rattle.cluster_routing.proofs.Spaces.{has_space, not_among, spaced}
use Rattle.cluster_routing.proofs.SplitWords.{family_nowhere, parts_of_word}

-- the parts of a command that may be split this way
abbrev parts_with : Args → SlotAddr → Option Splitting → Option PartsByPlace
parts_with args role s = option_and_then (λ p. option_and_then (parts_by_role role p) (all_bytes args)) s

-- where it goes: in parts where it is split
abbrev direction_with : Args → Option Splitting → Option PartsByPlace → Option Destination → Direction
direction_with args s parts d = if is_some s then split_direction (all_bytes args) parts else whole_direction d

by_rule : (role : SlotAddr) (args : Args) (rule : Rule) → direction_by role args rule ≡ direction_with args (splitting_by rule) (parts_with args role (splitting_by rule)) (destination_by role args rule)
by_rule role args (split pattern policy) = refl
by_rule role args key_after_streams = refl
by_rule role args (counted_key_or_random i) = refl
by_rule role args (counted_key i) = refl
by_rule role args (key_at i) = refl
by_rule role args random = refl
by_rule role args (all_masters policy) = refl
by_rule role args (all_nodes policy) = refl
by_rule role args nowhere = refl

-- ---- no name of a split command has a space

abbrev is_plain : Row → Bool
is_plain r = not (is_some (splitting_by r.rule)) || list_all (λ name. not (has_space name)) r.names

all_plain : list_all is_plain table ≡ true
unfolding table
all_plain = refl

no_split : (rows : List Row) (text : List ℕ) → has_space text ≡ true → list_all is_plain rows ≡ true → is_some (splitting_by (rule_in rows text nowhere)) ≡ false
no_split [] text s a = refl
no_split (r ∷ rows) text s a = by (is_some (splitting_by r.rule)) (is_one_of r.names text) refl refl both.0 (no_split rows text s both.1)
  where
    both : (is_plain r ≡ true) × (list_all is_plain rows ≡ true)
    both = and_parts (is_plain r) (list_all is_plain rows) a

    by : (splits listed : Bool) → is_some (splitting_by r.rule) ≡ splits → is_one_of r.names text ≡ listed → (not splits || list_all (λ name. not (has_space name)) r.names) ≡ true
        → is_some (splitting_by (rule_in rows text nowhere)) ≡ false → is_some (splitting_by (cond listed r.rule (rule_in rows text nowhere))) ≡ false
    by splits false e f p ih = ih
    by false true e f p ih = e
    by true true e f p ih = absurd (false≢true (sym (not_among r.names text s p) ∙ f))

-- ---- a name is split just as its word is

none_of : (s : Option Splitting) → is_some s ≡ false → s ≡ None
none_of None e = refl
none_of (Some s) e = cc

unsplit_family : (word : List ℕ) → is_family word ≡ true → splitting_by (rule_of word true) ≡ None
unsplit_family word e = ap splitting_by (family_nowhere word e)

same_split : (word : List ℕ) (family : Bool) → is_family word ≡ family → (second : Option (List ℕ)) → splitting_by (rule_of (name_by word family second) family) ≡ splitting_by (rule_of word family)
unfolding rule_of
same_split word false e second = refl
same_split word true e None = refl
same_split word true e (Some second) =
    none_of (splitting_by (rule_of (word ++ 32 ∷ second) true)) (no_split table (word ++ 32 ∷ second) (spaced word second) all_plain) ∙ sym (unsplit_family word e)

-- and has its role where it is split
same_parts : (word : List ℕ) (args : Args) (read_only : List (List ℕ)) (family : Bool) → is_family word ≡ family → (second : Option (List ℕ))
    → parts_with args (role_of (name_by word family second) read_only) (splitting_by (rule_of word family)) ≡ parts_with args (role_of word read_only) (splitting_by (rule_of word family))
same_parts word args read_only false e second = refl
same_parts word args read_only true e second =
    ap (parts_with args (role_of (name_by word true second) read_only)) (unsplit_family word e) ∙ sym (ap (parts_with args (role_of word read_only)) (unsplit_family word e))

abbrev by_first : Option (List ℕ) → Args → List (List ℕ) → Direction
by_first first args read_only = if is_split_word first then split_direction (all_bytes args) (parts_by_place args read_only)
    else whole_direction (destination_of_word first args read_only)

by_word : (word : List ℕ) (args : Args) (read_only : List (List ℕ)) → Some word ≡ bytes_of (slice_get args 0)
    → direction_by (role_of (name_of_word word args) read_only) args (rule_of (name_of_word word args) (is_family word)) ≡ by_first (Some word) args read_only
unfolding splitting_of
by_word word args read_only here =
    by_rule role args rule
    ∙ ap (λ s. direction_with args s (parts_with args role s) (destination_by role args rule)) (same_split word (is_family word) refl second)
    ∙ ap (λ parts. direction_with args (splitting_of word) parts (destination_by role args rule))
    (same_parts word args read_only (is_family word) refl second ∙ parts_of_word args read_only word here)
  where
    second : Option (List ℕ)
    second = bytes_of (slice_get args 1)

    role : SlotAddr
    role = role_of (name_of_word word args) read_only

    rule : Rule
    rule = rule_of (name_of_word word args) (is_family word)

pub no_word : (args : Args) (read_only : List (List ℕ)) → None ≡ bytes_of (slice_get args 0) → nowhere_by NoRoute ≡ direction args read_only
unfolding destination
no_word args read_only e = ap (λ o. by_first o args read_only) e

pub some_word : (word : List ℕ) (args : Args) (read_only : List (List ℕ)) → Some word ≡ bytes_of (slice_get args 0) → direction_by (role_of (name_of_word word args) read_only) args (rule_of (name_of_word word args) (is_family word))
    ≡ direction args read_only
unfolding destination
some_word word args read_only e = by_word word args read_only e ∙ ap (λ o. by_first o args read_only) e
