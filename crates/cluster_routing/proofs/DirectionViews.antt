-- The parts and the destination of a command are those of its direction.
use Rattle.std.specs.Prelude.{is_some, slice_get, if◌then◌else◌, drop, option_and_then}
use Rattle.std.proofs.Common.{◌≡◌, ℕ, Bool, true, false, List, [], ◌∷◌, Option, Some, None, option_map, refl, sym, ap, ◌∙◌}
use Rattle.resp_args.specs.declared.cmd.Arg.TheVariants.{Simple, Cursor}
use Rattle.cluster_routing.specs.Command.{Args, all_bytes, bytes_of}
use Rattle.cluster_routing.specs.Directions.{Direction, destination_in, direction, parts_in, split_direction, whole_direction}
use Rattle.cluster_routing.specs.Parts.{Tuple}
use Rattle.cluster_routing.specs.Routing.{Destination, destination, destination_by, destination_of_word, name_of_word, role_of, to_some_parts, to_split, to_tuples}
use Rattle.cluster_routing.specs.Split.{IsOwnSplitting, PartsByPlace, Splitting, cut, has_split_word, is_split_word, parts_by_place, parts_by_role, parts_with_routes, shared_in, shared_with, split_by_place, split_of, splitting_of, tuple_routes, with_tuples, shared_by}
use Rattle.cluster_routing.specs.Command.{texts_in}
use Rattle.cluster_routing.specs.Table.{split, rule_of, is_family}
use Rattle.cluster_routing.specs.declared.route.Route.{Route}
use Rattle.cluster_routing.specs.declared.route.SlotAddr.{SlotAddr}
use Rattle.cluster_routing.proofs.SplitWords.{parts_of_word, rule_is}

-- ---- how a command of a split word is split

abbrev first_splitting : Args → Option Splitting
first_splitting args = option_and_then splitting_of (bytes_of (slice_get args 0))

is_some_of : (args : Args) → has_split_word args ≡ is_some (first_splitting args)
is_some_of args = by (bytes_of (slice_get args 0))
  where
    by : (o : Option (List ℕ)) → is_split_word o ≡ is_some (option_and_then splitting_of o)
    by None = refl
    by (Some word) = refl

-- ---- parts

-- a command of another word has none
pub unsplit : (read_only : List (List ℕ)) (args : Args) → has_split_word args ≡ false → None ≡ parts_by_place args read_only
unsplit read_only [] e = refl
unsplit read_only (Cursor ∷ args) e = refl
unsplit read_only (Simple word ∷ args) e = by (all_bytes args)
  where
    at : (rest : List (List ℕ)) (o : Option Splitting) → is_some o ≡ false → None ≡ option_map (split_by_place read_only) (option_and_then (λ (p : Splitting). with_tuples word p (shared_by p.pattern rest) (cut p.pattern rest)) o)
    at rest None k = refl
    at rest (Some p) k = cc

    by : (o : Option (List (List ℕ))) → None ≡ option_map (split_by_place read_only) (option_and_then split_of (option_map (λ rest. word ∷ rest) o))
    by None = refl
    by (Some rest) = at rest (splitting_of word) e

-- the parts of any other command are told by how its own word is split
pub own_splitting : (read_only : List (List ℕ)) (args : Args) (made : PartsByPlace) → Some made ≡ parts_by_place args read_only → IsOwnSplitting args made.splitting
own_splitting read_only [] made e = cc
own_splitting read_only (Cursor ∷ args) made e = cc
own_splitting read_only (Simple word ∷ args) made e = by (all_bytes args) e
  where
    at : (rest : List (List ℕ)) (p : Splitting) (o : Option (List Tuple)) → Some made ≡ option_map (split_by_place read_only) (with_tuples word p (shared_by p.pattern rest) o) → p ≡ made.splitting
    at rest p None k = cc
    at rest p (Some []) k = cc
    at rest p (Some (t ∷ ts)) k =
        let same : made ≡ split_by_place read_only (record { word = word; splitting = p; tuples = t ∷ ts; shared = shared_by p.pattern rest }) = cc in
        sym (ap (λ (m : PartsByPlace). m.splitting) same)

    of_word : (rest : List (List ℕ)) (o : Option Splitting) → Some made ≡ option_map (split_by_place read_only) (option_and_then (λ (p : Splitting). with_tuples word p (shared_by p.pattern rest) (cut p.pattern rest)) o) → o ≡ Some made.splitting
    of_word rest None k = cc
    of_word rest (Some p) k = ap (λ q. Some q) (at rest p (cut p.pattern rest) k)

    by : (o : Option (List (List ℕ))) → Some made ≡ option_map (split_by_place read_only) (option_and_then split_of (option_map (λ rest. word ∷ rest) o)) → splitting_of word ≡ Some made.splitting
    by None k = cc
    by (Some rest) k = of_word rest (splitting_of word) k

pub split_word : (read_only : List (List ℕ)) (args : Args) (made : PartsByPlace) → Some made ≡ parts_by_place args read_only → has_split_word args ≡ true
split_word read_only args made e = by (has_split_word args) refl
  where
    by : (b : Bool) → has_split_word args ≡ b → b ≡ true
    by true f = refl
    by false f = let bad : Some made ≡ None = e ∙ sym (unsplit read_only args f) in cc

no_parts_whole : (d : Option Destination) → parts_in (whole_direction d) ≡ None
no_parts_whole None = refl
no_parts_whole (Some d) = refl

pub parts_of_direction : (args : Args) (read_only : List (List ℕ)) → parts_in (direction args read_only) ≡ parts_by_place args read_only
parts_of_direction args read_only = by (has_split_word args) refl
  where
    in_split : (bytes : Option (List (List ℕ))) → all_bytes args ≡ bytes → parts_in (split_direction bytes (parts_by_place args read_only)) ≡ parts_by_place args read_only
    in_split None e = sym (ap (λ o. option_map (split_by_place read_only) (option_and_then split_of o)) e)
    in_split (Some bytes) e = at (parts_by_place args read_only)
      where
        at : (parts : Option PartsByPlace) → parts_in (split_direction (Some bytes) parts) ≡ parts
        at None = refl
        at (Some parts) = refl

    by : (b : Bool) → has_split_word args ≡ b → parts_in (if b then split_direction (all_bytes args) (parts_by_place args read_only) else whole_direction (destination args read_only)) ≡ parts_by_place args read_only
    by true e = in_split (all_bytes args) refl
    by false e = no_parts_whole (destination args read_only) ∙ unsplit read_only args e

-- ---- the destination

whole_destination : (d : Option Destination) → destination_in (whole_direction d) ≡ d
whole_destination None = refl
whole_destination (Some d) = refl

-- of parts by all arguments
split_destination : (role : SlotAddr) (p : Splitting) (bytes : Option (List (List ℕ))) → destination_in (split_direction bytes (option_and_then (parts_by_role role p) bytes)) ≡ option_and_then (to_split role p.pattern p.policy) bytes
split_destination role p None = refl
split_destination role p (Some bytes) = by (cut p.pattern (drop 1 bytes))
  where
    at : (routes : List (Route × List ℕ)) → destination_in (split_direction (Some bytes) (parts_with_routes p routes)) ≡ to_some_parts p.pattern p.policy routes
    at [] = refl
    at (r ∷ rs) = refl

    by : (o : Option (List Tuple)) → destination_in (split_direction (Some bytes) (option_and_then (λ tuples. parts_with_routes p (tuple_routes role tuples)) o)) ≡ to_tuples role p.pattern p.policy o
    by None = refl
    by (Some tuples) = at (tuple_routes role tuples)

destination_of_split : (args : Args) (read_only : List (List ℕ)) (word : List ℕ) (p : Splitting) → bytes_of (slice_get args 0) ≡ Some word → splitting_of word ≡ Some p
    → destination_in (split_direction (all_bytes args) (parts_by_place args read_only)) ≡ destination args read_only
unfolding destination
destination_of_split args read_only word p here s =
    ap (λ parts. destination_in (split_direction (all_bytes args) parts)) (sym (parts_of_word args read_only word (sym here)) ∙ ap (option_and_then (λ q. option_and_then (parts_by_role (role_of word read_only) q) (all_bytes args))) s)
    ∙ split_destination (role_of word read_only) p (all_bytes args)
    ∙ sym (ap (λ first. destination_of_word first args read_only) here ∙ named)
  where
    rule : (is_family word ≡ false) × (rule_of word false ≡ split p.pattern p.policy)
    rule = rule_is word p s

    named : destination_of_word (Some word) args read_only ≡ option_and_then (to_split (role_of word read_only) p.pattern p.policy) (all_bytes args)
    named = rw (rule.0, rule.1) refl

pub destination_of_direction : (args : Args) (read_only : List (List ℕ)) → destination_in (direction args read_only) ≡ destination args read_only
destination_of_direction args read_only = by (has_split_word args) refl
  where
    at : (first : Option (List ℕ)) → bytes_of (slice_get args 0) ≡ first → is_split_word first ≡ true → destination_in (split_direction (all_bytes args) (parts_by_place args read_only)) ≡ destination args read_only
    at None here e = cc
    at (Some word) here e = as_is (splitting_of word) refl e
      where
        as_is : (o : Option Splitting) → splitting_of word ≡ o → is_some o ≡ true → destination_in (split_direction (all_bytes args) (parts_by_place args read_only)) ≡ destination args read_only
        as_is None s k = cc
        as_is (Some p) s k = destination_of_split args read_only word p here s

    by : (b : Bool) → has_split_word args ≡ b → destination_in (if b then split_direction (all_bytes args) (parts_by_place args read_only) else whole_direction (destination args read_only)) ≡ destination args read_only
    by true e = at (bytes_of (slice_get args 0)) refl e
    by false e = whole_destination (destination args read_only)

-- ---- the argument that the parts share

pub shared_by_own : (args : Args) (s : Splitting) → IsOwnSplitting args s → shared_with s.pattern (texts_in args) ≡ shared_in (texts_in args)
shared_by_own [] s own = refl
shared_by_own (Cursor ∷ args) s own = cc
shared_by_own (Simple word ∷ args) s own = rw own refl

-- where the direction is known, so is the destination
pub destination_told : (d : Direction) (args : Args) (read_only : List (List ℕ)) → d ≡ direction args read_only → destination_in d ≡ destination args read_only
destination_told d args read_only e = ap destination_in e ∙ destination_of_direction args read_only
