-- Where the parts of a command go is told by its direction.
use Rattle.std.specs.List.{list_any}
use Rattle.std.specs.Prelude.{if◌then◌else◌, is_some, option_and_then}
use Rattle.std.proofs.Common.{◌≡◌, ◌≢◌, ℕ, Bool, true, false, List, [], ◌∷◌, map, Option, Some, None, Ok, option_map, refl, sym, ap, ◌∙◌}
use Rattle.resp_core.specs.declared.errors.redis_error.Cause.{Cause}
use Rattle.resp_core.specs.declared.errors.redis_error.Cause.TheVariants.{BrokenTuples, CursorInSplit, NoRoute}
use Rattle.resp_args.specs.Command.{Command}
use Rattle.resp_args.specs.Packed.{sent}
use Rattle.resp_args.specs.declared.cmd.Arg.TheVariants.{Simple, Cursor}
use Rattle.cluster_routing.specs.Command.{Args, all_bytes}
use Rattle.cluster_routing.specs.Directions.{Direction, direction, in_parts, nowhere_by, parts_in, split_direction, whole, whole_direction}
use Rattle.cluster_routing.specs.Info.{shown_split}
use Rattle.cluster_routing.specs.Routing.{Destination, to_any_node, to_any_primary, to_route, to_address, to_all_nodes, to_all_primaries, to_parts, destination}
use Rattle.cluster_routing.specs.Split.{PartsByPlace, has_split_word, parts_by_place, split_by_place, split_of}
use Rattle.cluster_routing.specs.declared.split.SplitParts.{SplitParts}
use Rattle.cluster_routing.proofs.DirectionViews.{split_word}
use Rattle.cluster_calls.specs.Calls.Parts.{Target, at_number, at_slot, is_gap, only_part, part_to, parts_of}
use Rattle.cluster_steps.specs.CodeParts.{part_targets, routed_at, routed_part, targets_in_direction}
use Rattle.cluster_steps.proofs.SplitCommands.{all_of, broken, gapped, parted, targets_parted}

of_whole : (args : List (List ℕ)) (number : ℕ) (d : Option Destination) → targets_in_direction number (whole_direction d) ≡ part_targets (only_part args number d)
of_whole args number None = refl
of_whole args number (Some to_any_node) = refl
of_whole args number (Some to_any_primary) = refl
of_whole args number (Some (to_route route)) = refl
of_whole args number (Some (to_address address)) = refl
of_whole args number (Some (to_all_nodes policy)) = refl
of_whole args number (Some (to_all_primaries policy)) = refl
of_whole args number (Some (to_parts parts pattern policy)) = refl

-- one gap, and there are no bytes of all arguments
none_of : (args : Args) → list_any is_gap args ≡ true → all_bytes args ≡ None
none_of [] g = cc
none_of (Simple bytes ∷ args) g = ap (option_map (λ rest. bytes ∷ rest)) (none_of args g)
none_of (Cursor ∷ args) g = refl

-- ---- whether its word is split by its keys

abbrev goes_in_parts : Direction → Bool
goes_in_parts (in_parts parts) = true
goes_in_parts _ = false

-- the code splits a command just where it goes in parts
pub split_told : (d : Direction) (o : Option SplitParts) → option_map shown_split o ≡ parts_in d → is_some o ≡ goes_in_parts d
split_told (whole to) None e = refl
split_told (whole to) (Some split) e = cc
split_told (in_parts parts) None e = cc
split_told (in_parts parts) (Some split) e = refl
split_told (nowhere_by cause) None e = refl
split_told (nowhere_by cause) (Some split) e = cc

-- a command whose way is told has a word that is split just where it goes in parts
pub split_by_way : (args : Args) (read_only : List (List ℕ)) (d : Direction) → ((cause : Cause) → d ≢ nowhere_by cause) → d ≡ direction args read_only → goes_in_parts d ≡ has_split_word args
split_by_way args read_only d some e = by (has_split_word args) e
  where
    of_whole_one : (o : Option Destination) → d ≡ whole_direction o → goes_in_parts d ≡ false
    of_whole_one None k = absurd (some NoRoute k)
    of_whole_one (Some one) k = ap goes_in_parts k

    of_parts : (bytes : Option (List (List ℕ))) (parts : Option PartsByPlace) → d ≡ split_direction bytes parts → goes_in_parts d ≡ true
    of_parts None parts k = absurd (some CursorInSplit k)
    of_parts (Some bytes) None k = absurd (some BrokenTuples k)
    of_parts (Some bytes) (Some parts) k = ap goes_in_parts k

    by : (b : Bool) → d ≡ (if b then split_direction (all_bytes args) (parts_by_place args read_only) else whole_direction (destination args read_only)) → goes_in_parts d ≡ b
    by true k = of_parts (all_bytes args) (parts_by_place args read_only) k
    by false k = of_whole_one (destination args read_only) k

-- ---- where they go

module _ (command : Command) (read_only : List (List ℕ)) (number : ℕ) (response : command.no_response ≡ false) where
  of_split : has_split_word command.args ≡ true → (g : Bool) → list_any is_gap command.args ≡ g → targets_in_direction number (split_direction (all_bytes command.args) (parts_by_place command.args read_only)) ≡ part_targets (parts_of read_only command number)
  of_split word true g =
      ap (λ bytes. targets_in_direction number (split_direction bytes (parts_by_place command.args read_only))) (none_of command.args g)
      ∙ sym (ap part_targets (gapped read_only command response word number g))
  of_split word false g =
      let all : all_bytes command.args ≡ Some (sent command) = all_of _ command.args g in
      ap (λ bytes. targets_in_direction number (split_direction bytes (parts_by_place command.args read_only))) all ∙ by (parts_by_place command.args read_only) refl
    where
      by : (parts : Option PartsByPlace) → parts_by_place command.args read_only ≡ parts → targets_in_direction number (split_direction (Some (sent command)) parts) ≡ part_targets (parts_of read_only command number)
      by None e = sym (ap part_targets (broken read_only command response word number g (sym e)))
      by (Some made) e = sym (targets_parted read_only command response word number g made (sym e))

  pub targets_are : targets_in_direction number (direction command.args read_only) ≡ part_targets (parts_of read_only command number)
  targets_are = by (has_split_word command.args) refl
    where
      by : (b : Bool) → has_split_word command.args ≡ b → targets_in_direction number (if b then split_direction (all_bytes command.args) (parts_by_place command.args read_only) else whole_direction (destination command.args read_only)) ≡ part_targets (parts_of read_only command number)
      by true e = of_split e (list_any is_gap command.args) refl
      by false e = of_whole (sent command) number (destination command.args read_only) ∙ sym (ap part_targets (rw (response, e) refl))

  -- a command that goes whole is its one part
  pub whole_part_is : (t : Target) → has_split_word command.args ≡ false → Ok (t ∷ []) ≡ part_targets (parts_of read_only command number) → parts_of read_only command number ≡ Ok (part_to (sent command) t ∷ [])
  whole_part_is t word e =
      let only : parts_of read_only command number ≡ only_part (sent command) number (destination command.args read_only) = rw (response, word) refl in
      only ∙ by (destination command.args read_only) (e ∙ ap part_targets only)
    where
      by : (d : Option Destination) → Ok (t ∷ []) ≡ part_targets (only_part (sent command) number d) → only_part (sent command) number d ≡ Ok (part_to (sent command) t ∷ [])
      by None k = cc
      by (Some to_any_node) k = let same : at_number number ≡ t = cc in ap (λ x. Ok (part_to (sent command) x ∷ [])) same
      by (Some to_any_primary) k = cc
      by (Some (to_route route)) k = let same : at_slot route ≡ t = cc in ap (λ x. Ok (part_to (sent command) x ∷ [])) same
      by (Some (to_address address)) k = cc
      by (Some (to_all_nodes policy)) k = cc
      by (Some (to_all_primaries policy)) k = cc
      by (Some (to_parts parts pattern policy)) k = cc

-- a command that has parts is cut up
pub parts_are : (command : Command) (read_only : List (List ℕ)) (number : ℕ) → command.no_response ≡ false → (made : PartsByPlace) → Some made ≡ parts_by_place command.args read_only
    → parts_of read_only command number ≡ Ok (map routed_part (map (routed_at command.args) made.routes))
parts_are command read_only number response made e = by (list_any is_gap command.args) refl
  where
    by : (g : Bool) → list_any is_gap command.args ≡ g → parts_of read_only command number ≡ Ok (map routed_part (map (routed_at command.args) made.routes))
    by true g =
        let none : Some made ≡ None = e ∙ ap (λ o. option_map (split_by_place read_only) (option_and_then split_of o)) (none_of command.args g) in
        cc
    by false g = parted read_only command response (split_word read_only command.args made e) number g made e
