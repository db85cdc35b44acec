-- The parts of a command whose word is split by its keys, as the code finds them.
use Rattle.std.specs.List.{list_any}
use Rattle.std.proofs.Common.{◌≡◌, ℕ, true, false, List, [], ◌∷◌, map, Option, Some, None, option_map, option_and_then, refl, sym, ap, ◌∙◌, Ok, Err}
use Rattle.resp_core.specs.Errors.{by_cause}
use Rattle.resp_core.specs.declared.errors.redis_error.Cause.TheVariants.{BrokenTuples, CursorInSplit}
use Rattle.resp_args.specs.Command.{Command}
use Rattle.resp_args.specs.Packed.{sent, wire}
use Rattle.resp_args.specs.declared.cmd.Arg.TheVariants.{Simple, Cursor}
use Rattle.cluster_routing.specs.Command.{Args, all_bytes}
use Rattle.cluster_routing.specs.Routing.{name_of, role_of, route_to}
use Rattle.cluster_routing.specs.Split.{Split, PartsByPlace, cut, split_of, has_split_word, part_slots, part_places, split_by_place, parts_by_place}
use Rattle.cluster_routing.specs.declared.route.Route.{Route}
use Rattle.cluster_routing.specs.declared.route.SlotAddr.{SlotAddr}
use Rattle.cluster_routing.proofs.SplitWords.{split_words_are_names}
use Rattle.cluster_routing.proofs.PartPlaces.{subs_are_at_their_places}
use Rattle.cluster_calls.specs.Calls.Parts.{Part, at_slot, is_gap, role_by, slot_part, split_parts, parts_of}
use Rattle.cluster_steps.specs.CodeParts.{part_targets, route_target, routed_at, routed_part}

-- ---- arguments without a gap

pub all_of : (cursor : ℕ) (args : Args) → list_any is_gap args ≡ false → all_bytes args ≡ Some (wire cursor args)
all_of cursor [] e = refl
all_of cursor (Simple bytes ∷ args) e = ap (option_map (λ rest. bytes ∷ rest)) (all_of cursor args e)
all_of cursor (Cursor ∷ args) e = cc

-- ---- a command that is cut

module _ (read_only : List (List ℕ)) (command : Command) (g : list_any is_gap command.args ≡ false) (split : Split) (s : split_of (sent command) ≡ Some split) where
  abbrev role : SlotAddr
  role = role_by (name_of command.args) read_only

  named : role ≡ role_of split.word read_only
  named = ap (λ name. role_by name read_only) (split_words_are_names command.args (sent command) split (all_of _ command.args g) s)

  abbrev route_at : ℕ → Route × List ℕ
  route_at slot = (route_to (role_of split.word read_only) slot, part_places slot split.tuples)

  one : (slot : ℕ) → routed_part (routed_at command.args (route_at slot)) ≡ slot_part role split slot
  one slot = rw (named, subs_are_at_their_places command.args (sent command) split slot (all_of _ command.args g) s) refl

  every : (slots : List ℕ) → map routed_part (map (routed_at command.args) (map route_at slots)) ≡ map (slot_part role split) slots
  every [] = refl
  every (slot ∷ slots) = rw (one slot, every slots) refl

-- where the parts of a command that is cut go
targets_at : (args : Args) (routes : List (Route × List ℕ)) → map (λ (part : Part). part.target) (map routed_part (map (routed_at args) routes)) ≡ map route_target routes
targets_at args [] = refl
targets_at args (r ∷ routes) = ap (λ ts. at_slot r.0 ∷ ts) (targets_at args routes)

-- ---- a command of a split word

pub cut_bytes : (read_only : List (List ℕ)) (command : Command) → list_any is_gap command.args ≡ false → parts_by_place command.args read_only ≡ option_map (split_by_place read_only) (split_of (sent command))
cut_bytes read_only command g = ap (λ o. option_map (split_by_place read_only) (option_and_then split_of o)) (all_of _ command.args g)

module _ (read_only : List (List ℕ)) (command : Command) (response : command.no_response ≡ false) (word : has_split_word command.args ≡ true) (number : ℕ) where
  pub gapped : list_any is_gap command.args ≡ true → parts_of read_only command number ≡ Err (by_cause CursorInSplit)
  gapped g = rw (response, word, g) refl

  cut_up : list_any is_gap command.args ≡ false → parts_of read_only command number ≡ split_parts (role_by (name_of command.args) read_only) (split_of (sent command))
  cut_up g = rw (response, word, g) refl

  pub broken : list_any is_gap command.args ≡ false → None ≡ parts_by_place command.args read_only → parts_of read_only command number ≡ Err (by_cause BrokenTuples)
  broken g e = by (split_of (sent command)) refl (e ∙ cut_bytes read_only command g)
    where
      by : (o : Option Split) → split_of (sent command) ≡ o → None ≡ option_map (split_by_place read_only) o → parts_of read_only command number ≡ Err (by_cause BrokenTuples)
      by None s k = cut_up g ∙ ap (split_parts (role_by (name_of command.args) read_only)) s
      by (Some split) s k = cc

  pub parted : list_any is_gap command.args ≡ false → (made : PartsByPlace) → Some made ≡ parts_by_place command.args read_only
      → parts_of read_only command number ≡ Ok (map routed_part (map (routed_at command.args) made.routes))
  parted g made e = by (split_of (sent command)) refl (e ∙ cut_bytes read_only command g)
    where
      by : (o : Option Split) → split_of (sent command) ≡ o → Some made ≡ option_map (split_by_place read_only) o → parts_of read_only command number ≡ Ok (map routed_part (map (routed_at command.args) made.routes))
      by None s k = cc
      by (Some split) s k =
          let same : made ≡ split_by_place read_only split = cc in
          rw same (cut_up g ∙ ap (split_parts (role_by (name_of command.args) read_only)) s ∙ ap (λ ps. Ok ps) (sym (every read_only command g split s (part_slots split.tuples))))

  pub targets_parted : list_any is_gap command.args ≡ false → (made : PartsByPlace) → Some made ≡ parts_by_place command.args read_only → part_targets (parts_of read_only command number) ≡ Ok (map route_target made.routes)
  targets_parted g made e = ap part_targets (parted g made e) ∙ ap (λ ts. Ok ts) (targets_at command.args made.routes)
