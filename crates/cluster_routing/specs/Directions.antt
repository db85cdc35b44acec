-- Where a command goes: whole to its destination, in parts to the slots of its keys, or nowhere, and why (Redis
-- Cluster specification; documentation of the crate `redis`, `cluster_routing`).
use Rattle.std.specs.Prelude.{ℕ, Bool, if◌then◌else◌, List, Option, Some, None, option_and_then}
use Rattle.resp_core.specs.declared.errors.redis_error.Cause.{Cause}
use Rattle.resp_core.specs.declared.errors.redis_error.Cause.TheVariants.{BrokenTuples, CursorInSplit, NoRoute}
use Rattle.cluster_routing.specs.Command.{Args, all_bytes}
use Rattle.cluster_routing.specs.Info.{shown_split}
use Rattle.cluster_routing.specs.Routing.{Destination, to_any_node, to_route, to_all_nodes, to_all_primaries, to_some_parts, destination, destination_by, role_of}
use Rattle.cluster_routing.specs.Split.{PartsByPlace, has_split_word, parts_by_place, parts_by_role}
use Rattle.cluster_routing.specs.Table.{Rule, rule_of, split}
use Rattle.cluster_routing.specs.declared.direction.Direction.{Direction as CodeDirection}
use Rattle.cluster_routing.specs.declared.direction.Direction.TheVariants as directions
use Rattle.cluster_routing.specs.declared.route.SlotAddr.{SlotAddr}

-- where a command goes: whole, in parts, or nowhere
pub data Direction : Type 0 where
  whole : Destination → Direction
  in_parts : PartsByPlace → Direction
  nowhere_by : Cause → Direction

-- what a `Direction` stands for
abbrev pub shown_direction : CodeDirection → Direction
shown_direction (directions.Slot route) = whole (to_route route)
shown_direction directions.AnyNode = whole to_any_node
shown_direction (directions.AllNodes policy) = whole (to_all_nodes (Some policy))
shown_direction (directions.AllPrimaries policy) = whole (to_all_primaries (Some policy))
shown_direction (directions.Parts parts) = in_parts (shown_split parts)
shown_direction (directions.Nowhere cause) = nowhere_by cause

-- a command that is not split
abbrev pub whole_direction : Option Destination → Direction
whole_direction None = nowhere_by NoRoute
whole_direction (Some d) = whole d

-- one that is, by the bytes of all its arguments and by its parts: nowhere where an argument is a gap, and where
-- the last tuple is broken or there is none
abbrev pub split_direction : Option (List (List ℕ)) → Option PartsByPlace → Direction
split_direction None parts = nowhere_by CursorInSplit
split_direction (Some args) None = nowhere_by BrokenTuples
split_direction (Some args) (Some parts) = in_parts parts

-- Where a command goes under a set of names that only read: in parts where its word is split by its keys, also
-- where these have one slot.
abbrev pub direction : Args → List (List ℕ) → Direction
direction args read_only = if has_split_word args
    then split_direction (all_bytes args) (parts_by_place args read_only)
    else whole_direction (destination args read_only)

-- the same by a rule of the table
abbrev pub direction_by : SlotAddr → Args → Rule → Direction
direction_by role args (split pattern policy) = split_direction (all_bytes args)
    (option_and_then (parts_by_role role (record { pattern = pattern; policy = policy })) (all_bytes args))
direction_by role args rule = whole_direction (destination_by role args rule)

-- the same by a name, which is one word or has a second one
abbrev pub direction_of_name : List ℕ → Bool → Args → List (List ℕ) → Direction
direction_of_name name family args read_only = direction_by (role_of name read_only) args
    (rule_of name family)

-- its parts, where it goes in parts
abbrev pub parts_in : Direction → Option PartsByPlace
parts_in (in_parts parts) = Some parts
parts_in _ = None

-- its destination; in parts of one slot it goes whole to that
abbrev pub destination_in : Direction → Option Destination
destination_in (whole d) = Some d
destination_in (in_parts parts) = to_some_parts parts.splitting.pattern parts.splitting.policy parts.routes
destination_in (nowhere_by cause) = None
