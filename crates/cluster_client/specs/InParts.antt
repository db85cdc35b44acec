-- The parts that go out for a pipeline's commands, and how the outcomes of those of one become its.
use Rattle.std.specs.Prelude.{◌≡◌, ◌≢◌, ℕ, suc, Bool, true, false, List, [], ◌∷◌, ◌++◌, map, length, replicate, Option, Some, None, Result, Ok, Err, option_map, IfSome}
use Rattle.std.specs.List.{AllByRecursion}
use Rattle.resp_core.specs.Errors.{Refusal, at_position, by_cause}
use Rattle.resp_core.specs.declared.errors.redis_error.Cause.TheVariants.{Memory}
use Rattle.resp_args.specs.Command.{Command}
use Rattle.cluster_routing.specs.Directions.{direction, shown_direction}
use Rattle.cluster_routing.specs.declared.direction.Direction.{Direction}
use Rattle.cluster_routing.specs.Split.{Split, PartsByPlace, split_by_place}
use Rattle.cluster_calls.specs.Calls.Call.{Entry}
use Rattle.cluster_calls.specs.Calls.Parts.{Part, Target, pipeline_parts}
use Rattle.cluster_calls.specs.Calls.InParts.{entries_by, first_unplaced, goes_to_slots, in_parts, split_at, splits_in}
use Rattle.cluster_steps.specs.FirstPlaces.{part_of}
use Rattle.cluster_steps.specs.Requests.{CodePart}
use Rattle.cluster_steps.specs.Joins.{HasRoom, shown_join}
use Rattle.cluster_steps.specs.declared.join.Join.{Join}
use Rattle.cluster_client.specs.declared.pipeline.Directed.{Directed}
use Rattle.cluster_client.specs.declared.pipeline.in_parts.InParts.{InParts}

abbrev pub entry : Command → Bool → Entry
entry command ignored = record { command = command; ignored = ignored }

-- a command that is lent, as a pipeline has it
abbrev pub entry_of : Directed → Entry
entry_of d = entry d.command.now false

-- it goes where it is said to go
abbrev pub IsDirected : Directed → Type 0
IsDirected d = shown_direction d.direction.now ≡ direction d.command.now.args []

-- each command of a list goes where the direction at its place says
abbrev pub AreDirected : List Command → List Direction → Type 0
AreDirected commands directions = map shown_direction directions ≡ map (λ command. direction command.args []) commands

-- the command at a position goes to no slots, and is refused so
abbrev pub IsUnplaced : ℕ → Command → Refusal → Type 0
IsUnplaced position command refusal = (goes_to_slots (entry command false) ≡ false) × (refusal ≡ at_position position)

abbrev pub places_of : Option Split → Option PartsByPlace
places_of s = option_map (split_by_place []) s

-- the same, by where the parts of a command go and how it is split
abbrev pub if_several_targets : List Target → Option PartsByPlace → Option PartsByPlace
if_several_targets (target ∷ another ∷ targets) places = places
if_several_targets _ places = None

abbrev pub shown_joins : List (Option Join) → List (Option PartsByPlace)
shown_joins joins = map (option_map shown_join) joins

-- how the outcomes of n commands are joined; those of commands that go whole are not, and as long as no command
-- is split nothing stands for them
abbrev pub joined_by : ℕ → List (Option PartsByPlace) → List (Option PartsByPlace)
joined_by n [] = replicate n None
joined_by n joins = joins

abbrev pub joins_after : ℕ → InParts → List (Option PartsByPlace)
joins_after n p = joined_by n (shown_joins p.joins.items)

abbrev pub AreReady : List (Option Join) → Type 0
AreReady joins = AllByRecursion (λ j. IfSome j HasRoom) joins

-- these are the parts of a pipeline whose commands all go whole
abbrev pub ArePartsOf : List CodePart → List Entry → Type 0
ArePartsOf parts entries = pipeline_parts 0 entries ≡ Ok (map part_of parts)

-- the command at a position goes to slots, and stands behind the others, whole or in its parts
pub record IsAdded (position : ℕ) (command : Entry) (old new : InParts) : Type 0 where
  pub placed : goes_to_slots command ≡ true
  pub more : List Part
  pub goes : (position : ℕ) → pipeline_parts position (entries_by command (split_at command)) ≡ Ok more
  pub parts : map part_of new.parts.items ≡ map part_of old.parts.items ++ more
  pub joins : joins_after (suc position) new ≡ joins_after position old ++ places_of (split_at command) ∷ []
  pub ready : AreReady old.joins.items → AreReady new.joins.items

-- all of a pipeline's commands
pub record AreInParts (entries : List Entry) (p : InParts) : Type 0 where
  pub placed : first_unplaced 0 entries ≡ None
  pub parts : pipeline_parts 0 (in_parts entries) ≡ Ok (map part_of p.parts.items)
  pub joins : joins_after (length entries) p ≡ map places_of (splits_in entries)
  pub ready : AreReady p.joins.items

-- a pipeline's commands were cut into their parts, or the first has none
abbrev pub AreCut : List Entry → Result InParts Refusal → Type 0
AreCut entries (Ok p) = AreInParts entries p
AreCut entries (Err refusal) = refusal ≢ by_cause Memory → first_unplaced 0 entries ≡ Some refusal
