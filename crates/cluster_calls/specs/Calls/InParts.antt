-- What goes out for each position of a pipeline that tells of each: the command itself, or the parts of a split
-- command of several slots, each a command of its own.
-- Source: the Redis Cluster specification (the keys of a request have one slot).
use Rattle.std.specs.Prelude.{ℕ, suc, Bool, false, ◌||◌, if◌then◌else◌, List, [], ◌∷◌, map, flat_map, length, is_some, Option, Some, None, Result, Ok}
use Rattle.resp_core.specs.Errors.{Refusal, at_position}
use Rattle.resp_args.specs.Packed.{sent}
use Rattle.cluster_routing.specs.Split.{Split, split_of, part_slots, sub}
use Rattle.stream_commands.specs.Commands.{plain_command}
use Rattle.cluster_calls.specs.Calls.Call.{Entry}
use Rattle.cluster_calls.specs.Calls.Parts.{Part, if_one_slot, parts_of, reads_several_slots, whole_part, pipeline_parts, unless}

-- ---- what goes out

abbrev pub if_several : Result (List Part) Refusal → Option Split → Option Split
if_several (Ok (part ∷ another ∷ parts)) split = split
if_several _ split = None

-- how a command is split; none where it goes whole
abbrev pub split_at : Entry → Option Split
split_at e = if_several (parts_of [] e.command 0) (split_of (sent e.command))

abbrev pub part_entry : Split → ℕ → Entry
part_entry s slot = record { command = plain_command (sub s slot); ignored = false }

-- the command itself, or each of its parts
abbrev pub entries_by : Entry → Option Split → List Entry
entries_by e None = e ∷ []
entries_by e (Some s) = map (part_entry s) (part_slots s.tuples)

abbrev pub in_parts : List Entry → List Entry
in_parts entries = flat_map (λ e. entries_by e (split_at e)) entries

abbrev pub splits_in : List Entry → List (Option Split)
splits_in entries = map split_at entries

-- how many parts a position has
abbrev pub part_count : Option Split → ℕ
part_count None = 1
part_count (Some s) = length (part_slots s.tuples)

-- ---- before the first byte

-- the command goes to slots: whole to one, or in parts to several
abbrev pub goes_to_slots : Entry → Bool
goes_to_slots e = is_some (split_at e)
    || is_some (if_one_slot (reads_several_slots e.command.args)
    (whole_part (sent e.command) (parts_of [] e.command 0)))

-- the position of the first command that goes to no slot
abbrev pub first_unplaced : ℕ → List Entry → Option Refusal
first_unplaced position [] = None
first_unplaced position (e ∷ es) = if goes_to_slots e then first_unplaced (suc position) es
    else Some (at_position position)

-- the parts of all positions, or the first that has none
abbrev pub position_parts : List Entry → Result (List Part) Refusal
position_parts entries = unless (first_unplaced 0 entries) (pipeline_parts 0 (in_parts entries))
