-- Which commands may stand in a transaction, and the one slot of all of them.
-- Source: the Redis documentation, "Transactions"; the Redis Cluster specification (a transaction is served
-- by one node).
use Rattle.std.specs.Prelude.{ℕ, suc, ◌==◌, Bool, true, false, ◌&&◌, ◌||◌, nat_lt, if◌then◌else◌, List, [], ◌∷◌, ◌++◌, map, Option, Some, None, Result, Ok, Err, codes}
use Rattle.resp_core.specs.Errors.{Refusal, at_position}
use Rattle.resp_args.specs.Command.{Command}
use Rattle.resp_args.specs.Packed.{sent}
use Rattle.cluster_routing.specs.Command.{Args, is_one_of, place_of}
use Rattle.cluster_routing.specs.Routing.{name_of, route_to}
use Rattle.cluster_routing.specs.declared.route.SlotAddr.TheVariants.{Master}
use Rattle.cluster_calls.specs.Links.Request.{multi, exec}
use Rattle.cluster_calls.specs.Calls.Parts.{Target, at_slot, Part, part_to, if_one_slot, parts_of, reads_several_slots, result_then, whole_part}

-- ---- which commands may stand in a transaction

-- these begin, end or guard one, or wait for what others write
abbrev pub outside_names : List (List ℕ)
outside_names = codes "MULTI" ∷ codes "EXEC" ∷ codes "DISCARD" ∷ codes "WATCH"
    ∷ codes "BLPOP" ∷ codes "BRPOP" ∷ codes "BLMOVE" ∷ codes "BLMPOP" ∷ codes "BRPOPLPUSH"
    ∷ codes "BZPOPMIN" ∷ codes "BZPOPMAX" ∷ codes "BZMPOP" ∷ []

abbrev pub read_names : List (List ℕ)
read_names = codes "XREAD" ∷ codes "XREADGROUP" ∷ []

abbrev pub is_before : Option ℕ → Option ℕ → Bool
is_before (Some one) (Some other) = nat_lt one other
is_before _ _ = false

-- BLOCK stands before STREAMS
abbrev pub names_block : Args → Bool
names_block args = is_before (place_of (codes "BLOCK") args) (place_of (codes "STREAMS") args)

abbrev pub is_outside : Option (List ℕ) → Args → Bool
is_outside None args = false
is_outside (Some name) args = is_one_of outside_names name || (is_one_of read_names name && names_block args)

-- ---- the checks before the first byte

abbrev pub target_slot : Target → Option ℕ
target_slot (at_slot route) = Some route.slot
target_slot _ = None

abbrev pub part_slot : Option Part → Option ℕ
part_slot None = None
part_slot (Some part) = target_slot part.target

-- the slot to which a command goes whole, as in pipelines
abbrev pub whole_slot : Command → Option ℕ
whole_slot command = part_slot (if_one_slot (reads_several_slots command.args)
    (whole_part (sent command) (parts_of [] command 0)))

-- none also where it has no place in a transaction
abbrev pub own_slot : Command → Option ℕ
own_slot command = if is_outside (name_of command.args) command.args then None else whole_slot command

-- whether a slot is that of the commands before, of which the first has none before it
abbrev pub agrees : Option ℕ → ℕ → Bool
agrees None slot = true
agrees (Some known) slot = known == slot

abbrev pub with_own : ℕ → Option ℕ → Option ℕ → (Option ℕ → Result (Option ℕ) Refusal)
    → Result (Option ℕ) Refusal
with_own position known None later = Err (at_position position)
with_own position known (Some slot) later = if agrees known slot then later (Some slot)
    else Err (at_position position)

-- the one slot of all commands, or the position of the first that has none or another
abbrev pub common_slot : ℕ → Option ℕ → List Command → Result (Option ℕ) Refusal
common_slot position known [] = Ok known
common_slot position known (c ∷ cs) = with_own position known (own_slot c)
    (λ slot. common_slot (suc position) slot cs)

-- ---- its parts

-- the commands by their wire arguments
abbrev pub args_of : List Command → List (List (List ℕ))
args_of commands = map sent commands

-- MULTI, the commands whole, and EXEC, all to the primary of the slot; nothing where there are no commands
abbrev pub parts_at : List (List (List ℕ)) → Option ℕ → List Part
parts_at commands None = []
parts_at commands (Some slot) = map (λ args. part_to args (at_slot (route_to Master slot)))
    (multi ∷ commands ++ exec ∷ [])

abbrev pub transaction_parts : List Command → Result (List Part) Refusal
transaction_parts commands = result_then (common_slot 0 None commands)
    (λ slot. Ok (parts_at (args_of commands) slot))
