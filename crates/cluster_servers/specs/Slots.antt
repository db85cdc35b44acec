-- The slots of a command. Source: the Redis Cluster specification, in which all keys of a request have one
-- slot, and each key has one.
use Rattle.std.specs.Prelude.{ℕ, List, [], filter_map, Option, Some, None, Result, Ok, Err}
use Rattle.resp_core.specs.Errors.{Refusal}
use Rattle.resp_args.specs.Command.{Command}
use Rattle.cluster_calls.specs.Calls.Parts.{Part, Target, at_slot, parts_of}

-- the slot that a part goes to
abbrev pub slot_at : Target → Option ℕ
slot_at (at_slot route) = Some route.slot
slot_at _ = None

abbrev pub slots_in : List Part → List ℕ
slots_in parts = filter_map (λ (part : Part). slot_at part.target) parts

abbrev pub slots_by : Result (List Part) Refusal → List ℕ
slots_by (Ok parts) = slots_in parts
slots_by (Err refusal) = []

-- the slots of a command's keys: of a split one all of them; none where its keys are not known
abbrev pub slots_of : Command → List ℕ
slots_of command = slots_by (parts_of [] command 0)
