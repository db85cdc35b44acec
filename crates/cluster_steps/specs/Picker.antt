-- A strategy with what it picked, as the code has it.
use Rattle.std.specs.Prelude.{List, Option}
use Rattle.std.specs.Borrow.{Bor}
use Rattle.cluster_routing.specs.Address.{Address}
use Rattle.cluster_routing.specs.Choice.{Strategy, strategy_of}
use Rattle.cluster_routing.specs.Seen.{addresses}
use Rattle.cluster_routing.specs.SlotMap.{SlotEntries}
use Rattle.cluster_calls.specs.Calls.Parts.{Target}
use Rattle.cluster_calls.specs.Calls.Plan.{First}
use Rattle.cluster_steps.specs.FirstPlaces.{FindsFirst}
use Rattle.cluster_steps.specs.declared.picker.Picker.{Picker}

-- what may be picked
abbrev pub strategy_in : {S : Type 0} → (S → Strategy) → Picker (Bor S) → Option Strategy
strategy_in admits picker = strategy_of admits picker.strategy

-- what was picked
abbrev pub picked_by : {S : Type 0} → Picker S → List Address
picked_by picker = addresses picker.picked.items

-- where a target leads, by picks that stand behind those that were made before
abbrev pub FindsBy : {S : Type 0} → (S → Strategy) → Picker (Bor S) → Picker (Bor S) → SlotEntries → Target
    → (Option First → Type 0) → Type 0
FindsBy admits old new entries target Leads =
    FindsFirst (strategy_in admits old) entries target (picked_by old) (picked_by new) Leads
