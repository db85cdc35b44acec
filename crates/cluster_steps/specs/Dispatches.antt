-- Where all parts of a call go first, as the code finds it.
use Rattle.std.specs.Prelude.{◌≡◌, ◌<◌, Bool, true, false, List, [], ◌∷◌, map, length, Option, Some, None, Result, Ok, Err, Vec}
use Rattle.std.specs.declared.alloc.Global.{Global}
use Rattle.resp_core.specs.Errors.{Refusal}
use Rattle.cluster_routing.specs.Address.{Address}
use Rattle.cluster_routing.specs.Seen.{address}
use Rattle.cluster_routing.specs.Info.{texts}
use Rattle.cluster_routing.specs.Choice.{Strategy}
use Rattle.cluster_routing.specs.SlotMap.{SlotEntries}
use Rattle.cluster_steps.specs.Requests.{CodeDispatch}
use Rattle.cluster_steps.specs.declared.dispatch.Prepared.{Prepared}
use Rattle.cluster_steps.specs.declared.dispatch.Outset.{Outset}
use Rattle.cluster_steps.specs.declared.dispatch.Outset.TheVariants.{Whole, InParts}
use Rattle.cluster_routing.specs.declared.split.SplitParts.{SplitParts}
use Rattle.cluster_calls.specs.Links.World.{Settings, Node, open_links}
use Rattle.cluster_calls.specs.Links.Places.{IsOpenAt}
use Rattle.cluster_calls.specs.Calls.Parts.{Part}
use Rattle.cluster_calls.specs.Calls.Call.{Call}
use Rattle.cluster_calls.specs.Calls.Plan.{Client, Dispatch, dispatches, plan}
use Rattle.cluster_calls.specs.Calls.Picks.{ArePartPicks, ArePicks}

-- a client by its settings, its slot map and its open links
abbrev pub client_with : Settings → SlotEntries → List Node → Client
client_with settings entries all = record { settings = settings; entries = entries; links = open_links all }

-- what the code's dispatches are
abbrev pub dispatch_of : CodeDispatch → Dispatch
dispatch_of d = record { node = address d.to.node; args = texts d.args.items }

-- the code's dispatches, or why there are none
abbrev pub dispatches_of : Result (Vec CodeDispatch Global) Refusal → Result (List Dispatch) Refusal
dispatches_of (Ok ds) = Ok (map dispatch_of ds.items)
dispatches_of (Err refusal) = Err refusal

-- the picks for the parts; without a strategy there are none
abbrev pub ArePicksFor : Option Strategy → Client → List Part → List Address → Type 0
ArePicksFor None client parts picks = picks ≡ []
ArePicksFor (Some admits) client parts picks = ArePartPicks admits client parts picks

-- these are the parts' dispatches by these picks, or why there are none
pub record AreDispatched (strategy : Option Strategy) (client : Client) (parts : List Part)
    (picks : List Address) (made : Result (List Dispatch) Refusal) : Type 0 where
  pub picked : ArePicksFor strategy client parts picks
  pub planned : made ≡ dispatches client picks parts

-- a dispatch goes over the open link of its node, without ASKING
pub record IsPlaced (all : List Node) (d : CodeDispatch) : Type 0 where
  pub place : IsOpenAt all (address d.to.node) d.to.link
  pub within : d.to.link < length all
  pub direct : d.to.asking ≡ false

-- ---- a call before its first byte

-- what there is of it, as its dispatches
abbrev pub dispatches_in : Outset → List CodeDispatch
dispatches_in (Whole r) = r.dispatch ∷ []
dispatches_in (InParts p) = p.dispatches.items

-- it goes out whole
abbrev pub is_whole : Outset → Bool
is_whole (Whole r) = true
is_whole (InParts p) = false

abbrev pub split_in : Outset → Option SplitParts
split_in (Whole r) = None
split_in (InParts p) = p.split

abbrev pub prepared_by : Result Prepared Refusal → Result (List Dispatch) Refusal
prepared_by (Ok p) = Ok (map dispatch_of p.dispatches.items)
prepared_by (Err refusal) = Err refusal

abbrev pub set_out_by : Result Outset Refusal → Result (List Dispatch) Refusal
set_out_by (Ok outset) = Ok (map dispatch_of (dispatches_in outset))
set_out_by (Err refusal) = Err refusal

-- this is the plan of the call by these picks, and they are picks of the call
pub record IsPlanned (strategy : Option Strategy) (client : Client) (call : Call) (picks : List Address)
    (made : Result (List Dispatch) Refusal) : Type 0 where
  pub planned : plan client picks call ≡ made
  pub picked : ArePicks strategy client call picks
