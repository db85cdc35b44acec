-- What the code's hops and turns are.
use Rattle.std.specs.Prelude.{◌≡◌, ◌<◌, Bool, true, false, List, length, Result, Ok, Err, Some, ⊤}
use Rattle.resp_core.specs.Errors.{Refusal}
use Rattle.resp_core.specs.Trees.{Tree}
use Rattle.resp_core.specs.View.{view}
use Rattle.cluster_routing.specs.Seen.{address}
use Rattle.cluster_steps.specs.declared.hop.Hop.{Hop as CodeHop}
use Rattle.cluster_steps.specs.declared.turn.Onward.{Onward}
use Rattle.cluster_steps.specs.declared.turn.Onward.TheVariants as onward
use Rattle.cluster_steps.specs.declared.turn.Turn.{Turn}
use Rattle.cluster_steps.specs.declared.turn.Turn.TheVariants as turns
use Rattle.cluster_calls.specs.Links.World.{Node}
use Rattle.cluster_calls.specs.Links.Places.{IsOpenAt}
use Rattle.cluster_calls.specs.Links.Log.{is_data}
use Rattle.cluster_calls.specs.Links.Reply.{sort_of}
use Rattle.cluster_calls.specs.Calls.Redirects.{Hop, Next, Stays, Lost, Goes, is_going}
use Rattle.cluster_calls.specs.Calls.Refusals.{stop_refusal}

-- what a hop of the code is, and where a reply leads
abbrev pub hop_to : CodeHop → Hop
hop_to p = record { node = address p.node; asking = p.asking }

abbrev pub next_by : Onward → Next
next_by onward.Stay = Stays
next_by onward.Lost = Lost
next_by (onward.Go p) = Goes (hop_to p)

abbrev pub goes_on : Onward → Bool
goes_on (onward.Go p) = true
goes_on _ = false

-- the hop that a reply leads to goes over an open link
abbrev pub LeadsOn : List Node → Onward → Type 0
LeadsOn nodes (onward.Go p) = IsOpenAt nodes (address p.node) p.link × (p.link < length nodes)
LeadsOn nodes _ = ⊤

-- What becomes of a reply: it is data and the answer, it refuses its part, or its request goes on.
abbrev pub TurnsBy : Next → Tree → Result Turn Refusal → Type 0
TurnsBy next tree (Ok (turns.Answered value)) = (next ≡ Stays) × (view value ≡ tree)
    × (is_data (sort_of tree) ≡ true)
TurnsBy next tree (Ok (turns.On hop)) = next ≡ Goes (hop_to hop)
TurnsBy next tree (Err refusal) = (is_going next ≡ false) × (is_data (sort_of tree) ≡ false)
    × (stop_refusal next tree ≡ Some refusal)

abbrev pub turns_on : Turn → Bool
turns_on (turns.On hop) = true
turns_on _ = false

abbrev pub TurnsOn : List Node → Turn → Type 0
TurnsOn nodes (turns.On p) = IsOpenAt nodes (address p.node) p.link × (p.link < length nodes)
TurnsOn nodes _ = ⊤
