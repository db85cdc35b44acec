-- The picks of a call: what a strategy for reads answered, one for each read part with replicas, in order of
-- first appearance. Source: documentation of the crate `redis`, read routing strategies.
use Rattle.std.specs.Prelude.{◌≡◌, List, [], ◌∷◌, Option, Some, None, Result, Ok, Err, MatchOption, MatchBool, ⊤}
use Rattle.resp_core.specs.Errors.{Refusal}
use Rattle.cluster_routing.specs.Address.{Address}
use Rattle.cluster_routing.specs.Candidates.{Candidates}
use Rattle.cluster_routing.specs.Choice.{Strategy, IsAdmitted}
use Rattle.cluster_calls.specs.Links.World.{is_linked}
use Rattle.cluster_calls.specs.Calls.Call.{Call}
use Rattle.cluster_calls.specs.Calls.Parts.{Part}
use Rattle.cluster_calls.specs.Calls.Plan.{Client, First, target_candidates, first_of, call_parts}

-- where the strategy is asked, the next pick is one that it admits
abbrev pub IsPick : Strategy → Option Candidates → List Address → Type 0
IsPick admits None picks = ⊤
IsPick admits (Some candidates) [] = ⊥
IsPick admits (Some candidates) (pick ∷ picks) = IsAdmitted admits candidates pick

-- the picks for the parts, up to and with the first part that no open link serves
abbrev pub ArePartPicks : Strategy → Client → List Part → List Address → Type 0
ArePartPicks admits client [] picks = picks ≡ []
ArePartPicks admits client (part ∷ parts) picks =
    IsPick admits (target_candidates client.entries part.target) picks
    × MatchOption (first_of client.entries picks part.target) (picks ≡ []) (λ (first : First).
    MatchBool (is_linked client.links first.node) (ArePartPicks admits client parts first.picks)
    (first.picks ≡ []))

abbrev pub ArePicksOf : Strategy → Client → Result (List Part) Refusal → List Address → Type 0
ArePicksOf admits client (Ok parts) picks = ArePartPicks admits client parts picks
ArePicksOf admits client (Err refusal) picks = picks ≡ []

-- without a strategy there are none
abbrev pub ArePicks : Option Strategy → Client → Call → List Address → Type 0
ArePicks None client call picks = picks ≡ []
ArePicks (Some admits) client call picks = ArePicksOf admits client (call_parts client call) picks
