-- Clients with a node more: one whose link is closed is the same client, one whose link is open is another.
use Rattle.std.specs.Prelude.{◌≡◌, ◌==◌, List, [], ◌∷◌, length, Option, Result, refl}
use Rattle.std.proofs.Common.{ap, ◌∙◌, subst}
use Rattle.std.proofs.lemmas.Bool.{false≢true}
use Rattle.resp_core.specs.Errors.{Refusal}
use Rattle.cluster_routing.specs.Choice.{Strategy}
use Rattle.cluster_routing.specs.Examples.{first_node as n1, second_node as n2}
use Rattle.cluster_calls.specs.Calls.Answer.{Answer}
use Rattle.cluster_calls.specs.Calls.Call.{Call}
use Rattle.cluster_calls.specs.Calls.Plan.{Client}
use Rattle.cluster_calls.specs.Links.Events.{Event, Runs}
use Rattle.cluster_calls.specs.Links.Happened.{client_of, CallMade}
use Rattle.cluster_calls.specs.Links.World.{Node, World}
use Rattle.cluster_calls.specs.OneServer.ClosedLinks.{with_nodes, IsAlsoMade}
use Rattle.cluster_calls.specs.WholeCalls.MixedPlay.{n1_0, n1_4, n2_0, n2_3, at_first, at_last}

-- ---- the mixed run's client before it, with an open link to n1, and behind it, with a closed one

pub a_closed_link_is_no_part_of_a_client : client_of at_last
    ≡ client_of (with_nodes at_last (record { address = n2; link = n2_3 } ∷ []))
a_closed_link_is_no_part_of_a_client = refl

pub an_open_link_is : client_of at_first
    ≡ client_of (with_nodes at_first (record { address = n2; link = n2_0 } ∷ [])) → ⊥
an_open_link_is e = false≢true (ap (λ (c : Client). length c.links == 1) e)

-- an open link behind a closed one of the same address is hidden by it
abbrev pub n1_twice : List Node
n1_twice = record { address = n1; link = n1_4 } ∷ record { address = n1; link = n1_0 } ∷ []

pub a_closed_link_hides_another_of_its_address :
    client_of (with_nodes at_first n1_twice)
    ≡ client_of (with_nodes at_first (record { address = n1; link = n1_0 } ∷ [])) → ⊥
a_closed_link_hides_another_of_its_address e = false≢true (ap (λ (c : Client). length c.links == 1) e)

-- ---- what is made between some nodes is made between the same, and not without them

pub a_call_is_made_where_it_is_made : (strategy : Option Strategy) (old new : World) (call : Call)
    (answer : Result Answer Refusal)
    (made : CallMade strategy old new call answer)
    → IsAlsoMade strategy old new call answer made old.nodes new.nodes
a_call_is_made_where_it_is_made strategy old new call answer made = (made, refl)

pub without_nodes_no_link_call_is_made : (strategy : Option Strategy) (old new : World) (call : Call)
    (answer : Result Answer Refusal)
    (made : CallMade strategy old new call answer) (nodes : List Node) (x : Event) (xs : List Event)
    → made.happened.events ≡ x ∷ xs → IsAlsoMade strategy old new call answer made [] nodes → ⊥
without_nodes_no_link_call_is_made strategy old new call answer made nodes x xs some also =
    let runs : Runs [] nodes (x ∷ xs) = subst (λ es. Runs [] nodes es) (also.1 ∙ some) also.0.happened.runs in
    let found = runs.1.found in
    cc
