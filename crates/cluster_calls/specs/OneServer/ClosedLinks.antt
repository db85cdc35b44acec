-- A node whose link is closed changes nothing of what calls do.
use Rattle.std.specs.Prelude.{◌≡◌, false, List, ◌∷◌, ◌++◌, Option, None, Result}
use Rattle.resp_core.specs.Errors.{Refusal}
use Rattle.cluster_routing.specs.Choice.{Strategy}
use Rattle.cluster_calls.specs.Links.Happened.{client_of, CallMade}
use Rattle.cluster_calls.specs.Links.World.{Node, World, link_at}
use Rattle.cluster_calls.specs.Calls.Answer.{Answer}
use Rattle.cluster_calls.specs.Calls.Call.{Call}

-- the world with these nodes
abbrev pub with_nodes : World → List Node → World
with_nodes world nodes = record world { nodes = nodes }

-- The call is also made between these other nodes, by the same link calls: with the same log, picks, answer,
-- map and flag.
abbrev pub IsAlsoMade : (strategy : Option Strategy) (old new : World) (call : Call)
    (answer : Result Answer Refusal)
    → CallMade strategy old new call answer → List Node → List Node → Type 0
IsAlsoMade strategy old new call answer made nodes nodes' =
    (again : CallMade strategy (with_nodes old nodes) (with_nodes new nodes') call answer)
    × (again.happened.events ≡ made.happened.events)

-- With a node whose link is closed, where none behind it has its address, calls do what they do without it,
-- and the node stays as it is. The client that plans, legal logs, answers and refusals speak of is the same.
abbrev pub ClosedLinksChangeNothing : Type 0
ClosedLinksChangeNothing = (strategy : Option Strategy) (old : World) (before after : List Node)
    (closed : Node) (call : Call)
    (answer : Result Answer Refusal) → closed.link.usable ≡ false → link_at after closed.address ≡ None
    → (client_of (with_nodes old (before ++ closed ∷ after)) ≡ client_of (with_nodes old (before ++ after)))
    × ((new : World) (made : CallMade strategy (with_nodes old (before ++ closed ∷ after)) new call answer)
    → (before' after' : List Node) × (new.nodes ≡ before' ++ closed ∷ after')
    × IsAlsoMade strategy (with_nodes old (before ++ closed ∷ after)) new call answer made (before ++ after)
    (before' ++ after'))
    × ((new : World) (made : CallMade strategy (with_nodes old (before ++ after)) new call answer)
    → (before' after' : List Node) × (new.nodes ≡ before' ++ after')
    × IsAlsoMade strategy (with_nodes old (before ++ after)) new call answer made (before ++ closed ∷ after)
    (before' ++ closed ∷ after'))
