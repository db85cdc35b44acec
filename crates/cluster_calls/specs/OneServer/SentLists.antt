-- What a node got over a run are the run's commands, and no others.
use Rattle.std.specs.Prelude.{◌≡◌, ◌≢◌, ℕ, Bool, true, false, if◌then◌else◌, List, [], ◌∷◌, ◌++◌, Option, Some}
use Rattle.std.specs.List.{flat_map, AllByRecursion}
use Rattle.resp_core.specs.Trees.{Tree}
use Rattle.resp_args.specs.Laws.{Sendable}
use Rattle.resp_args.specs.Packed.{packed}
use Rattle.resp_link.specs.Call.{Seen}
use Rattle.cluster_routing.specs.Address.{Address}
use Rattle.cluster_routing.specs.Choice.{Strategy}
use Rattle.cluster_routing.specs.Lists.{concat}
use Rattle.cluster_calls.specs.Links.Request.{Request, asking_command, bytes_of}
use Rattle.cluster_calls.specs.Links.Run.{RunPlayed, run_calls}
use Rattle.cluster_calls.specs.Links.World.{World, link_at}
use Rattle.cluster_calls.specs.OneServer.Headline.{PlayedCall}

-- the commands that go out for requests
abbrev pub commands_for : Request → List (List (List ℕ))
commands_for q = if q.asking then asking_command ∷ q.args ∷ [] else q.args ∷ []

abbrev pub commands_of : List Request → List (List (List ℕ))
commands_of qs = flat_map commands_for qs

-- no whole command stands at the front of these bytes
abbrev pub IsUnfinished : List ℕ → Type 0
IsUnfinished rest = (command : List (List ℕ)) (behind : List ℕ) → Sendable command
    → rest ≢ packed command ++ behind

-- Of what went out for link calls these commands were read, and then this unfinished rest: they are the commands of
-- all requests, in order, and nothing is left. Where a write or flush failed, that was in the last link call: they
-- begin with the commands of those before it, and what stands behind these is a front of its bytes.
abbrev pub AreReadOf : Bool → List (List Request) → List (List (List ℕ)) → List ℕ → Type 0
AreReadOf false calls commands rest = (commands ≡ commands_of (concat calls)) × (rest ≡ [])
AreReadOf true calls commands rest =
    (before : List (List Request)) × (last : List Request) × (more : List (List (List ℕ))) × (unsent : List ℕ)
    × (calls ≡ before ++ last ∷ []) × (commands ≡ commands_of (concat before) ++ more)
    × ((flat_map packed more ++ rest) ++ unsent ≡ bytes_of last)

-- Whoever reads commands of what went out to a node over a run reads those of its requests, and no others: also where
-- its link ended early, or answered no RESP, or a write failed in the last of its link calls.
abbrev pub NoOtherLists : Type 0
NoOtherLists = (strategy : Option Strategy) (old new : World) (ts : List PlayedCall)
    (taken : Address → List Tree) → (run : RunPlayed strategy old new ts taken)
    → (a : Address) (before after : Seen) (out rest : List ℕ) (commands : List (List (List ℕ)))
    → (was : link_at old.nodes a ≡ Some before) → (now : link_at new.nodes a ≡ Some after)
    → before.sent ≡ Some out → after.sent ≡ Some (out ++ (flat_map packed commands ++ rest))
    → AllByRecursion Sendable (commands_of (concat (run_calls ts a))) → AllByRecursion Sendable commands
    → IsUnfinished rest
    → AreReadOf (run.made.each a before after was now).write_failed (run_calls ts a) commands rest
