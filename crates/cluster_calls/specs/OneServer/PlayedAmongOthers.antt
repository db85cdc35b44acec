-- The claim of Played where others use the keys too. The words are those of Played and of AmongOthers.
use Rattle.std.specs.Prelude.{◌≡◌, ℕ, Bool, true, Option, List}
use Rattle.std.specs.List.{AllByRecursion}
use Rattle.cluster_routing.specs.Choice.{Strategy}
use Rattle.cluster_calls.specs.Calls.Call.{Call}
use Rattle.cluster_calls.specs.Links.Play.{Plays, Shown}
use Rattle.cluster_calls.specs.Links.Run.{HadMemory}
use Rattle.cluster_calls.specs.Links.World.{World}
use Rattle.cluster_calls.specs.OneServer.Commands.{is_on_slots}
use Rattle.cluster_calls.specs.OneServer.Keyspace.{Keyspace, Step}
use Rattle.cluster_calls.specs.OneServer.Meaning.{Meaning}
use Rattle.cluster_calls.specs.OneServer.Played.{replied}
use Rattle.cluster_calls.specs.OneServer.AmongOthers.{CallTurns, HonestAmongOthers, AsOneServerAmongOthers}

-- As `HonestCluster`, but others may use the keys: before each call (`before` of its turns), between its
-- requests (`during`), and behind the run (`last`). What they do may be anything, and it is named: `turns`
-- and `last` have all of it, each step where it was done.
pub record HonestSharedCluster {strategy : Option Strategy} {old new : World} {calls : List Call}
    {before after : List Shown} {all : Bool}
    (played : Plays strategy old new calls before after all) (meaning : Meaning) (keys : Keyspace)
    (done : ℕ → Bool)
    (turns : List CallTurns) (last : List Step) (keys' : Keyspace) : Type 0 where
  pub had_memory : HadMemory played.run
  pub on_slots : AllByRecursion (λ call. is_on_slots call ≡ true) calls
  pub honest : HonestAmongOthers meaning keys done (replied played) turns last keys'

-- the claim among others, of what `play` made
abbrev pub PlayedAmongOthers : Type 0
PlayedAmongOthers = (strategy : Option Strategy) (old new : World) (calls : List Call)
    (before after : List Shown) (all : Bool)
    → (played : Plays strategy old new calls before after all)
    → (meaning : Meaning) (keys keys' : Keyspace) (done : ℕ → Bool) (turns : List CallTurns)
    (last : List Step)
    → HonestSharedCluster played meaning keys done turns last keys'
    → AsOneServerAmongOthers meaning keys done (replied played) turns last keys'
