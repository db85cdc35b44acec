-- Two plays over links whose values say the same: they show the same, and send each node the same bytes.
use Rattle.std.specs.Prelude.{◌≡◌, ℕ, Bool, List, map, Option, Some}
use Rattle.std.specs.Io.KnownBytes.{Appends}
use Rattle.cluster_routing.specs.Address.{Address}
use Rattle.cluster_routing.specs.Choice.{Strategy}
use Rattle.resp_link.specs.Call.{Seen}
use Rattle.cluster_calls.specs.Calls.Call.{Call}
use Rattle.cluster_calls.specs.Links.Events.{taken_of}
use Rattle.cluster_calls.specs.Links.Happened.{client_of}
use Rattle.cluster_calls.specs.Links.Log.{replies}
use Rattle.cluster_calls.specs.Links.Play.{Plays, Shown, shown_of}
use Rattle.cluster_calls.specs.Links.Run.{HadMemory}
use Rattle.cluster_calls.specs.Links.World.{Node, World, link_at}
use Rattle.cluster_calls.specs.OneServer.Headline.{PlayedCall}
use Rattle.cluster_calls.specs.OneServer.Respelling.{respellings, SayTheSame}

-- to each node these bytes went out
abbrev pub SendsTo : List Node → List Node → (Address → List ℕ) → Type 0
SendsTo old new bytes = (a : Address) (before after : Seen) → link_at old a ≡ Some before
    → link_at new a ≡ Some after → Appends before.sent after.sent (bytes a)

-- Clients with equal settings, maps and open links; equal calls and picks; and node by node the replies that
-- came in say the same.
abbrev pub RespelledPlays : Type 0
RespelledPlays = (strategy strategy' : Option Strategy) (old new old' new' : World) (calls calls' : List Call)
    (before after before' after' : List Shown) (all all' : Bool)
    → (p : Plays strategy old new calls before after all)
    (q : Plays strategy' old' new' calls' before' after' all') → HadMemory p.run → HadMemory q.run
    → client_of old ≡ client_of old'
    → map (λ (t : PlayedCall). t.call) p.run ≡ map (λ (t : PlayedCall). t.call) q.run
    → map (λ (t : PlayedCall). t.picks) p.run ≡ map (λ (t : PlayedCall). t.picks) q.run
    → ((node : Address) → SayTheSame (respellings node p.run) (replies (taken_of p.is_run.events) node)
    (replies (taken_of q.is_run.events) node))
    → (map shown_of p.run ≡ map shown_of q.run)
    × ((bytes : Address → List ℕ) × SendsTo old.nodes new.nodes bytes × SendsTo old'.nodes new'.nodes bytes)
