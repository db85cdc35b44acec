-- Two plays of the same calls from one client whose devices promise to refuse none: they show the same, and
-- send the same.
use Rattle.std.specs.Prelude.{◌≡◌, ℕ, ◌^◌, ◌<◌, true, false, List, length, Some, None}
use Rattle.resp_core.specs.Promise.{refuses_none}
use Rattle.resp_link.specs.Call.{Seen}
use Rattle.cluster_routing.specs.Address.{Address}
use Rattle.cluster_calls.specs.Calls.Call.{Call}
use Rattle.cluster_calls.specs.Links.Events.{Event, lack_memory}
use Rattle.cluster_calls.specs.Links.Nodes.{coming}
use Rattle.cluster_calls.specs.Links.Play.{Plays, Shown}
use Rattle.cluster_calls.specs.Links.Run.{HadMemory}
use Rattle.cluster_calls.specs.Links.World.{Node, World, link_at}

-- Its devices promise to refuse none, and tell their bytes. Fewer than 2^32 are to come, so that reads do not
-- run out.
pub record IsPromised (link : Seen) : Type 0 where
  pub reads : link.counts.promise ≡ refuses_none
  pub writes : link.write_counts.promise ≡ refuses_none
  pub bytes : List ℕ
  pub known : coming link ≡ Some bytes
  pub few : length bytes < 2 ^ 32
  pub sent : List ℕ
  pub told : link.sent ≡ Some sent

abbrev pub ArePromised : List Node → Type 0
ArePromised ns = (a : Address) (link : Seen) → link_at ns a ≡ Some link → IsPromised link

-- no write found too little room in memory
abbrev pub HadRoom : List Node → Type 0
HadRoom ns = (a : Address) (link : Seen) → link_at ns a ≡ Some link → link.write_counts.no_room ≡ 0

-- over each link the same bytes went out
abbrev pub SentSame : List Node → List Node → Type 0
SentSame ns ms = (a : Address) (l m : Seen) → link_at ns a ≡ Some l → link_at ms a ≡ Some m → l.sent ≡ m.sent

-- No link call lacked memory, of any call. Of a split command whose parts met two faults a pipeline that tells of
-- each position tells the first alone, so answers do not show it.
abbrev pub LinksHadMemory : List Event → Type 0
LinksHadMemory events = lack_memory events ≡ false

-- Two plays of the same calls from one client without a strategy, whose devices promise to refuse none, tell
-- their bytes and have fewer than 2^32 of them: memory aside, they show the same, and over each link the same
-- bytes went out.
abbrev pub PromisedPlays : Type 0
PromisedPlays = (old new new' : World) (calls : List Call) (before after after' : List Shown)
    → (p : Plays None old new calls before after true) (q : Plays None old new' calls before after' true)
    → ArePromised old.nodes → HadMemory p.run → HadMemory q.run
    → LinksHadMemory p.is_run.events → LinksHadMemory q.is_run.events → HadRoom new.nodes → HadRoom new'.nodes
    → (after ≡ after') × SentSame new.nodes new'.nodes
