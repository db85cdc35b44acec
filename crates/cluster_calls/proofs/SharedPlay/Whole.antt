-- MSET a 1 b 2 and GET a are played whole over an honest cluster whose keys another client uses too.
use Rattle.std.proofs.Common.{true, [], ◌∷◌, ◌++◌, map, None, refl}
use Rattle.std.specs.Fmt.{digits}
use Rattle.cluster_routing.specs.HashSlot.{hash_slot}
use Rattle.cluster_routing.specs.Routing.{destination}
use Rattle.cluster_routing.specs.Split.{splitting_of}
use Rattle.cluster_routing.specs.Table.{rule_of, table}
use Rattle.cluster_calls.specs.Links.Play.{Plays, shown_of}
use Rattle.cluster_calls.specs.Links.Run.{CallsMade, HadMemory}
use Rattle.cluster_calls.specs.OneServer.Headline.{PlayedCall}
use Rattle.cluster_calls.specs.OneServer.PlayedAmongOthers.{HonestSharedCluster}
use Rattle.cluster_calls.specs.WholeCalls.KeyRuns.{none_done}
use Rattle.cluster_calls.specs.WholeCalls.RunsAmongOthers.{nothing}
use Rattle.cluster_calls.specs.WholeCalls.SharedPlay.{mset_answered, get_answered, shared_calls, at_first, both_sent, at_last, by_mset, by_get, may, shared_turns, looks_behind, behind, shared_is_honest, shared_is_as_on_one_server, they_are_not_honest_alone, SharedIsPlayedWhole}
use Rattle.cluster_calls.proofs.SharedPlay.Found.{get_made}
use Rattle.cluster_calls.proofs.SharedPlay.Parted.{mset_made}
use Rattle.cluster_calls.proofs.WholePlay.OneRun.{all_played, and_then}

calls : CallsMade None at_first at_last shared_calls (by_mset ++ (by_get ++ []))
calls = and_then at_first both_sent at_last mset_answered (get_answered ∷ []) by_mset (by_get ++ []) mset_made (refl, refl) (and_then both_sent at_last at_last get_answered [] by_get [] get_made (refl, refl) (refl, refl))

had_memory : HadMemory shared_calls
had_memory = ((λ e. cc, tt), ((λ e. cc, tt), tt))

abbrev shared_played : Plays None at_first at_last (map (λ (t : PlayedCall). t.call) shared_calls) [] (map shown_of shared_calls) true
shared_played = all_played at_first at_last shared_calls (by_mset ++ (by_get ++ [])) calls

honest_cluster : HonestSharedCluster shared_played may nothing none_done shared_turns looks_behind behind
unfolding destination rule_of table hash_slot splitting_of digits
honest_cluster = record { had_memory = had_memory; on_slots = (refl, (refl, tt)); honest = shared_is_honest }

pub shared_is_played_whole : SharedIsPlayedWhole
shared_is_played_whole = (shared_played, refl, honest_cluster, λ done keys' h. they_are_not_honest_alone done keys' h.honest, shared_is_as_on_one_server)
