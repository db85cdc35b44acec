-- The pipeline that tells of each position, and GET a behind it, are played whole over an honest cluster.
use Rattle.std.proofs.Common.{true, [], ◌∷◌, ◌++◌, map, None, refl}
use Rattle.std.specs.Fmt.{digits}
use Rattle.cluster_routing.specs.HashSlot.{hash_slot}
use Rattle.cluster_routing.specs.Routing.{destination}
use Rattle.cluster_routing.specs.Split.{splitting_of}
use Rattle.cluster_routing.specs.Table.{rule_of, table}
use Rattle.cluster_calls.specs.Links.Play.{Plays, shown_of}
use Rattle.cluster_calls.specs.Links.Run.{CallsMade, HadMemory}
use Rattle.cluster_calls.specs.OneServer.Headline.{PlayedCall}
use Rattle.cluster_calls.specs.OneServer.Played.{HonestCluster}
use Rattle.cluster_calls.specs.WholeCalls.EachPlay.{at_first, one_lost, at_last, by_each, by_get, EachIsPlayedWhole}
use Rattle.cluster_calls.specs.WholeCalls.KeyRuns.{none_done, only_b}
use Rattle.cluster_calls.specs.WholeCalls.MixedEach.{each_told, no_a_found, each_calls, may, behind, they_are_honest}
use Rattle.cluster_calls.proofs.EachPlay.Found.{get_a_made}
use Rattle.cluster_calls.proofs.EachPlay.Told.{each_is_made}
use Rattle.cluster_calls.proofs.ServerLaws.Claim.{played_as_on_one_server}
use Rattle.cluster_calls.proofs.WholePlay.OneRun.{all_played, and_then}

calls : CallsMade None at_first at_last each_calls (by_each ++ (by_get ++ []))
calls = and_then at_first one_lost at_last each_told (no_a_found ∷ []) by_each (by_get ++ []) each_is_made (refl, refl) (and_then one_lost at_last at_last no_a_found [] by_get [] get_a_made (refl, refl) (refl, refl))

had_memory : HadMemory each_calls
had_memory = ((λ e. cc, (λ e. cc, (λ e. cc, (λ e. cc, (λ e. cc, tt))))), ((λ e. cc, tt), tt))

abbrev each_played : Plays None at_first at_last (map (λ (t : PlayedCall). t.call) each_calls) [] (map shown_of each_calls) true
each_played = all_played at_first at_last each_calls (by_each ++ (by_get ++ [])) calls

honest_cluster : HonestCluster each_played may only_b none_done behind
unfolding destination rule_of table hash_slot splitting_of digits
honest_cluster = record { had_memory = had_memory; on_slots = (refl, (refl, tt)); honest = they_are_honest }

pub each_is_played_whole : EachIsPlayedWhole
each_is_played_whole = (each_played, refl, honest_cluster, played_as_on_one_server None at_first at_last (map (λ (t : PlayedCall). t.call) each_calls) [] (map shown_of each_calls) true each_played may only_b behind none_done honest_cluster)
