-- The mixed run is played whole over an honest cluster.
use Rattle.std.proofs.Common.{true, List, [], ◌∷◌, ◌++◌, map, None, refl}
use Rattle.std.specs.Fmt.{digits}
use Rattle.cluster_routing.specs.HashSlot.{hash_slot}
use Rattle.cluster_routing.specs.Routing.{destination}
use Rattle.cluster_routing.specs.Split.{splitting_of}
use Rattle.cluster_routing.specs.Table.{rule_of, table}
use Rattle.cluster_calls.specs.Links.Events.{Event}
use Rattle.cluster_calls.specs.Links.Play.{Plays, shown_of}
use Rattle.cluster_calls.specs.Links.Run.{CallsMade, HadMemory}
use Rattle.cluster_calls.specs.OneServer.Headline.{PlayedCall}
use Rattle.cluster_calls.specs.OneServer.Played.{HonestCluster}
use Rattle.cluster_calls.specs.WholeCalls.KeyRuns.{none_done, a_and_b}
use Rattle.cluster_calls.specs.WholeCalls.MixedPlay.{at_first, redirected, split, piped, at_last, by_moved, by_parts, by_nodes, by_none, FourArePlayedWhole}
use Rattle.cluster_calls.specs.WholeCalls.MixedRun.{may, four_calls, behind, four_are_honest}
use Rattle.cluster_calls.proofs.MixedPlay.Lost.{get_b_lost, get_b_made}
use Rattle.cluster_calls.proofs.MixedPlay.Parted.{del_refused, del_made}
use Rattle.cluster_calls.proofs.MixedPlay.Piped.{pipeline_answered, pipeline_made}
use Rattle.cluster_calls.proofs.MixedPlay.Redirected.{get_a_redirected, get_a_made}
use Rattle.cluster_calls.proofs.ServerLaws.Claim.{played_as_on_one_server}
use Rattle.cluster_calls.proofs.WholePlay.OneRun.{all_played, and_then}

abbrev all_events : List Event
all_events = by_moved ++ (by_parts ++ (by_nodes ++ (by_none ++ [])))

calls : CallsMade None at_first at_last four_calls all_events
calls =
    and_then at_first redirected at_last get_a_redirected (del_refused ∷ pipeline_answered ∷ get_b_lost ∷ []) by_moved (by_parts ++ (by_nodes ++ (by_none ++ []))) get_a_made (refl, refl)
    (and_then redirected split at_last del_refused (pipeline_answered ∷ get_b_lost ∷ []) by_parts (by_nodes ++ (by_none ++ [])) del_made (refl, refl)
    (and_then split piped at_last pipeline_answered (get_b_lost ∷ []) by_nodes (by_none ++ []) pipeline_made (refl, refl)
    (and_then piped at_last at_last get_b_lost [] by_none [] get_b_made (refl, refl) (refl, refl))))

had_memory : HadMemory four_calls
had_memory = ((λ e. cc, tt), ((λ e. cc, tt), ((λ e. cc, tt), ((λ e. cc, tt), tt))))

abbrev four_played : Plays None at_first at_last (map (λ (t : PlayedCall). t.call) four_calls) [] (map shown_of four_calls) true
four_played = all_played at_first at_last four_calls all_events calls

four_are_an_honest_cluster : HonestCluster four_played may a_and_b none_done behind
unfolding destination rule_of table hash_slot splitting_of digits
four_are_an_honest_cluster = record { had_memory = had_memory; on_slots = (refl, (refl, (refl, (refl, tt)))); honest = four_are_honest }

pub four_are_played_whole : FourArePlayedWhole
four_are_played_whole = (four_played, refl, four_are_an_honest_cluster, played_as_on_one_server None at_first at_last (map (λ (t : PlayedCall). t.call) four_calls) [] (map shown_of four_calls) true four_played may a_and_b behind none_done four_are_an_honest_cluster)
