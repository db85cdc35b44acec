-- GET a: n2 has none.
use Rattle.std.proofs.Common.{[], refl, codes, lit≤}
use Rattle.std.specs.Fmt.{digits}
use Rattle.resp_core.specs.Parts.{first_error}
use Rattle.resp_core.specs.Trees.{nil}
use Rattle.resp_core.proofs.Computing.{reading}
use Rattle.cluster_routing.specs.Examples.{second_node as n2}
use Rattle.cluster_routing.specs.HashSlot.{hash_slot}
use Rattle.cluster_routing.specs.Routing.{destination}
use Rattle.cluster_routing.specs.Split.{splitting_of}
use Rattle.cluster_routing.specs.Table.{rule_of, table}
use Rattle.cluster_calls.specs.Links.Events.{Runs}
use Rattle.cluster_calls.specs.Links.Request.{bytes_of}
use Rattle.cluster_calls.specs.WholeCalls.Base.{plain}
use Rattle.cluster_calls.specs.WholeCalls.EachPlay.{one_lost, at_last, by_get}
use Rattle.cluster_calls.specs.WholeCalls.KeyRuns.{get_a}
use Rattle.cluster_calls.specs.WholeCalls.MixedEach.{no_a_found, first_to_n2}
use Rattle.cluster_calls.proofs.WholePlay.LinkCalled.{replied}
use Rattle.cluster_calls.proofs.WholePlay.OneCall.{IsMade, made}
use Rattle.cluster_calls.proofs.WholePlay.Spelled.{reads_one}

runs : Runs one_lost.nodes at_last.nodes by_get
unfolding reading digits
runs = (at_last.nodes, replied one_lost.nodes at_last.nodes n2 (bytes_of first_to_n2) [] (codes "$-1\r\n") 1 (plain n2 get_a) [] nil [] refl refl (refl, tt) refl (reads_one _ _ refl (lit≤ tt, lit≤ tt, refl, refl, refl)), refl)

pub get_a_made : IsMade one_lost at_last no_a_found by_get
unfolding destination rule_of table hash_slot splitting_of digits first_error
get_a_made = made one_lost at_last no_a_found by_get runs ((plain n2 get_a, refl), tt) (record { settings = refl; entries = refl; flag = refl; logged = refl; picks = refl; plain = refl; memory = refl }) (λ place. (refl, refl)) (λ e. cc) (λ faults agree place. refl)
