-- MSET a 1 b 2: each node answers its part.
use Rattle.std.proofs.Common.{false, [], refl, codes, lit≤}
use Rattle.std.specs.Fmt.{digits}
use Rattle.resp_core.specs.Parts.{first_error}
use Rattle.resp_core.specs.Trees.{okay}
use Rattle.resp_core.proofs.Computing.{reading}
use Rattle.cluster_routing.specs.Examples.{first_node as n1, second_node as n2}
use Rattle.cluster_routing.specs.HashSlot.{hash_slot}
use Rattle.cluster_routing.specs.Routing.{destination}
use Rattle.cluster_routing.specs.Split.{splitting_of}
use Rattle.cluster_routing.specs.Table.{rule_of, table}
use Rattle.cluster_calls.specs.Links.Events.{Runs}
use Rattle.cluster_calls.specs.WholeCalls.Base.{plain}
use Rattle.cluster_calls.specs.WholeCalls.MixedPlay.{world}
use Rattle.cluster_calls.specs.WholeCalls.SharedPlay.{put_a, put_b, mset_answered, n1_0, n2_1, at_first, both_sent, by_mset}
use Rattle.cluster_calls.proofs.WholePlay.LinkCalled.{replied}
use Rattle.cluster_calls.proofs.WholePlay.OneCall.{IsMade, made}
use Rattle.cluster_calls.proofs.WholePlay.Spelled.{reads_one}

runs : Runs at_first.nodes both_sent.nodes by_mset
unfolding reading digits
runs = (
  (world n1_0 n2_1 false).nodes,
  replied at_first.nodes (world n1_0 n2_1 false).nodes n2 [] (codes "$1\r\n2\r\n") (codes "+OK\r\n") 0 (plain n2 put_a) [] okay [] refl refl (refl, tt) refl (reads_one _ _ refl (lit≤ tt, lit≤ tt, refl, refl, refl)),
  (both_sent.nodes, replied (world n1_0 n2_1 false).nodes both_sent.nodes n1 [] [] (codes "+OK\r\n") 0 (plain n1 put_b) [] okay [] refl refl (refl, tt) refl (reads_one _ _ refl (lit≤ tt, lit≤ tt, refl, refl, refl)), refl),
)

pub mset_made : IsMade at_first both_sent mset_answered by_mset
unfolding destination rule_of table hash_slot splitting_of digits first_error
mset_made = made at_first both_sent mset_answered by_mset runs ((plain n2 put_a, refl), ((plain n1 put_b, refl), tt)) (record { settings = refl; entries = refl; flag = refl; logged = refl; picks = refl; plain = refl; memory = refl }) (λ place. (refl, (refl, refl))) (λ e. cc) (λ faults agree place. refl)
