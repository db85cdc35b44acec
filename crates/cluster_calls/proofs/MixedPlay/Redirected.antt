-- GET a: n2 names n1, which answers.
use Rattle.std.proofs.Common.{false, [], ◌∷◌, refl, codes, lit≤}
use Rattle.std.specs.Fmt.{digits}
use Rattle.std.specs.Str.{is_utf8, chars}
use lib.Utf8.{encode}
use Rattle.resp_core.specs.Errors.{server_kind}
use Rattle.resp_core.specs.Parts.{first_error}
use Rattle.resp_core.specs.Trees.{server_error}
use Rattle.resp_core.proofs.Computing.{reading}
use Rattle.cluster_routing.specs.Examples.{first_node as n1, second_node as n2}
use Rattle.cluster_routing.specs.HashSlot.{hash_slot}
use Rattle.cluster_routing.specs.Routing.{destination}
use Rattle.cluster_routing.specs.Split.{splitting_of}
use Rattle.cluster_routing.specs.Table.{rule_of, table}
use Rattle.cluster_calls.specs.Links.Events.{Runs}
use Rattle.cluster_calls.specs.OneServer.Headline.{PlayedCall}
use Rattle.cluster_calls.specs.WholeCalls.Base.{plain, text, moved_to_n1}
use Rattle.cluster_calls.specs.WholeCalls.KeyRuns.{get_a, answered}
use Rattle.cluster_calls.specs.WholeCalls.MixedPlay.{n1_0, n2_1, world, at_first, redirected, by_moved}
use Rattle.cluster_calls.proofs.WholePlay.LinkCalled.{replied}
use Rattle.cluster_calls.proofs.WholePlay.OneCall.{IsMade, made}
use Rattle.cluster_calls.proofs.WholePlay.Spelled.{reads_one}

abbrev pub get_a_redirected : PlayedCall
get_a_redirected = answered get_a (text (codes "1")) (plain n2 get_a ∷ plain n1 get_a ∷ [])

runs : Runs at_first.nodes redirected.nodes by_moved
unfolding reading digits
runs = (
  (world n1_0 n2_1 false).nodes,
  replied at_first.nodes (world n1_0 n2_1 false).nodes n2 [] (codes ":1\r\n+OK\r\n$1\r\n1\r\n") (codes "-MOVED 15495 n1:7001\r\n") 0 (plain n2 get_a) [] (server_error moved_to_n1) [] refl refl (refl, tt) refl (reads_one _ _ refl (lit≤ tt, lit≤ tt, refl, refl, refl)),
  (redirected.nodes, replied (world n1_0 n2_1 false).nodes redirected.nodes n1 [] (codes "-TRYAGAIN x\r\n$1\r\n2\r\n") (codes "$1\r\n1\r\n") 0 (plain n1 get_a) [] (text (codes "1")) [] refl refl (refl, tt) refl (reads_one _ _ refl (lit≤ tt, lit≤ tt, refl, refl, refl)), refl),
)

pub get_a_made : IsMade at_first redirected get_a_redirected by_moved
unfolding destination rule_of table hash_slot splitting_of digits first_error is_utf8 chars encode server_kind
get_a_made = made at_first redirected get_a_redirected by_moved runs ((plain n2 get_a, refl), ((plain n1 get_a, refl), tt)) (record { settings = refl; entries = refl; flag = refl; logged = refl; picks = refl; plain = refl; memory = refl }) (λ place. (refl, (refl, refl))) (λ e. cc) (λ faults agree place. refl)
