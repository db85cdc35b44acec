-- GET a: n2 has what the other client set.
use Rattle.std.proofs.Common.{[], ◌∷◌, refl, codes, lit≤}
use Rattle.std.specs.Fmt.{digits}
use Rattle.resp_core.specs.Parts.{first_error}
use Rattle.resp_core.proofs.Computing.{reading}
use Rattle.cluster_routing.specs.Examples.{second_node as n2}
use Rattle.cluster_routing.specs.HashSlot.{hash_slot}
use Rattle.cluster_routing.specs.Routing.{destination}
use Rattle.cluster_routing.specs.Split.{splitting_of}
use Rattle.cluster_routing.specs.Table.{rule_of, table}
use Rattle.cluster_calls.specs.Links.Events.{Runs}
use Rattle.cluster_calls.specs.Links.Request.{bytes_of}
use Rattle.cluster_calls.specs.WholeCalls.Base.{plain, text}
use Rattle.cluster_calls.specs.WholeCalls.KeyRuns.{get_a}
use Rattle.cluster_calls.specs.WholeCalls.SharedPlay.{put_a, get_answered, both_sent, at_last, by_get}
use Rattle.cluster_calls.proofs.WholePlay.LinkCalled.{replied}
use Rattle.cluster_calls.proofs.WholePlay.OneCall.{IsMade, made}
use Rattle.cluster_calls.proofs.WholePlay.Spelled.{reads_one}

runs : Runs both_sent.nodes at_last.nodes by_get
unfolding reading digits
runs = (at_last.nodes, replied both_sent.nodes at_last.nodes n2 (bytes_of (plain n2 put_a ∷ [])) [] (codes "$1\r\n2\r\n") 1 (plain n2 get_a) [] (text (codes "2")) [] refl refl (refl, tt) refl (reads_one _ _ refl (lit≤ tt, lit≤ tt, refl, refl, refl)), refl)

pub get_made : IsMade both_sent at_last get_answered by_get
unfolding destination rule_of table hash_slot splitting_of digits first_error
get_made = made both_sent at_last get_answered by_get runs ((plain n2 get_a, refl), tt) (record { settings = refl; entries = refl; flag = refl; logged = refl; picks = refl; plain = refl; memory = refl }) (λ place. (refl, refl)) (λ e. cc) (λ faults agree place. refl)
