-- DEL a b: n2 answers its part, and n1 refuses its own.
use Rattle.std.proofs.Common.{true, [], ◌∷◌, Err, refl, codes, lit≤}
use Rattle.std.specs.Fmt.{digits}
use Rattle.std.specs.Str.{is_utf8, chars}
use lib.Utf8.{encode}
use Rattle.resp_core.specs.Errors.{by_server, server_kind}
use Rattle.resp_core.specs.Parts.{first_error}
use Rattle.resp_core.proofs.Computing.{reading}
use Rattle.cluster_routing.specs.Examples.{first_node as n1, second_node as n2}
use Rattle.cluster_routing.specs.HashSlot.{hash_slot}
use Rattle.cluster_routing.specs.Routing.{destination}
use Rattle.cluster_routing.specs.Split.{splitting_of}
use Rattle.cluster_routing.specs.Table.{rule_of, table}
use Rattle.cluster_calls.specs.Links.Events.{Runs}
use Rattle.cluster_calls.specs.Links.Request.{bytes_of}
use Rattle.cluster_calls.specs.OneServer.Headline.{PlayedCall}
use Rattle.cluster_calls.specs.WholeCalls.Base.{plain, one, error_text}
use Rattle.cluster_calls.specs.WholeCalls.KeyRuns.{get_a, played as played_call}
use Rattle.cluster_calls.specs.WholeCalls.MixedRun.{del, try_again}
use Rattle.cluster_calls.specs.WholeCalls.MixedPlay.{n1_1, n2_2, world, redirected, split, by_parts}
use Rattle.cluster_calls.proofs.WholePlay.LinkCalled.{replied}
use Rattle.cluster_calls.proofs.WholePlay.OneCall.{IsMade, made}
use Rattle.cluster_calls.proofs.WholePlay.Spelled.{reads_one}

abbrev pub del_refused : PlayedCall
del_refused = played_call (del (codes "a" ∷ codes "b" ∷ [])) (Err (by_server (error_text (codes "TRYAGAIN") (codes "x")))) (plain n2 (del (codes "a" ∷ [])) ∷ plain n1 (del (codes "b" ∷ [])) ∷ [])

runs : Runs redirected.nodes split.nodes by_parts
unfolding reading digits
runs = (
  (world n1_1 n2_2 true).nodes,
  replied redirected.nodes (world n1_1 n2_2 true).nodes n2 (bytes_of (plain n2 get_a ∷ [])) (codes "+OK\r\n$1\r\n1\r\n") (codes ":1\r\n") 1 (plain n2 (del (codes "a" ∷ []))) [] one [] refl refl (refl, tt) refl (reads_one _ _ refl (lit≤ tt, lit≤ tt, refl, refl, refl)),
  (split.nodes, replied (world n1_1 n2_2 true).nodes split.nodes n1 (bytes_of (plain n1 get_a ∷ [])) (codes "$1\r\n2\r\n") (codes "-TRYAGAIN x\r\n") 1 (plain n1 (del (codes "b" ∷ []))) [] try_again [] refl refl (refl, tt) refl (reads_one _ _ refl (lit≤ tt, lit≤ tt, refl, refl, refl)), refl),
)

pub del_made : IsMade redirected split del_refused by_parts
unfolding destination rule_of table hash_slot splitting_of digits first_error is_utf8 chars encode server_kind
del_made = made redirected split del_refused by_parts runs ((plain n2 (del (codes "a" ∷ [])), refl), ((plain n1 (del (codes "b" ∷ [])), refl), tt)) (record { settings = refl; entries = refl; flag = refl; logged = refl; picks = refl; plain = refl; memory = refl }) (λ place. (refl, (refl, refl))) (λ e. cc) (λ faults agree place. refl)
