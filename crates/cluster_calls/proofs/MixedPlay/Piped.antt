-- The pipeline SET a 1, GET b, GET a: n2 is asked in one go, then n1.
use Rattle.std.proofs.Common.{true, [], ◌∷◌, Ok, refl, codes, lit≤}
use Rattle.std.specs.Fmt.{digits}
use Rattle.std.specs.Str.{is_utf8, chars}
use lib.Utf8.{encode}
use Rattle.resp_core.specs.Errors.{server_kind}
use Rattle.resp_core.specs.Parts.{first_error}
use Rattle.resp_core.specs.Trees.{okay}
use Rattle.resp_core.proofs.Computing.{reading}
use Rattle.cluster_routing.specs.Combine.{array_of}
use Rattle.cluster_routing.specs.Examples.{first_node as n1, second_node as n2}
use Rattle.cluster_routing.specs.HashSlot.{hash_slot}
use Rattle.cluster_routing.specs.Routing.{destination}
use Rattle.cluster_routing.specs.Split.{splitting_of}
use Rattle.cluster_routing.specs.Table.{rule_of, table}
use Rattle.cluster_calls.specs.Calls.Answer.{Value}
use Rattle.cluster_calls.specs.Calls.Call.{Pipeline}
use Rattle.cluster_calls.specs.Links.Events.{Runs}
use Rattle.cluster_calls.specs.Links.Request.{bytes_of}
use Rattle.cluster_calls.specs.OneServer.Headline.{PlayedCall}
use Rattle.cluster_calls.specs.WholeCalls.Base.{plain, text}
use Rattle.cluster_calls.specs.WholeCalls.KeyRuns.{set_a, get_a, get_b}
use Rattle.cluster_calls.specs.WholeCalls.MixedRun.{del}
use Rattle.cluster_calls.specs.WholeCalls.Pipelines.{entry}
use Rattle.cluster_calls.specs.WholeCalls.MixedPlay.{n1_2, n2_3, world, split, piped, by_nodes}
use Rattle.cluster_calls.proofs.WholePlay.LinkCalled.{replied}
use Rattle.cluster_calls.proofs.WholePlay.OneCall.{IsMade, made}
use Rattle.cluster_calls.proofs.WholePlay.Spelled.{reads_one, reads_two}

abbrev pub pipeline_answered : PlayedCall
pipeline_answered = record {
  call = Pipeline (entry set_a ∷ entry get_b ∷ entry get_a ∷ []);
  picks = [];
  answer = Ok (Value (array_of (okay ∷ text (codes "2") ∷ text (codes "1") ∷ [])));
  log = plain n2 set_a ∷ plain n2 get_a ∷ plain n1 get_b ∷ [];
}

runs : Runs split.nodes piped.nodes by_nodes
unfolding reading digits
runs = (
  (world n1_2 n2_3 true).nodes,
  replied split.nodes (world n1_2 n2_3 true).nodes n2 (bytes_of (plain n2 get_a ∷ plain n2 (del (codes "a" ∷ [])) ∷ [])) [] (codes "+OK\r\n$1\r\n1\r\n") 2 (plain n2 set_a) (plain n2 get_a ∷ []) okay (text (codes "1") ∷ []) refl refl (refl, (refl, tt)) refl (reads_two _ _ _ _ refl refl (lit≤ tt, lit≤ tt, refl, refl, refl)),
  (piped.nodes, replied (world n1_2 n2_3 true).nodes piped.nodes n1 (bytes_of (plain n1 get_a ∷ plain n1 (del (codes "b" ∷ [])) ∷ [])) [] (codes "$1\r\n2\r\n") 2 (plain n1 get_b) [] (text (codes "2")) [] refl refl (refl, tt) refl (reads_one _ _ refl (lit≤ tt, lit≤ tt, refl, refl, refl)), refl),
)

pub pipeline_made : IsMade split piped pipeline_answered by_nodes
unfolding destination rule_of table hash_slot splitting_of digits first_error is_utf8 chars encode server_kind
pipeline_made = made split piped pipeline_answered by_nodes runs (refl, (refl, tt)) (record { settings = refl; entries = refl; flag = refl; logged = refl; picks = refl; plain = refl; memory = refl }) (λ place. (refl, (refl, refl))) (λ e. cc) (λ faults agree place. refl)
