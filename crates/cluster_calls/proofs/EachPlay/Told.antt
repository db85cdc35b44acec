-- The pipeline GET b, SET a 1, SET d 1, DEL a b: n1's link ends before a reply, and n2 is asked all the same.
use Rattle.std.proofs.Common.{false, [], ◌∷◌, None, Ok, refl, codes, lit≤}
use Rattle.std.specs.Fmt.{digits}
use Rattle.resp_core.specs.Errors.{server_kind}
use Rattle.resp_core.specs.Parts.{first_error}
use Rattle.resp_core.specs.Trees.{okay, server_error}
use Rattle.resp_core.proofs.Computing.{reading}
use Rattle.cluster_routing.specs.Examples.{first_node as n1, second_node as n2}
use Rattle.cluster_routing.specs.HashSlot.{hash_slot}
use Rattle.cluster_routing.specs.Routing.{destination}
use Rattle.cluster_routing.specs.Split.{splitting_of}
use Rattle.cluster_routing.specs.Table.{rule_of, table}
use Rattle.cluster_calls.specs.Calls.EachInParts.{AreOutcomesOf}
use Rattle.cluster_calls.specs.Calls.InParts.{in_parts, splits_in}
use Rattle.cluster_calls.specs.Calls.Task.{positions_of}
use Rattle.cluster_calls.specs.Links.EachMade.{EachAnswered, EachHappened, EachMade}
use Rattle.cluster_calls.specs.Links.Events.{Runs}
use Rattle.cluster_calls.specs.Links.Run.{with_log}
use Rattle.cluster_calls.specs.Links.World.{World}
use Rattle.cluster_calls.specs.WholeCalls.Base.{plain, one}
use Rattle.cluster_calls.specs.WholeCalls.EachPlay.{n1_1, n2_0, at_first, one_lost, by_each, each_dispatches}
use Rattle.cluster_calls.specs.WholeCalls.EachSplits.{del_a, del_b}
use Rattle.cluster_calls.specs.WholeCalls.KeyRuns.{get_b, set_a}
use Rattle.cluster_calls.specs.WholeCalls.MixedEach.{moved_d, set_d, each_entries, each_outcomes, each_told}
use Rattle.cluster_calls.specs.WholeCalls.MixedPlay.{world}
use Rattle.cluster_calls.proofs.LinkLaws.EachCall.{each_made, each_events}
use Rattle.cluster_calls.proofs.LinkLaws.LinkCalls.{link_calls_made}
use Rattle.cluster_calls.proofs.WholePlay.LinkCalled.{lost, replied}
use Rattle.cluster_calls.proofs.WholePlay.OneCall.{IsMade}
use Rattle.cluster_calls.proofs.WholePlay.Spelled.{reads_three}

-- the client behind the call, before its log is moved out
abbrev here : World
here = with_log one_lost each_told.log []

runs : Runs at_first.nodes here.nodes by_each
unfolding reading digits
runs = (
  (world n1_1 n2_0 false).nodes,
  lost at_first.nodes (world n1_1 n2_0 false).nodes n1 [] 0 (plain n1 get_b) (plain n1 del_b ∷ []) refl refl (refl, (refl, tt)),
  (here.nodes, replied (world n1_1 n2_0 false).nodes here.nodes n2 [] (codes "$-1\r\n") (codes "+OK\r\n-MOVED 11298 n1:7001\r\n:1\r\n") 0 (plain n2 set_a) (plain n2 set_d ∷ plain n2 del_a ∷ []) okay (server_error moved_d ∷ one ∷ []) refl refl (refl, (refl, (refl, tt))) refl (reads_three _ _ _ _ _ _ refl refl refl (lit≤ tt, lit≤ tt, refl, refl, refl)), refl),
)

happened : EachHappened at_first here
unfolding digits first_error server_kind
happened = record {
  events = by_each;
  runs = runs;
  logged = refl;
  calls = link_calls_made at_first.nodes here.nodes by_each (positions_of each_entries) runs (refl, (refl, tt));
  entries = refl;
  settings = refl;
  flag = refl;
}

answer : EachAnswered None at_first here (in_parts each_entries) by_each (λ each. AreOutcomesOf (splits_in each_entries) each each_outcomes)
unfolding destination rule_of table hash_slot splitting_of digits first_error server_kind
answer = record {
  dispatches = each_dispatches;
  planned = refl;
  picks = refl;
  unpicked = refl;
  sent = refl;
  each = λ place. (refl, (refl, (refl, (refl, refl))));
}

made : EachMade None at_first here each_entries (Ok each_outcomes)
unfolding happened
made = record { happened = happened; told = answer }

pub each_is_made : IsMade at_first one_lost each_told by_each
unfolding happened made
each_is_made = (each_made None at_first here each_entries (Ok each_outcomes) made, each_events None at_first here each_entries (Ok each_outcomes) made)
