use Rattle.std.proofs.Common.{◌≡◌, ℕ, List, Result, Ok, Err, get_or}
use Rattle.std.proofs.lemmas.List.{get_or_default}
use Rattle.resp_core.specs.Errors.{Refusal}
use Rattle.resp_core.specs.View.{view}
use Rattle.resp_core.specs.declared.value.Value.{Value}
use Rattle.resp_link.specs.Call.{CallsOne, Seen}
use Rattle.cluster_calls.specs.Links.World.{Called, one_reply, tree_result}
use Rattle.cluster_calls.proofs.LinkLaws.Nodes.{calls_one}
use Rattle.cluster_steps.proofs.links.called_one.Goals as goal

in_trees : (old new : Seen) (bytes : List ℕ) (r : Result Value Refusal) → CallsOne old new bytes r
    → Called old new bytes 0 1 (one_reply (tree_result view r))
in_trees old new bytes (Ok reply) made = made
in_trees old new bytes (Err e) made = made

pub returns : goal.returns
returns g c =
    let links = c.args.links.now in
    let pair = get_or links c.args.index c.index-links-index.result in
    let is : pair ≡ get_or links c.args.index pair = get_or_default links c.args.index c.index-links-index.result pair c.requires in
    calls_one g.L.ConnectionLike.seen links c.args.index pair c.req_packed_command.new.self (λ before after. Called before after c.args.bytes.now 0 1 (one_reply (tree_result view c.req_packed_command.result))) c.requires is (in_trees _ _ _ _ c.req_packed_command.ensures)
