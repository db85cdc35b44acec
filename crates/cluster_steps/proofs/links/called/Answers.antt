use Rattle.std.proofs.Common.{◌≡◌, ℕ, List, Result, Ok, Err, get_or}
use Rattle.std.specs.Prelude.{Vec}
use Rattle.std.specs.declared.alloc.Global.{Global}
use Rattle.std.proofs.lemmas.List.{get_or_default}
use Rattle.resp_core.specs.Errors.{Refusal}
use Rattle.resp_core.specs.View.{view}
use Rattle.resp_core.specs.declared.value.Value.{Value}
use Rattle.resp_link.specs.Call.{CallsMany, Seen}
use Rattle.cluster_calls.specs.Links.World.{Called, tree_results}
use Rattle.cluster_calls.proofs.LinkLaws.Nodes.{calls_one}
use Rattle.cluster_steps.proofs.links.called.Goals as goal

in_trees : (old new : Seen) (bytes : List ℕ) (offset count : ℕ) (r : Result (Vec Value Global) Refusal)
    → CallsMany old new bytes offset count r → Called old new bytes offset count (tree_results view r)
in_trees old new bytes offset count (Ok replies) made = made
in_trees old new bytes offset count (Err e) made = made

pub returns : goal.returns
returns g c =
    let links = c.args.links.now in
    let pair = get_or links c.args.index c.index-links-index.result in
    let is : pair ≡ get_or links c.args.index pair = get_or_default links c.args.index c.index-links-index.result pair c.requires in
    calls_one g.L.ConnectionLike.seen links c.args.index pair c.req_packed_commands.new.self (λ before after. Called before after c.args.bytes.now c.args.wanted.offset c.args.wanted.count (tree_results view c.req_packed_commands.result)) c.requires is (in_trees _ _ _ _ _ _ c.req_packed_commands.ensures)
