use Rattle.std.proofs.Common.{◌≡◌, ◌∙◌, drop, length, map, arith}
use Rattle.std.proofs.lemmas.Grind.{common_steps}
use Rattle.std.proofs.lemmas.List.{length-map}
use Rattle.resp_core.specs.View.{view}
use Rattle.cluster_calls.specs.Links.World.{tree_result}
use Rattle.proxy_core.specs.Batch.{batch_of}
use Rattle.cluster_servers.specs.Together.{AreTold}
use Rattle.cluster_servers.proofs.Telling.{told_end}
use Rattle.cluster_servers.proofs.together.tell_all.Goals as goal
use Rattle.cluster_servers.proofs.together.tell_all.Goals.{else-batch-test, then-batch-test+in_default}

pub returns : goal.returns
returns c =
    let inv = c.batch.invariant in
    let none : length (drop c.batch.asked-index c.args.batch.now) ≡ 0 = elim c.batch-test.branch [
      | else-batch-test w ↦ grind (arith, common_steps, w.batch-test)
      | then-batch-test+in_default w ↦ grind (arith, common_steps, inv.left, w.pop_front.ensures, w.in_default.is)
    ] in
    told_end (drop c.batch.asked-index c.args.batch.now) (map (tree_result view) c.batch.queue.items) c.batch.outcomes.items
    (λ os. AreTold (batch_of c.args.batch.now) (map (tree_result view) c.args.told.items) os)
    none (length-map c.batch.queue.items (tree_result view) ∙ inv.left ∙ none) inv.told
