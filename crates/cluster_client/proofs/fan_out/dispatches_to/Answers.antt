use Rattle.std.proofs.Common.{◌∙◌, ◌++◌, ◌∷◌, [], map, refl, sym, ap, append-nil, append_assoc}
use Rattle.std.proofs.lemmas.List.{map-append, nil_from_length}
use Rattle.std.proofs.lemmas.Result.{err_from_is_err_and}
use Rattle.resp_args.specs.Packed.{sent}
use Rattle.cluster_routing.specs.Seen.{address}
use Rattle.cluster_steps.specs.Dispatches.{dispatch_of}
use Rattle.cluster_client.specs.NodeRuns.{parts_to_nodes}
use Rattle.cluster_steps.proofs.Dispatching.{all_more, dispatched_as, loop_as, loop_done}
use Rattle.cluster_client.proofs.SeveralNodes.{node_more, node_refused}
use Rattle.cluster_client.proofs.fan_out.dispatches_to.Goals as goal

pub returns-in_err-dispatch-clause-dispatched : goal.returns-in_err-dispatch-clause-dispatched
returns-in_err-dispatch-clause-dispatched g c =
    let p = err_from_is_err_and c.from_residual.result c.from_residual.ensures.1 in
    let left = c.nodes.invariant.split ∙ ap (λ rs. c.nodes.yielded ++ rs) c.in-Some.ensures.steps.0 in
    rw (p.1, p.2) (λ m strategy client same.
    node_refused (sent c.args.cmd.now) _ (address c.in-Some.node.now) _ _ same (c.nodes.invariant.loop strategy client same) (map (λ a. address a.now) c.next.new.self.rest.items) _ _
    (ap (map (λ a. address a.now)) left ∙ map-append (λ a. address a.now) c.nodes.yielded _)
    (c.in_err-dispatch.ensures.node (λ k. m (cc k))))

pub nodes-preserved : goal.nodes-preserved
nodes-preserved g c = record {
  split = c.nodes.invariant.split ∙ ap (λ rs. c.nodes.yielded ++ rs) c.in-Some.ensures.steps.0 ∙ sym (append_assoc c.nodes.yielded (c.in-Some.node ∷ []) _);
  loop = λ strategy client same. loop_as
      (node_more (sent c.args.cmd.now) _ (address c.in-Some.node.now) _ _ same (c.nodes.invariant.loop strategy client same) _ (c.in_ok-dispatch.ensures.node (λ k. cc k)) c.in_ok-dispatch.ensures.args)
      (ap (parts_to_nodes (sent c.args.cmd.now)) (sym (map-append (λ a. address a.now) c.nodes.yielded (c.in-Some.node ∷ []))))
      (sym (map-append dispatch_of c.nodes.all.items _) ∙ ap (map dispatch_of) (sym c.in_ok-push.ensures.items));
  placed = rw c.in_ok-push.ensures.items (all_more _ _ _ c.nodes.invariant.placed c.in_ok-dispatch.ensures.placed);
}

pub returns-clause-dispatched : goal.returns-clause-dispatched
returns-clause-dispatched g c = λ m strategy client same.
    let all = c.nodes.invariant.split ∙ ap (λ rs. c.nodes.yielded ++ rs) (nil_from_length _ (sym c.nodes.node-iterator.rest.ok.0 ∙ c.in-None.ensures.steps.0)) ∙ append-nil c.nodes.yielded in
    dispatched_as _ _ (loop_done _ _ _ _ _ (c.nodes.invariant.loop strategy client same)) (ap (λ as'. parts_to_nodes (sent c.args.cmd.now) (map (λ a. address a.now) as')) (sym all)) refl refl
