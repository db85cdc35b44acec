use Rattle.std.proofs.Common.{◌≡◌, ◌∙◌, false, map, length, sym, ap, eqb-true}
use Rattle.std.proofs.lemmas.List.{nil_from_length}
use Rattle.std.proofs.lemmas.Result.{err_from_is_err_and}
use Rattle.resp_args.specs.Packed.{sent}
use Rattle.cluster_routing.specs.Seen.{address}
use Rattle.cluster_routing.proofs.DirectionViews.{destination_told}
use Rattle.cluster_calls.specs.Calls.Replies.{policy_in}
use Rattle.cluster_client.proofs.SeveralNodes.{fan_parts_by, fan_planned, fan_silent, fan_unplanned, named, no_nodes, not_empty, some_nodes, unrouted}
use Rattle.cluster_client.proofs.fan_out.node_dispatches.Goals as goal

pub returns-then-is_no_response-clause-planned : goal.returns-then-is_no_response-clause-planned
returns-then-is_no_response-clause-planned g c m strategy client links entries =
    rw c.from.ensures (fan_unplanned strategy client c.args.cmd.now _ (fan_silent client c.args.cmd.now (sym c.is_no_response.ensures ∙ c.if-is_no_response.true)))

pub returns-in_default-clause-planned : goal.returns-in_default-clause-planned
returns-in_default-clause-planned g c m strategy client links entries =
    let none = rw c.in_default.is at c.in_ok-addresses.ensures in
    rw c.from-in_default.ensures
    (fan_unplanned strategy client c.args.cmd.now _
    (fan_parts_by client c.args.cmd.now _ _ _ (sym c.is_no_response.ensures ∙ c.if-is_no_response.false) entries (destination_told _ c.args.cmd.now.args _ c.requires) (unrouted c.args.slots.now (sent c.args.cmd.now) _ (sym none))))

pub returns-then-is_empty-clause-planned : goal.returns-then-is_empty-clause-planned
returns-then-is_empty-clause-planned g c m strategy client links entries =
    let some = rw c.in-Some.is at c.in_ok-addresses.ensures in
    let empty : length c.in-Some.addresses.items ≡ 0 = sym c.in-Some.addresses.ok.0 ∙ eqb-true _ 0 (sym c.is_empty.ensures ∙ c.if-is_empty.true) in
    rw c.from-then-is_empty.ensures
    (fan_unplanned strategy client c.args.cmd.now _
    (fan_parts_by client c.args.cmd.now _ _ _ (sym c.is_no_response.ensures ∙ c.if-is_no_response.false) entries (destination_told _ c.args.cmd.now.args _ c.requires)
    (named c.args.slots.now (sent c.args.cmd.now) _ _ (sym some) ∙ no_nodes (sent c.args.cmd.now) _ (ap (map (λ a. address a.now)) (nil_from_length _ empty)))))

pub returns-in_err-list-clause-planned : goal.returns-in_err-list-clause-planned
returns-in_err-list-clause-planned g c =
    let p = err_from_is_err_and c.from_residual-in_err-list.result c.from_residual-in_err-list.ensures.1 in
    let some = rw c.in-Some.is at c.in_ok-addresses.ensures in
    let full = not_empty (λ a. address a.now) c.in-Some.addresses.items _ c.in-Some.addresses.ok.0 (sym c.is_empty.ensures ∙ c.if-is_empty.false) in
    rw (p.1, p.2) (λ m strategy client links entries.
    fan_planned strategy client c.args.cmd.now _ _
    (fan_parts_by client c.args.cmd.now _ _ _ (sym c.is_no_response.ensures ∙ c.if-is_no_response.false) entries (destination_told _ c.args.cmd.now.args _ c.requires)
    (named c.args.slots.now (sent c.args.cmd.now) _ _ (sym some) ∙ some_nodes (sent c.args.cmd.now) _ full))
    (c.in_err-list.ensures.dispatched (λ k. m (cc k)) strategy client links))

pub returns-clause-planned : goal.returns-clause-planned
returns-clause-planned g c m strategy client links entries =
    let some = rw c.in-Some.is at c.in_ok-addresses.ensures in
    let full = not_empty (λ a. address a.now) c.in-Some.addresses.items _ c.in-Some.addresses.ok.0 (sym c.is_empty.ensures ∙ c.if-is_empty.false) in
    fan_planned strategy client c.args.cmd.now _ _
    (fan_parts_by client c.args.cmd.now _ _ _ (sym c.is_no_response.ensures ∙ c.if-is_no_response.false) entries (destination_told _ c.args.cmd.now.args _ c.requires)
    (named c.args.slots.now (sent c.args.cmd.now) _ _ (sym some) ∙ some_nodes (sent c.args.cmd.now) _ full))
    (c.in_ok-list.ensures.dispatched (λ k. cc k) strategy client links)

pub returns-clause-policy : goal.returns-clause-policy
returns-clause-policy g c = c.policy_in.ensures ∙ ap policy_in (destination_told _ c.args.cmd.now.args _ c.requires)
