use Rattle.std.specs.Prelude.{option_map}
use Rattle.std.specs.List.{AllByRecursion}
use Rattle.std.proofs.Common.{arith, ℕ, true, false, List, Some, Bor, ◌≡◌, ◌∙◌, length, sym, ap, subst}
use Rattle.std.proofs.lemmas.Result.{err_from_is_err_and}
use Rattle.cluster_routing.specs.Info.{shown_split}
use Rattle.cluster_routing.proofs.DirectionViews.{own_splitting}
use Rattle.cluster_calls.specs.Calls.Parts.{fits_order}
use Rattle.cluster_steps.specs.Dispatches.{IsPlaced}
use Rattle.cluster_calls.specs.Links.Happened.{client_of}
use Rattle.cluster_client.specs.Whole.{whole}
use Rattle.cluster_calls.specs.Links.World.{nodes}
use Rattle.cluster_calls.proofs.LinkLaws.Ordering.{holds_in_order}
use Rattle.cluster_client.proofs.Prepared.{prepared_dispatches, prepared_planned, prepared_routes, prepared_unfit, prepared_unplaced, pushed_parts}
use Rattle.cluster_client.proofs.client.ClusterClient.prepare_parts.Goals as goal

pub push_split-requires : goal.push_split-requires
push_split-requires g c = own_splitting _ c.args.call.now.command.now.args (shown_split c.args.split) c.requires.split

pub returns-then-not-branch-clause-planned : goal.returns-then-not-branch-clause-planned
returns-then-not-branch-clause-planned g c m number =
    let world = whole g.L.ConnectionLike.seen c.args.self.now in
    let order = option_map (λ (o : Bor (List ℕ)). o.now) c.args.call.now.order in
    let list = c.push_split.new.parts in
    let parts = pushed_parts c.args.call.now.command.now (client_of world).settings.read_only c.requires.response c.args.split c.requires.split list.items (rw c.in_ok-list.ensures.items at c.in_ok-push_split.ensures) number in
    let count : c.len-2.result ≡ length list.items = omega (arith, c.len-2.ensures, list.ok.0) in
    let unfit : fits_order order (length list.items) ≡ false = ap (fits_order order) (sym count) ∙ sym c.in_ok-fits_order.ensures ∙ c.if-not-branch.true in
    rw (c.begin.ensures.picked, c.from.ensures) (prepared_unfit (client_of world) c.args.call.now.command.now order number list.items parts _ unfit)

pub returns-in_err-dispatches-clause-planned : goal.returns-in_err-dispatches-clause-planned
returns-in_err-dispatches-clause-planned g c =
    let p = err_from_is_err_and c.from_residual-in_err-dispatches.result c.from_residual-in_err-dispatches.ensures.1 in
    let world = whole g.L.ConnectionLike.seen c.args.self.now in
    let order = option_map (λ (o : Bor (List ℕ)). o.now) c.args.call.now.order in
    let list = c.push_split.new.parts in
    let count : c.len-2.result ≡ length list.items = omega (arith, c.len-2.ensures, list.ok.0) in
    let fits : fits_order order (length list.items) ≡ true = ap (fits_order order) (sym count) ∙ sym c.in_ok-fits_order.ensures ∙ c.if-not-branch.false in
    rw (p.1, p.2) (λ m number.
    let parts = pushed_parts c.args.call.now.command.now (client_of world).settings.read_only c.requires.response c.args.split c.requires.split list.items (rw c.in_ok-list.ensures.items at c.in_ok-push_split.ensures) number in
    prepared_unplaced (client_of world) c.args.call.now.command.now order number list.items parts fits _ _ _ (c.in_err-dispatches.ensures.dispatched (λ k. m (cc k)) world.settings))

pub prepared_in_order-requires-clause-dispatches : goal.prepared_in_order-requires-clause-dispatches
prepared_in_order-requires-clause-dispatches g c =
    let world = whole g.L.ConnectionLike.seen c.args.self.now in
    let order = option_map (λ (o : Bor (List ℕ)). o.now) c.args.call.now.order in
    let list = c.push_split.new.parts in
    let parts = pushed_parts c.args.call.now.command.now (client_of world).settings.read_only c.requires.response c.args.split c.requires.split list.items (rw c.in_ok-list.ensures.items at c.in_ok-push_split.ensures) 0 in
    let count : c.len-2.result ≡ length list.items = omega (arith, c.len-2.ensures, list.ok.0) in
    let fits : fits_order order (length list.items) ≡ true = ap (fits_order order) (sym count) ∙ sym c.in_ok-fits_order.ensures ∙ c.if-not-branch.false in
    prepared_dispatches (client_of world) c.args.call.now.command.now order 0 list.items parts fits _ _ c.in_ok-dispatches.dispatches.items (c.in_ok-dispatches.ensures.dispatched (λ k. cc k) world.settings)

pub prepared_in_order-requires-clause-routes : goal.prepared_in_order-requires-clause-routes
prepared_in_order-requires-clause-routes g c =
    let world = whole g.L.ConnectionLike.seen c.args.self.now in
    let order = option_map (λ (o : Bor (List ℕ)). o.now) c.args.call.now.order in
    let list = c.push_split.new.parts in
    let parts = pushed_parts c.args.call.now.command.now (client_of world).settings.read_only c.requires.response c.args.split c.requires.split list.items (rw c.in_ok-list.ensures.items at c.in_ok-push_split.ensures) 0 in
    let count : c.len-2.result ≡ length list.items = omega (arith, c.len-2.ensures, list.ok.0) in
    let fits : fits_order order (length list.items) ≡ true = ap (fits_order order) (sym count) ∙ sym c.in_ok-fits_order.ensures ∙ c.if-not-branch.false in
    prepared_routes (client_of world) c.args.call.now.command.now order 0 list.items parts fits (Some c.args.split) c.requires.split

pub returns-clause-planned : goal.returns-clause-planned
returns-clause-planned g c m number =
    let world = whole g.L.ConnectionLike.seen c.args.self.now in
    let order = option_map (λ (o : Bor (List ℕ)). o.now) c.args.call.now.order in
    let list = c.push_split.new.parts in
    let parts = pushed_parts c.args.call.now.command.now (client_of world).settings.read_only c.requires.response c.args.split c.requires.split list.items (rw c.in_ok-list.ensures.items at c.in_ok-push_split.ensures) number in
    let count : c.len-2.result ≡ length list.items = omega (arith, c.len-2.ensures, list.ok.0) in
    let fits : fits_order order (length list.items) ≡ true = ap (fits_order order) (sym count) ∙ sym c.in_ok-fits_order.ensures ∙ c.if-not-branch.false in
    prepared_planned (client_of world) c.args.call.now.command.now order number list.items parts fits _ _ c.in_ok-dispatches.dispatches.items (c.in_ok-dispatches.ensures.dispatched (λ k. cc k) world.settings)
    c.in_ok-prepared_in_order.field-0.dispatches.items c.in_ok-prepared_in_order.ensures.dispatches

pub returns-clause-placed : goal.returns-clause-placed
returns-clause-placed g c =
    let order = option_map (λ (o : Bor (List ℕ)). o.now) c.args.call.now.order in
    let at = IsPlaced (nodes g.L.ConnectionLike.seen c.args.self.now.links.nodes.items) in
    subst (AllByRecursion at) (sym c.in_ok-prepared_in_order.ensures.dispatches) (holds_in_order at order c.in_ok-dispatches.dispatches.items c.in_ok-dispatches.ensures.placed)
