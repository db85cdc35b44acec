use Rattle.std.specs.Prelude.{option_map}
use Rattle.std.proofs.Common.{ℕ, true, false, List, Bor, [], ◌∷◌, ◌≡◌, ◌∙◌, sym, ap}
use Rattle.std.proofs.lemmas.Result.{err_from_is_err_and}
use Rattle.resp_args.specs.Packed.{sent}
use Rattle.cluster_routing.specs.Seen.{addresses}
use Rattle.cluster_calls.specs.Calls.Parts.{fits_order, part_to}
use Rattle.cluster_calls.specs.Links.Happened.{client_of}
use Rattle.cluster_steps.specs.FirstPlaces.{target_of}
use Rattle.cluster_steps.specs.Requests.{CodeDispatch}
use Rattle.cluster_steps.proofs.Dispatched.{command_unfit, command_unparted, command_unplaced}
use Rattle.cluster_steps.proofs.Dispatching.{loop_done, loop_more, loop_refused, loop_start}
use Rattle.cluster_steps.proofs.PartTargets.{refused_targets}
use Rattle.cluster_client.specs.Whole.{whole}
use Rattle.cluster_client.proofs.Prepared.{alone_at, planned_alone}
use Rattle.cluster_client.proofs.client.ClusterClient.prepare.Goals as goal

-- a command without parts has no plan
pub returns-in_err-targets-clause-planned : goal.returns-in_err-targets-clause-planned
returns-in_err-targets-clause-planned g c =
    let p = err_from_is_err_and c.from_residual-in_err-targets.result c.from_residual-in_err-targets.ensures.1 in
    let world = whole g.L.ConnectionLike.seen c.args.self.now in
    let order = option_map (λ (o : Bor (List ℕ)). o.now) c.args.call.now.order in
    rw (p.1, p.2, c.begin.ensures.picked) (λ m.
    let none = refused_targets _ c.in_err-targets.field-0.0 (c.in_err-targets.ensures.targets (client_of world).settings.read_only c.in_ok-direction.ensures) in
    command_unparted c.args.call.now.command.now order c.args.call.now.number (client_of world) _ c.in_err-targets.field-0.0 (sym none))

pub returns-then-not-branch-clause-planned : goal.returns-then-not-branch-clause-planned
returns-then-not-branch-clause-planned g c m =
    let world = whole g.L.ConnectionLike.seen c.args.self.now in
    let order = option_map (λ (o : Bor (List ℕ)). o.now) c.args.call.now.order in
    let alone = alone_at c.args.call.now.command.now (client_of world).settings.read_only c.args.call.now.number c.in_ok-targets.ensures.response c.in-Whole.target _ c.in-Whole.is (c.in_ok-targets.ensures.word _ c.in_ok-direction.ensures) (c.in_ok-targets.ensures.targets _ c.in_ok-direction.ensures) in
    let unfit : fits_order order 1 ≡ false = sym c.in_ok-fits_order-in-Whole.ensures ∙ c.if-not-branch.true in
    rw (c.begin.ensures.picked, c.from.ensures) (command_unfit c.args.call.now.command.now order c.args.call.now.number (client_of world) _ _ alone unfit)

pub returns-in_err-hop-in-Whole-clause-planned : goal.returns-in_err-hop-in-Whole-clause-planned
returns-in_err-hop-in-Whole-clause-planned g c =
    let p = err_from_is_err_and c.from_residual-in_err-hop-in-Whole.result c.from_residual-in_err-hop-in-Whole.ensures.1 in
    let world = whole g.L.ConnectionLike.seen c.args.self.now in
    let order = option_map (λ (o : Bor (List ℕ)). o.now) c.args.call.now.order in
    let alone = alone_at c.args.call.now.command.now (client_of world).settings.read_only c.args.call.now.number c.in_ok-targets.ensures.response c.in-Whole.target _ c.in-Whole.is (c.in_ok-targets.ensures.word _ c.in_ok-direction.ensures) (c.in_ok-targets.ensures.targets _ c.in_ok-direction.ensures) in
    let part = part_to (sent c.args.call.now.command.now) (target_of c.in-Whole.target) in
    let fits : fits_order order 1 ≡ true = sym c.in_ok-fits_order-in-Whole.ensures ∙ c.if-not-branch.false in
    rw (p.1, p.2) (λ m. command_unplaced c.args.call.now.command.now order c.args.call.now.number (client_of world) _ (part ∷ []) alone fits _ _
    (loop_refused _ (client_of world) [] part [] [] _ [] _ (loop_start _ _) (rw (ap addresses c.new.ensures.items) at (c.in_err-hop-in-Whole.ensures.found (λ k. m (cc k))))))

pub returns-in_ok-request-in-Whole-clause-planned : goal.returns-in_ok-request-in-Whole-clause-planned
returns-in_ok-request-in-Whole-clause-planned g c m =
    let world = whole g.L.ConnectionLike.seen c.args.self.now in
    let order = option_map (λ (o : Bor (List ℕ)). o.now) c.args.call.now.order in
    let alone = alone_at c.args.call.now.command.now (client_of world).settings.read_only c.args.call.now.number c.in_ok-targets.ensures.response c.in-Whole.target _ c.in-Whole.is (c.in_ok-targets.ensures.word _ c.in_ok-direction.ensures) (c.in_ok-targets.ensures.targets _ c.in_ok-direction.ensures) in
    let part = part_to (sent c.args.call.now.command.now) (target_of c.in-Whole.target) in
    let fits : fits_order order 1 ≡ true = sym c.in_ok-fits_order-in-Whole.ensures ∙ c.if-not-branch.false in
    let dispatch : CodeDispatch = record { to = c.in_ok-hop-in-Whole.field-0; args = c.in_ok-wire_args-in-Whole.field-0 } in
    rw c.in_ok-request-in-Whole.ensures.dispatch (planned_alone (client_of world) c.args.call.now.command.now order c.args.call.now.number (target_of c.in-Whole.target) alone fits _ _ dispatch c.in_ok-wire_args-in-Whole.ensures
    (loop_done _ (client_of world) _ _ _ (loop_more _ (client_of world) [] part [] _ [] _ (loop_start _ _) (rw (ap addresses c.new.ensures.items) at (c.in_ok-hop-in-Whole.ensures.found (λ k. cc k))))))
