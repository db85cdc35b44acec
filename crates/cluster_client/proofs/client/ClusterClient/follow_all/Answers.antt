use Rattle.std.proofs.Common.{◌≡◌, ◌<◌, ◌∙◌, [], ◌∷◌, length, map, arith, sym, ap}
use Rattle.std.specs.Vec.Iter.{into_iter_items}
use Rattle.std.proofs.lemmas.List.{length-map, map-append, nil_from_length}
use Rattle.std.proofs.lemmas.Grind.{common_steps}
use Rattle.std.proofs.lemmas.Result.{err_from_is_err_and}
use Rattle.cluster_routing.specs.Seen.{address}
use Rattle.cluster_steps.specs.Dispatches.{dispatch_of}
use Rattle.cluster_calls.specs.Links.World.{nodes}
use Rattle.cluster_calls.proofs.LinkLaws.PartLoop.{from_place, parts_done, parts_more, parts_refused, place_within, still_placed}
use Rattle.cluster_client.specs.Whole.{whole}
use Rattle.cluster_client.proofs.Logged.{parts_not_begun, parts_with_room}
use Rattle.cluster_client.proofs.client.ClusterClient.follow_all.Goals as goal

pub returns-in_err-requests : goal.returns-in_err-requests
returns-in_err-requests g c =
    let world = whole g.L.ConnectionLike.seen c.args.self.now in
    let p = err_from_is_err_and c.from_residual.result c.from_residual.ensures.1 in
    rw (p.1, p.2) (parts_not_begun world _ c.in_err-requests.ensures.log _)

pub returns-in_err-replies : goal.returns-in_err-replies
returns-in_err-replies g c =
    let world = whole g.L.ConnectionLike.seen c.args.self.now in
    let p = err_from_is_err_and c.from_residual-in_err-replies.result c.from_residual-in_err-replies.ensures.1 in
    rw (p.1, p.2) (parts_not_begun world _ c.in_ok-requests.ensures.log _)

pub parts-init : goal.parts-init
parts-init g c =
    let world = whole g.L.ConnectionLike.seen c.args.self.now in
    let all : into_iter_items c.into_iter-request-iterator.result ≡ c.in_ok-requests.requests.items = c.into_iter-request-iterator.ensures.into_iter_gives.0 in
    let same = ap (map (λ r. r.dispatch)) all ∙ c.in_ok-requests.ensures.dispatches in
    record {
      loop = rw (same, c.in_ok-replies.ensures.items) (parts_with_room world _ c.in_ok-requests.ensures.log _);
      placed = rw same c.requires;
      count = rw all (grind (arith, common_steps));
      room = grind (arith, common_steps);
      log_room = grind (arith, common_steps);
    }

pub follow-requires-clause-place : goal.follow-requires-clause-place
follow-requires-clause-place g c =
    let steps : into_iter_items c.parts.request-iterator ≡ c.in-Some.request ∷ into_iter_items c.next.new.self = c.in-Some.ensures.steps.0 in
    let placed = rw steps at c.parts.invariant.placed in
    still_placed c.parts.invariant.loop _ _ placed.0.place

pub follow-requires-clause-within : goal.follow-requires-clause-within
follow-requires-clause-within g c =
    let steps : into_iter_items c.parts.request-iterator ≡ c.in-Some.request ∷ into_iter_items c.next.new.self = c.in-Some.ensures.steps.0 in
    let placed = rw steps at c.parts.invariant.placed in
    let at = still_placed c.parts.invariant.loop _ _ placed.0.place in
    let within : c.in-Some.request.dispatch.to.link < length c.parts.self.links.nodes.items = rw length-map at (place_within (nodes g.L.ConnectionLike.seen c.parts.self.links.nodes.items) (address c.in-Some.request.dispatch.to.node) c.in-Some.request.dispatch.to.link at.place) in
    rw c.parts.self.links.nodes.ok.0 within

pub returns-in_err-reply : goal.returns-in_err-reply
returns-in_err-reply g c =
    let p = err_from_is_err_and c.from_residual-in_err-reply.result c.from_residual-in_err-reply.ensures.1 in
    let steps : into_iter_items c.parts.request-iterator ≡ c.in-Some.request ∷ into_iter_items c.next.new.self = c.in-Some.ensures.steps.0 in
    let placed = rw steps at c.parts.invariant.placed in
    let loop = rw steps at c.parts.invariant.loop in
    let d = dispatch_of c.in-Some.request.dispatch in
    rw (p.1, p.2) (parts_refused _ _ _ _ d _ _ loop _ (from_place _ _ d _ _ placed.0.direct c.in_err-reply.ensures.made))

pub returns : goal.returns
returns g c =
    let none : into_iter_items c.parts.request-iterator ≡ [] = nil_from_length _ (sym c.parts.request-iterator.rest.ok.0 ∙ c.in-None.ensures.steps.0) in
    parts_done _ _ _ _ (rw none at c.parts.invariant.loop)

pub parts-preserved : goal.parts-preserved
parts-preserved g c =
    let steps : into_iter_items c.parts.request-iterator ≡ c.in-Some.request ∷ into_iter_items c.next.new.self = c.in-Some.ensures.steps.0 in
    let placed = rw steps at c.parts.invariant.placed in
    let loop = rw steps at c.parts.invariant.loop in
    let count = rw steps at c.parts.invariant.count in
    let d = dispatch_of c.in-Some.request.dispatch in
    record {
      loop = rw (c.push.ensures.items, c.unwrap.ensures, map-append) (parts_more _ _ _ _ d _ _ loop _ (from_place _ _ d _ _ placed.0.direct c.in_ok-reply.ensures.made));
      placed = placed.1;
      count = grind (arith, common_steps);
      room = grind (arith, common_steps);
      log_room = grind (arith, common_steps);
    }
