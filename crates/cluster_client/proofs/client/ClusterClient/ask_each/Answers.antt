use Rattle.std.proofs.Common.{◌≡◌, ◌∙◌, [], ◌∷◌, map, arith, sym, ap}
use Rattle.std.specs.Vec.Iter.{into_iter_items}
use Rattle.std.proofs.lemmas.List.{map-append, nil_from_length}
use Rattle.std.proofs.lemmas.Grind.{common_steps}
use Rattle.std.proofs.lemmas.Result.{err_from_is_err_and}
use Rattle.cluster_steps.specs.Dispatches.{dispatch_of}
use Rattle.cluster_client.specs.Whole.{whole}
use Rattle.cluster_client.proofs.Logged.{grown_by, nodes_not_begun, nodes_with_room}
use Rattle.cluster_client.proofs.NodeLoop.{asks_done, asks_more, asks_refused, others_placed}
use Rattle.cluster_client.proofs.client.ClusterClient.ask_each.Goals as goal

pub returns-in_err-requests : goal.returns-in_err-requests
returns-in_err-requests g c =
    let world = whole g.L.ConnectionLike.seen c.args.self.now in
    let p = err_from_is_err_and c.from_residual.result c.from_residual.ensures.1 in
    rw (p.1, p.2) (nodes_not_begun world _ c.in_err-requests.ensures.log _)

pub returns-in_err-questions : goal.returns-in_err-questions
returns-in_err-questions g c =
    let world = whole g.L.ConnectionLike.seen c.args.self.now in
    let p = err_from_is_err_and c.from_residual-in_err-questions.result c.from_residual-in_err-questions.ensures.1 in
    rw (p.1, p.2) (nodes_not_begun world _ c.in_ok-requests.ensures.log _)

pub returns-in_err-replies : goal.returns-in_err-replies
returns-in_err-replies g c =
    let world = whole g.L.ConnectionLike.seen c.args.self.now in
    let p = err_from_is_err_and c.from_residual-in_err-replies.result c.from_residual-in_err-replies.ensures.1 in
    rw (p.1, p.2) (nodes_not_begun world _ c.in_ok-requests.ensures.log _)

pub nodes-init : goal.nodes-init
nodes-init g c =
    let world = whole g.L.ConnectionLike.seen c.args.self.now in
    let all : into_iter_items c.into_iter-question-iterator.result ≡ c.in_ok-questions.questions.items = c.into_iter-question-iterator.ensures.into_iter_gives.0 in
    let same = ap (map (λ q. q.request.dispatch)) all ∙ c.in_ok-questions.ensures.same ∙ c.in_ok-requests.ensures.dispatches in
    record {
      loop = rw (same, c.in_ok-replies.ensures.items) (nodes_with_room world _ c.in_ok-requests.ensures.log _);
      placed = rw same c.requires.placed;
      apart = rw same c.requires.apart;
      room = rw all (grind (arith, common_steps));
      log_room = rw all (grind (arith, common_steps));
    }

pub ask-requires-clause-placed : goal.ask-requires-clause-placed
ask-requires-clause-placed g c =
    let steps : into_iter_items c.nodes.question-iterator ≡ c.in-Some.question ∷ into_iter_items c.next.new.self = c.in-Some.ensures.steps.0 in
    let placed = rw steps at c.nodes.invariant.placed in
    placed.0

pub returns-in_err-reply : goal.returns-in_err-reply
returns-in_err-reply g c =
    let p = err_from_is_err_and c.from_residual-in_err-reply.result c.from_residual-in_err-reply.ensures.1 in
    let steps : into_iter_items c.nodes.question-iterator ≡ c.in-Some.question ∷ into_iter_items c.next.new.self = c.in-Some.ensures.steps.0 in
    let loop = rw steps at c.nodes.invariant.loop in
    rw (p.1, p.2) (asks_refused _ _ _ _ (dispatch_of c.in-Some.question.request.dispatch) _ _ loop _ c.in_err-reply.ensures.asked
    (grown_by _ _ _ _ 1 c.nodes.self.asked.ok.0 c.ask.new.self.asked.ok.0 c.in_err-reply.ensures.log_len))

pub returns : goal.returns
returns g c =
    let none : into_iter_items c.nodes.question-iterator ≡ [] = nil_from_length (into_iter_items c.nodes.question-iterator) (sym c.nodes.question-iterator.rest.ok.0 ∙ c.in-None.ensures.steps.0) in
    asks_done _ _ _ _ (rw none at c.nodes.invariant.loop)

pub nodes-preserved : goal.nodes-preserved
nodes-preserved g c =
    let steps : into_iter_items c.nodes.question-iterator ≡ c.in-Some.question ∷ into_iter_items c.next.new.self = c.in-Some.ensures.steps.0 in
    let placed = rw steps at c.nodes.invariant.placed in
    let apart = rw steps at c.nodes.invariant.apart in
    let loop = rw steps at c.nodes.invariant.loop in
    let d = dispatch_of c.in-Some.question.request.dispatch in
    record {
      loop = rw (c.push.ensures.items, c.unwrap.ensures, map-append) (asks_more _ _ _ _ d _ _ loop _ c.in_ok-reply.ensures.asked);
      placed = others_placed _ _ d _ c.in_ok-reply.ensures.asked _ apart.0 placed.1;
      apart = apart.1;
      room = grind (arith, common_steps);
      log_room = grind (arith, common_steps);
    }
