use Rattle.std.specs.Vec.Iter.{into_iter_items}
use Rattle.std.proofs.Common.{◌≡◌, ◌∙◌, ◌++◌, [], ℕ, List, map, append-nil, refl, sym, ap}
use Rattle.std.proofs.lemmas.List.{nil_from_length}
use Rattle.cluster_routing.specs.Info.{shown_routed, texts}
use Rattle.cluster_routing.specs.declared.route.Route.{Route}
use Rattle.cluster_steps.specs.CodeParts.{routed_part}
use Rattle.cluster_steps.specs.FirstPlaces.{part_of}
use Rattle.cluster_steps.proofs.ReadStreams.{one_listed}
use Rattle.cluster_steps.proofs.route.push_parts.Goals as goal

pub routes-init : goal.routes-init
routes-init c = ap (λ routed. map part_of c.args.parts.now.items ++ map routed_part (shown_routed routed)) c.into_iter-route-iterator.ensures.into_iter_gives.0

pub routes-preserved : goal.routes-preserved
routes-preserved c =
    let steps = ap shown_routed c.in-Some.ensures.steps.0 in
    let here : Route × List (List ℕ) = (c.in-Some.route, texts c.in-Some.args.items) in
    let later : List (Route × List (List ℕ)) = shown_routed (into_iter_items c.next.new.self) in
    rw c.in_ok-push.ensures.items (one_listed part_of routed_part c.routes.parts.items _ here later _ refl (rw steps at c.routes.invariant))

pub returns : goal.returns
returns c =
    let none : into_iter_items c.routes.route-iterator ≡ [] = nil_from_length _ (sym c.routes.route-iterator.rest.ok.0 ∙ c.in-None.ensures.steps.0) in
    let all = rw none at c.routes.invariant in
    sym (append-nil (map part_of c.routes.parts.items)) ∙ all
