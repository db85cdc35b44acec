use Rattle.std.specs.Vec.Iter.{into_iter_items}
use Rattle.std.proofs.Common.{◌≡◌, ◌∙◌, append-nil, [], ℕ, List, map, codes, refl, sym, ap}
use Rattle.std.proofs.lemmas.List.{nil_from_length}
use Rattle.cluster_routing.specs.Info.{lent, shown_parts, texts}
use Rattle.cluster_routing.specs.Routing.{role_of}
use Rattle.cluster_routing.specs.Split.{key_routes}
use Rattle.cluster_routing.specs.declared.route.Route.{Route}
use Rattle.stream_commands.specs.Joining.{positions}
use Rattle.cluster_calls.specs.Calls.Task.{stream_keys}
use Rattle.cluster_steps.specs.FirstPlaces.{part_of}
use Rattle.cluster_steps.specs.Reads.{part_at, streams_in}
use Rattle.cluster_steps.proofs.ReadStreams.{one_listed, parts_are, places_are}
use Rattle.cluster_steps.proofs.read_parts.read_parts.Goals as goal

pub groups-init : goal.groups-init
groups-init c =
    let streams = streams_in c.args.streams.now in
    let role = role_of (codes "XREAD") (texts c.args.read_only.now) in
    let keys : lent c.deref.result.now ≡ stream_keys streams = rw c.deref.ensures.value c.in_ok-keys.ensures in
    let groups : shown_parts c.in_ok-groups.groups.items ≡ key_routes role (stream_keys streams) = rw (keys, c.role_of.ensures) at c.in_ok-groups.ensures in
    let all : shown_parts (into_iter_items c.into_iter-route-iterator.result) ≡ key_routes role (stream_keys streams) = ap shown_parts c.into_iter-route-iterator.ensures.into_iter_gives.0 ∙ groups in
    record {
      list = rw (c.new-list.ensures.items, all) (parts_are role streams c.args.options.now);
      places = rw (c.new-places.ensures.items, all) (places_are role streams);
    }

pub groups-preserved : goal.groups-preserved
groups-preserved c =
    let streams = streams_in c.args.streams.now in
    let steps = ap shown_parts c.in-Some.ensures.steps.0 in
    let here : Route × List ℕ = (c.in-Some.route, c.in-Some.positions.items) in
    let later : List (Route × List ℕ) = shown_parts (into_iter_items c.next.new.self) in
    let same : part_of c.in_ok-read_part.field-0 ≡ part_at c.args.options.now streams here = rw c.deref-in-groups.ensures.value at c.in_ok-read_part.ensures in
    record {
      list = rw c.in_ok-push.ensures.items (one_listed part_of (part_at c.args.options.now streams) c.groups.list.items c.in_ok-read_part.field-0 here later _ same (rw steps at c.groups.invariant.list));
      places = rw c.in_ok-push-2.ensures.items (one_listed (λ v. v.items) (λ (g : Route × List ℕ). g.1) c.groups.places.items c.in-Some.positions here later _ refl (rw steps at c.groups.invariant.places));
    }

pub returns-clause-parts : goal.returns-clause-parts
returns-clause-parts c =
    let none : into_iter_items c.groups.route-iterator ≡ [] = nil_from_length _ (sym c.groups.route-iterator.rest.ok.0 ∙ c.in-None.ensures.steps.0) in
    let all = rw none at c.groups.invariant.list in
    sym (append-nil (map part_of c.groups.list.items)) ∙ all

pub returns-clause-places : goal.returns-clause-places
returns-clause-places c =
    let none : into_iter_items c.groups.route-iterator ≡ [] = nil_from_length _ (sym c.groups.route-iterator.rest.ok.0 ∙ c.in-None.ensures.steps.0) in
    let all = rw none at c.groups.invariant.places in
    sym (append-nil (positions c.groups.places.items)) ∙ all
