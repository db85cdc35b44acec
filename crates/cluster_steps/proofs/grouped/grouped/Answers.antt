use Rattle.std.specs.Prelude.{slice_set}
use Rattle.std.proofs.Common.{◌<◌, ◌∙◌, ◌∷◌, ◌++◌, [], length, map, refl, sym, ap, subst, append_assoc}
use Rattle.std.proofs.lemmas.List.{length-map, map-set}
use Rattle.std.proofs.lemmas.Option.{slice_get_read, slice_get_within}
use Rattle.cluster_steps.specs.Groups.{Puts, gathered_of, places_in_use, place_in, request_in}
use Rattle.cluster_steps.specs.Numbers.{found}
use Rattle.cluster_steps.specs.declared.grouped.Gathered.{Gathered}
use Rattle.cluster_steps.proofs.PipeGrouping.{Grouping, grouping_more, put_is, still_numbered}
use Rattle.cluster_steps.proofs.grouped.grouped.Goals as goal

pub dispatches-preserved : goal.dispatches-preserved
dispatches-preserved c =
    let within = rw c.in-Some.ensures.steps.0 at c.dispatches.invariant.within in
    let told = c.in_ok-number.ensures in
    let number = c.in_ok-number.number in
    let groups = c.number_of.new.groups in
    let there : number < length groups.items = subst (λ n. number < n) (length-map _ _ ∙ length-map _ _) (slice_get_within (places_in_use (map gathered_of groups.items)) number (place_in c.in-Some.dispatch) told.number) in
    let read = slice_get_read _ _ _ _ refl there c.index_mut.ensures.value in
    let more : Gathered = record { link = c.index_mut.result.now.link; requests = c.push.new.self } in
    let puts : Puts (map gathered_of groups.items) (map gathered_of (slice_set groups.items number more)) number (request_in c.in-Some.dispatch) =
    λ group found. map-set _ _ _ _ ∙ ap (slice_set (map gathered_of groups.items) number) (put_is groups.items number c.index_mut.result.now group _ _ read found c.in_ok-push.ensures.items) in
    record {
      split = c.dispatches.invariant.split ∙ ap (λ rs. c.dispatches.yielded ++ rs) c.in-Some.ensures.steps.0 ∙ sym (append_assoc c.dispatches.yielded (c.in-Some.dispatch ∷ []) _);
      within = within.1;
      places = λ k below. told.places k (c.dispatches.invariant.places k below);
      numbered = still_numbered (found c.number_of.new.table) (map gathered_of groups.items) _ number (place_in c.in-Some.dispatch) (request_in c.in-Some.dispatch) told.number puts told.numbered;
      grouping = subst (Grouping (c.dispatches.yielded ++ c.in-Some.dispatch ∷ []) (map gathered_of (slice_set groups.items number more))) (sym c.in_ok-push-2.ensures.items)
          (grouping_more c.dispatches.yielded c.in-Some.dispatch _ (map gathered_of groups.items) _ c.dispatches.numbers.items number c.dispatches.invariant.grouping told.groups told.number puts);
    }
