use Rattle.std.specs.Prelude.{slice_get, ◌==◌, if◌then◌else◌}
use Rattle.std.proofs.Common.{◌≡◌, ◌∙◌, ◌∷◌, ◌++◌, [], Some, map, length, ap, sym, subst}
use Rattle.std.proofs.lemmas.List.{length-map, map-append}
use Rattle.cluster_steps.specs.Groups.{AreNumbered, empty_group, gathered_of, places_in_use}
use Rattle.cluster_steps.specs.Numbers.{found}
use Rattle.cluster_steps.proofs.PipeGrouping.{numbered_more, place_last, place_new, place_there}
use Rattle.cluster_steps.proofs.grouped.number_of.Goals as goal

pub returns-in-Some-clause-groups : goal.returns-in-Some-clause-groups
returns-in-Some-clause-groups c = place_there (found c.args.table.now) _ c.args.link c.in-Some.number c.requires.numbered (sym c.get.ensures ∙ c.in-Some.is)

-- the groups with one for the place, and the number that it got
made : (c : goal.In_ok-push-in-None) → map gathered_of c.push.new.self.items ≡ map gathered_of c.args.groups.now.items ++ empty_group c.args.link ∷ []
made c = ap (map gathered_of) c.in_ok-push-in-None.ensures.items ∙ map-append gathered_of c.args.groups.now.items _
    ∙ ap (λ qs. map gathered_of c.args.groups.now.items ++ record { link = c.args.link; requests = qs } ∷ []) c.new.ensures.items

number : (c : goal.In_ok-push-in-None) → c.len-number.result ≡ length (map gathered_of c.args.groups.now.items)
number c = c.len-number.ensures ∙ c.args.groups.now.ok.0 ∙ sym (length-map c.args.groups.now.items gathered_of)

pub returns-in_ok-push-in-None-clause-number : goal.returns-in_ok-push-in-None-clause-number
returns-in_ok-push-in-None-clause-number c =
    ap (λ (groups : _). slice_get (places_in_use groups) c.len-number.result) (made c) ∙ ap (slice_get (places_in_use (map gathered_of c.args.groups.now.items ++ empty_group c.args.link ∷ []))) (number c)
    ∙ place_last (map gathered_of c.args.groups.now.items) c.args.link

pub returns-in_ok-push-in-None-clause-groups : goal.returns-in_ok-push-in-None-clause-groups
returns-in_ok-push-in-None-clause-groups c = made c ∙ place_new (found c.args.table.now) _ c.args.link c.requires.numbered (sym c.get.ensures ∙ c.in-None.is)

pub returns-in_ok-push-in-None-clause-numbered : goal.returns-in_ok-push-in-None-clause-numbered
returns-in_ok-push-in-None-clause-numbered c =
    subst (AreNumbered (found c.insert.new.self)) (sym (made c))
    (numbered_more (found c.args.table.now) (found c.insert.new.self) (map gathered_of c.args.groups.now.items) c.args.link c.requires.numbered
    (λ k. c.in_ok-insert-in-None.ensures.given k ∙ ap (λ n. if k == c.args.link then Some n else found c.args.table.now k) (number c)))
