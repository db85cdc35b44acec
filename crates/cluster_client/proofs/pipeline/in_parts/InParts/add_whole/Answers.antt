use Rattle.std.specs.Prelude.{Vec}
use Rattle.std.specs.declared.alloc.Global.{Global}
use Rattle.std.proofs.Common.{◌∙◌, ◌≡◌, ◌++◌, ◌∷◌, [], Some, map, ap, sym}
use Rattle.std.proofs.lemmas.List.{map-append}
use Rattle.resp_args.specs.Packed.{sent}
use Rattle.cluster_steps.specs.FirstPlaces.{part_of}
use Rattle.cluster_steps.specs.WholeParts.{whole_by}
use Rattle.cluster_steps.specs.Requests.{CodePart as Part}
use Rattle.cluster_client.specs.InParts.{entry, joins_after, places_of}
use Rattle.cluster_calls.proofs.LogLaws.EachInParts.{entry_part, is_whole}
use Rattle.cluster_client.proofs.InParts.{whole_goes, whole_placed}
use Rattle.cluster_client.proofs.pipeline.in_parts.InParts.add_whole.Goals as goal

pub returns : goal.returns
returns c ignored =
    let old = c.args.self.now in
    let e = entry c.args.command.now ignored in
    let part = whole_by (sent e.command) c.args.route in
    let is : entry_part e ≡ Some part = sym c.requires in
    record {
      placed = whole_goes e part is;
      more = part ∷ [];
      goes = whole_placed e part is;
      parts = ap (λ (v : Vec Part Global). map part_of v.items) c.in_ok-push_join.ensures.parts ∙ ap (map part_of) c.in_ok-push.ensures.items ∙ map-append part_of _ _
          ∙ ap (λ p. map part_of old.parts.items ++ p ∷ []) c.in_ok-whole_part.ensures;
      joins = c.in_ok-push_join.ensures.joins ∙ ap (λ o. joins_after c.args.position old ++ places_of o ∷ []) (sym (is_whole e part is));
      ready = c.in_ok-push_join.ensures.ready tt;
    }
