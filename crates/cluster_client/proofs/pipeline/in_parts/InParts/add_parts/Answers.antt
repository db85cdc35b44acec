use Rattle.std.specs.Prelude.{Vec}
use Rattle.std.specs.declared.alloc.Global.{Global}
use Rattle.std.proofs.Common.{◌∙◌, ◌++◌, ◌∷◌, [], Some, map, ap}
use Rattle.cluster_routing.specs.Info.{shown_split}
use Rattle.cluster_steps.specs.CodeParts.{routed_at, routed_part}
use Rattle.cluster_steps.specs.FirstPlaces.{part_of}
use Rattle.cluster_steps.specs.Requests.{CodePart as Part}
use Rattle.cluster_client.specs.InParts.{entry, joins_after}
use Rattle.cluster_client.proofs.InParts.{parts_go, parts_placed}
use Rattle.cluster_client.proofs.pipeline.in_parts.InParts.add_parts.Goals as goal

pub returns : goal.returns
returns c ignored =
    let old = c.args.self.now in
    let e = entry c.args.command.now ignored in
    let made = shown_split c.args.split in
    record {
      placed = parts_go e made c.requires.split;
      more = map routed_part (map (routed_at e.command.args) made.routes);
      goes = parts_placed e made c.requires.split;
      parts = ap (λ (v : Vec Part Global). map part_of v.items) c.in_ok-push_join.ensures.parts ∙ c.in_ok-push_split.ensures;
      joins = c.in_ok-push_join.ensures.joins ∙ ap (λ p. joins_after c.args.position old ++ Some p ∷ []) c.in_ok-new.ensures.split ∙ ap (λ p. joins_after c.args.position old ++ p ∷ []) c.requires.split;
      ready = c.in_ok-push_join.ensures.ready c.in_ok-new.ensures.room;
    }
