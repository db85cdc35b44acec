use Rattle.std.proofs.Common.{rules}
use Rattle.std.proofs.lemmas.List.Sorted.{answers_always}
use Rattle.cluster_routing.specs.SlotMap.{Range}
use Rattle.cluster_routing.proofs.PutsByEnds.{put_all-by_ends, ranges_to-stable}
use Rattle.cluster_routing.proofs.slot_map.by_ends.Goals as goal

pub returns : goal.returns
returns c = put_all-by_ends _ _ (ranges_to-stable _ _
    (c.in_ok-sort_by_key.ensures.stable (λ (r : Range). r.last) (answers_always _ _ _ (λ f a r q k. search rules))))
