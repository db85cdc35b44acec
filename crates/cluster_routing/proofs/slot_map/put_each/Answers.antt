use Rattle.std.proofs.Common.{◌≡◌, ◌++◌, ◌∷◌, [], rules, sym, ap, ◌∙◌, append_assoc}
use Rattle.cluster_routing.specs.Ranges.{put}
use Rattle.cluster_routing.specs.SlotMap.{entry_of}
use Rattle.cluster_routing.proofs.Puts.{put_all-push}
use Rattle.cluster_routing.proofs.slot_map.put_each.Goals as goal

pub ranges-2-preserved : goal.ranges-2-preserved
ranges-2-preserved c = record {
  split = c.ranges-2.invariant.split ∙ ap (λ rs. c.ranges-2.yielded ++ rs) c.in-Some.ensures.steps.0 ∙ sym (append_assoc c.ranges-2.yielded (c.in-Some.range ∷ []) _);
  puts = let e : c.put_one.new.map ≡ put c.ranges-2.map (entry_of c.in-Some.range) = search rules in
      e ∙ ap (λ m. put m (entry_of c.in-Some.range)) c.ranges-2.invariant.puts ∙ sym (put_all-push c.args.map.now c.ranges-2.yielded c.in-Some.range);
}
