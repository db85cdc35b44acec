use Rattle.std.proofs.Common.{◌∙◌, sym, ap, subst, nat_lt, option_copied, rules}
use Rattle.std.proofs.lemmas.List.Sorted.{IsPartitionedBy-ltb, IsPartitionPoint-from_clause}
use Rattle.cluster_routing.specs.RangePlaces.{place_from}
use Rattle.cluster_routing.specs.Ranges.{IsAscending}
use Rattle.cluster_routing.proofs.RangeMaps.{ends_rise, place_is, behind_last}
use Rattle.cluster_routing.proofs.range_map.SlotRangeMap.place_from.Goals as goal

-- every end is below the slot
pub returns-in-Some : goal.returns-in-Some
returns-in-Some g c =
    let last = ap option_copied (sym c.in-Some.is) ∙ c.last.ensures.value in
    let place = behind_last c.args.slot _ _ (subst IsAscending (sym c.deref.ensures.value) c.self.invariant) last c.if-last-slot.true in
    c.len.ensures ∙ sym c.deref.ensures.len ∙ place ∙ ap (place_from c.args.slot) (c.deref.ensures.value ∙ c.self.view_is)

-- the entries whose ends are below the slot come first
pub returns-in-Some-2 : goal.returns-in-Some-2
returns-in-Some-2 g c =
    let facts = c.partition_point.ensures in
    let rise = ends_rise _ (subst IsAscending (sym c.deref-in-Some-2.ensures.value) c.self.invariant) in
    place_is c.args.slot _ _ facts.bound (IsPartitionPoint-from_clause (λ e. nat_lt e.0 c.args.slot) _ _ facts.partitioned (IsPartitionedBy-ltb (λ e. e.0) _ c.args.slot rise) (λ a r f called. search rules))
    ∙ ap (place_from c.args.slot) (c.deref-in-Some-2.ensures.value ∙ c.self.view_is)
