use Rattle.std.proofs.Common.{◌≡◌, List, sym, subst, arith}
use Rattle.std.proofs.lemmas.Grind.{common_steps}
use Rattle.cluster_routing.specs.Ranges.{Entry, put, IsAscending}
use Rattle.cluster_routing.proofs.RangeMaps.{put_over, put_between, put_ascends, within}
use Rattle.cluster_routing.proofs.range_map.SlotRangeMap.insert.Goals as goal

-- a list that has become `put` of it still ascends
still_ascends : {V : Type 0} (old now new : List (Entry V)) (e : Entry V) → old ≡ now → IsAscending old → new ≡ put now e → IsAscending new
still_ascends old now new e same h is = subst IsAscending (sym is) (put_ascends now e (subst IsAscending same h))

-- the entry with the equal end is replaced
pub returns-then-ends_at : goal.returns-then-ends_at
returns-then-ends_at g c = rw c.self.view_is (put_over _ (c.args.end, (c.args.start, c.args.value)) _ c.place_from-place.ensures c.if-ends_at.ensures)

pub invariant_of-self : goal.invariant_of-self
invariant_of-self g c = still_ascends _ _ _ (c.args.end, (c.args.start, c.args.value)) c.self.view_is c.self.invariant (returns-then-ends_at g c)

-- an entry with a new end is put in at its place
pub insert-requires : goal.insert-requires
insert-requires g c = grind (arith, common_steps, within c.args.end c.args.self.now, c.self.view_is)

pub returns-in_ok-insert : goal.returns-in_ok-insert
returns-in_ok-insert g c = rw (c.in_ok-insert.ensures.items, c.self.view_is) (put_between _ (c.args.end, (c.args.start, c.args.value)) _ c.place_from-place.ensures c.if-ends_at.ensures)

pub invariant_of-self-else-ends_at : goal.invariant_of-self-else-ends_at
invariant_of-self-else-ends_at g c = still_ascends _ _ _ (c.args.end, (c.args.start, c.args.value)) c.self.view_is c.self.invariant (returns-in_ok-insert g c)
