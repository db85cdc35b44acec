use Rattle.std.specs.List.{AllByRecursion}
use Rattle.std.proofs.Common.{◌≡◌, ◌<◌, ◌++◌, ℕ, map}
use Rattle.cluster_steps.specs.Groups.{AreNumbered, gathered_of, place_in}
use Rattle.cluster_steps.specs.Numbers.{HasPlace, found}
use Rattle.cluster_steps.proofs.PipeGrouping.{Grouping}
use Rattle.cluster_steps.proofs.grouped.grouped.Given as goal

abbrev pub invariant-dispatches : goal.invariant-dispatches
invariant-dispatches l = record {
  split : l.fn.dispatches.items ≡ l.yielded ++ l.dispatch-iterator.rest.items;
  within : AllByRecursion (λ d. place_in d < l.count) l.dispatch-iterator.rest.items;
  places : (k : ℕ) → k < l.count → HasPlace l.table k;
  numbered : AreNumbered (found l.table) (map gathered_of l.gathered.items);
  grouping : Grouping l.yielded (map gathered_of l.gathered.items) l.numbers.items;
}
