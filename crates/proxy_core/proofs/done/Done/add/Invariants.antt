use Rattle.std.proofs.Common.{◌≡◌, ◌||◌, ℕ, ◌==◌, ◌-◌, ◌≤◌, length, take}
use Rattle.std.specs.List.{list_any}
use Rattle.std.specs.Ordering.{nat_cmp}
use Rattle.std.specs.BTreeSet.{contains}
use Rattle.proxy_core.proofs.done.Done.add.Given as goal

abbrev pub invariant-slots : goal.invariant-slots
invariant-slots g l = record {
  within : l.index ≤ length (g.C.Command.slots l.command);
  any : l.self.any ≡ l.fn.self.any;
  any_without : l.self.any_without ≡ l.fn.self.any_without;
  has : (q : ℕ) → contains nat_cmp l.self.slots q ≡ (list_any (λ s. s == q) (take l.index (g.C.Command.slots l.command)) || contains nat_cmp l.fn.self.slots q);
}

abbrev pub decreases-slots : goal.decreases-slots
decreases-slots g l = length (g.C.Command.slots l.command) - l.index
