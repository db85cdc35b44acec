-- Counts under keys, as the code holds them.
use Rattle.std.specs.Prelude.{ℕ, ℤ, pos, neg_ℤ, ◌≤ℤ◌, List, map, Vec}
use Rattle.std.specs.Global.{Global}
use Rattle.std.specs.List.{AllByRecursion}
use Rattle.cluster_routing.specs.Policies.{Counts}

abbrev pub shown_count : Vec ℕ Global × ℤ → List ℕ × ℤ
shown_count c = (c.0.items, c.1)

abbrev pub shown_counts : List (Vec ℕ Global × ℤ) → Counts
shown_counts counts = map shown_count counts

-- no count is further than so much from 0
abbrev pub AreWithin : ℕ → Counts → Type 0
AreWithin bound counts = AllByRecursion (λ c. (neg_ℤ (pos bound) ≤ℤ c.1) × (c.1 ≤ℤ pos bound)) counts
