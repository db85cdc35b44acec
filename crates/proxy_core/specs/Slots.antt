-- Whose order can be seen: commands that share a slot. Source: the Redis Cluster specification, in which all
-- keys of a request have one slot, and each key has one.
use Rattle.std.specs.Prelude.{ℕ, Bool, true, ◌==◌, List, []}
use Rattle.std.specs.List.{list_any}

-- commands with these slots share one; one without slots may share any
abbrev pub overlap : List ℕ → List ℕ → Bool
overlap [] others = true
overlap slots [] = true
overlap slots others = list_any (λ slot. list_any (λ other. other == slot) others) slots
