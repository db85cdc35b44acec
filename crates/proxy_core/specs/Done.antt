-- What was done in a turn behind a command, told by slots alone.
use Rattle.std.specs.Prelude.{ℕ, Bool, ◌||◌, List, [], ◌∷◌}
use Rattle.std.specs.List.{list_any}
use Rattle.std.specs.Ordering.{nat_cmp}
use Rattle.std.specs.BTreeSet.{contains}
use Rattle.proxy_core.specs.declared.done.Done.{Done}

-- whether one of these commands overlaps one with these slots
abbrev pub overtakes : Done → List ℕ → Bool
overtakes done [] = done.any
overtakes done (slot ∷ slots) =
    done.any_without || list_any (λ s. contains nat_cmp done.slots s) (slot ∷ slots)
