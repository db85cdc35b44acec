-- The numbers of the places in use.
use Rattle.std.specs.Prelude.{ℕ, ◌<◌, Option, None, slice_index_or, nat_eq, vec_len}
use Rattle.indexmap.specs.IndexMap.{get}
use Rattle.cluster_steps.specs.declared.numbers.Numbers.{Numbers}
use Rattle.cluster_steps.specs.declared.numbers.Numbers.TheVariants.{ByPlace, InUse}

-- the number that a place was given
abbrev pub found : Numbers → ℕ → Option ℕ
found (ByPlace list) k = slice_index_or list.items k None
found (InUse table) k = get nat_eq table k

-- whether a place may be given a number
abbrev pub HasPlace : Numbers → ℕ → Type 0
HasPlace (ByPlace list) k = k < vec_len list
HasPlace (InUse table) k = Unit {0}
