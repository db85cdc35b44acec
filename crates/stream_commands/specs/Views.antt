-- Values of the crate's types as plain settings.
use Rattle.std.specs.Prelude.{ℕ, List, Vec, string_bytes, map}
use Rattle.std.specs.Borrow.{Bor}
use Rattle.std.specs.Global.{Global}
use Rattle.stream_commands.specs.Settings.{max_entries, min_id, Trim, Idempotency, manual, automatic, GroupNames}
use Rattle.stream_commands.specs.declared.trim.StreamTrimStrategy.{StreamTrimStrategy}
use Rattle.stream_commands.specs.declared.trim.StreamTrimStrategy.TheVariants.{MaxLen, MinId}
use Rattle.stream_commands.specs.declared.idempotency.StreamIdempotencyMode.{StreamIdempotencyMode}
use Rattle.stream_commands.specs.declared.idempotency.StreamIdempotencyMode.TheVariants.{Manual, Automatic}

-- what a trimming stands for
abbrev pub trim_of : StreamTrimStrategy → Trim
trim_of (MaxLen mode n limit) = record { mode = mode; threshold = max_entries n; limit = limit }
trim_of (MinId mode id limit) = record { mode = mode; threshold = min_id (string_bytes id); limit = limit }

-- what a mode of idempotency stands for
abbrev pub idempotency_of : StreamIdempotencyMode → Idempotency
idempotency_of (Manual producer_id idempotent_id) = manual (string_bytes producer_id)
    (string_bytes idempotent_id)
idempotency_of (Automatic producer_id) = automatic (string_bytes producer_id)

-- the bytes of each byte list
abbrev pub arguments : List (Vec ℕ Global) → List (List ℕ)
arguments words = map (λ w. w.items) words

-- the names of a group and its consumer, as they are lent
abbrev pub lent_names : Bor (List (Vec ℕ Global)) × Bor (List (Vec ℕ Global)) → GroupNames
lent_names names = record { group = arguments names.0.now; consumer = arguments names.1.now }
