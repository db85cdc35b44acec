-- Laws on arguments, and on reading back what was written. Source: the documentation of the crate `redis`,
-- `ToSingleRedisArg`; Redis serialization protocol specification, "Sending commands to a Redis server".
use Rattle.std.specs.Prelude.{◌≡◌, ℕ, ◌<◌, ◌^◌, List, [], ◌∷◌, Option, Some, length}
use Rattle.std.specs.List.{AllByRecursion, flat_map}
use Rattle.resp_core.specs.Trees.{Tree, bulk}
use Rattle.resp_args.specs.Packed.{packed}

-- every value is written as exactly one argument
abbrev pub OneArgument : {S : Type 0} → (S → List (List ℕ)) → (S → List ℕ) → Type 0
OneArgument {S = S} args arg = (value : S) → args value ≡ arg value ∷ []

-- a bulk of the written argument is read as the value again
abbrev pub ReadsBack : {S M : Type 0} → (S → List ℕ) → (Tree → Option M) → (S → M) → S → Type 0
ReadsBack arg convert meaning value = convert (bulk (arg value)) ≡ Some (meaning value)

-- arguments whose number and lengths a machine word holds, as those of every command
abbrev pub Sendable : List (List ℕ) → Type 0
Sendable args = (length args < 2 ^ 64) × AllByRecursion (λ arg. length arg < 2 ^ 64) args

-- equal packed bytes come from equal arguments
abbrev pub PackedOnce : Type 0
PackedOnce = (args others : List (List ℕ)) → Sendable args → Sendable others → packed args ≡ packed others
    → args ≡ others

-- equal bytes of commands, one after another, come from the same commands
abbrev pub AllPackedOnce : Type 0
AllPackedOnce = (commands others : List (List (List ℕ))) → AllByRecursion Sendable commands
    → AllByRecursion Sendable others → flat_map packed commands ≡ flat_map packed others → commands ≡ others
