-- What a writer of arguments has done: all of them are appended, or, where memory was refused, some first of
-- them. Source: the documentation of the crate `redis`, `ToRedisArgs::write_redis_args`.
use Rattle.std.specs.Prelude.{ℕ, ◌≡◌, List, [], ◌∷◌, ◌++◌, Result, Ok, Err, Option, Some, None, map}
use Rattle.std.specs.List.{flat_map}
use Rattle.resp_args.specs.declared.cmd.Arg.{Arg}
use Rattle.resp_args.specs.declared.cmd.Arg.TheVariants.{Simple}

-- the list grew by exactly these arguments
pub record Grows (old : List (Arg (List ℕ))) (args : List (List ℕ)) (new : List (Arg (List ℕ))) : Type 0 where
  pub grown : new ≡ old ++ map Simple args

-- the list grew by some first of the arguments
pub record GrowsPart (old : List (Arg (List ℕ))) (args : List (List ℕ))
    (new : List (Arg (List ℕ))) : Type 0 where
  pub done : List (List ℕ)
  pub left : List (List ℕ)
  pub split : args ≡ done ++ left
  pub grown : new ≡ old ++ map Simple done

-- the list grew by the arguments, or on a refusal by some first of them
abbrev pub Writes : {X E : Type 0} → Result X E → List (Arg (List ℕ)) → List (List ℕ) → List (Arg (List ℕ))
    → Type 0
Writes (Ok x) old args new = Grows old args new
Writes (Err e) old args new = GrowsPart old args new

-- the arguments of a slice: bytes are one argument, and other items are written in turn
abbrev pub slice_args : {A : Type 0} → (A → List (List ℕ)) → Option (List ℕ) → List A → List (List ℕ)
slice_args args (Some bytes) items = bytes ∷ []
slice_args args None items = flat_map args items
