-- What the builder of a pipeline does to its list of commands.
use Rattle.std.specs.Prelude.{ℕ, true, List, [], ◌∷◌, ◌++◌}
use Rattle.resp_args.specs.declared.cmd.Arg.{Arg}
use Rattle.cluster_calls.specs.Calls.Call.{Entry}

-- the list with its last element changed
abbrev pub with_last : {A : Type 0} → (A → A) → List A → List A
with_last f [] = []
with_last f (x ∷ []) = f x ∷ []
with_last f (x ∷ y ∷ xs) = x ∷ with_last f (y ∷ xs)

-- a command with these arguments behind its own
abbrev pub with_args : List (Arg (List ℕ)) → Entry → Entry
with_args args e = record {
  command = record {
    args = e.command.args ++ args;
    cursor = e.command.cursor;
    no_response = e.command.no_response;
  };
  ignored = e.ignored;
}

-- a command whose reply is left out of the answer
abbrev pub ignoring : Entry → Entry
ignoring e = record { command = e.command; ignored = true }
