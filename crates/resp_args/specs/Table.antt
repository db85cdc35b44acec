-- A command's arguments in one buffer: each entry of the table is where an argument ends, or a gap.
-- It is how this crate keeps a command, and no public contract names it.
use Rattle.std.specs.Prelude.{ℕ, ◌≡◌, ◌≤◌, List, [], ◌∷◌, slice_range}
use Rattle.resp_args.specs.declared.cmd.Arg.{Arg}
use Rattle.resp_args.specs.declared.cmd.Arg.TheVariants.{Simple, Cursor}

-- the arguments of the entries, the first of which begins at `start`
abbrev pub args_from : List ℕ → ℕ → List (Arg ℕ) → List (Arg (List ℕ))
args_from buffer start [] = []
args_from buffer start (Simple end ∷ ends) = Simple (slice_range buffer start end) ∷ args_from buffer end ends
args_from buffer start (Cursor ∷ ends) = Cursor ∷ args_from buffer start ends

-- the ends ascend from `start` to `len`
abbrev pub Ascends : ℕ → List (Arg ℕ) → ℕ → Type 0
Ascends start [] len = start ≡ len
Ascends start (Simple end ∷ ends) len = (start ≤ end) × Ascends end ends len
Ascends start (Cursor ∷ ends) len = Ascends start ends len

-- where the last argument ends
abbrev pub end_of : ℕ → List (Arg ℕ) → ℕ
end_of last [] = last
end_of last (Simple end ∷ ends) = end_of end ends
end_of last (Cursor ∷ ends) = end_of last ends
