-- What an iterator over arguments lends: bytes, or a gap.
-- Source: the documentation of the crate `redis`, `Cmd::args_iter`.
use Rattle.std.specs.Prelude.{ℕ, List}
use Rattle.resp_args.specs.declared.cmd.Arg.{Arg}
use Rattle.resp_args.specs.declared.cmd.Arg.TheVariants.{Simple, Cursor}
use Rattle.std.specs.Borrow.{Bor}

-- what an iterator lends
abbrev pub shown : Arg (Bor (List ℕ)) → Arg (List ℕ)
shown (Simple bytes) = Simple bytes.now
shown Cursor = Cursor
