-- What a contract sees of a command: its arguments, the number for its gaps, and whether no reply is wanted.
-- Source: the documentation of the crate `redis`, `Cmd`.
use Rattle.std.specs.Prelude.{ℕ, List, [], Option, None, Bool, false}
use Rattle.resp_args.specs.declared.cmd.Arg.{Arg}

-- A command: its arguments, each of them bytes or a gap for a cursor; the number for the gaps; and whether no
-- response is wanted.
pub record Command : Type 0 where
  pub args : List (Arg (List ℕ))
  pub cursor : Option ℕ
  pub no_response : Bool

-- a command to which nothing was done
abbrev pub new_command : Command
new_command = record { args = []; cursor = None; no_response = false }
