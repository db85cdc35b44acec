-- The arguments that a command is sent with, and the bytes that it is sent as.
-- Source: Redis serialization protocol specification, "Sending commands to a Redis server".
use Rattle.std.specs.Prelude.{ℕ, List, [], ◌∷◌, ◌++◌, length, map, codes, decimal, unwrap_or}
use Rattle.resp_args.specs.Command.{Command}
use Rattle.resp_args.specs.declared.cmd.Arg.{Arg}
use Rattle.resp_args.specs.declared.cmd.Arg.TheVariants.{Simple, Cursor}

-- an argument as it is sent: bytes as they are, a gap as the decimal of a number
abbrev pub wire_arg : ℕ → Arg (List ℕ) → List ℕ
wire_arg cursor (Simple bytes) = bytes
wire_arg cursor Cursor = decimal cursor

-- the arguments as they are sent, each gap as the same number
abbrev pub wire : ℕ → List (Arg (List ℕ)) → List (List ℕ)
wire cursor args = map (wire_arg cursor) args

-- one argument: its length, then its bytes
abbrev pub packed_arg : List ℕ → List ℕ
packed_arg bytes = codes "$" ++ decimal (length bytes) ++ codes "\r\n" ++ bytes ++ codes "\r\n"

-- one argument after another
abbrev pub packed_args : List (List ℕ) → List ℕ
packed_args [] = []
packed_args (a ∷ rest) = packed_arg a ++ packed_args rest

-- the bytes of a list of arguments: how many there are, then each of them
abbrev pub packed : List (List ℕ) → List ℕ
packed args = codes "*" ++ decimal (length args) ++ codes "\r\n" ++ packed_args args

-- the arguments of a command as they are sent: its gaps are the number set last, and where none was set there
-- is no gap
abbrev pub sent : Command → List (List ℕ)
sent c = wire (unwrap_or c.cursor 0) c.args
