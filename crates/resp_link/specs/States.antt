-- What a link over a reader and a writer may be used for, as a contract sees it.
use Rattle.std.specs.Prelude.{Bool, true, false}
use Rattle.resp_link.specs.declared.byte_link.State.{State}
use Rattle.resp_link.specs.declared.byte_link.State.TheVariants.{Open, Owing, Closed}

-- a call may be made
abbrev pub is_open : State → Bool
is_open Open = true
is_open Owing = false
is_open Closed = false

-- replies are owed, and nothing but these may be taken
abbrev pub is_owing : State → Bool
is_owing Open = false
is_owing Owing = true
is_owing Closed = false

abbrev pub is_closed : State → Bool
is_closed Open = false
is_closed Owing = false
is_closed Closed = true
