-- A proxy as plain data.
use Rattle.std.specs.Prelude.{Bool, List}
use Rattle.proxy_core.specs.declared.limits.Limits.{Limits}
use Rattle.proxy_core.specs.Guests.{Queues}

-- the queue of each guest and whether it is there, by its number, and the limits
pub record State (C V : Type 0) : Type 0 where
  pub queues : Queues C V
  pub openings : List Bool
  pub limits : Limits
