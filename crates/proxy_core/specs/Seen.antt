-- What a proxy holds, by its guests and limits.
use Rattle.std.specs.Prelude.{List}
use Rattle.proxy_core.specs.declared.guest_queue.GuestQueue.{GuestQueue}
use Rattle.proxy_core.specs.declared.limits.Limits.{Limits}
use Rattle.proxy_core.specs.Guests.{queues, openings}
use Rattle.proxy_core.specs.State.{State}

-- the proxy that guests and limits make: the queues, which guests are there, and the limits
abbrev pub state_of : {C V : Type 0} → List (GuestQueue C V) → Limits → State C V
state_of guests limits = record { queues = queues guests; openings = openings guests; limits = limits }
