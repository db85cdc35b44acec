-- The call for a command, and its parts in the order of sending.
use Rattle.std.specs.Prelude.{ℕ, List, Option, Some, None}
use Rattle.resp_args.specs.Command.{Command}
use Rattle.cluster_routing.specs.Split.{PartsByPlace}
use Rattle.cluster_calls.specs.Calls.Call.{Call, Query, Ordered}
use Rattle.cluster_calls.specs.Calls.Plan.{in_order}

-- the call for a command whose parts are sent in this order, or as they first appear
abbrev pub command_call : Command → Option (List ℕ) → ℕ → Call
command_call command None number = Query command number
command_call command (Some order) number = Ordered command order number

-- how a command is split, with the routes of its parts in the order of sending
abbrev pub routes_in_order : Option (List ℕ) → PartsByPlace → PartsByPlace
routes_in_order order parts = record { routes = in_order order parts.routes; splitting = parts.splitting }
