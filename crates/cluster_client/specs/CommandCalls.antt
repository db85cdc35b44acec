-- A command as the code sends it.
use Rattle.std.specs.Prelude.{ℕ, List, Option, option_map}
use Rattle.cluster_calls.specs.Calls.Call.{Call}
use Rattle.cluster_calls.specs.Links.Orders.{command_call}
use Rattle.cluster_client.specs.declared.command_call.CommandCall.{CommandCall}

-- the order in which its parts are sent, where one is given
abbrev pub given_order : CommandCall → Option (List ℕ)
given_order c = option_map (λ o. o.now) c.order

-- the call for it with this number
abbrev pub call_by : CommandCall → ℕ → Call
call_by c number = command_call c.command.now (given_order c) number

-- the call for it
abbrev pub call_of : CommandCall → Call
call_of c = call_by c c.number
