use Rattle.std.proofs.Common.{◌≡◌, ◌∷◌, map, take}
use Rattle.cluster_routing.specs.Seen.{address}
use Rattle.cluster_calls.specs.Links.Request.{multi}
use Rattle.cluster_calls.specs.Calls.OneSlot.{args_of}
use Rattle.cluster_calls.specs.Calls.Redirects.{request_of}
use Rattle.cluster_calls.specs.Calls.Transactions.{without_asking}
use Rattle.cluster_steps.specs.Turns.{hop_to}
use Rattle.cluster_steps.proofs.attempt.requests_of.Given as goal

abbrev pub invariant-commands : goal.invariant-commands
invariant-commands l = l.requests.items ≡ request_of (hop_to l.hop) multi ∷ map (without_asking (address l.hop.node)) (args_of (take l.command-index l.commands))
