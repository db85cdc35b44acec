-- The first calls of a list, as they were played.
use Rattle.std.proofs.Common.{◌≡◌, ℕ, ◌+◌, true, List, [], ◌∷◌, ◌++◌, map, length}
use Rattle.std.specs.List.{AllByRecursion}
use Rattle.resp_core.specs.Trees.{Tree}
use Rattle.cluster_routing.specs.Address.{Address}
use Rattle.cluster_calls.specs.Calls.Call.{Call}
use Rattle.cluster_calls.specs.Links.Log.{left_after_all}
use Rattle.cluster_calls.specs.OneServer.Commands.{is_on_slots}
use Rattle.cluster_calls.specs.OneServer.Headline.{PlayedCall, with_replies_from, AreOnSlots}

-- the first of some calls on slots are on slots
pub first_on_slots : (ts : List PlayedCall) (left : List Call) → AllByRecursion (λ call. is_on_slots call ≡ true) (map (λ (t : PlayedCall). t.call) ts ++ left) → (queues : Address → List Tree) (place : ℕ) → AreOnSlots (with_replies_from queues place ts)
first_on_slots [] left h queues place = tt
first_on_slots (t ∷ ts) left h queues place = (h.0, first_on_slots ts left h.1 (left_after_all queues t.log) (place + length t.log))
