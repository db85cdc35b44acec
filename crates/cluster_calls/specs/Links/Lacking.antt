-- Where a call may lack memory behind its first byte.
use Rattle.std.specs.Prelude.{◌≡◌, ◌⊎◌, ℕ, Bool, true, false, List, [], ◌∷◌}
use Rattle.std.specs.List.{list_any}
use Rattle.cluster_routing.specs.Address.{Address}
use Rattle.cluster_calls.specs.Links.Log.{Exchange}
use Rattle.cluster_calls.specs.Links.Events.{Event, exchanges_at, exchanges_of, is_memory_ending}
use Rattle.cluster_calls.specs.Calls.Call.{Call}
use Rattle.cluster_calls.specs.Calls.Legal.{IsLegalCall}
use Rattle.cluster_calls.specs.Calls.Plan.{Client}
use Rattle.cluster_calls.specs.Calls.Redirects.{is_going, reply_next}
use Rattle.cluster_calls.specs.Calls.Task.{Task, one_command, read_of, transaction_of, task_of}

-- whether the last of these link calls is such a one
abbrev pub last_is : (Event → Bool) → List Event → Bool
last_is test [] = false
last_is test (x ∷ []) = test x
last_is test (x ∷ y ∷ xs) = last_is test (y ∷ xs)

-- the last link call lacked memory
abbrev pub ends_lacking : List Event → Bool
ends_lacking events = last_is (λ (x : Event). is_memory_ending x.ending) events

-- one of a link call's replies sends its request on to an open link
abbrev pub is_redirected : List Address → Event → Bool
is_redirected links x = list_any (λ (e : Exchange). is_going (reply_next links e.reply)) (exchanges_at 0 x)

-- one of the last link call's replies does so
abbrev pub ends_redirected : List Address → List Event → Bool
ends_redirected links events = last_is (is_redirected links) events

-- memory lacked in the last link call, for a request that a redirect sends on, or when all link calls were
-- made
abbrev pub LacksWhere : List Address → List Event → Type 0 → Type 0
LacksWhere links events AllMade = (ends_lacking events ≡ true)
    ⊎ ((ends_redirected links events ≡ true) ⊎ AllMade)

-- whether redirects send a task's requests on
abbrev pub follows_redirects : Task → Bool
follows_redirects (one_command command number order) = true
follows_redirects (read_of options streams) = true
follows_redirects (transaction_of commands) = true
follows_redirects _ = false

-- Where memory may lack behind the first byte: in the last link call, for a request that a redirect sends on,
-- or when nothing more was to be sent, so that the log is a whole legal one.
abbrev pub MayLack : Client → List Address → Call → List Event → Type 0
MayLack client picks call events = (ends_lacking events ≡ true)
    ⊎ (((follows_redirects (task_of call) ≡ true) × (ends_redirected client.links events ≡ true))
    ⊎ ((place : ℕ) → IsLegalCall client picks call (exchanges_of place events)))
