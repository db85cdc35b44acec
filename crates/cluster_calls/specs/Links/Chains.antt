-- One part's chain: its request, and the same again behind each redirect that is followed.
use Rattle.std.specs.Prelude.{◌≡◌, ◌≢◌, ℕ, ◌||◌, false, List, [], ◌∷◌, ◌++◌, map, filter, Some, Result, Ok, Err}
use Rattle.std.specs.List.{list_any, AllByRecursion}
use Rattle.resp_core.specs.Trees.{Tree}
use Rattle.resp_core.specs.Errors.{Refusal, by_cause}
use Rattle.resp_core.specs.declared.errors.redis_error.Cause.TheVariants.{Memory}
use Rattle.cluster_routing.specs.Address.{Address}
use Rattle.cluster_calls.specs.Links.Request.{Request}
use Rattle.cluster_calls.specs.Links.Log.{Exchange, is_answered, behind_answers}
use Rattle.cluster_calls.specs.Links.World.{World}
use Rattle.cluster_calls.specs.Links.Faults.{LinkFault}
use Rattle.cluster_calls.specs.Links.Lacking.{LacksWhere}
use Rattle.cluster_calls.specs.Links.Events.{Event, Runs, log_of, exchanges_of, Agrees, lack_memory, StopsAtMemory, answered_moved}
use Rattle.cluster_calls.specs.Calls.Plan.{Client}
use Rattle.cluster_calls.specs.Calls.Redirects.{Hop, FollowsRedirects}
use Rattle.cluster_calls.specs.Calls.Replies.{reply_or_nil}
use Rattle.cluster_calls.specs.Calls.Refusals.{part_refusal}
use Rattle.cluster_calls.specs.Links.Happened.{client_of}

-- a link call with one request
abbrev pub IsSingle : Event → Type 0
IsSingle x = (q : Request) × (x.requests ≡ q ∷ [])

-- the exchanges from this hop on, up to the one whose reply sends the request nowhere
abbrev pub IsChain : Client → Hop → List (List ℕ) → List Exchange → Type 0
IsChain client hop args xs = FollowsRedirects client.links client.settings.budget hop args
    (λ last behind. behind ≡ []) xs

-- these exchanges are a whole chain, and none of them is answered
abbrev pub IsUnanswered : Client → Hop → List (List ℕ) → List Exchange → Type 0
IsUnanswered client hop args xs = IsChain client hop args xs × (list_any is_answered xs ≡ false)

-- only the last exchange can be answered: it is, with this reply; or none is, and the refusal is by the last
-- one
abbrev pub IsChainResult : Client → (Address → LinkFault) → List Exchange → Result Tree Refusal → Type 0
IsChainResult client faults xs (Ok tree) = (behind_answers xs ≡ [])
    × (map reply_or_nil (filter is_answered xs) ≡ tree ∷ [])
IsChainResult client faults xs (Err refusal) = (list_any is_answered xs ≡ false)
    × (part_refusal client faults xs ≡ Some refusal)

pub record ChainAnswered (old new : World) (hop : Hop) (args : List (List ℕ)) (events : List Event)
    (result : Result Tree Refusal) : Type 0 where
  pub memory : lack_memory events ≡ false
  pub chain : (place : ℕ) → IsChain (client_of old) hop args (exchanges_of place events)
  pub tells : (faults : Address → LinkFault) → Agrees faults events → (place : ℕ)
      → IsChainResult (client_of old) faults (exchanges_of place events) result

-- What a chain's link calls did, also where memory was refused: then they begin a chain, and none of them was
-- answered.
pub record ChainMade (old new : World) (hop : Hop) (args : List (List ℕ))
    (result : Result Tree Refusal) : Type 0 where
  pub events : List Event
  pub runs : Runs old.nodes new.nodes events
  pub stops : StopsAtMemory events
  pub logged : new.log ≡ old.log ++ log_of events
  pub single : AllByRecursion IsSingle events
  pub begins : (place : ℕ) → (later : List Exchange)
      × IsChain (client_of old) hop args (exchanges_of place events ++ later)
  pub flag : new.needs_refresh ≡ (old.needs_refresh || answered_moved events)
  pub entries : new.entries ≡ old.entries
  pub settings : new.settings ≡ old.settings
  pub picked : new.picked ≡ old.picked
  pub answered : result ≢ Err (by_cause Memory) → ChainAnswered old new hop args events result
  pub room : result ≡ Err (by_cause Memory) → LacksWhere (client_of old).links events
      ((place : ℕ) → IsUnanswered (client_of old) hop args (exchanges_of place events))
  pub unanswered : result ≡ Err (by_cause Memory) → (place : ℕ)
      → list_any is_answered (exchanges_of place events) ≡ false
