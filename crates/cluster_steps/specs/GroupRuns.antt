-- Groups of requests, each sent in one write, one after another.
use Rattle.std.specs.Prelude.{◌≡◌, ◌≢◌, ◌<◌, ℕ, ◌||◌, Bool, true, false, List, [], ◌∷◌, ◌++◌, map, length, take, drop, Some, Result, Ok, Err, MatchBool, Vec}
use Rattle.std.specs.List.{list_any, AllByRecursion}
use Rattle.std.specs.declared.alloc.Global.{Global}
use Rattle.resp_core.specs.Trees.{Tree, ErrorText}
use Rattle.resp_core.specs.Errors.{Refusal, by_cause}
use Rattle.resp_core.specs.declared.errors.redis_error.Cause.TheVariants.{Memory}
use Rattle.cluster_routing.specs.Address.{Address}
use Rattle.cluster_routing.specs.Lists.{concat}
use Rattle.cluster_steps.specs.declared.drawn.Answered.{Answered as CodeAnswered}
use Rattle.cluster_calls.specs.Links.Request.{Request}
use Rattle.cluster_calls.specs.Links.Reply.{sort_of}
use Rattle.cluster_calls.specs.Links.Log.{Exchange, requests, is_unanswered, is_moved_sort}
use Rattle.cluster_calls.specs.Links.World.{World, Node}
use Rattle.cluster_calls.specs.Links.Places.{IsOpenAt}
use Rattle.cluster_calls.specs.Links.Exchanges.{Exchanges}
use Rattle.cluster_calls.specs.Links.Faults.{LinkFault}
use Rattle.cluster_calls.specs.Links.Lacking.{ends_lacking}
use Rattle.cluster_calls.specs.Links.Events.{Event, AllTo, Runs, log_of, exchanges_of, Agrees, lack_memory, StopsAtMemory, answered_moved}
use Rattle.cluster_steps.specs.Groups.{NodeRequests}
use Rattle.cluster_calls.specs.Calls.Refusals.{pipeline_refusal}

-- ---- one group

-- whether a reply is itself MOVED
abbrev pub is_moved_tree : Tree → Bool
is_moved_tree tree = is_moved_sort (sort_of tree)

abbrev pub moved_by : Result (List Tree) Refusal → Bool
moved_by (Ok trees) = list_any is_moved_tree trees
moved_by (Err refusal) = false

-- a group was exchanged, and a refresh is needed where one of its replies is MOVED
pub record GroupExchanged (old new : World) (link : ℕ) (qs : List Request)
    (result : Result (List Tree) Refusal) : Type 0 where
  pub exchange : Exchanges old.nodes new.nodes link old.log new.log qs 0 (length qs) result
  pub flag : new.needs_refresh ≡ (old.needs_refresh || moved_by result)
  pub entries : new.entries ≡ old.entries
  pub settings : new.settings ≡ old.settings
  pub picked : new.picked ≡ old.picked

-- the node of a group's first request
abbrev pub group_node : List Request → Address
group_node [] = record { host = []; port = 0 }
group_node (q ∷ qs) = q.node

-- a group has requests, all of them go to one node without ASKING, and its link is open
pub record IsGroupPlaced (all : List Node) (g : NodeRequests) : Type 0 where
  pub place : IsOpenAt all (group_node g.requests) g.link
  pub within : g.link < length all
  pub some : g.requests ≢ []
  pub to_node : AllTo (group_node g.requests) g.requests
  pub direct : AllByRecursion (λ (q : Request). q.asking ≡ false) g.requests

-- ---- all groups

abbrev pub request_lists : List NodeRequests → List (List Request)
request_lists gs = map (λ (g : NodeRequests). g.requests) gs

abbrev pub group_nodes : List NodeRequests → List Address
group_nodes gs = map (λ (g : NodeRequests). group_node g.requests) gs

-- each group's requests in one go; nothing after one with an unanswered request
abbrev pub GroupByGroup : List (List Request) → List Exchange → Type 0
GroupByGroup [] xs = xs ≡ []
GroupByGroup (qs ∷ qss) xs =
    (requests (take (length qs) xs) ≡ qs)
    × MatchBool (list_any is_unanswered (take (length qs) xs)) (drop (length qs) xs ≡ [])
    (GroupByGroup qss (drop (length qs) xs))

-- what came from each place, as the code has it
abbrev pub answered_at : {V : Type 0} → (V → Tree) → CodeAnswered V → ℕ × List Tree
answered_at view a = (a.link, map view a.items.items)

abbrev pub answers_of : {V : Type 0} → (V → Tree) → Result (Vec (CodeAnswered V) Global) Refusal
    → Result (List (ℕ × List Tree)) Refusal
answers_of view (Ok answers) = Ok (map (answered_at view) answers.items)
answers_of view (Err refusal) = Err refusal

-- All requests have a reply, and these are they, group by group; or the refusal is by the first unanswered
-- request, whatever errors there are.
abbrev pub AreGroupResults : (Address → LinkFault) → List NodeRequests → List Exchange
    → Result (List (ℕ × List Tree)) Refusal → Type 0
AreGroupResults faults gs xs (Ok answers) =
    (map (λ (a : ℕ × List Tree). a.0) answers ≡ map (λ (g : NodeRequests). g.link) gs)
    × (map (λ (a : ℕ × List Tree). length a.1) answers ≡ map (λ (g : NodeRequests). length g.requests) gs)
    × (requests xs ≡ concat (request_lists gs))
    × (map (λ (x : Exchange). x.reply) xs
    ≡ map (λ tree. Some tree) (concat (map (λ (a : ℕ × List Tree). a.1) answers)))
AreGroupResults faults gs xs (Err refusal) = (errors : List (ℕ × ErrorText))
    → pipeline_refusal faults xs errors ≡ Some refusal

pub record GroupsAnswered (gs : List NodeRequests) (events : List Event)
    (result : Result (List (ℕ × List Tree)) Refusal) : Type 0 where
  pub memory : lack_memory events ≡ false
  pub whole : (place : ℕ) → GroupByGroup (request_lists gs) (exchanges_of place events)
  pub tells : (faults : Address → LinkFault) → Agrees faults events → (place : ℕ)
      → AreGroupResults faults gs (exchanges_of place events) result

-- What the link calls of all groups did, also where memory was refused: then they begin such a run.
pub record GroupsMade (old new : World) (gs : List NodeRequests)
    (result : Result (List (ℕ × List Tree)) Refusal) : Type 0 where
  pub events : List Event
  pub runs : Runs old.nodes new.nodes events
  pub stops : StopsAtMemory events
  pub logged : new.log ≡ old.log ++ log_of events
  pub unasked : List Address
  pub in_order : map (λ (x : Event). x.node) events ++ unasked ≡ group_nodes gs
  pub begins : (place : ℕ) → (later : List Exchange)
      × GroupByGroup (request_lists gs) (exchanges_of place events ++ later)
  pub flag : new.needs_refresh ≡ (old.needs_refresh || answered_moved events)
  pub entries : new.entries ≡ old.entries
  pub settings : new.settings ≡ old.settings
  pub picked : new.picked ≡ old.picked
  pub answered : result ≢ Err (by_cause Memory) → GroupsAnswered gs events result
  pub room : result ≡ Err (by_cause Memory) → events ≢ [] → ends_lacking events ≡ true
