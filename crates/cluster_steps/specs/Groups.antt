-- The requests of a pipeline, grouped by the places of the links that they go to.
use Rattle.std.specs.Prelude.{◌≡◌, ℕ, ◌+◌, ◌==◌, false, if◌then◌else◌, List, [], ◌∷◌, ◌++◌, map, filter, length, Option, Some, MatchOption, nat_eq, slice_get, slice_set}
use Rattle.cluster_routing.specs.Seen.{address}
use Rattle.cluster_routing.specs.Info.{texts}
use Rattle.cluster_routing.specs.Lists.{among}
use Rattle.cluster_steps.specs.Requests.{CodeDispatch}
use Rattle.cluster_steps.specs.declared.grouped.Gathered.{Gathered}
use Rattle.cluster_steps.specs.declared.ready.NodeRequests.{NodeRequests as CodeNodeRequests}
use Rattle.cluster_calls.specs.Links.Request.{Request}

-- the requests to the node whose link stands at a place
pub record NodeRequests : Type 0 where
  pub link : ℕ
  pub requests : List Request

-- what the code's groups and dispatches are
abbrev pub group_of : CodeNodeRequests → NodeRequests
group_of g = record { link = g.link; requests = g.requests.items }

abbrev pub gathered_of : Gathered → NodeRequests
gathered_of g = record { link = g.link; requests = g.requests.items }

-- the place of the link that a dispatch goes over
abbrev pub place_in : CodeDispatch → ℕ
place_in d = d.to.link

-- the request that a dispatch sends
abbrev pub request_in : CodeDispatch → Request
request_in d = record { node = address d.to.node; args = texts d.args.items; asking = d.to.asking }

abbrev pub empty_group : ℕ → NodeRequests
empty_group link = record { link = link; requests = [] }

-- the group of a place: what goes to it, in order
abbrev pub group_at : List CodeDispatch → ℕ → NodeRequests
group_at ds link = record { link = link; requests = map request_in (filter (λ d. link == place_in d) ds) }

-- a group with one more request
abbrev pub with_request : NodeRequests → Request → NodeRequests
with_request g q = record { link = g.link; requests = g.requests ++ q ∷ [] }

-- how many requests groups have
abbrev pub request_count : List NodeRequests → ℕ
request_count [] = 0
request_count (g ∷ groups) = length g.requests + request_count groups

-- the places of the groups
abbrev pub places_in_use : List NodeRequests → List ℕ
places_in_use groups = map (λ g. g.link) groups

-- groups with one for a place, behind the others where it is new
abbrev pub with_place : List NodeRequests → ℕ → List NodeRequests
with_place groups link = if among nat_eq link (places_in_use groups) then groups else groups ++ empty_group link ∷ []

-- of each place the number of its group is told, where it has one
abbrev pub AreNumbered : (ℕ → Option ℕ) → List NodeRequests → Type 0
AreNumbered told groups = (k : ℕ) → MatchOption (told k) (among nat_eq k (places_in_use groups) ≡ false)
    (λ number. slice_get (places_in_use groups) number ≡ Some k)

-- a request was put behind those of the group with a number
abbrev pub Puts : List NodeRequests → List NodeRequests → ℕ → Request → Type 0
Puts old new number request = (group : NodeRequests) → slice_get old number ≡ Some group
    → new ≡ slice_set old number (with_request group request)
