-- Redirects: where a reply sends its request on.
-- Source: the Redis Cluster specification, "MOVED redirection" and "ASK redirection".
use Rattle.std.specs.Prelude.{◌≡◌, ℕ, ◌-◌, ◌==◌, Bool, true, false, if◌then◌else◌, List, [], ◌∷◌, Option, Some, None}
use Rattle.resp_core.specs.Trees.{Tree}
use Rattle.cluster_routing.specs.Address.{Address}
use Rattle.cluster_calls.specs.Links.Request.{Request}
use Rattle.cluster_calls.specs.Links.Reply.{Sort, Moved, Ask, sort_of, redirect_target}
use Rattle.cluster_calls.specs.Links.Log.{Exchange}
use Rattle.cluster_calls.specs.Links.World.{is_linked}

-- where a request goes, and whether ASKING goes before it
pub record Hop : Type 0 where
  pub node : Address
  pub asking : Bool

abbrev pub request_of : Hop → List (List ℕ) → Request
request_of hop args = record { node = hop.node; args = args; asking = hop.asking }

-- where a reply sends its request on: nowhere, to a node without an open link, or to a node
pub data Next : Type 0 where
  Stays : Next
  Lost : Next
  Goes : Hop → Next

abbrev pub hop_by_link : List Address → Bool → Option Address → Next
hop_by_link links asking None = Stays
hop_by_link links asking (Some node) = if is_linked links node
    then Goes (record { node = node; asking = asking }) else Lost

abbrev pub sort_next : List Address → Sort → Next
sort_next links (Moved e) = hop_by_link links false (redirect_target e)
sort_next links (Ask e) = hop_by_link links true (redirect_target e)
sort_next links _ = Stays

abbrev pub reply_next : List Address → Option Tree → Next
reply_next links None = Stays
reply_next links (Some tree) = sort_next links (sort_of tree)

-- only a redirect that is within the budget and readable sends a request on
abbrev pub next_of : List Address → ℕ → Option Tree → Next
next_of links budget reply = if budget == 0 then Stays else reply_next links reply

abbrev pub is_going : Next → Bool
is_going (Goes hop) = true
is_going _ = false

abbrev pub MatchNext : Next → Type 0 → (Hop → Type 0) → Type 0
MatchNext Stays stops goes = stops
MatchNext Lost stops goes = stops
MatchNext (Goes hop) stops goes = goes hop

-- The request goes to its node, and on from there exactly where the reply sends it on; the last exchange and
-- those behind it are as `Behind` says.
abbrev pub FollowsRedirects : List Address → ℕ → Hop → List (List ℕ) → (Exchange → List Exchange → Type 0)
    → List Exchange → Type 0
FollowsRedirects links budget hop args Behind [] = ⊥
FollowsRedirects links budget hop args Behind (x ∷ xs) =
    (x.request ≡ request_of hop args)
    × MatchNext (next_of links budget x.reply) (Behind x xs)
    (λ next. FollowsRedirects links (budget - 1) next args Behind xs)
