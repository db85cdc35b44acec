-- Requests that go out to several nodes before the replies of any of them are taken.
-- Source: documentation of the crate `redis`, `ClusterPipeline` (a pipeline is sent to all nodes, and then the
-- replies are read).
use Rattle.std.specs.Prelude.{◌≡◌, ℕ, ◌++◌, List, [], ◌∷◌, map, length, nat_eq, Option, Result, Err, MatchOption, MatchResult}
use Rattle.std.specs.List.{AllByRecursion}
use Rattle.resp_core.specs.Trees.{Tree}
use Rattle.resp_core.specs.Errors.{by_cause}
use Rattle.resp_core.specs.declared.errors.redis_error.Cause.{Cause}
use Rattle.resp_link.specs.Call.{Seen}
use Rattle.resp_link.specs.TwoCalls.{ComesToOwe, SendRefused, TakesOwed, ReceiveRefused}
use Rattle.cluster_routing.specs.Lists.{concat, IsDistinct}
use Rattle.cluster_calls.specs.Links.Request.{bytes_of}
use Rattle.cluster_calls.specs.Links.World.{Node, World, CallsLink}
use Rattle.cluster_steps.specs.GroupRuns.{IsGroupPlaced, request_lists}
use Rattle.cluster_steps.specs.Groups.{NodeRequests}
use Rattle.cluster_steps.specs.declared.at_once.Sent.{Sent}

-- ---- one node

-- the bytes went out and the replies are owed, or a cause tells why they did not
abbrev pub GoesOut : Seen → Seen → List ℕ → Option Cause → Type 0
GoesOut old new bytes refusal = MatchOption refusal (ComesToOwe old new bytes)
    (λ cause. SendRefused old new bytes (by_cause cause))

-- the replies that were owed came in, or a cause tells why they did not
abbrev pub ComesIn : Seen → Seen → ℕ → Result (List Tree) Cause → Type 0
ComesIn old new count result = MatchResult result (λ replies. TakesOwed old new 0 count replies)
    (λ cause. ReceiveRefused old new count (by_cause cause))

-- a group's requests went out over the link at its place, as it is kept
pub record IsSent (old new : List Node) (g : NodeRequests) (s : Sent) : Type 0 where
  pub link : s.link ≡ g.link
  pub count : s.count ≡ length g.requests
  pub call : CallsLink old new g.link (λ before after. GoesOut before after (bytes_of g.requests) s.refusal)

-- what was taken of a group that went out: nothing where its sending was refused
abbrev pub IsReceived : List Node → List Node → Sent → Result (List Tree) Cause → Type 0
IsReceived old new s result = MatchOption s.refusal
    (CallsLink old new s.link (λ before after. ComesIn before after s.count result))
    (λ cause. (new ≡ old) × (result ≡ Err cause))

-- ---- all nodes

-- the groups went out, one after another
abbrev pub AreSent : List Node → List Node → List NodeRequests → List Sent → Type 0
AreSent old new [] [] = new ≡ old
AreSent old new (g ∷ gs) (s ∷ ss) = (mid : List Node) × IsSent old mid g s × AreSent mid new gs ss
AreSent old new _ _ = ⊥

-- all groups went out: the log has their requests, and no reply was taken yet
pub record AllSent (old new : World) (gs : List NodeRequests) (ss : List Sent) : Type 0 where
  pub placed : AllByRecursion (IsGroupPlaced old.nodes) gs
  pub apart : IsDistinct nat_eq (map (λ (g : NodeRequests). g.link) gs)
  pub sent : AreSent old.nodes new.nodes gs ss
  pub log : new.log ≡ old.log ++ concat (request_lists gs)
  pub flag : new.needs_refresh ≡ old.needs_refresh
  pub entries : new.entries ≡ old.entries
  pub settings : new.settings ≡ old.settings
  pub picked : new.picked ≡ old.picked
