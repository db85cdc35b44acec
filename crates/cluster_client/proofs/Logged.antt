-- A client whose log was only given room, and how far that room goes.
use Rattle.std.proofs.Common.{◌≡◌, ◌≤◌, ◌+◌, ℕ, List, [], length, Err, sym, subst, arith}
use Rattle.resp_core.specs.Errors.{by_cause}
use Rattle.resp_core.specs.declared.errors.redis_error.Cause.TheVariants.{Memory}
use Rattle.cluster_routing.specs.Address.{Address}
use Rattle.cluster_steps.specs.declared.hop.Hop.{Hop as CodeHop}
use Rattle.cluster_steps.specs.Turns.{hop_to}
use Rattle.cluster_calls.specs.Calls.Plan.{Dispatch}
use Rattle.cluster_calls.specs.Calls.Redirects.{Hop}
use Rattle.cluster_calls.specs.Links.PartRuns.{PartsMade}
use Rattle.cluster_calls.specs.Links.Places.{IsOpenAt}
use Rattle.cluster_calls.specs.Links.Request.{Request}
use Rattle.cluster_calls.specs.Links.World.{Node, World}
use Rattle.cluster_calls.proofs.LinkLaws.ChainLoop.{Loop}
use Rattle.cluster_calls.proofs.LinkLaws.PartLoop.{PartLoop, parts_start, parts_unsent}
use Rattle.cluster_client.specs.NodeRuns.{NodesAsked}
use Rattle.cluster_client.proofs.NodeLoop.{AskLoop, asks_start, none_asked}

-- ---- the log has the same requests

module _ (world : World) (log : List Request) (same : log ≡ world.log) (ds : List Dispatch) where
  pub parts_with_room : PartLoop world (record world { log = log }) ds ds []
  parts_with_room = subst (λ l. PartLoop world (record world { log = l }) ds ds []) (sym same) (parts_start world ds)

  pub parts_not_begun : PartsMade world (record world { log = log }) ds (Err (by_cause Memory))
  parts_not_begun = subst (λ l. PartsMade world (record world { log = l }) ds (Err (by_cause Memory))) (sym same) (parts_unsent world ds)

  pub nodes_with_room : AskLoop world (record world { log = log }) ds ds []
  nodes_with_room = subst (λ l. AskLoop world (record world { log = l }) ds ds []) (sym same) (asks_start world ds)

  pub nodes_not_begun : NodesAsked world (record world { log = log }) ds (Err (by_cause Memory))
  nodes_not_begun = subst (λ l. NodesAsked world (record world { log = l }) ds (Err (by_cause Memory))) (sym same) (none_asked world ds)

pub chain_with_room : (old now : World) (args : List (List ℕ)) (first : Hop) (redirects : ℕ) (hop : Hop) (link : ℕ) (log : List Request) → log ≡ now.log → Loop old now args first redirects hop link
    → Loop old (record now { log = log }) args first redirects hop link
chain_with_room old now args first redirects hop link log same l = subst (λ k. Loop old (record now { log = k }) args first redirects hop link) (sym same) l

-- ---- places

pub chain_to : (old now : World) (args : List (List ℕ)) (first : Hop) (redirects : ℕ) (p q : CodeHop) → p ≡ q → Loop old now args first redirects (hop_to q) q.link → Loop old now args first redirects (hop_to p) p.link
chain_to old now args first redirects p q same l = subst (λ r. Loop old now args first redirects (hop_to r) r.link) (sym same) l

pub open_at : (all : List Node) (node : Address) (m n : ℕ) → m ≡ n → IsOpenAt all node n → IsOpenAt all node m
open_at all node m n same at = subst (λ k. IsOpenAt all node k) (sym same) at

-- ---- room for all is room for the first, and behind it for the others

pub first_room : (used first others room count : ℕ) → used + (first + others) ≤ room → count ≡ first → used + count ≤ room
first_room used first others room count h e = omega (arith, h, e)

pub room_behind : (used first others room count later more : ℕ) → used + (first + others) ≤ room → count ≡ first → later ≡ used + count → room ≤ more → later + others ≤ more
room_behind used first others room count later more h e f k = omega (arith, h, e, f, k)

pub room_for_fewer : (used count room total fewer most : ℕ) → used + count ≤ room → total ≡ fewer → fewer ≤ most → count ≡ most → used + total ≤ room
room_for_fewer used count room total fewer most h e k f = omega (arith, h, e, k, f)

-- ---- a log that has grown

pub grown_by : (old new : List Request) (m n count : ℕ) → m ≡ length old → n ≡ length new → n ≡ m + count → length new ≡ length old + count
grown_by old new m n count e f g = omega (arith, e, f, g)
