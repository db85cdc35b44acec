use Rattle.std.proofs.Common.{◌≡◌, ◌∙◌, ℕ, suc, ap, sym, arith, slice_get}
use Rattle.cluster_routing.specs.AllNodes.{node_list}
use Rattle.cluster_routing.specs.Seen.{addresses}
use Rattle.cluster_routing.specs.SlotMap.{Nodes}
use Rattle.cluster_routing.proofs.NodePlaces.{replica_of}
use Rattle.cluster_routing.proofs.Replies.{got}
use Rattle.cluster_routing.proofs.range.SlotAddrs.at.Goals as goal

pub returns-in-Some : goal.returns-in-Some
returns-in-Some c =
    let next : c.args.number ≡ suc c.in-Some.number = omega (arith, c.in-Some.ensures.0, c.in-Some.ensures.1) in
    replica_of c.get.result c.deref.result.now c.in-Some.number (got c.deref.result.now c.in-Some.number c.get.result c.get.ensures.lookup)
    ∙ ap (λ rs. slice_get (addresses rs) c.in-Some.number) c.deref.ensures.value
    ∙ ap (λ (s : Nodes). slice_get s.replicas c.in-Some.number) c.self.view_is
    ∙ ap (slice_get (node_list c.args.self.now)) (sym next)
