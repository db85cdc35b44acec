use Rattle.cluster_steps.proofs.KnownLinks.{distinct_stay}
use Rattle.cluster_steps.proofs.links.LinksNodeLinks.call.Goals as goal

pub invariant_of-self : goal.invariant_of-self
invariant_of-self g c = record { distinct = distinct_stay g.L.ConnectionLike.seen c.args.self.now.nodes _ _ c.args.self.now.distinct c.deref_mut.ensures.value c.called.ensures }
