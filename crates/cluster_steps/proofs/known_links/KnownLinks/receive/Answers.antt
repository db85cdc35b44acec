use Rattle.cluster_steps.proofs.KnownLinks.{distinct_stay, known_stay}
use Rattle.cluster_steps.proofs.known_links.KnownLinks.receive.Goals as goal

pub invariant_of-self-inside : goal.invariant_of-self-inside
invariant_of-self-inside g c = record { distinct = distinct_stay g.L.ConnectionLike.seen c.self.inside.links.nodes _ _ c.self.inside.links.distinct c.deref_mut.ensures.value c.received_over.ensures }

pub invariant_of-self : goal.invariant_of-self
invariant_of-self g c = known_stay g.L.ConnectionLike.seen c.self.inside.links.places c.self.inside.links.nodes _ _ c.self.invariant c.deref_mut.ensures.value c.received_over.ensures
