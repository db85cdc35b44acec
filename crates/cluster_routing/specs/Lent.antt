-- What a strategy is lent.
use Rattle.cluster_routing.specs.Candidates.{Candidates, any_node, replicas_only}
use Rattle.cluster_routing.specs.declared.candidates.ReadCandidates.{ReadCandidates}
use Rattle.cluster_routing.specs.declared.candidates.ReadCandidates.TheVariants.{AnyNode, ReplicasOnly}

-- the nodes that a strategy is lent
abbrev pub lent : ReadCandidates → Candidates
lent (AnyNode c) = any_node c.slot c.nodes
lent (ReplicasOnly c) = replicas_only c.slot c.replicas
