use Rattle.cluster_calls.proofs.LogLaws.Routed as routes
use Rattle.cluster_calls.proofs.laws.subs_route_to_their_slot.Goals as goal

pub returns : goal.returns
returns c = routes.subs_route_to_their_slot
