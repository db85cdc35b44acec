use Rattle.std.proofs.Common.{map, option_map, drop}
use Rattle.cluster_client.specs.Shown.{call_in, shown}
use Rattle.cluster_client.specs.Whole.{whole}
use Rattle.cluster_calls.proofs.LinkLaws.PlayLoop.{PlayLoop}
use Rattle.cluster_client.proofs.client.play.play.Given as goal

abbrev pub invariant-calls : goal.invariant-calls
invariant-calls g l = PlayLoop (option_map (λ s. (goal.ReadRoutingStrategy-dyn g s.now).admits s.now.1) l.strategy)
    (whole g.L.ConnectionLike.seen l.fn.client) (whole g.L.ConnectionLike.seen l.client)
    (map call_in l.fn.calls) (map call_in (drop l.call-index l.fn.calls)) (map shown l.fn.played.items) (map shown l.played.items)
