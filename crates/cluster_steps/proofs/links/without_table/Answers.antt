use Rattle.std.proofs.Common.{◌≡◌, ◌∙◌, sym, ap}
use Rattle.cluster_calls.specs.Links.World.{addresses_of, has_repeats, nodes}
use Rattle.cluster_steps.proofs.DistinctLinks.{as_seen}
use Rattle.cluster_steps.proofs.links.without_table.Goals as goal

pub invariant_of-result : goal.invariant_of-result
invariant_of-result g c =
    let seen = g.L.ConnectionLike.seen in
    let repeats : c.repeats_behind.result ≡ has_repeats (addresses_of (nodes seen c.args.links.items)) =
    c.repeats_behind.ensures ∙ ap (λ links. has_repeats (addresses_of (nodes seen links))) c.deref.ensures.value in
    record { distinct = sym (as_seen seen c.args.links.items) ∙ sym repeats ∙ c.if-repeats_behind.false }
