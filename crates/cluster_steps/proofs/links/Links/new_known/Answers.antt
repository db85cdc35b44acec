use Rattle.std.specs.Prelude.{is_some}
use Rattle.std.proofs.Common.{◌≡◌, ◌∙◌, Some, true, not, sym, ap}
use Rattle.std.proofs.Math.Bool.{not-not}
use Rattle.cluster_calls.specs.Links.World.{addresses_of, has_repeats, nodes}
use Rattle.cluster_steps.specs.LinkTable.{knows_links}
use Rattle.cluster_steps.proofs.DistinctLinks.{as_seen}
use Rattle.cluster_steps.proofs.KnownLinks.{table_known}
use Rattle.cluster_steps.proofs.links.Links.new_known.Goals as goal

pub invariant_of-result : goal.invariant_of-result
invariant_of-result g c =
    let seen = g.L.ConnectionLike.seen in
    let repeats = has_repeats (addresses_of (nodes seen c.args.links.items)) in
    let none : true ≡ not repeats =
    ap is_some (sym c.in-Ok-Some.field-0-is) ∙ c.in-Ok-Some.ensures.repeated ∙ ap (λ links. not (has_repeats (addresses_of (nodes seen links)))) c.deref.ensures.value in
    record { distinct = sym (as_seen seen c.args.links.items) ∙ sym (not-not repeats) ∙ ap not (sym none) }

pub returns-in-Ok-Some-clause-known : goal.returns-in-Ok-Some-clause-known
returns-in-Ok-Some-clause-known g c =
    ap (λ links. knows_links (Some c.in-Ok-Some.table) links) (sym c.deref.ensures.value) ∙ ap (λ table. knows_links table c.deref.result.now) (sym c.in-Ok-Some.field-0-is)
    ∙ table_known g.L.ConnectionLike.seen c.in-Ok-Some.field-0 c.deref.result.now c.in-Ok-Some.ensures.keys
