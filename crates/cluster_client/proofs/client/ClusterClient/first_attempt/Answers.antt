use Rattle.std.proofs.Common.{◌∙◌, sym, ap, Ok, Err}
use Rattle.std.proofs.lemmas.Result.{err_from_is_err_and}
use Rattle.cluster_routing.specs.Seen.{address}
use Rattle.cluster_calls.specs.Calls.OneSlot.{args_of}
use Rattle.cluster_calls.specs.Calls.Transactions.{dispatches_to}
use Rattle.cluster_calls.specs.Links.Happened.{client_of}
use Rattle.cluster_steps.specs.declared.hop.Hop.{Hop as CodeHop}
use Rattle.cluster_client.specs.Whole.{whole}
use Rattle.cluster_client.proofs.Transacting.{primary_planned}
use Rattle.cluster_client.proofs.client.ClusterClient.first_attempt.Goals as goal

pub returns-in_err-hop-clause-planned : goal.returns-in_err-hop-clause-planned
returns-in_err-hop-clause-planned g c =
    let world = whole g.L.ConnectionLike.seen c.args.self.now in
    let p = err_from_is_err_and c.from_residual-in_err-hop.result c.from_residual-in_err-hop.ensures.1 in
    let own = sym (c.in_ok-slot.ensures (λ k. cc k)) ∙ ap (λ o. Ok o) c.in-Some.is in
    rw (p.1, p.2) (λ m.
    let found = c.in_err-hop.ensures.found (λ k. m (cc k)) in
    let leads = rw c.new.ensures at found.leads in
    primary_planned (client_of world) c.args.commands.now c.in-Some.slot found.own (Err c.in_err-hop.field-0.0) own leads)

pub returns-clause-planned : goal.returns-clause-planned
returns-clause-planned g c = λ m.
    let world = whole g.L.ConnectionLike.seen c.args.self.now in
    let own = sym (c.in_ok-slot.ensures (λ k. cc k)) ∙ ap (λ o. Ok o) c.in-Some.is in
    let found = c.in_ok-hop.ensures.found (λ k. cc k) in
    let leads = rw c.new.ensures at found.leads in
    primary_planned (client_of world) c.args.commands.now c.in-Some.slot found.own (Ok (address c.in_ok-hop.hop.node)) own leads
    ∙ ap (λ (p : CodeHop). Ok (dispatches_to (address p.node) (args_of c.args.commands.now))) (sym c.in_ok-attempt.ensures.hop)
