use Rattle.std.proofs.Common.{map}
use Rattle.std.proofs.lemmas.Result.{err_from_is_err_and}
use Rattle.cluster_calls.specs.Links.Happened.{client_of}
use Rattle.cluster_client.specs.Whole.{whole}
use Rattle.cluster_steps.specs.FirstPlaces.{part_of}
use Rattle.cluster_steps.specs.Reads.{streams_in}
use Rattle.cluster_client.proofs.Reading.{read_planned, read_unplaced}
use Rattle.cluster_client.proofs.client.ClusterClient.prepare_read.Goals as goal

pub returns-in_err-dispatches-clause-planned : goal.returns-in_err-dispatches-clause-planned
returns-in_err-dispatches-clause-planned g c =
    let p = err_from_is_err_and c.from_residual-in_err-dispatches.result c.from_residual-in_err-dispatches.ensures.1 in
    let world = whole g.L.ConnectionLike.seen c.args.self.now in
    let parts = rw c.deref.ensures.value at c.in_ok-list.ensures.parts in
    rw (p.1, p.2) (λ m. read_unplaced c.args.options.now (streams_in c.args.streams.now) c.requires.by_key c.requires.met _ (client_of world) _ (map part_of c.in_ok-list.field-0.list.items) parts _ (c.in_err-dispatches.ensures.dispatched (λ k. m (cc k)) world.settings))

pub returns-clause-planned : goal.returns-clause-planned
returns-clause-planned g c m =
    let world = whole g.L.ConnectionLike.seen c.args.self.now in
    let parts = rw c.deref.ensures.value at c.in_ok-list.ensures.parts in
    read_planned c.args.options.now (streams_in c.args.streams.now) c.requires.by_key c.requires.met _ (client_of world) _ (map part_of c.in_ok-list.field-0.list.items) parts _ (c.in_ok-dispatches.ensures.dispatched (λ k. cc k) world.settings)
