use Rattle.std.proofs.Common.{◌≡◌, get_or}
use Rattle.std.proofs.lemmas.List.{get_or_default}
use Rattle.resp_link.specs.TwoCalls.{Receives}
use Rattle.cluster_calls.proofs.LinkLaws.Nodes.{calls_one}
use Rattle.cluster_steps.proofs.at_once.received_over.Goals as goal

pub returns : goal.returns
returns g c =
    let links = c.args.links.now in
    let pair = get_or links c.args.index c.index-links-index.result in
    let is : pair ≡ get_or links c.args.index pair = get_or_default links c.args.index c.index-links-index.result pair c.requires in
    calls_one g.L.ConnectionLike.seen links c.args.index pair c.recv_responses.new.self (λ before after. Receives before after c.args.count c.recv_responses.result) c.requires is c.recv_responses.ensures
