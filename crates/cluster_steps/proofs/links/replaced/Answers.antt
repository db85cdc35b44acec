use Rattle.std.proofs.Common.{◌≡◌, get_or, sym, ap}
use Rattle.std.proofs.lemmas.List.{get_or_default}
use Rattle.cluster_calls.proofs.LinkLaws.Nodes.{calls_one}
use Rattle.cluster_steps.proofs.links.replaced.Goals as goal

pub returns : goal.returns
returns g c =
    let seen = g.L.ConnectionLike.seen in
    let links = c.args.links.now in
    let pair = get_or links c.args.index c.index-links-index.result in
    let is : pair ≡ get_or links c.args.index pair = get_or_default links c.args.index c.index-links-index.result pair c.requires in
    calls_one seen links c.args.index pair c.replace.new.dest (λ before after. (before ≡ seen c.replace.result) × (after ≡ seen c.args.link)) c.requires is
    (ap seen (sym c.replace.ensures.value), ap seen c.replace.ensures.after)
