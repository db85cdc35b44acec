use Rattle.std.proofs.Common.{◌∙◌, ap, sym}
use Rattle.cluster_steps.specs.LinkTable.{knows_links}
use Rattle.cluster_steps.proofs.KnownLinks.{made_known}
use Rattle.cluster_steps.proofs.links.Links.renew_known.Goals as goal

pub returns-then-len-gt-FEW-clause-known : goal.returns-then-len-gt-FEW-clause-known
returns-then-len-gt-FEW-clause-known g c known =
    ap (λ links. knows_links c.unwrap_or.result links) (sym c.deref.ensures.value) ∙ ap (λ table. knows_links table c.deref.result.now) c.unwrap_or.ensures
    ∙ made_known g.L.ConnectionLike.seen c.table_of.result c.deref.result.now c.table_of.ensures.keys
