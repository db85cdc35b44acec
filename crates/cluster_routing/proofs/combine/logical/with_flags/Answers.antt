use Rattle.std.proofs.Common.{◌∙◌, sym}
use Rattle.cluster_routing.proofs.Flags.{flags_step}
use Rattle.cluster_routing.proofs.combine.logical.with_flags.Goals as goal

pub returns-in-None : goal.returns-in-None
returns-in-None c = sym (c.more.invariant ∙ flags_step c.more.flags.items c.deref.result.now c.args.more.now c.more.value-index c.value-item.result _ _ c.more-test.true c.value-item.is c.deref.ensures.value c.in_ok-both.ensures c.in-None.is)

pub more-preserved : goal.more-preserved
more-preserved c = c.more.invariant ∙ flags_step c.more.flags.items c.deref.result.now c.args.more.now c.more.value-index c.value-item.result _ _ c.more-test.true c.value-item.is c.deref.ensures.value c.in_ok-both.ensures c.in-Some.is
