use Rattle.std.proofs.Common.{get_or, refl, sym, ◌∙◌}
use Rattle.resp_args.specs.declared.cmd.Arg.TheVariants.{Simple}
use Rattle.resp_args.proofs.Tables.{end_of-next}
use Rattle.resp_args.proofs.arguments.last_end.Goals as goal

pub loop-end-preserved : goal.loop-end-preserved
loop-end-preserved c = c.end_after-last.ensures ∙ rw c.loop-end.invariant (sym (end_of-next c.args.ends.now c.loop-end.end-index (get_or c.args.ends.now c.loop-end.end-index (Simple 0)) (Simple 0) c.loop-end-test.true refl))
