use Rattle.cluster_steps.proofs.PipelineReads.{half}
use Rattle.cluster_steps.proofs.pipeline_reads.first_half.Goals as goal

pub returns-then-args-eq0 : goal.returns-then-args-eq0
returns-then-args-eq0 c = half c.args.args.now c.if-args-eq0.true
