use Rattle.std.proofs.Common.{◌≡◌, ◌∙◌, ◌∷◌, [], None, Some, rules}
use Rattle.std.specs.Prelude.{codes}
use Rattle.cluster_routing.specs.Command.{is_one_of}
use Rattle.cluster_steps.proofs.PipelineReads.{read_by_word}
use Rattle.cluster_steps.proofs.pipeline_reads.is_read.Goals as goal

pub returns-in-Some : goal.returns-in-Some
returns-in-Some c =
    let word : c.eq_ignore_ascii_case.result ≡ is_one_of (codes "XREAD" ∷ []) c.in-Some.word.now = search rules in
    word ∙ read_by_word c.args.command.now.args (Some c.in-Some.word.now) c.in-Some.ensures

pub returns-in-None : goal.returns-in-None
returns-in-None c = read_by_word c.args.command.now.args None c.in-None.ensures
