use Rattle.std.proofs.Common.{ap, ◌∙◌}
use Rattle.std.proofs.Common.{map as each}
use Rattle.resp_core.specs.Trees.{array}
use Rattle.resp_core.specs.View.{view, trees_of}
use Rattle.resp_core.specs.declared.value.Value.{Array}
use Rattle.resp_args.proofs.Trees.{view-Array}
use Rattle.stream_commands.proofs.EntryLists.{answers-at}
use Rattle.stream_commands.proofs.records.entries.read_parts.Goals as goal

pub returns-in-Err : goal.returns-in-Err
returns-in-Err c = answers-at _ _ (view (Array c.in-Err.parts)) (array (trees_of (each view c.args.parts.items))) _ (ap (λ v. view (Array v)) c.in-Err.ensures.0 ∙ view-Array c.args.parts) c.read_map.ensures
