use Rattle.resp_args.proofs.Trees.{view-Array}
use Rattle.stream_commands.proofs.records.entries.read_entry.Goals as goal

pub returns-in-Array : goal.returns-in-Array
returns-in-Array c = rw (c.in-Array.is, view-Array c.in-Array.parts) c.read_parts.ensures
