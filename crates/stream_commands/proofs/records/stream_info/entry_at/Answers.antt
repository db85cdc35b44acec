use Rattle.stream_commands.specs.RecordViews.{entry_view, fields_view}
use Rattle.stream_commands.specs.StreamInfo.{no_entry, an_entry}
use Rattle.stream_commands.specs.UnderNames.{under}
use Rattle.stream_commands.proofs.Lookups.{read_or-missing}
use Rattle.stream_commands.proofs.records.stream_info.entry_at.Goals as goal

pub returns : goal.returns
returns c = read_or-missing (λ e. entry_view e.entry) an_entry (entry_view c.no_entry-missing.result.entry) no_entry (under c.args.name.now (fields_view c.args.fields.now)) c.read_under.result c.no_entry-missing.ensures c.read_under.ensures
