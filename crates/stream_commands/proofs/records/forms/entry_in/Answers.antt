use Rattle.std.proofs.Common.{◌≡◌, None}
use Rattle.resp_core.specs.View.{view}
use Rattle.stream_commands.specs.Entries.{claimed_entries, claimed_entry, entries, ids_with_fields}
use Rattle.stream_commands.proofs.Forms.{if_some-weaker}
use Rattle.stream_commands.proofs.records.forms.entry_in.Goals as goal

pub returns-in-Some-clause-standard : goal.returns-in-Some-clause-standard
returns-in-Some-clause-standard c = if_some-weaker c.first_entry.result c.first_entry.ensures.standard (λ entry (h : ids_with_fields (view entry.now) ≡ None → entries (view c.in-Some.list.now) ≡ None) k. c.in-Some.ensures entries (h k))

pub returns-in-Some-clause-claim : goal.returns-in-Some-clause-claim
returns-in-Some-clause-claim c = if_some-weaker c.first_entry.result c.first_entry.ensures.claim (λ entry (h : claimed_entry (view entry.now) ≡ None → claimed_entries (view c.in-Some.list.now) ≡ None) k. c.in-Some.ensures claimed_entries (h k))
