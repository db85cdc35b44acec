use Rattle.stream_commands.proofs.Forms.{view-BulkString}
use Rattle.stream_commands.proofs.records.forms.is_text.Goals as goal

pub returns-in-BulkString : goal.returns-in-BulkString
returns-in-BulkString c = λ h. rw (c.in-BulkString.is, view-BulkString c.in-BulkString.bytes, ← c.as_slice.ensures.value) (c.is_utf8.ensures h)
