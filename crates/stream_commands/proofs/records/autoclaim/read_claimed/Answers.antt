use Rattle.stream_commands.proofs.Made.{claimed-array}
use Rattle.stream_commands.proofs.records.autoclaim.read_claimed.Goals as goal

pub returns-in-Array : goal.returns-in-Array
returns-in-Array c = rw (claimed-array c.args.list c.in-Array.items c.in-Array.is) c.read_items.ensures
