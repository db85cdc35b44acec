use Rattle.std.proofs.Common.{map as each}
use Rattle.resp_core.specs.View.{view}
use Rattle.resp_args.proofs.Trees.{items-trees_of, view-Array}
use Rattle.stream_commands.proofs.records.entries.EntriesFromRedisValue.from_redis_value.Goals as goal

pub returns-in-Array : goal.returns-in-Array
returns-in-Array c = rw (c.in-Array.is, view-Array c.in-Array.items, items-trees_of (each view c.in-Array.items.items)) c.each_entry.ensures
