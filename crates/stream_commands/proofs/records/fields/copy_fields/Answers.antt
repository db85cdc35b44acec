use Rattle.stream_commands.proofs.FieldCopies.{copied_where_made}
use Rattle.stream_commands.proofs.records.fields.copy_fields.Goals as goal

pub returns : goal.returns
returns c = copied_where_made c.args.fields.now c.in_ok-pairs.pairs.items c.collect.result c.len-count.ensures.unique c.in_ok-pairs.ensures c.collect.ensures
