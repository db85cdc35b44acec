use Rattle.stream_commands.proofs.Gather.{set_more}
use Rattle.stream_commands.proofs.join.set_of.Goals as goal

pub keys-preserved : goal.keys-preserved
keys-preserved c = set_more c.args.keys.now c.keys.key-index _ c.keys.set.keys c.insert.new.self.keys c.requires c.keys-test.true c.keys.invariant c.in_ok-insert.ensures.keys
