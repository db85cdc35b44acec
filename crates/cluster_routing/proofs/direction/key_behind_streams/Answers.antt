use Rattle.std.specs.Prelude.{codes, position}
use Rattle.cluster_routing.specs.Command.{is_word}
use Rattle.cluster_routing.proofs.Replies.{is_counted}
use Rattle.cluster_routing.proofs.direction.key_behind_streams.Goals as goal

pub key_behind-requires : goal.key_behind-requires
key_behind-requires g c = is_counted (position (is_word (codes "STREAMS")) (g.R.Routable.args c.args.r.now)) c.in-Some.place c.in-Some.ensures
