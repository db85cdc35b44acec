use Rattle.resp_core.specs.MapIters.{owned_left}
use Rattle.resp_args.proofs.Fields.{Answers-collect}
use Rattle.resp_args.proofs.from.maps.convert_pairs.Goals as goal

pub returns-in-Ok : goal.returns-in-Ok
returns-in-Ok g c = rw c.in-Ok.ensures (Answers-collect g.K.PartialEq.eq g.K.FromRedisValue.same g.K.FromRedisValue.meaning g.V.FromRedisValue.meaning g.K.FromRedisValue.convert g.V.FromRedisValue.convert (λ m. m.entries) g.met.K.FieldName.agrees (owned_left c.in-Ok.pairs) c.in_ok-each_pair-in-Ok.field-0.items c.collect.result c.in_ok-each_pair-in-Ok.ensures c.collect.ensures)
