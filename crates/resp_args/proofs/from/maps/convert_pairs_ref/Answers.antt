use Rattle.resp_core.specs.MapIters.{pairs_left}
use Rattle.resp_args.proofs.Fields.{Answers-collect}
use Rattle.resp_args.proofs.from.maps.convert_pairs_ref.Goals as goal

pub returns-in_ok-each_pair_ref-in-Some : goal.returns-in_ok-each_pair_ref-in-Some
returns-in_ok-each_pair_ref-in-Some g c = rw (← c.in-Some.ensures) (Answers-collect g.K.PartialEq.eq g.K.FromRedisValue.same g.K.FromRedisValue.meaning g.V.FromRedisValue.meaning g.K.FromRedisValue.convert g.V.FromRedisValue.convert (λ m. m.entries) g.met.K.FieldName.agrees (pairs_left c.in-Some.pairs) c.in_ok-each_pair_ref-in-Some.field-0.items c.collect.result c.in_ok-each_pair_ref-in-Some.ensures c.collect.ensures)
