use Rattle.std.proofs.Common.{◌∙◌}
use Rattle.std.proofs.lemmas.Result.{err_from_is_err_and}
use Rattle.resp_args.proofs.Writings.{Writing-next, Writing-refused}
use Rattle.resp_args.proofs.to_args.maps.IndexMapToRedisArgs.write_redis_args.Goals as goal

pub loop-key-preserved : goal.loop-key-preserved
loop-key-preserved g c = (
  Writing-next (c.in-Some.key.now, c.in-Some.value.now) c.next.new.self c.loop-key.invariant.0 c.in-Some.ensures.steps c.in_ok-write_two.ensures.writes,
  c.in_ok-write_two.ensures.keeps ∙ c.loop-key.invariant.1,
)

pub returns-in_err-write_two : goal.returns-in_err-write_two
returns-in_err-write_two g c =
    let refused = err_from_is_err_and c.from_residual.result c.from_residual.ensures.1 in
    rw refused.1 (record {
      writes = Writing-refused (c.in-Some.key.now, c.in-Some.value.now) c.next.new.self c.loop-key.invariant.0 c.in-Some.ensures.steps c.in_err-write_two.ensures.writes;
      keeps = c.in_err-write_two.ensures.keeps ∙ c.loop-key.invariant.1;
    })
