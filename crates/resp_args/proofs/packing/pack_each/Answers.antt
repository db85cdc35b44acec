use Rattle.std.proofs.Common.{◌++◌, ◌∙◌, map, take, append_assoc}
use Rattle.std.proofs.lemmas.Result.{err_from_is_err_and}
use Rattle.resp_args.specs.Packed.{packed_args}
use Rattle.resp_args.proofs.Packings.{packed_each-next}
use Rattle.resp_args.proofs.packing.pack_each.Goals as goal

pub returns-in_err-pack_arg : goal.returns-in_err-pack_arg
returns-in_err-pack_arg c =
    let p = err_from_is_err_and c.from_residual.result c.from_residual.ensures.1 in
    let done = packed_args (map (λ a. a.items) (take c.loop-arg.arg-index c.args.args.now)) in
    let more = c.in_err-pack_arg.ensures.0 in
    rw p.1 (done ++ more, c.in_err-pack_arg.ensures.1 ∙ rw c.loop-arg.invariant (append_assoc c.args.out.now.items done more))

pub loop-arg-preserved : goal.loop-arg-preserved
loop-arg-preserved c = packed_each-next c.args.args.now c.loop-arg.arg-index c.arg-item.result c.deref.result.now c.args.out.now.items c.loop-arg.out.items c.pack_arg.new.out.items c.loop-arg-test.true c.arg-item.is c.loop-arg.invariant c.deref.ensures.value c.in_ok-pack_arg.ensures
