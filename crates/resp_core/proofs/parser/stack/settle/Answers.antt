use Rattle.std.proofs.Common.{◌≡◌, ◌<◌, ◌-◌, ℕ, List, length, get_or, take, Some, None, Ok, sym, ap, ◌∙◌, arith}
use Rattle.std.proofs.lemmas.Result.{err_from_is_err_and}
use Rattle.std.proofs.lemmas.List.{take-set}
use Rattle.resp_core.specs.declared.parser.frame.Frame.{Frame}
use Rattle.resp_core.specs.View.{view}
use Rattle.resp_core.specs.Frames.{closing}
use Rattle.resp_core.specs.Placing.{Refuses}
use Rattle.resp_core.specs.Reading.{Read}
use Rattle.resp_core.specs.Trees.{Tree}
use Rattle.resp_core.proofs.Closings.{no_frames, puts_last, puts_next, puts_refused}
use Rattle.resp_core.proofs.parser.stack.settle.Goals as goal

pub returns-in_err-put-clause-settles : goal.returns-in_err-put-clause-settles
returns-in_err-put-clause-settles c levels =
    let fs = c.frames.frames.items in
    let n = c.len-innermost.result - 1 in
    let r = err_from_is_err_and c.from_residual.result c.from_residual.ensures.1 in
    let same = c.frames.invariant.same levels in
    let refused = puts_refused levels fs n c.index_mut.result.now (view c.frames.value) c.in_err-put.field-0.0 (omega arith) (omega arith) c.index_mut.ensures.value (λ k bs. c.in_err-put.ensures k bs) in
    rw (r.1, r.2) (λ bs. rw (same bs) (refused bs))

pub returns-in-None-clause-settles : goal.returns-in-None-clause-settles
returns-in-None-clause-settles c levels bs =
    let fs = c.frames.frames.items in
    let n = c.len-innermost.result - 1 in
    c.frames.invariant.same levels bs
    ∙ puts_next levels fs n c.index_mut.result.now (view c.frames.value) c.put.new.self (omega arith) (omega arith) c.index_mut.ensures.value (λ k cs. rw c.in-None.is at (c.in_ok-put.ensures k cs)) bs

pub frames-preserved : goal.frames-preserved
frames-preserved c =
    let fs = c.frames.frames.items in
    let n = c.len-innermost.result - 1 in
    record {
      same = λ levels bs. c.frames.invariant.same levels bs
          ∙ puts_last levels fs n c.index_mut.result.now (view c.frames.value) c.in-Some.outer (omega arith) (omega arith) c.index_mut.ensures.value (λ k cs. rw c.in-Some.is at (c.in_ok-put.ensures k cs)) bs
          ∙ ap (λ (gs : List Frame). closing levels gs (Ok (view c.in-Some.outer, bs))) (sym (c.truncate.ensures.items ∙ take-set fs n c.put.new.self));
      levels = omega arith;
    }

pub returns-clause-settles : goal.returns-clause-settles
returns-clause-settles c levels =
    let none = no_frames c.frames.frames.items (omega arith) in
    (none, λ bs. c.frames.invariant.same levels bs ∙ ap (λ (gs : List Frame). closing levels gs (Ok (view c.frames.value, bs))) none)
