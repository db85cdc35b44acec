use Rattle.std.proofs.Common.{rules, ◌≡◌, Err, ap, ◌∙◌, refl, map, [], ◌∷◌, ◌++◌}
use Rattle.std.proofs.lemmas.Result.{err_from_is_err_and}
use Rattle.std.proofs.lemmas.List.{map-append}
use Rattle.resp_core.specs.View.{view, push_view}
use Rattle.resp_core.specs.Standing.{Stands}
use Rattle.resp_core.proofs.Resting.{resting_stands}
use Rattle.resp_link.proofs.ReadingEnds.{Reads-falls}
use Rattle.resp_link.proofs.Taking.{refused, ReadsPushes-none, ReadsPushes-pushed, ReadsPushes-named, ReadsPushes-starved}
use Rattle.resp_link.proofs.replies.Receiver.next_reply.Goals as goal

pub loop-value-init : goal.loop-value-init
loop-value-init g c = record { reads = ReadsPushes-none _ _; rests = c.requires; limit = refl }

pub returns-in_err-value-clause-refused : goal.returns-in_err-value-clause-refused
returns-in_err-value-clause-refused g c =
    let p = err_from_is_err_and c.from_residual.result c.from_residual.ensures.1 in
    let waits = resting_stands _ c.loop-value.invariant.rests in
    rw (p.1, p.2) (refused g.R.LinkRead.unread g.R.LinkRead.counts c.parse_within.new.reader _ c.parse_within.new.allowed (Stands c.parse_within.new.self) _
    c.loop-value.invariant.reads
    (λ io. c.in_err-value.ensures.stops (ap Err io) _ waits)
    (λ parse. c.in_err-value.ensures.meets (ap Err parse) _ waits)
    (λ memory. c.in_err-value.ensures.starves (ap Err memory) _ waits)
    c.in_err-value.ensures.causes)

pub returns-in_err-push-in-Ok-clause-refused : goal.returns-in_err-push-in-Ok-clause-refused
returns-in_err-push-in-Ok-clause-refused g c =
    let p = err_from_is_err_and c.from_residual-in_err-push-in-Ok.result c.from_residual-in_err-push-in-Ok.ensures.1 in
    let taken = c.in_ok-value.ensures.value _ (resting_stands _ c.loop-value.invariant.rests) in
    let kept : c.push.new.self.items ≡ c.loop-value.self.pushes.items = search rules in
    rw (p.1, p.2) (ReadsPushes-starved (view c.in_ok-value.value) _ (ap (map push_view) kept) c.loop-value.invariant.reads taken.0 refl)

pub loop-value-smaller : goal.loop-value-smaller
loop-value-smaller g c = Reads-falls _ _ _ (c.in_ok-value.ensures.value _ (resting_stands _ c.loop-value.invariant.rests)).0

pub loop-value-preserved : goal.loop-value-preserved
loop-value-preserved g c =
    let taken = c.in_ok-value.ensures.value _ (resting_stands _ c.loop-value.invariant.rests) in
    let pushed : c.push.new.self.items ≡ c.loop-value.self.pushes.items ++ c.in-Ok.push ∷ [] = search rules in
    record {
      reads = ReadsPushes-pushed (view c.in_ok-value.value) (push_view c.in-Ok.push) c.loop-value.invariant.reads taken.0 c.in-Ok.ensures refl
          (ap (map push_view) pushed ∙ map-append push_view c.loop-value.self.pushes.items (c.in-Ok.push ∷ []));
      rests = c.in_ok-value.ensures.rests;
      limit = c.parse_within.ensures.limit ∙ c.loop-value.invariant.limit;
    }

pub returns-in-Err-clause-reply : goal.returns-in-Err-clause-reply
returns-in-Err-clause-reply g c =
    let taken = c.in_ok-value.ensures.value _ (resting_stands _ c.loop-value.invariant.rests) in
    ReadsPushes-named (view c.in_ok-value.value) (view c.in-Err.reply) c.loop-value.invariant.reads taken.0 (ap view c.in-Err.ensures.0) c.in-Err.ensures.1
