use Rattle.std.proofs.Common.{◌≡◌, ◌≤◌, ℕ, List, length, Ok}
use Rattle.resp_core.specs.View.{view}
use Rattle.resp_core.specs.Frames.{closing}
use Rattle.resp_core.proofs.parser.stack.settle.Given as goal

abbrev pub invariant-frames : goal.invariant-frames
invariant-frames l = record {
  same : (levels : ℕ) (bs : List ℕ) → closing levels l.initial.frames.items (Ok (view l.initial.value, bs)) ≡ closing levels l.frames.items (Ok (view l.value, bs));
  levels : length l.frames.items ≤ length l.initial.frames.items;
}

abbrev pub decreases-frames : goal.decreases-frames
decreases-frames l = length l.frames.items
