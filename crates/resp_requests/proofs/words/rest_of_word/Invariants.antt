use Rattle.std.proofs.Common.{◌≡◌, ◌≤◌, ◌<◌, ◌⊎◌, zero, length}
use Rattle.resp_requests.specs.Words.{plain, split}
use Rattle.resp_requests.specs.WordRuns.{put_before}
use Rattle.resp_requests.proofs.words.rest_of_word.Given as goal

abbrev pub invariant-bytes : goal.invariant-bytes
invariant-bytes l = record {
  words : put_before l.initial.word.items (split plain zero l.initial.rest) ≡ put_before l.word.items (split plain zero l.rest);
  fewer : length l.rest ≤ length l.initial.rest;
  moved : (l.rest ≡ l.initial.rest) ⊎ (length l.rest < length l.initial.rest);
}

abbrev pub decreases-bytes : goal.decreases-bytes
decreases-bytes l = length l.rest
