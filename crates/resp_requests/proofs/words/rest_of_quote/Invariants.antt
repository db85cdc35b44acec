use Rattle.std.proofs.Common.{◌≡◌, ◌≤◌, zero, length}
use Rattle.resp_requests.specs.Words.{split}
use Rattle.resp_requests.specs.WordRuns.{put_before}
use Rattle.resp_requests.specs.WordParts.{place_of}
use Rattle.resp_requests.proofs.words.rest_of_quote.Given as goal

abbrev pub invariant-bytes : goal.invariant-bytes
invariant-bytes l = record {
  words : put_before l.initial.word.items (split (place_of l.quote) zero l.initial.rest) ≡ put_before l.word.items (split (place_of l.quote) zero l.rest);
  fewer : length l.rest ≤ length l.initial.rest;
}

abbrev pub decreases-bytes : goal.decreases-bytes
decreases-bytes l = length l.rest
