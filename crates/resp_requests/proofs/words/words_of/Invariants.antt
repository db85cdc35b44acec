use Rattle.std.proofs.Common.{◌≡◌, ◌≤◌, zero, length}
use Rattle.resp_requests.specs.Given.{texts}
use Rattle.resp_requests.specs.Words.{words_in, between, split}
use Rattle.resp_requests.specs.WordRuns.{after_words}
use Rattle.resp_requests.proofs.words.words_of.Given as goal

abbrev pub invariant-words : goal.invariant-words
invariant-words l = words_in l.initial.rest ≡ after_words (texts l.words.items) (split between zero l.rest)

abbrev pub decreases-words : goal.decreases-words
decreases-words l = length l.rest
