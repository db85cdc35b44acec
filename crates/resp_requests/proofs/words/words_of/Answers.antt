use Rattle.std.proofs.Common.{◌≡◌, ap, sym, ◌∙◌, arith}
use Rattle.std.proofs.lemmas.Result.{err_from_is_err_and}
use Rattle.resp_requests.specs.Given.{texts}
use Rattle.resp_requests.specs.WordRuns.{after_words}
use Rattle.resp_requests.proofs.Standings.{texts_more}
use Rattle.resp_requests.proofs.WordSteps.{after_all, between_end_at, between_space_at, between_word_at, word_missing, word_whole}
use Rattle.resp_requests.proofs.words.words_of.Goals as goal

pub returns-in-empty : goal.returns-in-empty
returns-in-empty c =
    let front = texts c.words.words.items in
    c.words.invariant ∙ ap (after_words front) (between_end_at c.words.rest.now (omega arith)) ∙ after_all front

pub words-preserved-then-is_space : goal.words-preserved-then-is_space
words-preserved-then-is_space c =
    c.words.invariant ∙ ap (after_words (texts c.words.words.items)) (between_space_at c.words.rest.now (omega arith) (sym c.is_space.ensures ∙ c.if-is_space.true)).0

pub returns-in_err-rest-in_default : goal.returns-in_err-rest-in_default
returns-in_err-rest-in_default c =
    let front = texts c.words.words.items in
    let begins = between_word_at c.words.rest.now (omega arith) (sym c.is_space.ensures ∙ c.if-is_space.false) in
    let stop = c.in_err-rest-in_default.field-0.0 in
    let e = err_from_is_err_and c.from_residual.result c.from_residual.ensures.1 in
    rw (e.1, e.2) (word_missing stop front c.new-word.result.items _ _ (c.words.invariant ∙ ap (after_words front) begins.0) c.new-word.ensures.items c.in_err-rest-in_default.ensures.words)

pub words-preserved : goal.words-preserved
words-preserved c =
    let front = texts c.words.words.items in
    let begins = between_word_at c.words.rest.now (omega arith) (sym c.is_space.ensures ∙ c.if-is_space.false) in
    let more = ap texts c.in_ok-push-in_default.ensures.items ∙ texts_more c.words.words.items c.rest_of_word.new.word in
    word_whole front (texts c.push.new.self.items) c.new-word.result.items c.rest_of_word.new.word.items _ _ _ (c.words.invariant ∙ ap (after_words front) begins.0) c.new-word.ensures.items
    c.in_ok-rest-in_default.ensures.words more
