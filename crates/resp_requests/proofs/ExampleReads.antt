-- The examples, by computation.
use Rattle.std.proofs.Common.{refl}
use Rattle.resp_requests.specs.Lines.{line_at, behind_byte, head_at}
use Rattle.resp_requests.specs.Numbers.{number_in, is_negative}
use Rattle.resp_requests.specs.Words.{split}
use Rattle.resp_requests.specs.Arrays.{count_in, length_in, count_at, text_at, argument_at, arguments_at, array_at}
use Rattle.resp_requests.specs.Requests.{inline_at, request_at, requests_by, requests}
use Rattle.resp_requests.specs.Examples.{ArraysOfBulks, BadArrays, Words, Quotes}

unfoldable reading : Unit {0}
unfolding line_at behind_byte head_at number_in is_negative split count_in length_in count_at text_at argument_at arguments_at array_at inline_at request_at requests_by requests
reading = tt

pub arrays_hold : ArraysOfBulks
unfolding reading
arrays_hold = (refl, refl, refl)

pub bad_arrays_hold : BadArrays
unfolding reading
bad_arrays_hold = (refl, refl, refl, refl, refl, refl)

pub words_hold : Words
unfolding reading
words_hold = (refl, refl, refl)

pub quotes_hold : Quotes
unfolding reading
quotes_hold = (refl, refl, refl, refl, refl)
