-- What functions say of the front of a line.
use Rattle.std.specs.Prelude.{◌≡◌, ℕ, zero, ◌<◌, ◌≤◌, Bool, true, List, [], ◌∷◌, length, Result, Ok, Err}
use Rattle.std.specs.Borrow.{Bor}
use Rattle.resp_requests.specs.declared.stop.Stop.{Stop}
use Rattle.resp_requests.specs.declared.words.Quote.{Quote}
use Rattle.resp_requests.specs.declared.words.Quote.TheVariants as quotes
use Rattle.resp_requests.specs.declared.words.Quoted.{Quoted}
use Rattle.resp_requests.specs.declared.words.Quoted.TheVariants as parts
use Rattle.resp_requests.specs.declared.words.Next.{Next}
use Rattle.resp_requests.specs.declared.words.Next.TheVariants as next
use Rattle.resp_requests.specs.Given.{Leaves}
use Rattle.resp_requests.specs.Words.{ends_word, Place, between, plain, double, single, more, does, split}
use Rattle.resp_requests.specs.WordRuns.{worded}

abbrev pub place_of : Quote → Place
place_of quotes.Double = double
place_of quotes.Single = single

-- a quoted text goes on with a byte, or closes
abbrev pub QuoteSteps : Place → Result Quoted Stop → List ℕ → Type 0
QuoteSteps p (Ok (parts.Byte b behind)) bytes =
    (split p zero bytes ≡ does (more b) (split p zero behind.now)) × (length behind.now < length bytes)
QuoteSteps p (Ok (parts.Closed behind)) bytes =
    (split p zero bytes ≡ worded [] (split between zero behind.now)) × (length behind.now ≤ length bytes)
QuoteSteps p (Err e) bytes = Leaves e (split p zero bytes)

-- no byte of a word stands here
abbrev pub ends_at : List ℕ → Bool
ends_at [] = true
ends_at (b ∷ bs) = ends_word b

-- a word goes on with a byte or a quote, or ends
abbrev pub GoesOnAs : Next → List ℕ → Type 0
GoesOnAs (next.Byte b behind) bytes =
    (split plain zero bytes ≡ does (more b) (split plain zero behind.now))
    × (length behind.now < length bytes)
GoesOnAs (next.Quote q behind) bytes =
    (split plain zero bytes ≡ split (place_of q) zero behind.now) × (length behind.now < length bytes)
GoesOnAs next.End bytes = split plain zero bytes ≡ worded [] (split between zero bytes)

-- a word ends only where no byte of it stands
abbrev pub EndsAs : Next → List ℕ → Type 0
EndsAs next.End bytes = ends_at bytes ≡ true
EndsAs _ bytes = Unit {0}
