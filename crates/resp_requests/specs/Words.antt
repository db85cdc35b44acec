-- The words of an inline request, with their quotes. Source: Redis 7.0.15, `sdssplitargs`.
use Rattle.std.specs.Prelude.{ℕ, zero, suc, ◌+◌, ◌-◌, ◌*◌, ◌&&◌, ◌||◌, Bool, true, false, nat_le, ◌==◌, if◌then◌else◌, List, [], ◌∷◌, slice_index, Option, Some, None}

-- a blank, a tab, LF, VT, FF or CR
abbrev pub is_space : ℕ → Bool
is_space b = b == 32 || (nat_le 9 b && nat_le b 13)

-- VT and FF stand in a word, but for its first byte
abbrev pub ends_word : ℕ → Bool
ends_word b = b == 32 || (b == 9 || (b == 10 || b == 13))

-- what a hexadecimal digit stands for
abbrev pub hex_digit : ℕ → Option ℕ
hex_digit b = if nat_le 48 b && nat_le b 57 then Some (b - 48)
    else if nat_le 97 b && nat_le b 102 then Some (b - 87)
    else if nat_le 65 b && nat_le b 70 then Some (b - 55)
    else None

abbrev pub hex_both : Option ℕ → Option ℕ → Option ℕ
hex_both (Some high) (Some low) = Some (16 * high + low)
hex_both high low = None

-- what the letter behind a backslash stands for: n, r, t, b, a, and each other for itself
abbrev pub escaped : ℕ → ℕ
escaped b = if b == 110 then 10 else if b == 114 then 13 else if b == 116 then 9
    else if b == 98 then 8 else if b == 97 then 7 else b

-- Where a byte stands: between words, in a word, or in its double or single quotes.
pub data Place : Type 0 where
  between : Place
  plain : Place
  double : Place
  single : Place

-- What a byte does to the word: nothing, a byte more, its end, or an open quote.
pub data Effect : Type 0 where
  nothing : Effect
  more : ℕ → Effect
  ended : Effect
  open_quote : Effect

-- what a byte does, where the next one stands, and how many behind it belong to it
pub record Step : Type 0 where
  pub effect : Effect
  pub place : Place
  pub taken : ℕ

abbrev pub on : Effect → Place → Step
on effect place = record { effect = effect; place = place; taken = 0 }

-- behind a closing quote stands a blank, or nothing
abbrev pub closes : List ℕ → Step
closes [] = on ended between
closes (b ∷ bs) = if is_space b then on ended between else on open_quote between

abbrev pub in_word : ℕ → Step
in_word b = if b == 34 then on nothing double else if b == 39 then on nothing single else on (more b) plain

-- the letter behind a backslash in double quotes; `x` and two hexadecimal digits stand for one byte
abbrev pub escape : ℕ → Option ℕ → Step
escape letter None = record { effect = more (escaped letter); place = double; taken = 1 }
escape letter (Some byte) = if letter == 120 then record { effect = more byte; place = double; taken = 3 }
    else record { effect = more (escaped letter); place = double; taken = 1 }

-- the digits, where both are there
abbrev pub digits_at : List ℕ → Option ℕ
digits_at (high ∷ low ∷ bs) = hex_both (hex_digit high) (hex_digit low)
digits_at bs = None

abbrev pub behind_backslash : List ℕ → Step
behind_backslash [] = on open_quote between
behind_backslash (letter ∷ bs) = escape letter (digits_at bs)

abbrev pub is_escaped_quote : List ℕ → Bool
is_escaped_quote [] = false
is_escaped_quote (b ∷ []) = false
is_escaped_quote (b ∷ c ∷ bs) = b == 92 && c == 39

-- what the byte at the place does, with those behind it
abbrev pub step : Place → ℕ → List ℕ → Step
step between b bs = if is_space b then on nothing between else in_word b
step plain b bs = if ends_word b then on ended between else in_word b
step double b bs = if b == 34 then closes bs else if b == 92 then behind_backslash bs else on (more b) double
step single b bs = if b == 39 then closes bs
    else if is_escaped_quote (b ∷ bs) then record { effect = more 39; place = single; taken = 1 }
    else on (more b) single

-- a byte in front of the first word
abbrev pub onto : ℕ → List (List ℕ) → List (List ℕ)
onto b [] = (b ∷ []) ∷ []
onto b (w ∷ ws) = (b ∷ w) ∷ ws

-- the words, by what a byte does and the words behind it
abbrev pub does : Effect → Option (List (List ℕ)) → Option (List (List ℕ))
does open_quote words = None
does effect None = None
does nothing (Some words) = Some words
does (more b) (Some words) = Some (onto b words)
does ended (Some words) = Some ([] ∷ words)

-- the words at the end of the line
abbrev pub at_end : Place → Option (List (List ℕ))
at_end between = Some []
at_end plain = Some ([] ∷ [])
at_end double = None
at_end single = None

-- The words of the bytes from this place on, where so many of them belong to what is before. In a word, the
-- first is the rest of it. None where a quote is open.
unfoldable pub split : Place → ℕ → List ℕ → Option (List (List ℕ))
split place taken [] = at_end place
split place zero (b ∷ bs) =
    does (step place b bs).effect (split (step place b bs).place (step place b bs).taken bs)
split place (suc n) (b ∷ bs) = split place n bs

-- the words of a line; the CR before its LF is a blank like others
abbrev pub words_in : List ℕ → Option (List (List ℕ))
words_in line = split between 0 line
