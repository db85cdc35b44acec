-- What is left of a line, where a part of it was read.
use Rattle.std.specs.Prelude.{ℕ, List, [], ◌∷◌, ◌++◌, Option, Some, None}

-- these bytes in front of the first word
abbrev pub put_before : List ℕ → Option (List (List ℕ)) → Option (List (List ℕ))
put_before [] words = words
put_before (b ∷ bs) None = None
put_before (b ∷ bs) (Some []) = Some ((b ∷ bs) ∷ [])
put_before (b ∷ bs) (Some (w ∷ ws)) = Some (((b ∷ bs) ++ w) ∷ ws)

-- this word in front
abbrev pub worded : List ℕ → Option (List (List ℕ)) → Option (List (List ℕ))
worded w None = None
worded w (Some words) = Some (w ∷ words)

-- these words in front
abbrev pub after_words : List (List ℕ) → Option (List (List ℕ)) → Option (List (List ℕ))
after_words front None = None
after_words front (Some words) = Some (front ++ words)
