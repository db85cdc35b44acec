-- The words of a redirect: the number of a slot, and the address of a node. Source: the Redis Cluster
-- specification, "MOVED redirection" and "ASK redirection"; documentation of the crate `redis`,
-- `RedisError::redirect_node`.
use Rattle.std.specs.Prelude.{ℕ, ◌^◌, if◌then◌else◌, not, ◌==◌, List, length, drop, take_while, Option, Some, None, option_map, option_and_then}
use Rattle.std.specs.Char.{is_ascii_whitespace}
use Rattle.std.specs.Str.{is_utf8}
use Rattle.resp_core.specs.Numbers.{number_below}
use Rattle.resp_core.specs.Errors.{Refusal, kind_of, detail_of}
use Rattle.resp_core.specs.declared.errors.redis_error.ErrorKind.{ErrorKind}
use Rattle.resp_core.specs.declared.errors.redis_error.ErrorKind.TheVariants as kinds
use Rattle.resp_core.specs.declared.errors.server_error.ServerErrorKind.{ServerErrorKind}
use Rattle.resp_core.specs.declared.errors.server_error.ServerErrorKind.TheVariants.{Moved, Ask}

-- the text of a node's address, and the number of a slot, which need not be one of the slots there are
pub record RedirectWords : Type 0 where
  pub address : List ℕ
  pub slot : ℕ

-- a text behind its white space, and the word at its front
abbrev pub behind_space : List ℕ → List ℕ
behind_space text = drop (length (take_while is_ascii_whitespace text)) text

abbrev pub front_word : List ℕ → List ℕ
front_word text = take_while (λ c. not (is_ascii_whitespace c)) text

abbrev pub behind_word : List ℕ → List ℕ
behind_word text = drop (length (front_word text)) text

-- a word that is a text
abbrev pub text_word : List ℕ → Option (List ℕ)
text_word word = if length word == 0 then None else if is_utf8 word then Some word else None

-- a word that is a number below 65536
abbrev pub number_word : List ℕ → Option ℕ
number_word word = option_and_then (number_below (2 ^ 16)) (text_word word)

-- the first word is the number and the second the address; later words say nothing
abbrev pub redirect_words : List ℕ → Option RedirectWords
redirect_words detail =
    let number = behind_space detail in
    let address = behind_space (behind_word number) in
    option_and_then (λ n. option_map (λ text. record { address = text; slot = n })
    (text_word (front_word address))) (number_word (front_word number))

-- ---- of a refusal

abbrev pub words_by_kind : ErrorKind → Option (List ℕ) → Option RedirectWords
words_by_kind (kinds.Server Moved) detail = option_and_then redirect_words detail
words_by_kind (kinds.Server Ask) detail = option_and_then redirect_words detail
words_by_kind _ detail = None

-- the words of a MOVED or ASK error that refuses a call
abbrev pub redirect_of : Refusal → Option RedirectWords
redirect_of refusal = words_by_kind (kind_of refusal) (detail_of refusal)
