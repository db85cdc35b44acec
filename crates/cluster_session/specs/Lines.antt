-- What a line of a session says.
-- Source: the session language is this repository's own (docs/SESSIONS.md).
use Rattle.std.specs.Prelude.{ℕ, ◌^◌, ◌==◌, ◌&&◌, Bool, true, false, nat_lt, nat_eq, if◌then◌else◌, List, [], ◌∷◌, drop, map, Option, Some, None, option_map, option_and_then, codes, bytes_eq}
use Rattle.std.specs.Result.{result_ok}
use Rattle.std.specs.List.{starts_with}
use Rattle.resp_core.specs.Numbers.{number_below}
use Rattle.resp_args.specs.Command.{Command, new_command}
use Rattle.resp_args.specs.declared.cmd.Arg.TheVariants.{Simple}
use Rattle.cluster_routing.specs.Address.{Address, address_read}
use Rattle.cluster_calls.specs.Calls.Call.{Call, Refresh, Query, Ordered, FanOut, At, OnStreams, Stream, Xread, Xrange, Entry}
use Rattle.hex.specs.Hex.{decode_of}

-- what fails of a node
pub data Access : Type 0 where
  reading : Access
  writing : Access

pub data Meaning : Type 0 where
  node : (at : Address) → (piece : ℕ) → (bytes : List ℕ) → Meaning
  fault : (at : Address) → (access : Access) → (number : ℕ) → Meaning
  read_only : (name : List ℕ) → Meaning
  budget : ℕ → Meaning
  levels : ℕ → Meaning
  call : Call → Meaning
  pipe : Meaning
  each : Meaning
  multi : Meaning
  command : Entry → Meaning
  run : Meaning

-- ---- words

abbrev pub Words : Type 0
Words = List (List ℕ)

-- what each word says, where all of them say something
abbrev pub each_read : {A : Type 0} → (List ℕ → Option A) → Words → Option (List A)
each_read read [] = Some []
each_read read (w ∷ ws) = option_and_then (λ a. option_map (λ as'. a ∷ as') (each_read read ws)) (read w)

-- the pieces between the bytes c
abbrev pub before_piece : ℕ → Words → Words
before_piece b [] = (b ∷ []) ∷ []
before_piece b (p ∷ ps) = (b ∷ p) ∷ ps

abbrev pub pieces : ℕ → List ℕ → Words
pieces c [] = [] ∷ []
pieces c (b ∷ bs) = if b == c then [] ∷ pieces c bs else before_piece b (pieces c bs)

abbrev pub between_commas : {A : Type 0} → (List ℕ → Option A) → List ℕ → Option (List A)
between_commas read word = each_read read (pieces 44 word)

-- a number, as Rust reads a u64; one from 1; one of those that fit
abbrev pub number_word : List ℕ → Option ℕ
number_word word = number_below (2 ^ 64) word

abbrev pub some_where : Bool → ℕ → Option ℕ
some_where holds n = if holds then Some n else None

abbrev pub from_one : ℕ → Option ℕ
from_one n = some_where (nat_lt 0 n) n

abbrev pub piece_size : ℕ → Option ℕ
piece_size n = some_where (nat_lt 0 n && nat_lt n (2 ^ 32)) n

abbrev pub budget_size : ℕ → Option ℕ
budget_size n = some_where (nat_lt n (2 ^ 16)) n

abbrev pub levels_size : ℕ → Option ℕ
levels_size n = some_where (nat_lt 0 n && nat_lt n 513) n

-- pairs of hexadecimal digits in any case, or a dash for no bytes
abbrev pub bytes_word : List ℕ → Option (List ℕ)
bytes_word word = if bytes_eq word [] then None else if bytes_eq word (codes "-") then Some []
    else result_ok (decode_of word)

abbrev pub access_word : List ℕ → Option Access
access_word word =
    if bytes_eq word (codes "read") then Some reading else
    if bytes_eq word (codes "write") then Some writing else None

-- a command of these arguments, one at least
abbrev pub command_of : Words → Command
command_of args = record new_command { args = map Simple args }

abbrev pub command_words : Words → Option Command
command_words [] = None
command_words (w ∷ ws) = option_map command_of (each_read bytes_word (w ∷ ws))

-- as many ids as keys
abbrev pub streams_of : Words → Words → Option (List Stream)
streams_of [] [] = Some []
streams_of (key ∷ keys) (id ∷ ids) = option_map (λ streams. record { key = key; id = id } ∷ streams)
    (streams_of keys ids)
streams_of _ _ = None

-- ---- the forms, by their first word

abbrev pub node_line : Words → Option Meaning
node_line (at ∷ piece ∷ bytes ∷ []) =
    option_and_then (λ a. option_and_then (λ n. option_map (node a n) (bytes_word bytes))
    (option_and_then piece_size (number_word piece))) (address_read at)
node_line _ = None

abbrev pub fault_line : Words → Option Meaning
fault_line (at ∷ access ∷ number ∷ []) =
    option_and_then (λ a. option_and_then
    (λ k. option_map (fault a k) (option_and_then from_one (number_word number))) (access_word access))
    (address_read at)
fault_line _ = None

abbrev pub budget_line : Words → Option Meaning
budget_line (number ∷ []) = option_map budget (option_and_then budget_size (number_word number))
budget_line _ = None

abbrev pub levels_line : Words → Option Meaning
levels_line (number ∷ []) = option_map levels (option_and_then levels_size (number_word number))
levels_line _ = None

abbrev pub refresh_line : Words → Option Meaning
refresh_line (at ∷ []) = option_map (λ a. call (Refresh a)) (address_read at)
refresh_line _ = None

abbrev pub query_line : Words → Option Meaning
query_line (number ∷ args) = option_and_then (λ c. option_map (λ n. call (Query c n)) (number_word number))
    (command_words args)
query_line _ = None

abbrev pub order_line : Words → Option Meaning
order_line (order ∷ args) =
    option_and_then (λ c. option_map (λ parts. call (Ordered c parts 0)) (between_commas number_word order))
    (command_words args)
order_line _ = None

abbrev pub fan_line : Words → Option Meaning
fan_line args = option_map (λ c. call (FanOut c)) (command_words args)

abbrev pub at_line : Words → Option Meaning
at_line (at ∷ args) = option_and_then (λ c. option_map (λ a. call (At a c)) (address_read at))
    (command_words args)
at_line _ = None

abbrev pub command_line : Bool → Words → Option Meaning
command_line ignored args = option_map (λ c. command (record { command = c; ignored = ignored }))
    (command_words args)

abbrev pub xrange_line : Words → Option Meaning
xrange_line (key ∷ start ∷ end ∷ []) =
    option_and_then (λ k. option_and_then
    (λ s. option_map (λ e. call (OnStreams (Xrange k s e))) (bytes_word end)) (bytes_word start))
    (bytes_word key)
xrange_line _ = None

abbrev pub streams_word : List ℕ → List ℕ → Option (List Stream)
streams_word keys ids =
    option_and_then (λ ks. option_and_then (streams_of ks) (between_commas bytes_word ids))
    (between_commas bytes_word keys)

abbrev pub xread_line : Words → Option Meaning
xread_line (keys ∷ ids ∷ []) =
    option_map (λ streams. call
    (OnStreams (Xread streams
    (record { group = None; block = None; count = None; noack = false; claim = None }))))
    (streams_word keys ids)
xread_line _ = None

-- a word that stands alone
abbrev pub alone : Meaning → Words → Option Meaning
alone meaning [] = Some meaning
alone meaning _ = None

unfoldable pub said_by : List ℕ → Words → Option Meaning
said_by word args =
    if bytes_eq word (codes "node") then node_line args else
    if bytes_eq word (codes "fault") then fault_line args else
    if bytes_eq word (codes "budget") then budget_line args else
    if bytes_eq word (codes "levels") then levels_line args else
    if bytes_eq word (codes "refresh") then refresh_line args else
    if bytes_eq word (codes "query") then query_line args else
    if bytes_eq word (codes "order") then order_line args else
    if bytes_eq word (codes "fan") then fan_line args else
    if bytes_eq word (codes "at") then at_line args else
    if bytes_eq word (codes "pipe") then alone pipe args else
    if bytes_eq word (codes "each") then alone each args else
    if bytes_eq word (codes "multi") then alone multi args else
    if bytes_eq word (codes "cmd") then command_line false args else
    if bytes_eq word (codes "skip") then command_line true args else
    if bytes_eq word (codes "run") then alone run args else
    if bytes_eq word (codes "xrange") then xrange_line args else
    if bytes_eq word (codes "xread") then xread_line args else None

abbrev pub said_by_words : Words → Option Meaning
said_by_words [] = None
said_by_words (word ∷ args) = said_by word args

-- the name behind `readonly`, which is the rest of its line
abbrev pub name_line : List ℕ → Option Meaning
name_line [] = None
name_line (b ∷ bs) = Some (read_only (b ∷ bs))

abbrev pub said_by_text : List ℕ → Option Meaning
said_by_text text =
    if starts_with nat_eq text (codes "readonly ") then name_line (drop 9 text)
    else said_by_words (pieces 32 text)

-- an empty line, and a comment
abbrev pub is_skipped : List ℕ → Bool
is_skipped [] = true
is_skipped (b ∷ bs) = b == 35
