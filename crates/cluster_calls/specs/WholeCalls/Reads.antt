-- Reads over several slots, computed: what is sent, the record, what is kept, what the nodes did; and a rule
-- for the record that is wrong.
use Rattle.std.specs.Prelude.{◌≡◌, ℕ, false, List, [], ◌∷◌, Option, None, Some, option_map, Ok, codes, refl}
use Rattle.std.specs.Fmt.{digits}
use Rattle.std.specs.Str.{is_utf8, chars}
use lib.Utf8.{encode}
use Rattle.resp_core.specs.Trees.{Tree, nil}
use Rattle.resp_core.specs.Errors.{by_server, server_kind}
use Rattle.resp_core.specs.Parts.{first_error}
use Rattle.cluster_routing.specs.Combine.{array_of}
use Rattle.cluster_routing.specs.Examples.{first_node as n1, second_node as n2}
use Rattle.cluster_routing.specs.HashSlot.{hash_slot}
use Rattle.stream_commands.specs.Entries.{Entry}
use Rattle.stream_commands.specs.Join.{all_rows}
use Rattle.stream_commands.specs.ReadReply.{Row}
use Rattle.stream_commands.specs.Settings.{ReadSettings}
use Rattle.cluster_routing.specs.Policies.{bad_reply}
use Rattle.cluster_calls.specs.Calls.After.{links_after}
use Rattle.cluster_calls.specs.Calls.Answer.{Read, kind}
use Rattle.cluster_calls.specs.Calls.Call.{Stream, Xread, Call, OnStreams}
use Rattle.cluster_calls.specs.Calls.Legal.{IsLegalCall}
use Rattle.cluster_calls.specs.Calls.Plan.{Dispatch, plan}
use Rattle.cluster_calls.specs.Calls.Reads.{readings}
use Rattle.cluster_calls.specs.Calls.Task.{task_of}
use Rattle.cluster_calls.specs.Links.Log.{Exchange}
use Rattle.cluster_calls.specs.Links.Request.{bytes_of}
use Rattle.cluster_calls.specs.OneServer.Commands.{operations, kept}
use Rattle.cluster_calls.specs.OneServer.Keyspace.{Step, ReadOf}
use Rattle.cluster_calls.specs.OneServer.Meaning.{DoOperation}
use Rattle.cluster_calls.specs.OneServer.Operations.{ReadKeys, Rows, task_operation, response_by}
use Rattle.cluster_calls.specs.WholeCalls.Base.{both, on_halves, a_fault, plain, goes_to, log_over, answer_on, text, error, error_text}

abbrev pub no_options : ReadSettings
no_options = record { group = None; block = None; count = None; noack = false; claim = None }

abbrev pub stream : List ℕ → Stream
stream key = record { key = key; id = codes "0" }

abbrev pub xread : List Stream → Call
xread streams = OnStreams (Xread streams no_options)

abbrev pub read_of_one : List ℕ → List (List ℕ)
read_of_one key = codes "XREAD" ∷ codes "STREAMS" ∷ key ∷ codes "0" ∷ []

abbrev pub row_of : List ℕ → Tree
row_of key = array_of
    (text key ∷ array_of
    (array_of (text (codes "1-0") ∷ array_of (text (codes "f") ∷ text (codes "v") ∷ []) ∷ []) ∷ []) ∷ [])

abbrev pub entry : Entry
entry = record {
  id = codes "1-0";
  fields = (codes "f", text (codes "v")) ∷ [];
  milliseconds = None;
  deliveries = None;
}

abbrev pub a_row : List ℕ → Row
a_row key = record { key = key; entries = entry ∷ [] }

-- a row without entries
abbrev pub bare_row_of : List ℕ → Tree
bare_row_of key = array_of (text key ∷ array_of [] ∷ [])

abbrev pub a_bare_row : List ℕ → Row
a_bare_row key = record { key = key; entries = [] }

-- ---- a and b, of two slots: each is a part

abbrev pub xread_two : Call
xread_two = xread (stream (codes "a") ∷ stream (codes "b") ∷ [])

pub two_are_two_parts : plan on_halves [] xread_two
    ≡ Ok (goes_to n2 (read_of_one (codes "a")) ∷ goes_to n1 (read_of_one (codes "b")) ∷ [])
unfolding hash_slot digits
two_are_two_parts = refl

pub a_is_sent_so : bytes_of (plain n2 (read_of_one (codes "a")) ∷ [])
    ≡ codes "*4\r\n$5\r\nXREAD\r\n$7\r\nSTREAMS\r\n$1\r\na\r\n$1\r\n0\r\n"
unfolding digits
a_is_sent_so = refl

pub b_is_sent_so : bytes_of (plain n1 (read_of_one (codes "b")) ∷ [])
    ≡ codes "*4\r\n$5\r\nXREAD\r\n$7\r\nSTREAMS\r\n$1\r\nb\r\n$1\r\n0\r\n"
unfolding digits
b_is_sent_so = refl

-- n1 replies of b, n2 of a
abbrev pub two_log : Tree → Tree → List Exchange
two_log first second = log_over (first ∷ []) (second ∷ [])
    (plain n2 (read_of_one (codes "a")) ∷ plain n1 (read_of_one (codes "b")) ∷ [])

-- where a has nothing new
abbrev pub new_of_b : List Exchange
new_of_b = two_log (array_of (row_of (codes "b") ∷ [])) nil

pub two_are_sent : IsLegalCall on_halves [] xread_two new_of_b
unfolding hash_slot digits first_error is_utf8 chars encode
two_are_sent = (refl, (refl, refl))

pub two_answer_one_row : answer_on on_halves xread_two new_of_b ≡ Ok (Read (a_row (codes "b") ∷ []))
unfolding hash_slot digits first_error is_utf8 chars encode
two_answer_one_row = refl

-- a row of a key that was not asked for: refused, and the links stay open
abbrev pub row_of_c : List Exchange
row_of_c = two_log (array_of (bare_row_of (codes "c") ∷ [])) nil

pub another_key_refuses : kind on_halves [] a_fault xread_two row_of_c ≡ Some bad_reply
unfolding hash_slot digits first_error is_utf8 chars encode
another_key_refuses = refl

pub links_stay_open : links_after both row_of_c ≡ both
links_stay_open = refl

-- an error for b: what was read of a counts
abbrev pub error_for_b : List Exchange
error_for_b = two_log (error (codes "ERR") (codes "x")) nil

pub an_error_refuses : kind on_halves [] a_fault xread_two error_for_b
    ≡ Some (by_server (error_text (codes "ERR") (codes "x")))
unfolding hash_slot digits first_error is_utf8 chars encode server_kind
an_error_refuses = refl

pub the_read_of_a_counts : kept (λ place. false) xread_two error_for_b
    ≡ ReadKeys no_options (stream (codes "a") ∷ []) ∷ []
unfolding hash_slot digits first_error is_utf8 chars encode server_kind
the_read_of_a_counts = refl

-- ---- a, b and {a}x, of two slots: a and {a}x are one part

abbrev pub three : List Stream
three = stream (codes "a") ∷ stream (codes "b") ∷ stream (codes "{a}x") ∷ []

abbrev pub xread_three : Call
xread_three = xread three

abbrev pub read_ax : List (List ℕ)
read_ax = codes "XREAD" ∷ codes "STREAMS" ∷ codes "a" ∷ codes "{a}x" ∷ codes "0" ∷ codes "0" ∷ []

abbrev pub two_parts : List Dispatch
two_parts = goes_to n2 read_ax ∷ goes_to n1 (read_of_one (codes "b")) ∷ []

pub three_are_two_parts : plan on_halves [] xread_three ≡ Ok two_parts
unfolding hash_slot digits
three_are_two_parts = refl

pub ax_is_sent_so : bytes_of (plain n2 read_ax ∷ [])
    ≡ codes "*6\r\n$5\r\nXREAD\r\n$7\r\nSTREAMS\r\n$1\r\na\r\n$4\r\n{a}x\r\n$1\r\n0\r\n$1\r\n0\r\n"
unfolding digits
ax_is_sent_so = refl

-- n1 replies of b, n2 of a and {a}x
abbrev pub three_log : Tree → Tree → List Exchange
three_log first second = log_over (first ∷ []) (second ∷ [])
    (plain n2 read_ax ∷ plain n1 (read_of_one (codes "b")) ∷ [])

abbrev pub three_rows : List Exchange
three_rows = three_log (array_of (row_of (codes "b") ∷ []))
    (array_of (row_of (codes "a") ∷ row_of (codes "{a}x") ∷ []))

pub three_are_sent : IsLegalCall on_halves [] xread_three three_rows
unfolding hash_slot digits first_error is_utf8 chars encode
three_are_sent = (refl, (refl, refl))

-- rows in the order of the keys, and not of the replies
abbrev pub in_key_order : List Row
in_key_order = a_row (codes "a") ∷ a_row (codes "b") ∷ a_row (codes "{a}x") ∷ []

pub rows_stand_by_key : answer_on on_halves xread_three three_rows ≡ Ok (Read in_key_order)
unfolding hash_slot digits first_error is_utf8 chars encode
rows_stand_by_key = refl

pub bare_rows_stand_by_key : answer_on on_halves xread_three
    (three_log (array_of (bare_row_of (codes "b") ∷ []))
    (array_of (bare_row_of (codes "a") ∷ bare_row_of (codes "{a}x") ∷ [])))
    ≡ Ok (Read (a_bare_row (codes "a") ∷ a_bare_row (codes "b") ∷ a_bare_row (codes "{a}x") ∷ []))
unfolding hash_slot digits first_error is_utf8 chars encode
bare_rows_stand_by_key = refl

abbrev pub wrong_rows : List Exchange → Option (List Row)
wrong_rows xs = option_map all_rows (readings xs)

pub rows_would_stand_by_part_by_a_wrong_rule : wrong_rows three_rows
    ≡ Some (a_row (codes "a") ∷ a_row (codes "{a}x") ∷ a_row (codes "b") ∷ [])
unfolding hash_slot digits first_error is_utf8 chars encode
rows_would_stand_by_part_by_a_wrong_rule = refl

-- a stream without entries has no row, and where no stream has any the reply is nil
pub no_rows_of_b : answer_on on_halves xread_three (three_log nil (array_of (row_of (codes "{a}x") ∷ [])))
    ≡ Ok (Read (a_row (codes "{a}x") ∷ []))
unfolding hash_slot digits first_error is_utf8 chars encode
no_rows_of_b = refl

-- ---- no record

pub another_parts_key_refuses : kind on_halves [] a_fault xread_three
    (three_log (array_of (row_of (codes "a") ∷ [])) nil) ≡ Some bad_reply
unfolding hash_slot digits first_error is_utf8 chars encode
another_parts_key_refuses = refl

pub it_would_be_a_row_by_a_wrong_rule : wrong_rows (three_log (array_of (row_of (codes "a") ∷ [])) nil)
    ≡ Some (a_row (codes "a") ∷ [])
unfolding hash_slot digits first_error is_utf8 chars encode
it_would_be_a_row_by_a_wrong_rule = refl

pub a_row_twice_refuses : kind on_halves [] a_fault xread_three
    (three_log (array_of (row_of (codes "b") ∷ row_of (codes "b") ∷ [])) nil) ≡ Some bad_reply
unfolding hash_slot digits first_error is_utf8 chars encode
a_row_twice_refuses = refl

-- ---- a and {a}x, of one slot: one request, and the record as it was read

abbrev pub xread_ax : Call
xread_ax = xread (stream (codes "a") ∷ stream (codes "{a}x") ∷ [])

pub ax_is_one_request : plan on_halves [] xread_ax ≡ Ok (goes_to n2 read_ax ∷ [])
unfolding hash_slot digits
ax_is_one_request = refl

pub ax_is_as_it_was_read : answer_on on_halves xread_ax
    (log_over [] (array_of (row_of (codes "{a}x") ∷ row_of (codes "a") ∷ []) ∷ []) (plain n2 read_ax ∷ []))
    ≡ Ok (Read (a_row (codes "{a}x") ∷ a_row (codes "a") ∷ []))
unfolding hash_slot digits first_error is_utf8 chars encode
ax_is_as_it_was_read = refl

-- ---- on one server

pub three_are_one_read : operations xread_three ≡ ReadKeys no_options three ∷ []
three_are_one_read = refl

-- of a read whose second part is refused the first counts
pub the_first_part_counts : kept (λ place. false) xread_three
    (three_log (error (codes "ERR") (codes "x")) nil)
    ≡ ReadKeys no_options (stream (codes "a") ∷ stream (codes "{a}x") ∷ []) ∷ []
unfolding hash_slot digits first_error is_utf8 chars encode server_kind
the_first_part_counts = refl

abbrev pub reads : List ℕ → ℕ → Step
reads key slot = record {
  deed = ReadOf no_options key (codes "0");
  slot = slot;
  response = Rows (Some (a_row key ∷ []));
  before = [];
  after = [];
}

-- a part is a step for each of its streams, and its reply spells their rows
pub ax_is_done : DoOperation (task_operation (task_of xread_three) read_ax)
    (reads (codes "a") 15495 ∷ reads (codes "{a}x") 15495 ∷ [])
    (Rows (Some (a_row (codes "a") ∷ a_row (codes "{a}x") ∷ [])))
unfolding hash_slot digits
ax_is_done = (
  (
    record { deed = refl; slot = refl; response = refl },
    (record { deed = refl; slot = refl; response = refl }, tt),
  ),
  refl,
)

pub ax_replies_so : response_by (task_operation (task_of xread_three) read_ax)
    (array_of (row_of (codes "a") ∷ row_of (codes "{a}x") ∷ []))
    ≡ Rows (Some (a_row (codes "a") ∷ a_row (codes "{a}x") ∷ []))
unfolding hash_slot digits first_error is_utf8 chars encode
ax_replies_so = refl

-- all three in the call's order are those steps and the one of b, which stands between them
pub three_are_done : DoOperation (ReadKeys no_options three)
    (reads (codes "a") 15495 ∷ reads (codes "b") 3300 ∷ reads (codes "{a}x") 15495 ∷ [])
    (Rows (Some in_key_order))
unfolding hash_slot digits
three_are_done = (
  (
    record { deed = refl; slot = refl; response = refl },
    (
      record { deed = refl; slot = refl; response = refl },
      (record { deed = refl; slot = refl; response = refl }, tt),
    ),
  ),
  refl,
)
