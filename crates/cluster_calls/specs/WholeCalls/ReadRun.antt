-- Reads of streams on two slots, in parts over two nodes, to the end: they are played legally, the nodes are
-- honest, and each is one read on one server, whose rows are the joined ones.
use Rattle.std.specs.Prelude.{ℕ, ◌==◌, List, [], ◌∷◌, length, None, Some, Result, Ok, codes, refl}
use Rattle.std.specs.Fmt.{digits}
use Rattle.std.specs.Str.{is_utf8, chars}
use Rattle.std.proofs.Common.{ap, lit<}
use Rattle.std.proofs.lemmas.Bool.{false≢true}
use lib.Utf8.{encode}
use Rattle.resp_core.specs.Trees.{nil}
use Rattle.resp_core.specs.Errors.{Refusal}
use Rattle.resp_core.specs.Parts.{first_error}
use Rattle.cluster_routing.specs.Combine.{array_of}
use Rattle.cluster_routing.specs.Examples.{first_node as n1, second_node as n2}
use Rattle.cluster_routing.specs.HashSlot.{hash_slot}
use Rattle.stream_commands.specs.ReadReply.{Row}
use Rattle.cluster_calls.specs.Calls.Answer.{Answer, Read}
use Rattle.cluster_calls.specs.OneServer.Headline.{PlayedCall, RepliedCall, with_replies, IsPlayedFrom, AreOnSlots, command_logs, AsOneServer}
use Rattle.cluster_calls.specs.OneServer.Honest.{HonestRun}
use Rattle.cluster_calls.specs.OneServer.Keyspace.{Keyspace, with_cell, ReadOf, Step, History}
use Rattle.cluster_calls.specs.OneServer.Meaning.{Meaning, DoOperation, AreAllowed}
use Rattle.cluster_calls.specs.OneServer.Operations.{ReadKeys, Rows}
use Rattle.cluster_calls.specs.WholeCalls.Base.{on_halves, a_fault, taken, plain}
use Rattle.cluster_calls.specs.WholeCalls.Deeds.{was_done}
use Rattle.cluster_calls.specs.WholeCalls.KeyRuns.{slot_a, slot_b, none_done}
use Rattle.cluster_calls.specs.WholeCalls.Reads.{no_options, stream, read_of_one, row_of, a_row, xread_two, xread_three, read_ax, in_key_order, reads, ax_is_done, three_are_done}
use Rattle.cluster_calls.specs.WholeCalls.RunsAmongOthers.{nothing}
use Rattle.cluster_calls.specs.WholeCalls.TurnsOnSlots.{looks_lead}

-- ---- a and b, of two slots: n2 has nothing new of a, and n1 has a row of b

-- the cell of b's slot stands for its one entry
abbrev pub b_has_one : Keyspace
b_has_one = with_cell nothing slot_b (codes "1-0")

abbrev pub finds_none_of_a : Step
finds_none_of_a = record {
  deed = ReadOf no_options (codes "a") (codes "0");
  slot = slot_a;
  response = Rows (Some []);
  before = [];
  after = [];
}

abbrev pub finds_one_of_b : Step
finds_one_of_b = record {
  deed = ReadOf no_options (codes "b") (codes "0");
  slot = slot_b;
  response = Rows (Some (a_row (codes "b") ∷ []));
  before = codes "1-0";
  after = codes "1-0";
}

abbrev pub two_reads : Meaning
two_reads = finds_none_of_a ∷ finds_one_of_b ∷ []

abbrev pub two_call : List PlayedCall
two_call = record {
  call = xread_two;
  picks = [];
  answer = Ok (Read (a_row (codes "b") ∷ []));
  log = plain n2 (read_of_one (codes "a")) ∷ plain n1 (read_of_one (codes "b")) ∷ [];
} ∷ []

abbrev pub two : List RepliedCall
two = with_replies (taken (array_of (row_of (codes "b") ∷ []) ∷ []) (nil ∷ [])) two_call

pub two_is_played : IsPlayedFrom None on_halves a_fault two
unfolding hash_slot digits first_error is_utf8 chars encode
two_is_played = (refl, (refl, (refl, refl)), refl, tt)

pub two_is_on_slots : AreOnSlots two
two_is_on_slots = (refl, tt)

pub none_of_a_is_read : DoOperation (ReadKeys no_options (stream (codes "a") ∷ [])) (finds_none_of_a ∷ [])
    (Rows (Some []))
unfolding hash_slot
none_of_a_is_read = ((record { deed = refl; slot = refl; response = tt }, tt), refl)

pub one_of_b_is_read : DoOperation (ReadKeys no_options (stream (codes "b") ∷ [])) (finds_one_of_b ∷ [])
    (Rows (Some (a_row (codes "b") ∷ [])))
unfolding hash_slot
one_of_b_is_read = ((record { deed = refl; slot = refl; response = refl }, tt), refl)

pub none_of_a_is_allowed : AreAllowed two_reads (finds_none_of_a ∷ [])
none_of_a_is_allowed = ((0, lit< tt, refl), tt)

pub one_of_b_is_allowed : AreAllowed two_reads (finds_one_of_b ∷ [])
one_of_b_is_allowed = ((1, lit< tt, refl), tt)

abbrev pub two_steps : List Step
two_steps = finds_none_of_a ∷ finds_one_of_b ∷ []

-- a read leaves all as it is
pub two_lead : History b_has_one two_steps b_has_one
two_lead = looks_lead b_has_one two_steps ((refl, refl), ((refl, refl), tt))

pub two_is_honest : HonestRun two_reads b_has_one none_done (command_logs two) b_has_one
unfolding hash_slot digits first_error is_utf8 chars encode
two_is_honest = (
  (finds_none_of_a ∷ []) ∷ (finds_one_of_b ∷ []) ∷ [],
  (
    was_done (Rows (Some [])) refl none_of_a_is_read none_of_a_is_allowed,
    (
      was_done (Rows (Some (a_row (codes "b") ∷ []))) refl one_of_b_is_read one_of_b_is_allowed,
      tt,
    ),
  ),
  two_lead,
)

-- one server is given one read of both streams
pub two_are_read : DoOperation (ReadKeys no_options (stream (codes "a") ∷ stream (codes "b") ∷ []))
    two_steps (Rows (Some (a_row (codes "b") ∷ [])))
unfolding hash_slot
two_are_read = (
  (
    record { deed = refl; slot = refl; response = tt },
    (record { deed = refl; slot = refl; response = refl }, tt),
  ),
  refl,
)

pub two_is_as_on_one_server : AsOneServer two_reads b_has_one none_done two b_has_one
two_is_as_on_one_server = record {
  responses = (Rows (Some (a_row (codes "b") ∷ [])) ∷ []) ∷ [];
  counts = (refl, tt);
  served = (two_steps ∷ [], ((two_are_read, (none_of_a_is_allowed.0, one_of_b_is_allowed)), tt), two_lead);
  answers = ((a_row (codes "b") ∷ [], refl, refl), tt);
}

-- ---- a, b and {a}x, of two slots: n2 has a row of a and one of {a}x, and n1 one of b

abbrev pub reads_a : Step
reads_a = reads (codes "a") slot_a

abbrev pub reads_b : Step
reads_b = reads (codes "b") slot_b

abbrev pub reads_ax : Step
reads_ax = reads (codes "{a}x") slot_a

abbrev pub three_reads : Meaning
three_reads = reads_a ∷ reads_b ∷ reads_ax ∷ []

abbrev pub three_answered : List Row → List RepliedCall
three_answered rows = with_replies
    (taken (array_of (row_of (codes "b") ∷ []) ∷ [])
    (array_of (row_of (codes "a") ∷ row_of (codes "{a}x") ∷ []) ∷ []))
    (record {
      call = xread_three;
      picks = [];
      answer = Ok (Read rows);
      log = plain n2 read_ax ∷ plain n1 (read_of_one (codes "b")) ∷ [];
    } ∷ [])

abbrev pub three_replied : List RepliedCall
three_replied = three_answered in_key_order

pub three_is_played : IsPlayedFrom None on_halves a_fault three_replied
unfolding hash_slot digits first_error is_utf8 chars encode
three_is_played = (refl, (refl, (refl, refl)), refl, tt)

pub three_is_on_slots : AreOnSlots three_replied
three_is_on_slots = (refl, tt)

pub b_is_done : DoOperation (ReadKeys no_options (stream (codes "b") ∷ [])) (reads_b ∷ [])
    (Rows (Some (a_row (codes "b") ∷ [])))
unfolding hash_slot
b_is_done = ((record { deed = refl; slot = refl; response = refl }, tt), refl)

pub ax_is_allowed : AreAllowed three_reads (reads_a ∷ reads_ax ∷ [])
ax_is_allowed = ((0, lit< tt, refl), ((2, lit< tt, refl), tt))

pub b_is_allowed : AreAllowed three_reads (reads_b ∷ [])
b_is_allowed = ((1, lit< tt, refl), tt)

-- on the nodes part by part, and on one server key by key
abbrev pub by_part : List Step
by_part = reads_a ∷ reads_ax ∷ reads_b ∷ []

abbrev pub by_key : List Step
by_key = reads_a ∷ reads_b ∷ reads_ax ∷ []

pub parts_lead : History nothing by_part nothing
parts_lead = looks_lead nothing by_part ((refl, refl), ((refl, refl), ((refl, refl), tt)))

pub keys_lead : History nothing by_key nothing
keys_lead = looks_lead nothing by_key ((refl, refl), ((refl, refl), ((refl, refl), tt)))

pub three_is_honest : HonestRun three_reads nothing none_done (command_logs three_replied) nothing
unfolding hash_slot digits first_error is_utf8 chars encode
three_is_honest = (
  (reads_a ∷ reads_ax ∷ []) ∷ (reads_b ∷ []) ∷ [],
  (
    record {
      response = Rows (Some (a_row (codes "a") ∷ a_row (codes "{a}x") ∷ []));
      reply = refl;
      done = ax_is_done;
      allowed = ax_is_allowed;
    },
    (
      was_done (Rows (Some (a_row (codes "b") ∷ []))) refl b_is_done b_is_allowed,
      tt,
    ),
  ),
  parts_lead,
)

pub three_is_as_on_one_server : AsOneServer three_reads nothing none_done three_replied nothing
three_is_as_on_one_server = record {
  responses = (Rows (Some in_key_order) ∷ []) ∷ [];
  counts = (refl, tt);
  served = (
    by_key ∷ [],
    ((three_are_done, (ax_is_allowed.0, (b_is_allowed.0, ax_is_allowed.1))), tt),
    keys_lead,
  );
  answers = ((in_key_order, refl, refl), tt);
}

-- the same rows in the order of the parts are not its answer
abbrev second_key : Result Answer Refusal → List ℕ
second_key (Ok (Read (r ∷ s ∷ rows))) = s.key
second_key answer = []

pub rows_in_the_order_of_parts_are_not_its_answer : IsPlayedFrom None on_halves a_fault
    (three_answered (a_row (codes "a") ∷ a_row (codes "{a}x") ∷ a_row (codes "b") ∷ [])) → ⊥
unfolding hash_slot digits first_error is_utf8 chars encode
rows_in_the_order_of_parts_are_not_its_answer h = false≢true (ap (λ q. length (second_key q) == 1) h.2)
