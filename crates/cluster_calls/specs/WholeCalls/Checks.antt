-- Calls that are refused before the first byte, and calls on streams, computed.
use Rattle.std.specs.Prelude.{◌≡◌, ℕ, true, false, List, [], ◌∷◌, Some, None, Ok, Err, codes, pos, refl, Result}
use Rattle.std.specs.Fmt.{digits}
use Rattle.resp_core.specs.Trees.{Tree, int, okay}
use Rattle.resp_core.specs.Errors.{by_cause, at_position, position_of, Refusal}
use Rattle.resp_core.specs.Parts.{first_error}
use Rattle.resp_core.specs.declared.errors.redis_error.Cause.TheVariants.{NoResponse, NoRoute, CursorInSplit, BrokenTuples, BadOrder, NoNode, NoKeys, SeveralSlots, BadGroupName, ClaimsIdsAlone}
use Rattle.resp_args.specs.declared.cmd.Arg.TheVariants.{Simple, Cursor}
use Rattle.resp_args.specs.Command.{Command}
use Rattle.cluster_routing.specs.HashSlot.{hash_slot}
use Rattle.cluster_routing.specs.Table.{rule_of, table}
use Rattle.cluster_routing.specs.Routing.{destination}
use Rattle.cluster_routing.specs.Examples.{second_node as n2}
use Rattle.stream_commands.specs.Settings.{ReadSettings, ClaimSettings, max_entries}
use Rattle.stream_commands.specs.declared.trim.StreamTrimmingMode.TheVariants.{Exact}
use Rattle.cluster_calls.specs.Links.Request.{bytes_of}
use Rattle.cluster_routing.specs.Split.{splitting_of}
use Rattle.cluster_routing.specs.Policies.{bad_reply}
use Rattle.cluster_calls.specs.Links.Log.{Exchange}
use Rattle.cluster_calls.specs.Calls.Call.{Stream, Xread, Xclaim, Xtrim, Call, Query, Ordered, Pipeline, OnStreams}
use Rattle.stream_commands.specs.Commands.{plain_command}
use Rattle.cluster_calls.specs.Calls.Plan.{plan, Dispatch}
use Rattle.cluster_calls.specs.Calls.Legal.{IsLegalCall}
use Rattle.cluster_calls.specs.Calls.Answer.{Trimmed, kind}
use Rattle.cluster_calls.specs.WholeCalls.Base.{both, client, on_halves, a_fault, query, plain, goes_to, log_over, answer_on}
use Rattle.cluster_calls.specs.WholeCalls.Pipelines.{entry}

-- what is sent first, over slots by halves
abbrev pub planned : Call → Result (List Dispatch) Refusal
planned call = plan on_halves [] call

-- ---- commands

abbrev pub with_gap : Command
with_gap = record {
  args = Simple (codes "MGET") ∷ Simple (codes "a") ∷ Simple (codes "b") ∷ Cursor ∷ [];
  cursor = Some 0;
  no_response = false;
}

pub a_split_word_takes_no_cursor : planned (Query with_gap 0) ≡ Err (by_cause CursorInSplit)
unfolding destination rule_of table hash_slot splitting_of digits
a_split_word_takes_no_cursor = refl

pub a_broken_tuple_is_refused : planned (query (codes "MSET" ∷ codes "a" ∷ [])) ≡ Err (by_cause BrokenTuples)
unfolding destination rule_of table hash_slot splitting_of digits
a_broken_tuple_is_refused = refl

pub a_shared_argument_is_no_tuple : planned (query (codes "JSON.MGET" ∷ codes "x" ∷ []))
    ≡ Err (by_cause BrokenTuples)
unfolding destination rule_of table hash_slot splitting_of digits
a_shared_argument_is_no_tuple = refl

pub an_order_has_each_number_once : planned
    (Ordered (plain_command (codes "DEL" ∷ codes "a" ∷ codes "b" ∷ [])) (0 ∷ 0 ∷ []) 0)
    ≡ Err (by_cause BadOrder)
unfolding destination rule_of table hash_slot splitting_of digits
an_order_has_each_number_once = refl

pub a_whole_command_is_part_0 : planned (Ordered (plain_command (codes "GET" ∷ codes "a" ∷ [])) (0 ∷ []) 0)
    ≡ Ok (goes_to n2 (codes "GET" ∷ codes "a" ∷ []) ∷ [])
unfolding destination rule_of table hash_slot splitting_of digits
a_whole_command_is_part_0 = refl

pub a_cursor_names_no_node : planned (query (codes "SCAN" ∷ codes "0" ∷ [])) ≡ Err (by_cause NoRoute)
unfolding destination rule_of table hash_slot splitting_of digits
a_cursor_names_no_node = refl

pub a_slot_may_have_no_node : plan (client 1 [] both) [] (query (codes "GET" ∷ codes "a" ∷ []))
    ≡ Err (by_cause NoNode)
unfolding destination rule_of table hash_slot splitting_of digits
a_slot_may_have_no_node = refl

abbrev pub unanswered : Command
unanswered = record { args = Simple (codes "SCAN") ∷ []; cursor = None; no_response = true }

pub want_of_a_response_comes_first : planned (Query unanswered 0) ≡ Err (by_cause NoResponse)
want_of_a_response_comes_first = refl

-- ---- pipelines

pub a_pipeline_takes_keys_alone : planned
    (Pipeline (entry (codes "GET" ∷ codes "a" ∷ []) ∷ entry (codes "TIME" ∷ []) ∷ [])) ≡ Err (at_position 1)
unfolding destination rule_of table hash_slot splitting_of digits
a_pipeline_takes_keys_alone = refl

pub its_position_is_shown : position_of (at_position 1) ≡ Some 1
its_position_is_shown = refl

pub a_pipeline_takes_no_several_slots : planned
    (Pipeline (entry (codes "DEL" ∷ codes "a" ∷ codes "b" ∷ []) ∷ [])) ≡ Err (at_position 0)
unfolding destination rule_of table hash_slot splitting_of digits
a_pipeline_takes_no_several_slots = refl

pub a_pipeline_takes_several_keys_of_a_slot : planned
    (Pipeline (entry (codes "DEL" ∷ codes "a" ∷ codes "{a}x" ∷ []) ∷ []))
    ≡ Ok (goes_to n2 (codes "DEL" ∷ codes "a" ∷ codes "{a}x" ∷ []) ∷ [])
unfolding destination rule_of table hash_slot splitting_of digits
a_pipeline_takes_several_keys_of_a_slot = refl

-- a read of several slots is refused, its name and word in any case of letters
abbrev pub piped_read : List (List ℕ) → Call
piped_read args = Pipeline (entry (codes "GET" ∷ codes "a" ∷ []) ∷ entry args ∷ [])

pub a_pipeline_reads_one_slot : planned
    (piped_read (codes "xread" ∷ codes "COUNT" ∷ codes "5" ∷ codes "streams" ∷ codes "a" ∷ codes "b"
    ∷ codes "0" ∷ codes "0" ∷ [])) ≡ Err (at_position 1)
unfolding destination rule_of table hash_slot splitting_of digits
a_pipeline_reads_one_slot = refl

-- the first of two such words is the one, the second a key
pub a_pipelines_first_word_is_meant : planned
    (piped_read (codes "XREAD" ∷ codes "STREAMS" ∷ codes "b" ∷ codes "STREAMS" ∷ codes "0" ∷ codes "0" ∷ []))
    ≡ Err (at_position 1)
unfolding destination rule_of table hash_slot splitting_of digits
a_pipelines_first_word_is_meant = refl

abbrev pub ax_read : List (List ℕ)
ax_read = codes "XREAD" ∷ codes "STREAMS" ∷ codes "a" ∷ codes "{a}x" ∷ codes "0" ∷ codes "0" ∷ []

pub a_pipeline_reads_several_keys_of_a_slot : planned (Pipeline (entry ax_read ∷ []))
    ≡ Ok (goes_to n2 ax_read ∷ [])
unfolding destination rule_of table hash_slot splitting_of digits
a_pipeline_reads_several_keys_of_a_slot = refl

-- without a key it has no route
pub a_pipelines_read_wants_a_key : planned
    (piped_read (codes "XREAD" ∷ codes "STREAMS" ∷ [])) ≡ Err (at_position 1)
unfolding destination rule_of table hash_slot splitting_of digits
a_pipelines_read_wants_a_key = refl

-- what is no such read goes to the slot of its first key: with an odd number behind the word, with a gap
-- there, in a group, or by itself
abbrev pub odd_read : List (List ℕ)
odd_read = codes "XREAD" ∷ codes "STREAMS" ∷ codes "a" ∷ codes "b" ∷ codes "0" ∷ codes "0" ∷ codes "0" ∷ []

pub an_odd_read_goes : planned (Pipeline (entry odd_read ∷ [])) ≡ Ok (goes_to n2 odd_read ∷ [])
unfolding destination rule_of table hash_slot splitting_of digits
an_odd_read_goes = refl

abbrev pub ab_read : List (List ℕ)
ab_read = codes "XREAD" ∷ codes "STREAMS" ∷ codes "a" ∷ codes "b" ∷ codes "0" ∷ codes "0" ∷ []

abbrev pub read_with_gap : Command
read_with_gap = record {
  args = Simple (codes "XREAD") ∷ Simple (codes "STREAMS") ∷ Simple (codes "a") ∷ Simple (codes "b")
      ∷ Simple (codes "0") ∷ Cursor ∷ [];
  cursor = Some 0;
  no_response = false;
}

pub a_read_with_a_gap_goes : planned (Pipeline (record { command = read_with_gap; ignored = false } ∷ []))
    ≡ Ok (goes_to n2 ab_read ∷ [])
unfolding destination rule_of table hash_slot splitting_of digits
a_read_with_a_gap_goes = refl

abbrev pub group_read : List (List ℕ)
group_read = codes "XREADGROUP" ∷ codes "GROUP" ∷ codes "g" ∷ codes "c" ∷ codes "STREAMS" ∷ codes "a"
    ∷ codes "b" ∷ codes ">" ∷ codes ">" ∷ []

pub a_groups_read_goes : planned (Pipeline (entry group_read ∷ [])) ≡ Ok (goes_to n2 group_read ∷ [])
unfolding destination rule_of table hash_slot splitting_of digits
a_groups_read_goes = refl

pub a_querys_read_goes : planned (query ab_read) ≡ Ok (goes_to n2 ab_read ∷ [])
unfolding destination rule_of table hash_slot splitting_of digits
a_querys_read_goes = refl

-- ---- calls on streams

abbrev pub no_options : ReadSettings
no_options = record { group = None; block = None; count = None; noack = false; claim = None }

abbrev pub in_group : List ℕ → ReadSettings
in_group name = record no_options { group = Some (record { group = name ∷ []; consumer = codes "c" ∷ [] }) }

abbrev pub stream : List ℕ → List ℕ → Stream
stream key id = record { key = key; id = id }

abbrev pub xread : List Stream → ReadSettings → Call
xread streams options = OnStreams (Xread streams options)

pub a_read_wants_a_key : planned (xread [] (in_group (codes "streams"))) ≡ Err (by_cause NoKeys)
unfolding hash_slot
a_read_wants_a_key = refl

-- one of a and b has its parts, but not in a group, with a block, or with a key twice
abbrev pub read_ab : ReadSettings → Call
read_ab options = xread (stream (codes "a") (codes "0") ∷ stream (codes "b") (codes "0") ∷ []) options

pub a_read_in_a_group_has_one_slot : planned (read_ab (in_group (codes "g"))) ≡ Err (by_cause SeveralSlots)
unfolding hash_slot
a_read_in_a_group_has_one_slot = refl

pub a_read_with_a_block_has_one_slot : planned (read_ab (record no_options { block = Some 0 }))
    ≡ Err (by_cause SeveralSlots)
unfolding hash_slot
a_read_with_a_block_has_one_slot = refl

pub a_read_of_a_key_twice_has_one_slot : planned
    (xread (stream (codes "a") (codes "0") ∷ stream (codes "b") (codes "0") ∷ stream (codes "a") (codes "0")
    ∷ []) no_options)
    ≡ Err (by_cause SeveralSlots)
unfolding hash_slot
a_read_of_a_key_twice_has_one_slot = refl

pub a_key_twice_is_one_request : planned
    (xread (stream (codes "a") (codes "0") ∷ stream (codes "a") (codes "0") ∷ []) no_options)
    ≡ Ok (goes_to n2 (codes "XREAD" ∷ codes "STREAMS" ∷ codes "a" ∷ codes "a" ∷ codes "0" ∷ codes "0" ∷ [])
    ∷ [])
unfolding destination rule_of table hash_slot splitting_of digits
a_key_twice_is_one_request = refl

pub a_group_has_another_name : planned
    (xread (stream (codes "a") (codes "0") ∷ []) (in_group (codes "streams"))) ≡ Err (by_cause BadGroupName)
unfolding hash_slot
a_group_has_another_name = refl

abbrev pub streams_read : List (List ℕ)
streams_read = codes "XREAD" ∷ codes "STREAMS" ∷ codes "STREAMS" ∷ codes "0" ∷ []

-- the slot of `STREAMS` is n2's
pub a_key_may_be_the_word : planned (xread (stream (codes "STREAMS") (codes "0") ∷ []) no_options)
    ≡ Ok (goes_to n2 streams_read ∷ [])
unfolding destination rule_of table hash_slot splitting_of digits
a_key_may_be_the_word = refl

pub a_key_that_is_the_word_is_sent : bytes_of (plain n2 streams_read ∷ [])
    ≡ codes "*4\r\n$5\r\nXREAD\r\n$7\r\nSTREAMS\r\n$7\r\nSTREAMS\r\n$1\r\n0\r\n"
unfolding digits
a_key_that_is_the_word_is_sent = refl

abbrev pub ids_alone : ClaimSettings
ids_alone = record { idle = None; time = None; retry = None; force = false; justid = true; lastid = None }

pub a_claim_wants_entries : planned
    (OnStreams (Xclaim (record { key = codes "a"; group = codes "g"; consumer = codes "c"; min_idle = 0 })
    [] ids_alone)) ≡ Err (by_cause ClaimsIdsAlone)
a_claim_wants_entries = refl

-- a reply of another shape leaves the call refused, and a number is the count
abbrev pub xtrim : Call
xtrim = OnStreams (Xtrim (codes "a")
    (record { trim = record { mode = Exact; threshold = max_entries 10; limit = None }; policy = None }))

abbrev pub xtrim_log : Tree → List Exchange
xtrim_log reply = log_over [] (reply ∷ [])
    (plain n2 (codes "XTRIM" ∷ codes "a" ∷ codes "MAXLEN" ∷ codes "=" ∷ codes "10" ∷ []) ∷ [])

pub xtrim_is_legal : IsLegalCall on_halves [] xtrim (xtrim_log (int (pos 2)))
unfolding destination rule_of table hash_slot splitting_of digits first_error
xtrim_is_legal = (refl, refl)

pub xtrim_answers_a_count : answer_on on_halves xtrim (xtrim_log (int (pos 2))) ≡ Ok (Trimmed (pos 2))
unfolding destination rule_of table hash_slot splitting_of digits first_error
xtrim_answers_a_count = refl

pub another_shape_refuses : kind on_halves [] a_fault xtrim (xtrim_log okay) ≡ Some bad_reply
unfolding destination rule_of table hash_slot splitting_of digits first_error
another_shape_refuses = refl
