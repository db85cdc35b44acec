-- Whole pipelines, computed: order of nodes, order of answers, faults, and what counts.
use Rattle.std.specs.Prelude.{◌≡◌, ℕ, true, false, List, [], ◌∷◌, Some, Ok, Err, codes, refl}
use Rattle.std.specs.Fmt.{digits}
use Rattle.resp_core.specs.Trees.{Tree, nil, okay, server_error}
use Rattle.resp_core.specs.Errors.{by_cause, by_servers, server_kind, kind_of}
use Rattle.resp_core.specs.Parts.{first_error}
use Rattle.resp_core.specs.declared.errors.redis_error.Cause.TheVariants.{NoLink, Io}
use Rattle.resp_core.specs.declared.errors.redis_error.ErrorKind.TheVariants.{Server}
use Rattle.resp_core.specs.declared.errors.server_error.ServerErrorKind.TheVariants.{ResponseError}
use Rattle.cluster_routing.specs.HashSlot.{hash_slot}
use Rattle.cluster_routing.specs.Table.{rule_of, table}
use Rattle.cluster_routing.specs.Routing.{destination}
use Rattle.cluster_routing.specs.Examples.{first_node as n1, second_node as n2, halves}
use Rattle.cluster_routing.specs.Split.{splitting_of}
use Rattle.cluster_routing.specs.Combine.{array_of}
use Rattle.cluster_calls.specs.Links.Log.{Exchange}
use Rattle.cluster_calls.specs.Calls.Call.{Entry, Call, Pipeline}
use Rattle.stream_commands.specs.Commands.{plain_command}
use Rattle.cluster_calls.specs.Calls.Plan.{plan}
use Rattle.cluster_calls.specs.Calls.Legal.{IsLegalCall}
use Rattle.cluster_calls.specs.Calls.Answer.{Value, kind}
use Rattle.cluster_calls.specs.Calls.After.{flag_after, links_after}
use Rattle.cluster_calls.specs.OneServer.Commands.{kept}
use Rattle.cluster_calls.specs.OneServer.Operations.{RunCommand}
use Rattle.cluster_calls.specs.WholeCalls.Base.{both, client, on_halves, a_fault, plain, log_over, answer_on, text, error, error_text, moved_to_n1}

abbrev pub entry : List (List ℕ) → Entry
entry args = record { command = plain_command args; ignored = false }

abbrev pub ignored_entry : List (List ℕ) → Entry
ignored_entry args = record { command = plain_command args; ignored = true }

abbrev pub set_a : List (List ℕ)
set_a = codes "SET" ∷ codes "a" ∷ codes "1" ∷ []

abbrev pub get : List ℕ → List (List ℕ)
get key = codes "GET" ∷ key ∷ []

-- ---- SET a 1, GET b, GET a: n2 is asked first, and answers stand at their positions

abbrev pub three : Call
three = Pipeline (entry set_a ∷ entry (get (codes "b")) ∷ entry (get (codes "a")) ∷ [])

abbrev pub three_log : List Tree → List Tree → List Exchange
three_log first second = log_over first second
    (plain n2 set_a ∷ plain n2 (get (codes "a")) ∷ plain n1 (get (codes "b")) ∷ [])

abbrev pub fine : List Exchange
fine = three_log (nil ∷ []) (okay ∷ text (codes "1") ∷ [])

pub nodes_are_asked_in_order_of_use : IsLegalCall on_halves [] three fine
unfolding destination rule_of table hash_slot splitting_of digits
nodes_are_asked_in_order_of_use = (refl, (refl, refl))

pub answers_stand_at_their_positions : answer_on on_halves three fine
    ≡ Ok (Value (array_of (okay ∷ nil ∷ text (codes "1") ∷ [])))
unfolding destination rule_of table hash_slot splitting_of digits first_error
answers_stand_at_their_positions = refl

-- ---- with GET b ignored, and an error for it and a redirect for GET a

abbrev pub three_ignoring : Call
three_ignoring = Pipeline (entry set_a ∷ ignored_entry (get (codes "b")) ∷ entry (get (codes "a")) ∷ [])

abbrev pub erring : List Exchange
erring = three_log (error (codes "ERR") (codes "x") ∷ []) (okay ∷ server_error moved_to_n1 ∷ [])

pub all_errors_refuse : kind on_halves [] a_fault three_ignoring erring
    ≡ Some (by_servers (1, error_text (codes "ERR") (codes "x")) ((2, moved_to_n1) ∷ []))
unfolding destination rule_of table hash_slot splitting_of digits first_error
all_errors_refuse = refl

pub the_lowest_position_gives_the_kind : kind_of
    (by_servers (1, error_text (codes "ERR") (codes "x")) ((2, moved_to_n1) ∷ [])) ≡ Server ResponseError
unfolding server_kind
the_lowest_position_gives_the_kind = refl

pub a_redirect_is_not_followed : IsLegalCall on_halves [] three_ignoring erring
unfolding destination rule_of table hash_slot splitting_of digits
a_redirect_is_not_followed = (refl, (refl, refl))

pub only_the_answered_one_counts : kept (λ place. false) three_ignoring erring ≡ RunCommand set_a ∷ []
unfolding destination rule_of table hash_slot splitting_of digits first_error server_kind
only_the_answered_one_counts = refl

pub a_moved_reply_wants_a_refresh : flag_after false three_ignoring erring ≡ true
unfolding server_kind first_error
a_moved_reply_wants_a_refresh = refl

-- ---- n2 ends behind its first reply: n1 is not asked

abbrev pub broken : List Exchange
broken = log_over [] (okay ∷ []) (plain n2 set_a ∷ plain n2 (get (codes "a")) ∷ [])

pub a_fault_stops_a_pipeline : IsLegalCall on_halves [] three broken
unfolding destination rule_of table hash_slot splitting_of digits
a_fault_stops_a_pipeline = (refl, refl)

pub a_fault_refuses_a_pipeline : kind on_halves [] a_fault three broken ≡ Some (by_cause Io)
unfolding destination rule_of table hash_slot splitting_of digits first_error
a_fault_refuses_a_pipeline = refl

pub a_fault_closes_its_node : links_after both broken ≡ n1 ∷ []
a_fault_closes_its_node = refl

pub what_was_answered_before_counts : kept (λ place. false) three broken ≡ RunCommand set_a ∷ []
unfolding destination rule_of table hash_slot splitting_of digits first_error
what_was_answered_before_counts = refl

-- ---- without commands nothing is sent, also without links

pub an_empty_pipeline_sends_nothing : IsLegalCall (client 1 [] []) [] (Pipeline []) []
an_empty_pipeline_sends_nothing = refl

pub an_empty_pipeline_answers_an_empty_array : answer_on (client 1 [] []) (Pipeline []) []
    ≡ Ok (Value (array_of []))
an_empty_pipeline_answers_an_empty_array = refl

-- ---- all links are looked at first

pub a_later_link_refuses : plan (client 1 halves (n2 ∷ [])) []
    (Pipeline (entry (get (codes "a")) ∷ entry (get (codes "b")) ∷ [])) ≡ Err (by_cause NoLink)
unfolding destination rule_of table hash_slot splitting_of digits
a_later_link_refuses = refl

-- ---- MOVED that a refused link call took wants no refresh

abbrev pub two : Call
two = Pipeline (entry (get (codes "a")) ∷ entry (get (codes "a")) ∷ [])

abbrev pub moved_and_ended : List Exchange
moved_and_ended = log_over [] (server_error moved_to_n1 ∷ [])
    (plain n2 (get (codes "a")) ∷ plain n2 (get (codes "a")) ∷ [])

pub a_refused_calls_moved_does_not_count : flag_after false two moved_and_ended ≡ false
unfolding server_kind
a_refused_calls_moved_does_not_count = refl

pub a_fault_wins_over_errors : kind on_halves [] a_fault two moved_and_ended ≡ Some (by_cause Io)
unfolding destination rule_of table hash_slot splitting_of digits first_error
a_fault_wins_over_errors = refl

pub nothing_of_it_counts : kept (λ place. false) two moved_and_ended ≡ []
unfolding destination rule_of table hash_slot splitting_of digits first_error server_kind
nothing_of_it_counts = refl
