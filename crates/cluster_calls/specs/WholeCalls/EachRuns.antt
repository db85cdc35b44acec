-- Whole pipelines that tell of each position, computed: the order of nodes, the outcomes, faults, redirects,
-- and what counts.
use Rattle.std.specs.Prelude.{◌≡◌, true, false, List, [], ◌∷◌, Some, Result, Ok, Err, codes, refl}
use Rattle.std.specs.Fmt.{digits}
use Rattle.resp_core.specs.Trees.{Tree, okay, server_error}
use Rattle.resp_core.specs.Errors.{Refusal, by_cause, by_server, server_kind}
use Rattle.resp_core.specs.Parts.{first_error}
use Rattle.resp_core.specs.declared.errors.redis_error.Cause.TheVariants.{Io, Memory}
use Rattle.cluster_routing.specs.Combine.{array_of}
use Rattle.cluster_routing.specs.Examples.{first_node as n1, second_node as n2}
use Rattle.cluster_routing.specs.HashSlot.{hash_slot}
use Rattle.cluster_routing.specs.Routing.{destination}
use Rattle.cluster_routing.specs.Split.{splitting_of}
use Rattle.cluster_routing.specs.Table.{rule_of, table}
use Rattle.cluster_calls.specs.Links.Log.{Exchange}
use Rattle.cluster_calls.specs.Calls.After.{flag_after, links_after}
use Rattle.cluster_calls.specs.Calls.Answer.{Answer, Told, IsAnswerOf}
use Rattle.cluster_calls.specs.Calls.Call.{Call, Each}
use Rattle.cluster_calls.specs.Calls.Each.{redirected, lost, fate_of}
use Rattle.cluster_calls.specs.Calls.Legal.{IsLegalCall}
use Rattle.cluster_calls.specs.Calls.Picks.{ArePicks}
use Rattle.cluster_calls.specs.Calls.Plan.{plan}
use Rattle.cluster_calls.specs.OneServer.Commands.{by_position, counting}
use Rattle.cluster_calls.specs.OneServer.Operations.{RunCommand}
use Rattle.cluster_calls.specs.WholeCalls.Base.{both, client, on_halves, a_fault, plain, goes_to, log_over, answer_on, text, error, error_text, moved_to_n1, ask_n2}
use Rattle.cluster_calls.specs.WholeCalls.KeyRuns.{set_a, get_a, get_b, none_done}
use Rattle.cluster_calls.specs.WholeCalls.Pipelines.{entry, ignored_entry}
use Rattle.cluster_calls.specs.WholeCalls.RedirectedCalls.{n4, only, with_replicas}

-- ---- outcomes

abbrev pub Outcome : Type 0
Outcome = Result Tree Refusal

abbrev pub told : List Outcome → Result Answer Refusal
told outcomes = Ok (Told outcomes)

abbrev pub lost_link : Outcome
lost_link = Err (by_cause Io)

abbrev pub sent_on : Outcome
sent_on = Err (by_server moved_to_n1)

abbrev pub wanting_memory : Outcome
wanting_memory = Err (by_cause Memory)

-- ---- SET a 1, GET b, GET a: n2 is asked first, and outcomes stand at their positions

abbrev pub three : Call
three = Each (entry set_a ∷ entry get_b ∷ entry get_a ∷ [])

abbrev pub three_log : List Tree → List Tree → List Exchange
three_log first second = log_over first second (plain n2 set_a ∷ plain n2 get_a ∷ plain n1 get_b ∷ [])

-- the log is legal, and of its exchanges these outcomes are told
abbrev pub TellsOf : List Exchange → List Outcome → Type 0
TellsOf xs outcomes = IsLegalCall on_halves [] three xs × (answer_on on_halves three xs ≡ told outcomes)
    × IsAnswerOf on_halves [] a_fault three xs (told outcomes)

abbrev pub fine : List Exchange
fine = three_log (text (codes "2") ∷ []) (okay ∷ text (codes "1") ∷ [])

abbrev pub fine_outcomes : List Outcome
fine_outcomes = Ok okay ∷ Ok (text (codes "2")) ∷ Ok (text (codes "1")) ∷ []

pub nodes_are_asked_in_order_and_outcomes_stand_at_their_positions : TellsOf fine fine_outcomes
unfolding destination rule_of table hash_slot splitting_of digits first_error
nodes_are_asked_in_order_and_outcomes_stand_at_their_positions = (refl, refl, (refl, (refl, (refl, (refl, refl)))))

pub all_of_it_counts : by_position none_done (entry set_a ∷ entry get_b ∷ entry get_a ∷ []) fine
    ≡ (RunCommand set_a ∷ []) ∷ (RunCommand get_b ∷ []) ∷ (RunCommand get_a ∷ []) ∷ []
unfolding destination rule_of table hash_slot splitting_of digits first_error
all_of_it_counts = refl

pub no_commands_are_told_of_by_no_outcomes : answer_on (client 1 [] []) (Each []) [] ≡ told []
no_commands_are_told_of_by_no_outcomes = refl

pub and_nothing_is_sent_for_them : IsLegalCall (client 1 [] []) [] (Each []) []
and_nothing_is_sent_for_them = refl

-- whether an answer leaves a reply out says nothing here
pub an_ignored_command_is_told_of : answer_on on_halves (Each (ignored_entry get_a ∷ []))
    (log_over [] (text (codes "1") ∷ []) (plain n2 get_a ∷ [])) ≡ told (Ok (text (codes "1")) ∷ [])
unfolding destination rule_of table hash_slot splitting_of digits first_error
an_ignored_command_is_told_of = refl

-- ---- a read goes to the primary, and no strategy is asked for it

abbrev pub reads_a : Call
reads_a = Each (entry get_a ∷ [])

pub a_read_goes_to_the_primary : plan with_replicas [] reads_a ≡ Ok (goes_to n1 get_a ∷ [])
unfolding destination rule_of table hash_slot splitting_of digits
a_read_goes_to_the_primary = refl

pub nothing_is_picked : ArePicks (Some (only n4)) with_replicas reads_a []
unfolding destination rule_of table hash_slot splitting_of digits
nothing_is_picked = (tt, refl)

pub a_pick_is_none_of_its_own : ArePicks (Some (only n4)) with_replicas reads_a (n4 ∷ []) → ⊥
unfolding destination rule_of table hash_slot splitting_of digits
a_pick_is_none_of_its_own h = let e = h.1 in cc

-- ---- n2 ends behind its first reply: n1 is asked all the same, and of n2 no reply is told

abbrev pub half_lost : List Exchange
half_lost = three_log (text (codes "2") ∷ []) (okay ∷ [])

abbrev pub half_lost_outcomes : List Outcome
half_lost_outcomes = lost_link ∷ Ok (text (codes "2")) ∷ lost_link ∷ []

pub a_fault_stops_no_other_node_and_is_told_at_its_own_positions : TellsOf half_lost half_lost_outcomes
unfolding destination rule_of table hash_slot splitting_of digits first_error
a_fault_stops_no_other_node_and_is_told_at_its_own_positions = (refl, refl, (refl, (refl, (refl, (refl, refl)))))

pub a_fault_closes_its_node : links_after both half_lost ≡ n1 ∷ []
a_fault_closes_its_node = refl

-- what was answered counts also where its reply is not told, and what was not counts where it was done
pub a_reply_that_is_not_told_counts : counting none_done three (told half_lost_outcomes) half_lost
    ≡ RunCommand set_a ∷ RunCommand get_b ∷ []
unfolding destination rule_of table hash_slot splitting_of digits first_error
a_reply_that_is_not_told_counts = refl

pub a_lost_one_counts_where_it_was_done : counting (λ place. true) three (told half_lost_outcomes) half_lost
    ≡ RunCommand set_a ∷ RunCommand get_b ∷ RunCommand get_a ∷ []
unfolding destination rule_of table hash_slot splitting_of digits first_error
a_lost_one_counts_where_it_was_done = refl

-- ---- an error for GET b, and MOVED for GET a: each is told at its position, and nothing is sent on

abbrev pub erring : List Exchange
erring = three_log (error (codes "ERR") (codes "x") ∷ []) (okay ∷ server_error moved_to_n1 ∷ [])

abbrev pub erring_outcomes : List Outcome
erring_outcomes = Ok okay ∷ Err (by_server (error_text (codes "ERR") (codes "x"))) ∷ sent_on ∷ []

pub errors_are_told_at_their_positions_and_no_redirect_is_followed : TellsOf erring erring_outcomes
unfolding destination rule_of table hash_slot splitting_of digits first_error
errors_are_told_at_their_positions_and_no_redirect_is_followed = (refl, refl, (refl, (refl, (refl, (refl, refl)))))

pub a_moved_reply_wants_a_refresh : flag_after false three erring ≡ true
unfolding server_kind first_error
a_moved_reply_wants_a_refresh = refl

pub only_the_answered_one_counts : by_position (λ place. true)
    (entry set_a ∷ entry get_b ∷ entry get_a ∷ []) erring ≡ (RunCommand set_a ∷ []) ∷ [] ∷ [] ∷ []
unfolding destination rule_of table hash_slot splitting_of digits first_error server_kind
only_the_answered_one_counts = refl

pub moved_says_that_it_was_not_done : fate_of sent_on ≡ redirected
unfolding server_kind
moved_says_that_it_was_not_done = refl

pub a_fault_says_that_it_may_have_been : fate_of lost_link ≡ lost
a_fault_says_that_it_may_have_been = refl

-- ASK is told as MOVED is, and wants no refresh
abbrev pub asked : List Exchange
asked = log_over [] (server_error ask_n2 ∷ []) (plain n2 get_a ∷ [])

pub ask_is_told : answer_on on_halves reads_a asked ≡ told (Err (by_server ask_n2) ∷ [])
unfolding destination rule_of table hash_slot splitting_of digits first_error
ask_is_told = refl

pub ask_says_that_it_was_not_done : fate_of (Err (by_server ask_n2)) ≡ redirected
unfolding server_kind
ask_says_that_it_was_not_done = refl

pub ask_wants_no_refresh : flag_after false reads_a asked ≡ false
unfolding server_kind first_error
ask_wants_no_refresh = refl

-- an error inside a reply is a value
abbrev pub error_inside : Tree
error_inside = array_of (server_error moved_to_n1 ∷ [])

pub a_reply_that_holds_an_error_is_told : answer_on on_halves reads_a
    (log_over [] (error_inside ∷ []) (plain n2 get_a ∷ [])) ≡ told (Ok error_inside ∷ [])
unfolding destination rule_of table hash_slot splitting_of digits first_error
a_reply_that_holds_an_error_is_told = refl

-- MOVED that a refused link call took is not told, and wants no refresh
abbrev pub moved_and_ended : List Exchange
moved_and_ended = log_over [] (server_error moved_to_n1 ∷ []) (plain n2 get_a ∷ plain n2 get_a ∷ [])

abbrev pub get_a_twice : Call
get_a_twice = Each (entry get_a ∷ entry get_a ∷ [])

pub a_lost_nodes_moved_is_not_told : answer_on on_halves get_a_twice moved_and_ended
    ≡ told (lost_link ∷ lost_link ∷ [])
unfolding destination rule_of table hash_slot splitting_of digits first_error
a_lost_nodes_moved_is_not_told = refl

pub and_wants_no_refresh : flag_after false get_a_twice moved_and_ended ≡ false
unfolding server_kind
and_wants_no_refresh = refl
