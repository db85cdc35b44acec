-- Pipelines that tell of each position gone wrong: logs that no such call makes, and outcomes that are not
-- those of its exchanges. Beside each stands a right one, here or in EachRuns and EachSplits.
use Rattle.std.specs.Prelude.{◌≡◌, ◌==◌, ℕ, if◌then◌else◌, List, [], ◌∷◌, length, Ok, Err, codes, refl}
use Rattle.std.specs.Fmt.{digits}
use Rattle.std.proofs.Common.{ap}
use Rattle.std.proofs.lemmas.Bool.{false≢true}
use Rattle.resp_core.specs.Trees.{nil, okay, server_error}
use Rattle.resp_core.specs.Errors.{by_cause, by_server, server_kind}
use Rattle.resp_core.specs.Parts.{first_error}
use Rattle.resp_core.specs.declared.errors.redis_error.Cause.TheVariants.{Memory, Parse}
use Rattle.cluster_routing.specs.Address.{Address, same_address}
use Rattle.cluster_routing.specs.Examples.{first_node as n1, second_node as n2}
use Rattle.cluster_routing.specs.HashSlot.{hash_slot}
use Rattle.cluster_routing.specs.Routing.{destination}
use Rattle.cluster_routing.specs.Split.{splitting_of}
use Rattle.cluster_routing.specs.Table.{rule_of, table}
use Rattle.cluster_calls.specs.Links.Events.{Event, log_of, calls_of}
use Rattle.cluster_calls.specs.Links.Faults.{LinkFault, io, grammar}
use Rattle.cluster_calls.specs.Links.Log.{Exchange}
use Rattle.cluster_calls.specs.Links.Nodes.{link_calls}
use Rattle.cluster_calls.specs.Links.Request.{Request, requests_to}
use Rattle.cluster_calls.specs.Calls.Answer.{IsAnswerOf, TellsNoMemory}
use Rattle.cluster_calls.specs.Calls.Legal.{IsLegalCall}
use Rattle.cluster_calls.specs.Calls.Task.{task_of}
use Rattle.cluster_calls.specs.OneServer.Meaning.{number_in}
use Rattle.cluster_calls.specs.WholeCalls.Base.{on_halves, a_fault, plain, log_over, text, one, error_text, moved_to_n1}
use Rattle.cluster_calls.specs.WholeCalls.EachRuns.{Outcome, told, lost_link, sent_on, wanting_memory, three, three_log, fine, half_lost, erring}
use Rattle.cluster_calls.specs.WholeCalls.EachSplits.{split_and_get, split_fine, split_lost, with_time}
use Rattle.cluster_calls.specs.WholeCalls.KeyRuns.{set_a, get_a, get_b}
use Rattle.cluster_calls.specs.WholeCalls.MixedPlay.{replies_to}
use Rattle.cluster_calls.specs.WholeCalls.Pipelines.{broken}

-- ---- logs

-- the arguments of the first request
abbrev pub first_size : List Request → ℕ
first_size [] = 0
first_size (q ∷ qs) = length q.args

-- GET a is not answered, and left out
pub a_lost_request_is_not_left_out : IsLegalCall on_halves [] three
    (log_over (text (codes "2") ∷ []) (okay ∷ []) (plain n2 set_a ∷ plain n1 get_b ∷ [])) → ⊥
unfolding destination rule_of table hash_slot splitting_of digits
a_lost_request_is_not_left_out e = false≢true (ap (λ q. length q == 3) e)

-- n1 is not asked, as it is not by `Pipeline`
pub no_node_is_left_out : IsLegalCall on_halves [] three broken → ⊥
unfolding destination rule_of table hash_slot splitting_of digits
no_node_is_left_out e = false≢true (ap (λ q. length q == 3) e)

-- GET a is sent on to n1
pub no_redirect_is_followed : IsLegalCall on_halves [] three
    (log_over (nil ∷ text (codes "1") ∷ []) (okay ∷ server_error moved_to_n1 ∷ [])
    (plain n2 set_a ∷ plain n2 get_a ∷ plain n1 get_b ∷ plain n1 get_a ∷ [])) → ⊥
unfolding destination rule_of table hash_slot splitting_of digits
no_redirect_is_followed e = false≢true (ap (λ q. length q == 3) e)

pub nodes_are_not_asked_in_another_order : IsLegalCall on_halves [] three
    (log_over (text (codes "2") ∷ []) (okay ∷ text (codes "1") ∷ [])
    (plain n1 get_b ∷ plain n2 set_a ∷ plain n2 get_a ∷ [])) → ⊥
unfolding destination rule_of table hash_slot splitting_of digits
nodes_are_not_asked_in_another_order e = false≢true (ap (λ q. first_size q == 3) e)

pub nor_is_a_node : IsLegalCall on_halves [] three
    (log_over (text (codes "2") ∷ []) (text (codes "1") ∷ okay ∷ [])
    (plain n2 get_a ∷ plain n2 set_a ∷ plain n1 get_b ∷ [])) → ⊥
unfolding destination rule_of table hash_slot splitting_of digits
nor_is_a_node e = false≢true (ap (λ q. first_size q == 3) e)

pub a_refused_call_sends_nothing : IsLegalCall on_halves [] with_time
    (log_over [] (text (codes "1") ∷ []) (plain n2 get_a ∷ [])) → ⊥
unfolding destination rule_of table hash_slot splitting_of digits
a_refused_call_sends_nothing e = cc

-- a node's requests are of one link call
abbrev pub AreInOneGo : List Event → Type 0
AreInOneGo events = (node : Address)
    → calls_of events node ≡ link_calls (task_of three) (requests_to node (log_of events))

abbrev pub in_two_goes : List Event
in_two_goes = replies_to n2 (plain n2 set_a ∷ []) (okay ∷ [])
    ∷ replies_to n2 (plain n2 get_a ∷ []) (text (codes "1") ∷ []) ∷ []

pub a_node_is_not_asked_in_two_goes : AreInOneGo in_two_goes → ⊥
a_node_is_not_asked_in_two_goes h = false≢true (ap (λ q. length q == 1) (h n2))

-- ---- outcomes

abbrev pub ThreeAreTold : List Exchange → List Outcome → Type 0
ThreeAreTold xs outcomes = IsAnswerOf on_halves [] a_fault three xs (told outcomes)

-- n2 ended behind its reply to SET a
pub a_lost_position_is_not_told_as_answered : ThreeAreTold half_lost
    (Ok okay ∷ Ok (text (codes "2")) ∷ lost_link ∷ []) → ⊥
unfolding destination rule_of table hash_slot splitting_of digits first_error
a_lost_position_is_not_told_as_answered h = let e : lost_link ∷ [] ≡ Ok okay ∷ [] = h.1.0 in cc

pub another_nodes_position_is_not_told_as_lost : ThreeAreTold half_lost
    (lost_link ∷ lost_link ∷ lost_link ∷ []) → ⊥
unfolding destination rule_of table hash_slot splitting_of digits first_error
another_nodes_position_is_not_told_as_lost h = let e : Ok (text (codes "2")) ∷ [] ≡ lost_link ∷ [] = h.1.1.0
    in cc

-- both links failed, and n1's by bytes that are no RESP
abbrev pub faults : Address → LinkFault
faults node = if same_address node n1 then grammar else io

abbrev pub all_lost : List Exchange
all_lost = three_log [] []

pub each_nodes_fault_is_told : IsAnswerOf on_halves [] faults three all_lost
    (told (lost_link ∷ Err (by_cause Parse) ∷ lost_link ∷ []))
unfolding destination rule_of table hash_slot splitting_of digits first_error
each_nodes_fault_is_told = (refl, (refl, (refl, (refl, refl))))

pub and_no_other_nodes : IsAnswerOf on_halves [] faults three all_lost
    (told (lost_link ∷ lost_link ∷ lost_link ∷ [])) → ⊥
unfolding destination rule_of table hash_slot splitting_of digits first_error
and_no_other_nodes h = let e : Err (by_cause Parse) ∷ [] ≡ lost_link ∷ [] = h.1.1.0 in cc

-- GET b is nil, and GET a is "1"
pub outcomes_are_not_told_in_the_nodes_order : ThreeAreTold
    (three_log (nil ∷ []) (okay ∷ text (codes "1") ∷ [])) (Ok okay ∷ Ok (text (codes "1")) ∷ Ok nil ∷ []) → ⊥
unfolding destination rule_of table hash_slot splitting_of digits first_error
outcomes_are_not_told_in_the_nodes_order h = let e : Ok nil ∷ [] ≡ Ok (text (codes "1")) ∷ [] = h.1.1.0 in cc

pub no_position_is_untold : ThreeAreTold fine (Ok okay ∷ Ok (text (codes "2")) ∷ []) → ⊥
unfolding destination rule_of table hash_slot splitting_of digits first_error
no_position_is_untold h = absurd h.1.1.1

pub an_error_is_not_told_as_a_value : ThreeAreTold erring
    (Ok okay ∷ Ok nil ∷ sent_on ∷ []) → ⊥
unfolding destination rule_of table hash_slot splitting_of digits first_error
an_error_is_not_told_as_a_value h = let e : Err (by_server (error_text (codes "ERR") (codes "x"))) ∷ []
    ≡ Ok nil ∷ [] = h.1.1.0 in cc

pub a_refused_call_is_not_told : IsAnswerOf on_halves [] a_fault with_time [] (told []) → ⊥
unfolding destination rule_of table hash_slot splitting_of digits
a_refused_call_is_not_told h = let e = h.0 in cc

-- ---- outcomes of split commands

abbrev pub SplitIsTold : List Exchange → Outcome → Type 0
SplitIsTold xs outcome = IsAnswerOf on_halves [] a_fault split_and_get xs (told (outcome ∷ Ok nil ∷ []))

pub a_half_is_not_told_as_done : SplitIsTold split_lost (Ok one) → ⊥
unfolding destination rule_of table hash_slot splitting_of digits first_error server_kind
a_half_is_not_told_as_done h = let e : Ok one ≡ lost_link = h.1.0 in cc

abbrev pub number_told : Outcome → ℕ
number_told (Ok tree) = number_in tree
number_told (Err refusal) = 0

pub a_whole_is_not_told_as_its_half : SplitIsTold split_fine (Ok one) → ⊥
unfolding destination rule_of table hash_slot splitting_of digits first_error server_kind
a_whole_is_not_told_as_its_half h = false≢true (ap (λ o. number_told o == 2) (h.1.0 (λ m. cc)))

-- ---- memory: it may be refused where one value is made of several, and nowhere else

pub no_memory_is_wanting_for_a_whole_command : ThreeAreTold fine
    (wanting_memory ∷ Ok (text (codes "2")) ∷ Ok (text (codes "1")) ∷ []) → ⊥
unfolding destination rule_of table hash_slot splitting_of digits first_error
no_memory_is_wanting_for_a_whole_command h = let e : Ok okay ∷ [] ≡ wanting_memory ∷ [] = h.1.0 in cc

pub nor_where_a_part_is_lost : SplitIsTold split_lost wanting_memory → ⊥
unfolding destination rule_of table hash_slot splitting_of digits first_error server_kind
nor_where_a_part_is_lost h = let e : wanting_memory ≡ lost_link = h.1.0 in cc

pub want_of_memory_tells_it : TellsNoMemory (Err (by_cause Memory)) → ⊥
want_of_memory_tells_it h = h.0 refl

pub so_does_a_position : TellsNoMemory (told (Ok okay ∷ wanting_memory ∷ [])) → ⊥
so_does_a_position h = h.1.1.0 refl
