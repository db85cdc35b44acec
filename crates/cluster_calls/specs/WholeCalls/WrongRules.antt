-- Wrong rules that a client might follow, each beside a call of the other files that tells it from the
-- definition.
use Rattle.std.specs.Prelude.{◌≡◌, ℕ, ◌-◌, ◌||◌, Bool, true, false, if◌then◌else◌, List, [], ◌∷◌, map, slice_get, Option, Some, None, codes, pos, refl}
use Rattle.std.specs.List.{list_any}
use Rattle.std.specs.Fmt.{digits}
use Rattle.std.specs.Str.{is_utf8, chars}
use lib.Utf8.{encode}
use Rattle.resp_core.specs.Trees.{Tree, ErrorText, nil, int, okay, server_error}
use Rattle.resp_core.specs.Errors.{server_kind}
use Rattle.resp_core.specs.Parts.{first_error}
use Rattle.cluster_routing.specs.Address.{Address}
use Rattle.cluster_routing.specs.AllNodes.{all_nodes}
use Rattle.cluster_routing.specs.Combine.{array_of}
use Rattle.cluster_routing.specs.HashSlot.{hash_slot}
use Rattle.cluster_routing.specs.SlotMap.{SlotEntries, put_all}
use Rattle.cluster_routing.specs.SlotsReply.{ranges}
use Rattle.cluster_routing.specs.Split.{splitting_of}
use Rattle.cluster_routing.specs.Table.{rule_of, table}
use Rattle.cluster_routing.specs.Routing.{destination}
use Rattle.cluster_routing.specs.Examples.{first_node as n1, second_node as n2, halves}
use Rattle.cluster_calls.specs.Links.Request.{Request}
use Rattle.cluster_calls.specs.Links.Reply.{Sort, Moved, Failed, Data, error_sort, sort_of, redirect_target}
use Rattle.cluster_calls.specs.Links.Log.{Exchange, reply_at, is_moved}
use Rattle.cluster_calls.specs.Calls.After.{map_after}
use Rattle.cluster_calls.specs.Calls.Call.{Entry, Refresh}
use Rattle.cluster_calls.specs.Calls.Legal.{NodeByNode, IsLegalCall}
use Rattle.cluster_calls.specs.Calls.Plan.{Dispatch, by_number}
use Rattle.cluster_calls.specs.Calls.Redirects.{Hop, Next, Stays, Lost, MatchNext, request_of, hop_by_link, next_of}
use Rattle.cluster_calls.specs.Calls.Replies.{not_ignored, reply_or_nil, pipeline_reply}
use Rattle.cluster_calls.specs.OneServer.Laws.{is_redirected}
use Rattle.cluster_calls.specs.WholeCalls.Base.{both, on_n1, plain, behind_asking, goes_to, log_over, one, error_text, moved_to_n1, text}
use Rattle.cluster_calls.specs.WholeCalls.RedirectedCalls.{get, get_a, asked_log, twice_log}
use Rattle.cluster_calls.specs.WholeCalls.Pipelines.{entry, set_a, get as get_of, fine, moved_and_ended}
use Rattle.cluster_calls.specs.WholeCalls.SeveralNodes.{word, size_log}

-- ---- a MOVED inside an array is followed

abbrev pub wrong_error_sort : Option ErrorText → Sort
wrong_error_sort None = Data
wrong_error_sort (Some e) = error_sort e (server_kind e.code)

abbrev pub wrong_sort : Tree → Sort
wrong_sort tree = wrong_error_sort (first_error tree)

pub moved_inside_fails : sort_of (array_of (server_error moved_to_n1 ∷ [])) ≡ Failed moved_to_n1
unfolding first_error
moved_inside_fails = refl

pub moved_inside_would_be_followed_by_a_wrong_rule : wrong_sort (array_of (server_error moved_to_n1 ∷ []))
    ≡ Moved moved_to_n1
unfolding first_error server_kind
moved_inside_would_be_followed_by_a_wrong_rule = refl

-- ---- a redirect is checked for its link before it is readable

abbrev pub without_host : ErrorText
without_host = error_text (codes "MOVED") (codes "15495 :7002")

abbrev pub wrong_hop_by_link : List Address → Bool → Option Address → Next
wrong_hop_by_link links asking None = Lost
wrong_hop_by_link links asking (Some node) = hop_by_link links asking (Some node)

pub an_unreadable_redirect_stays : hop_by_link both false (redirect_target without_host) ≡ Stays
unfolding is_utf8 chars encode
an_unreadable_redirect_stays = refl

pub an_unreadable_redirect_would_want_a_link_by_a_wrong_rule : wrong_hop_by_link both false
    (redirect_target without_host) ≡ Lost
unfolding is_utf8 chars encode
an_unreadable_redirect_would_want_a_link_by_a_wrong_rule = refl

-- ---- ASK costs nothing of the budget

abbrev pub wrong_budget_left : ℕ → Hop → ℕ
wrong_budget_left budget hop = if hop.asking then budget else budget - 1

abbrev pub WrongFollowsRedirects : List Address → ℕ → Hop → List (List ℕ) → List Exchange → Type 0
WrongFollowsRedirects links budget hop args [] = ⊥
WrongFollowsRedirects links budget hop args (x ∷ xs) =
    (x.request ≡ request_of hop args)
    × MatchNext (next_of links budget x.reply) (xs ≡ [])
    (λ next. WrongFollowsRedirects links (wrong_budget_left budget next) next args xs)

pub two_redirects_are_too_many : IsLegalCall (on_n1 1) [] get_a twice_log → ⊥
unfolding destination rule_of table hash_slot splitting_of digits first_error is_utf8 chars encode server_kind
two_redirects_are_too_many = λ h. let (a, b) = h in let (c, d) = b in cc

pub two_redirects_would_do_by_a_wrong_rule : WrongFollowsRedirects both 1
    (record { node = n1; asking = false }) get twice_log
unfolding first_error is_utf8 chars encode server_kind
two_redirects_would_do_by_a_wrong_rule = (refl, (refl, (refl, refl)))

-- ---- the reply to ASKING answers

abbrev pub wrong_reply_at : List Tree → Request → Option Tree
wrong_reply_at trees request = slice_get trees 0

pub the_reply_behind_asking_answers : reply_at (okay ∷ one ∷ []) (behind_asking n2 get) ≡ Some one
the_reply_behind_asking_answers = refl

pub the_reply_to_asking_would_answer_by_a_wrong_rule : wrong_reply_at (okay ∷ one ∷ []) (behind_asking n2 get)
    ≡ Some okay
the_reply_to_asking_would_answer_by_a_wrong_rule = refl

-- ---- each redirect wants a refresh

abbrev pub wrong_flag_after : Bool → List Exchange → Bool
wrong_flag_after flag xs = flag || list_any is_redirected xs

pub ask_would_want_a_refresh_by_a_wrong_rule : wrong_flag_after false (asked_log okay) ≡ true
unfolding server_kind first_error
ask_would_want_a_refresh_by_a_wrong_rule = refl

-- ---- a refresh adds to the map that was there

abbrev pub wrong_entries_by : SlotEntries → List ℕ → Option Tree → SlotEntries
wrong_entries_by entries host None = entries
wrong_entries_by entries host (Some tree) = put_all entries (ranges tree host)

pub a_refresh_puts_another_map : map_after halves (Refresh n1) (log_over (okay ∷ []) [] (plain n1 get ∷ []))
    ≡ []
unfolding first_error
a_refresh_puts_another_map = refl

pub the_map_would_stay_by_a_wrong_rule : wrong_entries_by halves (codes "n1") (Some okay) ≡ halves
the_map_would_stay_by_a_wrong_rule = refl

-- ---- any node is looked for at the number itself

abbrev pub wrong_by_number : {A : Type 0} → ℕ → List A → Option A
wrong_by_number n xs = slice_get xs n

pub number_five_of_two_nodes_is_one : by_number 5 (all_nodes halves) ≡ Some n2
number_five_of_two_nodes_is_one = refl

pub number_five_of_two_nodes_would_be_none_by_a_wrong_rule : wrong_by_number 5 (all_nodes halves) ≡ None
number_five_of_two_nodes_would_be_none_by_a_wrong_rule = refl

-- ---- the answers of a pipeline stand in the order in which they were asked for

abbrev pub entries_of_three : List Entry
entries_of_three = entry set_a ∷ entry (get_of (codes "b")) ∷ entry (get_of (codes "a")) ∷ []

abbrev pub wrong_pipeline_reply : List Entry → List Exchange → Tree
wrong_pipeline_reply entries xs = array_of (not_ignored entries (map reply_or_nil xs))

pub answers_stand_by_position : pipeline_reply entries_of_three fine
    ≡ array_of (okay ∷ nil ∷ text (codes "1") ∷ [])
unfolding destination rule_of table hash_slot splitting_of digits
answers_stand_by_position = refl

pub answers_would_stand_by_node_by_a_wrong_rule : wrong_pipeline_reply entries_of_three fine
    ≡ array_of (okay ∷ text (codes "1") ∷ nil ∷ [])
answers_would_stand_by_node_by_a_wrong_rule = refl

-- ---- MOVED of a refused link call counts in a pipeline

abbrev pub wrong_some_moved : List Exchange → Bool
wrong_some_moved xs = list_any is_moved xs

pub a_refused_calls_moved_would_count_by_a_wrong_rule : wrong_some_moved moved_and_ended ≡ true
unfolding server_kind
a_refused_calls_moved_would_count_by_a_wrong_rule = refl

-- ---- a fault stops a command to several nodes, as it stops a pipeline

abbrev pub sizes : List (List Dispatch)
sizes = (goes_to n1 (word (codes "DBSIZE")) ∷ []) ∷ (goes_to n2 (word (codes "DBSIZE")) ∷ []) ∷ []

pub the_second_node_would_not_be_asked_by_a_wrong_rule : NodeByNode sizes (size_log [] (int (pos 4) ∷ [])) → ⊥
the_second_node_would_not_be_asked_by_a_wrong_rule = λ h. let (a, b) = h in cc
