-- Commands to a node that the caller names, computed: answered, refused by a redirect that is not followed,
-- without a link, lost.
use Rattle.std.specs.Prelude.{◌≡◌, ℕ, true, false, List, [], ◌∷◌, None, Some, Ok, Err, codes, refl, Bool, Option}
use Rattle.std.specs.Str.{is_utf8, chars}
use lib.Utf8.{encode}
use Rattle.resp_core.specs.Trees.{Tree, server_error}
use Rattle.resp_core.specs.Errors.{by_cause, by_server, server_kind, Refusal}
use Rattle.resp_core.specs.Parts.{first_error}
use Rattle.resp_core.specs.declared.errors.redis_error.Cause.TheVariants.{NoResponse, NoLink, Io}
use Rattle.resp_args.specs.Command.{Command}
use Rattle.resp_args.specs.declared.cmd.Arg.TheVariants.{Simple}
use Rattle.cluster_routing.specs.Combine.{array_of}
use Rattle.cluster_routing.specs.Examples.{first_node as n1, second_node as n2, halves}
use Rattle.stream_commands.specs.Commands.{plain_command}
use Rattle.cluster_calls.specs.Links.Log.{Exchange}
use Rattle.cluster_calls.specs.Calls.After.{flag_after, links_after, map_after}
use Rattle.cluster_calls.specs.Calls.Answer.{Value, kind}
use Rattle.cluster_calls.specs.Calls.Call.{Call, At}
use Rattle.cluster_calls.specs.Calls.Legal.{PartByPart, IsLegalCall}
use Rattle.cluster_calls.specs.Calls.Plan.{plan}
use Rattle.cluster_calls.specs.OneServer.Bounds.{call_bound}
use Rattle.cluster_calls.specs.OneServer.Commands.{is_on_slots}
use Rattle.cluster_calls.specs.WholeCalls.Base.{both, client, on_halves, a_fault, plain, goes_to, log_over, answer_on, text, moved_to_n2, ask_n2}

abbrev pub get : List (List ℕ)
get = codes "GET" ∷ codes "a" ∷ []

-- key a is of a slot of n2
abbrev pub at_n1 : Call
at_n1 = At n1 (plain_command get)

abbrev pub log_of_n1 : List Tree → List Exchange
log_of_n1 first = log_over first [] (plain n1 get ∷ [])

-- ---- where it goes: to the node, whatever its keys and the slot map

pub it_goes_to_its_node : plan on_halves [] at_n1 ≡ Ok (goes_to n1 get ∷ [])
it_goes_to_its_node = refl

pub it_needs_no_slot_map : plan (client 1 [] both) [] at_n1 ≡ Ok (goes_to n1 get ∷ [])
it_needs_no_slot_map = refl

pub it_is_not_split : plan on_halves [] (At n1 (plain_command (codes "MGET" ∷ codes "a" ∷ codes "b" ∷ [])))
    ≡ Ok (goes_to n1 (codes "MGET" ∷ codes "a" ∷ codes "b" ∷ []) ∷ [])
it_is_not_split = refl

pub without_a_link_it_is_refused : plan (client 1 halves (n2 ∷ [])) [] at_n1 ≡ Err (by_cause NoLink)
without_a_link_it_is_refused = refl

abbrev pub unanswered : Command
unanswered = record { args = Simple (codes "PING") ∷ []; cursor = None; no_response = true }

pub want_of_a_response_comes_first : plan (client 1 halves []) [] (At n1 unanswered)
    ≡ Err (by_cause NoResponse)
want_of_a_response_comes_first = refl

pub it_makes_one_request : call_bound on_halves [] at_n1 ≡ 1
it_makes_one_request = refl

pub no_keyspace_is_spoken_of : is_on_slots at_n1 ≡ false
no_keyspace_is_spoken_of = refl

-- ---- answered

pub its_log_is_legal : IsLegalCall on_halves [] at_n1 (log_of_n1 (text (codes "1") ∷ []))
its_log_is_legal = refl

pub the_reply_answers : answer_on on_halves at_n1 (log_of_n1 (text (codes "1") ∷ []))
    ≡ Ok (Value (text (codes "1")))
unfolding first_error
the_reply_answers = refl

pub an_error_within_refuses : kind on_halves [] a_fault at_n1
    (log_of_n1 (array_of (text (codes "1") ∷ server_error ask_n2 ∷ []) ∷ [])) ≡ Some (by_server ask_n2)
unfolding first_error
an_error_within_refuses = refl

-- ---- redirects, which are not followed

-- why a reply refuses the call, and whether it wants a refresh
abbrev pub ends_by : Tree → Option Refusal × Bool
ends_by reply = (
  kind on_halves [] a_fault at_n1 (log_of_n1 (reply ∷ [])),
  flag_after false at_n1 (log_of_n1 (reply ∷ [])),
)

pub moved_refuses_and_wants_a_refresh : ends_by (server_error moved_to_n2) ≡ (Some (by_server moved_to_n2), true)
unfolding first_error server_kind
moved_refuses_and_wants_a_refresh = refl

pub moved_leaves_the_map : map_after halves at_n1 (log_of_n1 (server_error moved_to_n2 ∷ [])) ≡ halves
moved_leaves_the_map = refl

pub ask_refuses_and_wants_no_refresh : ends_by (server_error ask_n2) ≡ (Some (by_server ask_n2), false)
unfolding first_error server_kind
ask_refuses_and_wants_no_refresh = refl

-- by a wrong rule, that of a query, the request goes on to the node that MOVED names
abbrev pub followed : List Exchange
followed = log_over (server_error moved_to_n2 ∷ []) (text (codes "1") ∷ []) (plain n1 get ∷ plain n2 get ∷ [])

pub a_redirect_is_not_followed : IsLegalCall on_halves [] at_n1 followed → ⊥
a_redirect_is_not_followed h = cc

pub it_would_be_followed_by_a_wrong_rule : PartByPart on_halves (goes_to n1 get ∷ []) followed
unfolding first_error is_utf8 chars encode server_kind
it_would_be_followed_by_a_wrong_rule = (refl, (refl, refl))

-- ---- lost

pub a_fault_refuses : kind on_halves [] a_fault at_n1 (log_of_n1 []) ≡ Some (by_cause Io)
a_fault_refuses = refl

pub a_fault_closes_its_node : links_after both (log_of_n1 []) ≡ n2 ∷ []
a_fault_closes_its_node = refl
