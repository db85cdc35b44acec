-- Runs gone wrong on the client's side: no clause of what `play` promises lets them pass. Beside each stands
-- a right one.
use Rattle.std.specs.Prelude.{◌≡◌, ◌==◌, ℕ, Bool, true, false, List, [], ◌∷◌, ◌++◌, map, length, Option, None, Ok, Err, codes, refl}
use Rattle.std.specs.Fmt.{digits}
use Rattle.std.proofs.Common.{ap, sym, ◌∙◌}
use Rattle.std.proofs.lemmas.Bool.{false≢true}
use Rattle.resp_core.specs.Trees.{Tree, okay}
use Rattle.resp_core.specs.Errors.{by_cause, by_server, server_kind}
use Rattle.resp_core.specs.Parts.{first_error}
use Rattle.resp_core.specs.declared.errors.redis_error.Cause.TheVariants.{Io, Memory}
use Rattle.cluster_routing.specs.Choice.{Strategy}
use Rattle.cluster_routing.specs.HashSlot.{hash_slot}
use Rattle.cluster_routing.specs.Lists.{concat}
use Rattle.cluster_routing.specs.Routing.{destination}
use Rattle.cluster_routing.specs.Split.{splitting_of}
use Rattle.cluster_routing.specs.Table.{rule_of, table}
use Rattle.cluster_routing.specs.Examples.{first_node as n1, second_node as n2}
use Rattle.stream_commands.specs.Commands.{plain_command}
use Rattle.cluster_calls.specs.Links.Request.{Request}
use Rattle.cluster_calls.specs.Links.Events.{Event}
use Rattle.cluster_calls.specs.Links.Faults.{LinkFault}
use Rattle.resp_link.specs.Call.{Seen}
use Rattle.cluster_calls.specs.Links.Nodes.{IsSentFor, NodeMade}
use Rattle.cluster_calls.specs.Links.Play.{Plays, Shown, shown_of}
use Rattle.cluster_calls.specs.Links.Run.{CallsMade, HadMemory}
use Rattle.cluster_calls.specs.Links.World.{World}
use Rattle.cluster_calls.specs.Calls.Answer.{Value}
use Rattle.cluster_calls.specs.Calls.Call.{Call, Refresh, Query, FanOut}
use Rattle.cluster_calls.specs.Calls.Legal.{IsLegalCall}
use Rattle.cluster_calls.specs.OneServer.Commands.{is_on_slots}
use Rattle.cluster_calls.specs.OneServer.SentLists.{AreReadOf, commands_of}
use Rattle.cluster_calls.specs.OneServer.Headline.{PlayedCall, RepliedCall, with_replies, IsPlayedFrom}
use Rattle.cluster_calls.specs.WholeCalls.Base.{on_halves, a_fault, taken, query, plain, log_over, text, one, error, error_text}
use Rattle.cluster_calls.specs.WholeCalls.KeyRuns.{set_a, get_a, get_b, played, answered, three_calls}
use Rattle.cluster_calls.specs.WholeCalls.MixedRun.{del}
use Rattle.cluster_calls.specs.WholeCalls.WrongCounts.{half_refused}

-- ---- an answer that the replies do not make: OK, where "1" was replied

abbrev pub other_answer : List RepliedCall
other_answer = with_replies (taken [] (text (codes "1") ∷ []))
    (answered get_a okay (plain n2 get_a ∷ []) ∷ [])

pub an_answer_is_what_was_replied : IsPlayedFrom None on_halves a_fault other_answer → ⊥
unfolding destination rule_of table hash_slot splitting_of digits first_error
an_answer_is_what_was_replied h = let e : Ok (Value okay) ≡ Ok (Value (text (codes "1"))) = h.2 in cc

-- ---- a refusal of another kind: by the link, where a node refused

pub a_refusal_by_a_node : IsPlayedFrom None on_halves a_fault half_refused
unfolding destination rule_of table hash_slot splitting_of digits first_error server_kind
a_refusal_by_a_node = (refl, (refl, (refl, refl)), refl, tt)

abbrev pub other_refusal : List RepliedCall
other_refusal = with_replies (taken (error (codes "TRYAGAIN") (codes "x") ∷ []) (one ∷ []))
    (played (del (codes "a" ∷ codes "b" ∷ [])) (Err (by_cause Io))
    (plain n2 (del (codes "a" ∷ [])) ∷ plain n1 (del (codes "b" ∷ [])) ∷ []) ∷ [])

pub is_none_by_its_link : IsPlayedFrom None on_halves a_fault other_refusal → ⊥
unfolding destination rule_of table hash_slot splitting_of digits first_error server_kind
is_none_by_its_link h = let e : Err (by_cause Io)
    ≡ Err (by_server (error_text (codes "TRYAGAIN") (codes "x"))) = h.2 in cc

-- ---- a log that is handed to the next call: GET a shows the request of SET a too

abbrev pub handed_on : List RepliedCall
handed_on = with_replies (taken [] (okay ∷ okay ∷ text (codes "1") ∷ []))
    (answered set_a okay (plain n2 set_a ∷ [])
    ∷ answered get_a (text (codes "1")) (plain n2 set_a ∷ plain n2 get_a ∷ []) ∷ [])

pub a_log_is_its_calls_own : IsPlayedFrom None on_halves a_fault handed_on → ⊥
unfolding destination rule_of table hash_slot splitting_of digits first_error
a_log_is_its_calls_own h = let e : plain n2 set_a ≡ plain n2 get_a = h.3.1.0
    in false≢true (ap (λ (q : Request). length q.args == 2) e)

-- ---- an answer without a request

abbrev pub unasked : List RepliedCall
unasked = with_replies (taken [] []) (answered get_a (text (codes "1")) [] ∷ [])

pub an_answer_wants_a_request : IsPlayedFrom None on_halves a_fault unasked → ⊥
unfolding destination rule_of table hash_slot splitting_of digits first_error
an_answer_wants_a_request h = absurd h.1

-- ---- a request to a node that does not serve the slot

pub a_request_goes_to_its_slots_node : IsLegalCall on_halves [] (query get_a)
    (log_over [] (text (codes "1") ∷ []) (plain n2 get_a ∷ []))
unfolding destination rule_of table hash_slot splitting_of digits first_error
a_request_goes_to_its_slots_node = (refl, refl)

pub and_to_no_other : IsLegalCall on_halves [] (query get_a)
    (log_over (text (codes "1") ∷ []) [] (plain n1 get_a ∷ [])) → ⊥
unfolding destination rule_of table hash_slot splitting_of digits first_error
and_to_no_other h = let e : plain n1 get_a ≡ plain n2 get_a = h.0
    in false≢true (ap (λ (q : Request). q.node.port == 7002) e)

-- ---- a link that failed, and is used by the next call

abbrev pub failed_then : List PlayedCall → List RepliedCall
failed_then later = with_replies (taken [] [])
    (played get_a (Err (by_cause Io)) (plain n2 get_a ∷ []) ∷ later)

pub a_failed_link_refuses : IsPlayedFrom None on_halves a_fault (failed_then [])
unfolding destination rule_of table hash_slot splitting_of digits first_error
a_failed_link_refuses = (refl, (refl, refl), refl, tt)

pub and_stays_closed : IsPlayedFrom None on_halves a_fault
    (failed_then (played get_a (Err (by_cause Io)) (plain n2 get_a ∷ []) ∷ [])) → ⊥
unfolding destination rule_of table hash_slot splitting_of digits first_error
and_stays_closed h = let e = h.3.1 in cc

-- ---- calls that are left out, shown twice, or forgotten, whatever the client

pub three_are_the_calls : query set_a ∷ query get_a ∷ query get_b ∷ []
    ≡ map (λ (p : PlayedCall). p.call) three_calls ++ []
three_are_the_calls = refl

abbrev pub argument_count : Call → ℕ
argument_count (Query command number) = length command.args
argument_count call = 0

pub another_call_is_not_the_first : (left : List Call)
    → query get_a ∷ left ≡ map (λ (p : PlayedCall). p.call) three_calls → ⊥
another_call_is_not_the_first left first = let e : query get_a ≡ query set_a = cc
    in false≢true (sym (ap (λ c. argument_count c == 2) e))

pub a_call_is_not_left_out : (strategy : Option Strategy) (old new : World) (call : Call)
    → Plays strategy old new (call ∷ []) [] [] true → ⊥
a_call_is_not_left_out strategy old new call p = by p.run p.left p.first p.shown (p.whole refl)
  where
    by : (run : List PlayedCall) (left : List Call) → call ∷ [] ≡ map (λ (t : PlayedCall). t.call) run ++ left
        → [] ≡ map shown_of run → left ≡ [] → ⊥
    by [] left first shown whole = cc
    by (t ∷ ts) left first shown whole = cc

pub a_call_is_not_shown_twice : (strategy : Option Strategy) (old new : World) (call : Call) (a b : Shown)
    (all : Bool) → Plays strategy old new (call ∷ []) [] (a ∷ b ∷ []) all → ⊥
a_call_is_not_shown_twice strategy old new call a b all p = by p.run p.first p.shown
  where
    by : (run : List PlayedCall) → call ∷ [] ≡ map (λ (t : PlayedCall). t.call) run ++ p.left
        → a ∷ b ∷ [] ≡ map shown_of run → ⊥
    by [] first shown = cc
    by (t ∷ []) first shown = cc
    by (t ∷ u ∷ ts) first shown = cc

pub what_was_shown_is_not_forgotten : (strategy : Option Strategy) (old new : World) (calls : List Call)
    (shown : Shown) (all : Bool) → Plays strategy old new calls (shown ∷ []) [] all → ⊥
what_was_shown_is_not_forgotten strategy old new calls shown all p = let e = p.shown in cc

-- ---- a link call that is no call's

pub no_calls_have_no_link_calls : (strategy : Option Strategy) (world : World)
    → CallsMade strategy world world [] []
no_calls_have_no_link_calls strategy world = (refl, refl)

pub a_link_call_is_some_calls : (strategy : Option Strategy) (old new : World) (x : Event) (xs : List Event)
    → CallsMade strategy old new [] (x ∷ xs) → ⊥
a_link_call_is_some_calls strategy old new x xs h = let e = h.1 in cc

-- ---- bytes that went out twice

pub a_request_goes_out : IsSentFor false ((plain n2 get_a ∷ []) ∷ []) (codes "*2\r\n$3\r\nGET\r\n$1\r\na\r\n")
unfolding digits
a_request_goes_out = refl

pub a_request_goes_out_once : IsSentFor false ((plain n2 get_a ∷ []) ∷ [])
    (codes "*2\r\n$3\r\nGET\r\n$1\r\na\r\n*2\r\n$3\r\nGET\r\n$1\r\na\r\n") → ⊥
unfolding digits
a_request_goes_out_once e = false≢true (ap (λ q. length q == 20) e)

-- ---- bytes of a node whose write failed: its earlier link calls are read in their order, and then a front of the last

abbrev pub three_link_calls : List (List Request)
three_link_calls = (plain n2 get_a ∷ []) ∷ (plain n2 get_b ∷ []) ∷ (plain n2 set_a ∷ []) ∷ []

pub earlier_link_calls_are_read : AreReadOf true three_link_calls (get_a ∷ get_b ∷ []) (codes "*3\r\n$3\r\nSE")
unfolding digits
earlier_link_calls_are_read = (
  (plain n2 get_a ∷ []) ∷ (plain n2 get_b ∷ []) ∷ [],
  plain n2 set_a ∷ [],
  [],
  codes "T\r\n$1\r\na\r\n$1\r\n1\r\n",
  refl,
  refl,
  refl,
)

abbrev is_of_b : List (List (List ℕ)) → Bool
is_of_b ((name ∷ (byte ∷ bytes) ∷ args) ∷ commands) = byte == 98
is_of_b _ = false

pub and_in_no_other_order : (rest : List ℕ) → AreReadOf true three_link_calls (get_b ∷ get_a ∷ []) rest → ⊥
and_in_no_other_order rest h = by h.0 h.1 h.2 h.4 h.5
  where
    too_many : (x y z : List Request) (before : List (List Request)) (last : List Request)
        → three_link_calls ≡ x ∷ y ∷ z ∷ (before ++ last ∷ []) → ⊥
    too_many x y z [] last e = cc
    too_many x y z (w ∷ before) last e = cc

    by : (before : List (List Request)) (last : List Request) (more : List (List (List ℕ)))
        → three_link_calls ≡ before ++ last ∷ [] → get_b ∷ get_a ∷ [] ≡ commands_of (concat before) ++ more → ⊥
    by [] last more e f = cc
    by (x ∷ []) last more e f = cc
    by (x ∷ y ∷ []) last more e f =
        let first : x ≡ plain n2 get_a ∷ [] = cc in
        let of_a : get_b ∷ get_a ∷ [] ≡ get_a ∷ (commands_of (y ++ []) ++ more) =
        f ∙ ap (λ qs. commands_of (qs ++ (y ++ [])) ++ more) first in
        false≢true (sym (ap is_of_b of_a))
    by (x ∷ y ∷ z ∷ before) last more e f = too_many x y z before last e

-- ---- a node that changes without being asked, and one that is asked over a closed link

pub a_node_that_is_not_asked_stays : (old new : Seen) (taken : List Tree) (lost : Bool) (fault : LinkFault)
    → (new ≡ old → ⊥) → NodeMade old new [] taken lost fault → ⊥
a_node_that_is_not_asked_stays old new taken lost fault other made = other (made.untouched refl)

pub a_closed_link_is_not_asked : (old new : Seen) (q : Request) (taken : List Tree) (lost : Bool)
    (fault : LinkFault) → old.usable ≡ false → NodeMade old new ((q ∷ []) ∷ []) taken lost fault → ⊥
a_closed_link_is_not_asked old new q taken lost fault closed made = false≢true
    (sym closed ∙ made.was_open (λ e. cc))

-- ---- what is supposed: memory, and calls on slots

pub three_had_memory : HadMemory three_calls
three_had_memory = ((λ e. cc, tt), ((λ e. cc, tt), ((λ e. cc, tt), tt)))

pub a_call_without_memory_breaks_it : HadMemory (played get_a (Err (by_cause Memory)) [] ∷ []) → ⊥
a_call_without_memory_breaks_it h = h.0.0 refl

pub a_keyed_call_is_on_slots : is_on_slots (query get_a) ≡ true
unfolding destination rule_of table hash_slot splitting_of digits
a_keyed_call_is_on_slots = refl

pub a_refresh_is_too : is_on_slots (Refresh n1) ≡ true
a_refresh_is_too = refl

pub a_call_to_any_node_is_not : is_on_slots (query (codes "TIME" ∷ [])) ≡ false
unfolding destination rule_of table hash_slot splitting_of digits
a_call_to_any_node_is_not = refl

pub a_call_to_several_nodes_is_not : is_on_slots (FanOut (plain_command (codes "DBSIZE" ∷ []))) ≡ false
a_call_to_several_nodes_is_not = refl
