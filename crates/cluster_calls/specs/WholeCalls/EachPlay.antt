-- The run of `MixedEach`, played: the links of its two nodes from the first byte to the last, its link calls,
-- and the client before and behind.
use Rattle.std.specs.Prelude.{◌≡◌, true, false, List, [], ◌∷◌, map, Option, None, Result, Ok, Err, codes, refl}
use Rattle.std.specs.Fmt.{digits}
use Rattle.std.proofs.Common.{ap, sym, subst}
use Rattle.resp_core.specs.Errors.{Refusal, at_position, by_server, server_kind}
use Rattle.resp_core.specs.Parts.{first_error}
use Rattle.resp_core.specs.Trees.{nil, okay, server_error}
use Rattle.resp_link.specs.Call.{Seen}
use Rattle.cluster_routing.specs.Choice.{Strategy}
use Rattle.cluster_routing.specs.Examples.{first_node as n1, second_node as n2}
use Rattle.cluster_routing.specs.HashSlot.{hash_slot}
use Rattle.cluster_routing.specs.Routing.{destination}
use Rattle.cluster_routing.specs.Split.{splitting_of}
use Rattle.cluster_routing.specs.Table.{rule_of, table}
use Rattle.cluster_calls.specs.Links.EachMade.{EachAnswered, EachMade, refusals_of}
use Rattle.cluster_calls.specs.Links.Events.{Event, fails, exchanges_of}
use Rattle.cluster_calls.specs.Links.Faults.{io}
use Rattle.cluster_calls.specs.Links.Play.{Plays, shown_of}
use Rattle.cluster_calls.specs.Links.Request.{Request, bytes_of}
use Rattle.cluster_calls.specs.Links.World.{World}
use Rattle.cluster_calls.specs.Calls.Call.{Entry}
use Rattle.cluster_calls.specs.Calls.Each.{each_of}
use Rattle.cluster_calls.specs.Calls.EachInParts.{AreOutcomesOf}
use Rattle.cluster_calls.specs.Calls.InParts.{in_parts, splits_in}
use Rattle.cluster_calls.specs.Calls.Plan.{Dispatch}
use Rattle.cluster_calls.specs.OneServer.Headline.{PlayedCall, AsOneServer}
use Rattle.cluster_calls.specs.OneServer.Played.{replied, HonestCluster}
use Rattle.cluster_calls.specs.WholeCalls.Base.{plain, goes_to, one}
use Rattle.cluster_calls.specs.WholeCalls.EachRuns.{Outcome, lost_link}
use Rattle.cluster_calls.specs.WholeCalls.EachSplits.{del_a, del_b}
use Rattle.cluster_calls.specs.WholeCalls.KeyRuns.{set_a, get_a, get_b, none_done, only_b}
use Rattle.cluster_calls.specs.WholeCalls.MixedEach.{set_d, moved_d, each_entries, to_n1, first_to_n2, each_calls, may, behind}
use Rattle.cluster_calls.specs.WholeCalls.MixedPlay.{link, ended_link, world, replies_to}
use Rattle.cluster_calls.specs.WholeCalls.Pipelines.{entry}

-- ---- links: n1's ends before it replies

abbrev pub to_n2 : List Request
to_n2 = plain n2 set_a ∷ plain n2 set_d ∷ plain n2 del_a ∷ plain n2 get_a ∷ []

pub n1_gets : bytes_of to_n1 ≡ codes "*2\r\n$3\r\nGET\r\n$1\r\nb\r\n*2\r\n$3\r\nDEL\r\n$1\r\nb\r\n"
unfolding digits
n1_gets = refl

pub n2_gets : bytes_of to_n2
    ≡ codes "*3\r\n$3\r\nSET\r\n$1\r\na\r\n$1\r\n1\r\n*3\r\n$3\r\nSET\r\n$1\r\nd\r\n$1\r\n1\r\n*2\r\n$3\r\nDEL\r\n$1\r\na\r\n*2\r\n$3\r\nGET\r\n$1\r\na\r\n"
unfolding digits
n2_gets = refl

abbrev pub n1_0 : Seen
n1_0 = link [] [] 0

abbrev pub n1_1 : Seen
n1_1 = ended_link (bytes_of to_n1) 1

abbrev pub n2_0 : Seen
n2_0 = link [] (codes "+OK\r\n-MOVED 11298 n1:7001\r\n:1\r\n$-1\r\n") 0

abbrev pub n2_1 : Seen
n2_1 = link (bytes_of first_to_n2) (codes "$-1\r\n") 1

abbrev pub n2_2 : Seen
n2_2 = link (bytes_of to_n2) [] 2

-- ---- clients

abbrev pub at_first : World
at_first = world n1_0 n2_0 false

-- MOVED wants a refresh
abbrev pub one_lost : World
one_lost = world n1_1 n2_1 true

abbrev pub at_last : World
at_last = world n1_1 n2_2 true

-- ---- link calls

abbrev pub by_each : List Event
by_each = record { node = n1; requests = to_n1; taken = []; ending = fails io }
    ∷ replies_to n2 first_to_n2 (okay ∷ server_error moved_d ∷ one ∷ []) ∷ []

abbrev pub by_get : List Event
by_get = replies_to n2 (plain n2 get_a ∷ []) (nil ∷ []) ∷ []

-- ---- the statement

-- These two calls are all that was played, from `at_first` to `at_last`; the cluster is honest over them; and
-- they are as on one server.
abbrev pub EachIsPlayedWhole : Type 0
EachIsPlayedWhole =
    (played : Plays None at_first at_last (map (λ (t : PlayedCall). t.call) each_calls) []
    (map shown_of each_calls) true)
    × (played.run ≡ each_calls) × HonestCluster played may only_b none_done behind
    × AsOneServer may only_b none_done (replied played) behind

-- ---- what may not be told of it: that GET b, whose link call failed, was answered

abbrev pub other_outcomes : List Outcome
other_outcomes = Ok nil ∷ Ok okay ∷ Err (by_server moved_d) ∷ lost_link ∷ []

abbrev pub each_dispatches : List Dispatch
each_dispatches = goes_to n1 get_b ∷ goes_to n2 set_a ∷ goes_to n2 set_d ∷ goes_to n2 del_a
    ∷ goes_to n1 del_b ∷ []

abbrev pub dispatches_in : Result (List Dispatch) Refusal → List Dispatch
dispatches_in (Ok ds) = ds
dispatches_in (Err refusal) = []

abbrev pub AreToldBy : List Outcome → List Dispatch → Type 0
AreToldBy outcomes ds = AreOutcomesOf (splits_in each_entries)
    (each_of (refusals_of by_each) ds (exchanges_of 0 by_each)) outcomes

pub a_lost_position_is_not_answered : (new : World)
    → EachAnswered None at_first new (in_parts each_entries) by_each
    (λ each. AreOutcomesOf (splits_in each_entries) each other_outcomes) → ⊥
unfolding destination rule_of table hash_slot splitting_of digits first_error server_kind
a_lost_position_is_not_answered new a =
    let e : each_dispatches ≡ a.dispatches = ap dispatches_in a.planned in
    let h : AreToldBy other_outcomes each_dispatches = subst (AreToldBy other_outcomes) (sym e) (a.each 0) in
    let f : lost_link ∷ [] ≡ Ok nil ∷ [] = h.0 in cc

-- ---- a refused pipeline leaves the client as it was, and the log empty

pub a_refused_one_leaves_the_client : EachMade None at_first at_first (entry (codes "TIME" ∷ []) ∷ [])
    (Err (at_position 0))
unfolding destination rule_of table hash_slot splitting_of digits
a_refused_one_leaves_the_client = record {
  happened = record {
    events = [];
    runs = refl;
    logged = refl;
    calls = λ node. refl;
    entries = refl;
    settings = refl;
    flag = refl;
  };
  told = record { stays = refl; refused = λ had. refl };
}

pub it_has_no_requests : (strategy : Option Strategy) (old new : World) (entries : List Entry)
    (refusal : Refusal) (q : Request) (qs : List Request) → new.log ≡ q ∷ qs
    → EachMade strategy old new entries (Err refusal) → ⊥
it_has_no_requests strategy old new entries refusal q qs some made =
    let none : new.log ≡ [] = ap (λ (w : World). w.log) made.told.stays in cc
