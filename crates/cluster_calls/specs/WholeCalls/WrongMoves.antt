-- Wrong rules for where others' steps stand on one server: each is `IsServed` without a clause, or with a
-- weaker one, and beside each stands a run that it lets through and that `IsServed` refuses. All steps here
-- are looks. So the keys refuse none of it, and only the rule can.
use Rattle.std.specs.Prelude.{◌≡◌, ℕ, ◌==◌, Bool, true, false, List, [], ◌∷◌, map, length, codes, refl, Ok}
use Rattle.std.proofs.Common.{ap, sym, lit<}
use Rattle.std.proofs.lemmas.Bool.{false≢true}
use Rattle.resp_core.specs.Trees.{Tree, nil}
use Rattle.resp_core.specs.Parts.{first_error}
use Rattle.std.specs.Fmt.{digits}
use Rattle.cluster_routing.specs.Combine.{array_of}
use Rattle.cluster_routing.specs.Examples.{first_node as n1, second_node as n2}
use Rattle.cluster_routing.specs.HashSlot.{hash_slot}
use Rattle.cluster_routing.specs.Lists.{concat, Pairwise}
use Rattle.cluster_routing.specs.Routing.{destination}
use Rattle.cluster_routing.specs.Split.{splitting_of}
use Rattle.cluster_routing.specs.Table.{rule_of, table}
use Rattle.cluster_calls.specs.Calls.Answer.{Value}
use Rattle.cluster_calls.specs.OneServer.AmongOthers.{Turn, Own, Other, step_of, turns_on, CallTurns, while_made, run_turns, TurnsLead, HonestAmongOthers, are_on_one_slot, ServedCall, IsServed, calls_were, calls_now}
use Rattle.cluster_calls.specs.OneServer.Commands.{counting, IsAnswerBy}
use Rattle.cluster_calls.specs.OneServer.Headline.{RepliedCall, with_replies}
use Rattle.cluster_calls.specs.OneServer.Keyspace.{Keyspace, Whole, PartOf, Step}
use Rattle.cluster_calls.specs.OneServer.Meaning.{Meaning, DoOperation, DoAll}
use Rattle.cluster_calls.specs.OneServer.Operations.{RunCommand, Reply}
use Rattle.cluster_calls.specs.WholeCalls.Base.{taken, plain, text, one, query}
use Rattle.cluster_calls.specs.WholeCalls.Deeds.{does, was_done, tuple_done, in_its_place}
use Rattle.cluster_calls.specs.WholeCalls.KeyRuns.{get_a, slot_a, slot_b, gets_a, gets_b, none_done, a_and_b, answered, get_a_done}
use Rattle.cluster_calls.specs.WholeCalls.RunsAmongOthers.{one_get}
use Rattle.cluster_calls.specs.WholeCalls.Splits.{mget_of, item}
use Rattle.cluster_calls.specs.WholeCalls.TurnsOnSlots.{same_on_each, looks_lead}
use Rattle.cluster_calls.specs.WholeCalls.WrongServers.{reply_byte}

-- ---- the wrong rules: all have the operations and the answer

-- a call does its operations and has its answer
abbrev pub DoesAndAnswers : Meaning → (ℕ → Bool) → RepliedCall → ServedCall → Type 0
DoesAndAnswers meaning done t s = DoAll meaning (counting done t.call t.answer t.log) s.now.own s.responses
    × IsAnswerBy done t.call t.log t.answer s.responses

-- nothing says that others' steps before the call stay there
pub record WithoutBefore (meaning : Meaning) (done : ℕ → Bool) (t : RepliedCall)
    (s : ServedCall) : Type 0 where
  pub told : DoesAndAnswers meaning done t s
  pub same : (slot : ℕ) → turns_on slot (while_made s.now) ≡ turns_on slot (while_made s.was)
  pub in_place : are_on_one_slot (concat s.was.own) ≡ true → while_made s.now ≡ while_made s.was

-- nothing says that all stays as it was on each slot
pub record WithoutSame (meaning : Meaning) (done : ℕ → Bool) (t : RepliedCall) (s : ServedCall) : Type 0 where
  pub told : DoesAndAnswers meaning done t s
  pub before : s.now.before ≡ s.was.before
  pub in_place : are_on_one_slot (concat s.was.own) ≡ true → while_made s.now ≡ while_made s.was

-- nothing says that all stays as it was where the call is on one slot
pub record WithoutInPlace (meaning : Meaning) (done : ℕ → Bool) (t : RepliedCall)
    (s : ServedCall) : Type 0 where
  pub told : DoesAndAnswers meaning done t s
  pub before : s.now.before ≡ s.was.before
  pub same : (slot : ℕ) → turns_on slot (while_made s.now) ≡ turns_on slot (while_made s.was)

-- these calls are served as the rule says, and lead from the keys to the keys: `AsOneServerAmongOthers`, if
-- the rule is `IsServed`
pub record ServedBy (Rule : RepliedCall → ServedCall → Type 0) (keys : Keyspace) (ts : List RepliedCall)
    (calls : List CallTurns)
    (last : List Step) (keys' : Keyspace) (served : List ServedCall) : Type 0 where
  pub all : calls_were served ≡ calls
  pub each : Pairwise Rule ts served
  pub history : TurnsLead keys (run_turns (calls_now served) last) keys'

-- on each slot all stays as it was over the whole run, but not call by call
pub record SameOverTheRun (meaning : Meaning) (keys : Keyspace) (done : ℕ → Bool) (ts : List RepliedCall)
    (calls : List CallTurns)
    (last : List Step) (keys' : Keyspace) (served : List ServedCall) : Type 0 where
  pub served_by : ServedBy (DoesAndAnswers meaning done) keys ts calls last keys' served
  pub same : (slot : ℕ)
      → turns_on slot (run_turns (calls_now served) last) ≡ turns_on slot (run_turns calls last)

-- ---- a run: MGET a b in two parts, and then GET a

abbrev pub mget_ab : List (List ℕ)
mget_ab = codes "MGET" ∷ codes "a" ∷ codes "b" ∷ []

abbrev pub one_and_two : Tree
one_and_two = array_of (text (codes "1") ∷ text (codes "2") ∷ [])

abbrev pub mget_and_get : List RepliedCall
mget_and_get = with_replies
    (taken (item (text (codes "2")) ∷ []) (item (text (codes "1")) ∷ text (codes "1") ∷ []))
    (answered mget_ab one_and_two (plain n2 (mget_of (codes "a")) ∷ plain n1 (mget_of (codes "b")) ∷ [])
    ∷ answered get_a (text (codes "1")) (plain n2 get_a ∷ [])
    ∷ [])

abbrev pub looks_a : Step
looks_a = does (PartOf (codes "MGET") (codes "a" ∷ []) []) slot_a (text (codes "1")) (codes "1") (codes "1")

abbrev pub looks_b : Step
looks_b = does (PartOf (codes "MGET") (codes "b" ∷ []) []) slot_b (text (codes "2")) (codes "2") (codes "2")

abbrev pub looks : Meaning
looks = looks_a ∷ looks_b ∷ gets_a ∷ []

-- another client finds no c before the MGET, and between its parts finds a at 1 and asks whether a exists
abbrev pub slot_c : ℕ
slot_c = 7365

abbrev pub finds_no_c : Step
finds_no_c = does (Whole (codes "GET" ∷ codes "c" ∷ [])) slot_c nil [] []

abbrev pub finds_a : Step
finds_a = gets_a

abbrev pub asks_for_a : Step
asks_for_a = does (Whole (codes "EXISTS" ∷ codes "a" ∷ [])) slot_a one (codes "1") (codes "1")

abbrev pub mget_was : CallTurns
mget_was = record {
  before = finds_no_c ∷ [];
  during = [] ∷ (finds_a ∷ asks_for_a ∷ []) ∷ [];
  own = (looks_a ∷ []) ∷ (looks_b ∷ []) ∷ [];
}

abbrev pub get_was : CallTurns
get_was = record { before = []; during = []; own = (gets_a ∷ []) ∷ [] }

abbrev pub calls_made : List CallTurns
calls_made = mget_was ∷ get_was ∷ []

pub mget_a_done : DoOperation (RunCommand (mget_of (codes "a"))) (looks_a ∷ [])
    (Reply (item (text (codes "1"))))
unfolding destination rule_of table hash_slot splitting_of digits first_error
mget_a_done = (item (text (codes "1")), refl, ((tuple_done refl refl refl, tt), refl))

pub mget_b_done : DoOperation (RunCommand (mget_of (codes "b"))) (looks_b ∷ [])
    (Reply (item (text (codes "2"))))
unfolding destination rule_of table hash_slot splitting_of digits first_error
mget_b_done = (item (text (codes "2")), refl, ((tuple_done refl refl refl, tt), refl))

pub mget_done : DoOperation (RunCommand mget_ab) (looks_a ∷ looks_b ∷ []) (Reply one_and_two)
unfolding destination rule_of table hash_slot splitting_of digits first_error
mget_done = (one_and_two, refl, ((tuple_done refl refl refl, (tuple_done refl refl refl, tt)), refl))

pub the_run_is_honest : HonestAmongOthers looks a_and_b none_done mget_and_get calls_made [] a_and_b
unfolding first_error
the_run_is_honest = record {
  requests = (
    (
      was_done (Reply (item (text (codes "1")))) refl mget_a_done ((0, lit< tt, refl), tt),
      (
        was_done (Reply (item (text (codes "2")))) refl mget_b_done ((1, lit< tt, refl), tt),
        tt,
      ),
    ),
    (
      (
        was_done (Reply (text (codes "1"))) refl get_a_done ((2, lit< tt, refl), tt),
        tt,
      ),
      tt,
    ),
  );
  history = looks_lead a_and_b (map step_of (run_turns calls_made []))
      ((refl, refl), ((refl, refl), ((refl, refl), ((refl, refl), ((refl, refl), ((refl, refl), tt))))));
}

-- ---- on one server

-- this run, served so by a rule
abbrev pub ServesTheRun : (RepliedCall → ServedCall → Type 0) → List ServedCall → Type 0
ServesTheRun Rule served = ServedBy Rule a_and_b mget_and_get calls_made [] a_and_b served

-- all that is done on one server leads from these keys to the same ones
abbrev pub LeadsToItself : List ServedCall → Type 0
LeadsToItself served = TurnsLead a_and_b (run_turns (calls_now served) []) a_and_b

-- the MGET whole, with these looks before it and these behind it
abbrev pub mget_now : List Step → List Step → ServedCall
mget_now before behind = record {
  was = mget_was;
  now = record { before = before; during = [] ∷ behind ∷ []; own = (looks_a ∷ looks_b ∷ []) ∷ [] };
  responses = Reply one_and_two ∷ [];
}

abbrev pub get_now : List Step → ServedCall
get_now before = record {
  was = get_was;
  now = record { before = before; during = []; own = (gets_a ∷ []) ∷ [] };
  responses = Reply (text (codes "1")) ∷ [];
}

-- each call does its operations on one server, and has its answer
mget_told : DoAll looks (RunCommand mget_ab ∷ []) ((looks_a ∷ looks_b ∷ []) ∷ []) (Reply one_and_two ∷ [])
    × IsAnswerBy none_done (query mget_ab) [] (Ok (Value one_and_two)) (Reply one_and_two ∷ [])
mget_told = (
  ((mget_done, ((0, lit< tt, refl), ((1, lit< tt, refl), tt))), tt),
  (one_and_two, refl, refl),
)

get_told : DoAll looks (RunCommand get_a ∷ []) ((gets_a ∷ []) ∷ []) (Reply (text (codes "1")) ∷ [])
    × IsAnswerBy none_done (query get_a) [] (Ok (Value (text (codes "1")))) (Reply (text (codes "1")) ∷ [])
get_told = (((get_a_done, ((2, lit< tt, refl), tt)), tt), (text (codes "1"), refl, refl))

-- the own steps of MGET a b are on two slots
mget_is_on_two : {P : Type 0} → are_on_one_slot (looks_a ∷ looks_b ∷ []) ≡ true → P
mget_is_on_two e = absurd (false≢true e)

-- ---- as it should be

abbrev pub as_it_should_be : List ServedCall
as_it_should_be = mget_now (finds_no_c ∷ []) (finds_a ∷ asks_for_a ∷ []) ∷ get_now [] ∷ []

abbrev mget_turns : List Step → List Turn
mget_turns behind = Own looks_a ∷ Own looks_b ∷ map Other behind

abbrev mget_turns_were : List Turn
mget_turns_were = Own looks_a ∷ Other finds_a ∷ Other asks_for_a ∷ Own looks_b ∷ []

mget_same : (slot : ℕ)
    → turns_on slot (mget_turns (finds_a ∷ asks_for_a ∷ [])) ≡ turns_on slot mget_turns_were
mget_same = same_on_each (slot_a ∷ slot_b ∷ [])
    (mget_turns (finds_a ∷ asks_for_a ∷ [])) mget_turns_were refl refl (refl, (refl, tt))

pub so_it_is_served : ServesTheRun (IsServed looks none_done) as_it_should_be
so_it_is_served = record {
  all = refl;
  each = (
    record {
      operations = mget_told.0;
      answer = mget_told.1;
      before = refl;
      same = mget_same;
      in_place = mget_is_on_two;
    },
    (in_its_place get_told.0 get_told.1, tt),
  );
  history = looks_lead a_and_b (map step_of (run_turns (calls_now as_it_should_be) []))
      ((refl, refl), ((refl, refl), ((refl, refl), ((refl, refl), ((refl, refl), ((refl, refl), tt))))));
}

-- ---- a look that is left out, doubled, or moved past another look on its slot: `same` refuses it

abbrev pub with_looks : List Step → List ServedCall
with_looks behind = mget_now (finds_no_c ∷ []) behind ∷ get_now [] ∷ []

abbrev pub left_out : List ServedCall
left_out = with_looks (finds_a ∷ [])

abbrev pub doubled : List ServedCall
doubled = with_looks (finds_a ∷ finds_a ∷ asks_for_a ∷ [])

abbrev pub moved_past : List ServedCall
moved_past = with_looks (asks_for_a ∷ finds_a ∷ [])

-- without `same` any looks that the keys allow will do
pub any_looks_without_same : (behind : List Step) → LeadsToItself (with_looks behind)
    → ServesTheRun (WithoutSame looks none_done) (with_looks behind)
any_looks_without_same behind leads = record {
  all = refl;
  each = (
    record { told = mget_told; before = refl; in_place = mget_is_on_two },
    (record { told = get_told; before = refl; in_place = λ e. refl }, tt),
  );
  history = leads;
}

pub left_out_without_same : ServesTheRun (WithoutSame looks none_done) left_out
left_out_without_same = any_looks_without_same (finds_a ∷ [])
    (looks_lead a_and_b (map step_of (run_turns (calls_now left_out) []))
    ((refl, refl), ((refl, refl), ((refl, refl), ((refl, refl), ((refl, refl), tt))))))

pub doubled_without_same : ServesTheRun (WithoutSame looks none_done) doubled
doubled_without_same = any_looks_without_same (finds_a ∷ finds_a ∷ asks_for_a ∷ [])
    (looks_lead a_and_b (map step_of (run_turns (calls_now doubled) [])) (
      (refl, refl),
      (
        (refl, refl),
        ((refl, refl), ((refl, refl), ((refl, refl), ((refl, refl), ((refl, refl), tt))))),
      ),
    ))

pub moved_past_without_same : ServesTheRun (WithoutSame looks none_done) moved_past
moved_past_without_same = any_looks_without_same (asks_for_a ∷ finds_a ∷ [])
    (looks_lead a_and_b (map step_of (run_turns (calls_now moved_past) []))
    ((refl, refl), ((refl, refl), ((refl, refl), ((refl, refl), ((refl, refl), ((refl, refl), tt)))))))

pub left_out_is_refused : ServesTheRun (IsServed looks none_done) left_out → ⊥
left_out_is_refused h = false≢true (ap (λ q. length q == 3) (h.each.0.same slot_a))

pub doubled_is_refused : ServesTheRun (IsServed looks none_done) doubled → ⊥
doubled_is_refused h = false≢true (ap (λ q. length q == 3) (h.each.0.same slot_a))

-- the first byte of what the second of these turns responds
abbrev second_byte : List Turn → ℕ
second_byte (x ∷ y ∷ ts) = reply_byte (step_of y).response
second_byte ts = 0

pub moved_past_is_refused : ServesTheRun (IsServed looks none_done) moved_past → ⊥
moved_past_is_refused h = false≢true (ap (λ q. second_byte q == 49) (h.each.0.same slot_a))

-- ---- a look that is moved out of the time of its call, from before the MGET to behind it: `before` refuses
--   it

abbrev pub out_of_time : List ServedCall
out_of_time = mget_now [] (finds_a ∷ asks_for_a ∷ []) ∷ get_now (finds_no_c ∷ []) ∷ []

out_of_time_leads : LeadsToItself out_of_time
out_of_time_leads = looks_lead a_and_b (map step_of (run_turns (calls_now out_of_time) []))
    ((refl, refl), ((refl, refl), ((refl, refl), ((refl, refl), ((refl, refl), ((refl, refl), tt))))))

pub out_of_time_without_before : ServesTheRun (WithoutBefore looks none_done) out_of_time
out_of_time_without_before = record {
  all = refl;
  each = (
    record { told = mget_told; same = mget_same; in_place = mget_is_on_two },
    (record { told = get_told; same = λ slot. refl; in_place = λ e. refl }, tt),
  );
  history = out_of_time_leads;
}

-- over the whole run each slot has the same turns all the same
pub out_of_time_with_same_over_the_run : SameOverTheRun looks a_and_b none_done mget_and_get calls_made
    [] a_and_b out_of_time
out_of_time_with_same_over_the_run = record {
  served_by = record {
    all = refl;
    each = (mget_told, (get_told, tt));
    history = out_of_time_leads;
  };
  same = same_on_each (slot_a ∷ slot_b ∷ slot_c ∷ []) (run_turns (calls_now out_of_time) [])
      (run_turns calls_made []) refl refl (refl, (refl, (refl, tt)));
}

pub out_of_time_is_refused : ServesTheRun (IsServed looks none_done) out_of_time → ⊥
out_of_time_is_refused h = false≢true (ap (λ q. length q == 1) h.each.0.before)

-- ---- a look on another slot that is moved past a call on one slot: `in_place` refuses it

-- GET a, while another client finds b before it
abbrev pub get_behind_a_look : CallTurns
get_behind_a_look = record { before = []; during = (gets_b ∷ []) ∷ []; own = (gets_a ∷ []) ∷ [] }

abbrev pub get_before_a_look : CallTurns
get_before_a_look = record { before = []; during = [] ∷ (gets_b ∷ []) ∷ []; own = (gets_a ∷ []) ∷ [] }

abbrev pub out_of_place : List ServedCall
out_of_place = record
    { was = get_behind_a_look; now = get_before_a_look; responses = Reply (text (codes "1")) ∷ [] } ∷ []

pub out_of_place_without_in_place : ServedBy (WithoutInPlace looks none_done) a_and_b one_get
    (get_behind_a_look ∷ []) [] a_and_b out_of_place
out_of_place_without_in_place = record {
  all = refl;
  each = (
    record {
      told = get_told;
      before = refl;
      same = same_on_each (slot_a ∷ slot_b ∷ []) (Own gets_a ∷ Other gets_b ∷ [])
          (Other gets_b ∷ Own gets_a ∷ []) refl refl (refl, (refl, tt));
    },
    tt,
  );
  history = looks_lead a_and_b (gets_a ∷ gets_b ∷ []) ((refl, refl), ((refl, refl), tt));
}

abbrev begins_with_own : List Turn → Bool
begins_with_own (Own x ∷ ts) = true
begins_with_own ts = false

pub out_of_place_is_refused : ServedBy (IsServed looks none_done) a_and_b one_get (get_behind_a_look ∷ [])
    [] a_and_b out_of_place → ⊥
out_of_place_is_refused h = false≢true (sym (ap begins_with_own (h.each.0.in_place refl)))
