-- One run with a pipeline that tells of each position, and GET a behind it: all in one a node is lost before
-- it replies, the other is asked all the same, a redirect is not followed, and a split command is half done.
-- It is played legally, the nodes are honest, and it is as on one server.
use Rattle.std.specs.Prelude.{◌≡◌, ◌==◌, ℕ, Bool, true, false, cond, List, [], ◌∷◌, None, Ok, Err, codes, pos, refl}
use Rattle.std.specs.Fmt.{digits}
use Rattle.std.proofs.Common.{inr, lit<}
use Rattle.resp_core.specs.Errors.{by_server, server_kind}
use Rattle.resp_core.specs.Parts.{first_error}
use Rattle.resp_core.specs.Trees.{ErrorText, int, nil, okay, server_error}
use Rattle.cluster_routing.specs.Examples.{first_node as n1, second_node as n2}
use Rattle.cluster_routing.specs.HashSlot.{hash_slot}
use Rattle.cluster_routing.specs.Lists.{concat}
use Rattle.cluster_routing.specs.Routing.{destination}
use Rattle.cluster_routing.specs.Split.{splitting_of}
use Rattle.cluster_routing.specs.Table.{rule_of, table}
use Rattle.cluster_calls.specs.Links.Request.{Request}
use Rattle.cluster_calls.specs.Calls.Call.{Entry, Each}
use Rattle.cluster_calls.specs.OneServer.Headline.{PlayedCall, RepliedCall, with_replies, IsPlayedFrom, AreOnSlots, command_logs, AsOneServer}
use Rattle.cluster_calls.specs.OneServer.Honest.{HonestRun}
use Rattle.cluster_calls.specs.OneServer.Keyspace.{Keyspace, with_cell, Whole, PartOf, Step, History}
use Rattle.cluster_calls.specs.OneServer.Meaning.{Meaning, DoOperation, AreAllowed}
use Rattle.cluster_calls.specs.OneServer.Operations.{RunCommand, Reply}
use Rattle.cluster_calls.specs.WholeCalls.Base.{on_halves, a_fault, taken, plain, one, error_text}
use Rattle.cluster_calls.specs.WholeCalls.Deeds.{does, was_done, tuple_done, whole_done}
use Rattle.cluster_calls.specs.WholeCalls.EachRuns.{Outcome, told, lost_link}
use Rattle.cluster_calls.specs.WholeCalls.EachSplits.{del_ab, del_a, del_b}
use Rattle.cluster_calls.specs.WholeCalls.KeyRuns.{set_a, get_a, get_b, slot_a, slot_b, sets_a, none_done, only_b, answered, set_a_done}
use Rattle.cluster_calls.specs.WholeCalls.MixedRun.{dels_a, del_a_done}
use Rattle.cluster_calls.specs.WholeCalls.Pipelines.{entry}

-- ---- the calls

abbrev pub set_d : List (List ℕ)
set_d = codes "SET" ∷ codes "d" ∷ codes "1" ∷ []

abbrev pub slot_d : ℕ
slot_d = 11298

abbrev pub moved_d : ErrorText
moved_d = error_text (codes "MOVED") (codes "11298 n1:7001")

-- GET b, whose reply is lost; SET a 1, which is answered; SET d 1, which is not done, but sent on; DEL a b, of
-- which the part with a is answered, and the part with b is lost
abbrev pub each_entries : List Entry
each_entries = entry get_b ∷ entry set_a ∷ entry set_d ∷ entry del_ab ∷ []

abbrev pub each_outcomes : List Outcome
each_outcomes = lost_link ∷ Ok okay ∷ Err (by_server moved_d) ∷ lost_link ∷ []

-- what goes to each node in one go
abbrev pub to_n1 : List Request
to_n1 = plain n1 get_b ∷ plain n1 del_b ∷ []

abbrev pub first_to_n2 : List Request
first_to_n2 = plain n2 set_a ∷ plain n2 set_d ∷ plain n2 del_a ∷ []

abbrev pub each_told : PlayedCall
each_told = record {
  call = Each each_entries;
  picks = [];
  answer = told each_outcomes;
  log = plain n1 get_b ∷ plain n1 del_b ∷ first_to_n2;
}

abbrev pub no_a_found : PlayedCall
no_a_found = answered get_a nil (plain n2 get_a ∷ [])

abbrev pub each_calls : List PlayedCall
each_calls = each_told ∷ no_a_found ∷ []

abbrev pub each_replied : List RepliedCall
each_replied = with_replies (taken [] (okay ∷ server_error moved_d ∷ one ∷ nil ∷ [])) each_calls

pub they_are_played : IsPlayedFrom None on_halves a_fault each_replied
unfolding destination rule_of table hash_slot splitting_of digits first_error server_kind
they_are_played = (refl, refl, refl, (refl, (refl, refl), refl, tt))

pub they_are_on_slots : AreOnSlots each_replied
unfolding destination rule_of table hash_slot splitting_of digits
they_are_on_slots = (refl, (refl, tt))

-- ---- the nodes: they hold b alone, and might do all of it

abbrev pub dels_b : Step
dels_b = does (PartOf (codes "DEL") (codes "b" ∷ []) []) slot_b one (codes "2") []

abbrev pub sets_d : Step
sets_d = does (Whole set_d) slot_d okay [] (codes "1")

abbrev pub finds_no_a : Step
finds_no_a = does (Whole get_a) slot_a nil [] []

abbrev pub may : Meaning
may = sets_a ∷ dels_a ∷ finds_no_a ∷ dels_b ∷ sets_d ∷ []

pub sets_a_may : AreAllowed may (sets_a ∷ [])
sets_a_may = ((0, lit< tt, refl), tt)

pub dels_a_may : AreAllowed may (dels_a ∷ [])
dels_a_may = ((1, lit< tt, refl), tt)

pub no_a_done : DoOperation (RunCommand get_a) (finds_no_a ∷ []) (Reply nil)
unfolding destination rule_of table hash_slot splitting_of first_error
no_a_done = whole_done get_a slot_a nil [] [] refl refl refl

pub finds_no_a_may : AreAllowed may (finds_no_a ∷ [])
finds_no_a_may = ((2, lit< tt, refl), tt)

-- b stays, a came and went, and d was not set
abbrev pub behind : Keyspace
behind = with_cell (with_cell (with_cell only_b slot_a (codes "1")) slot_a []) slot_a []

abbrev pub each_steps : List (List Step)
each_steps = [] ∷ [] ∷ (sets_a ∷ []) ∷ [] ∷ (dels_a ∷ []) ∷ (finds_no_a ∷ []) ∷ []

pub they_are_honest : HonestRun may only_b none_done (command_logs each_replied) behind
unfolding first_error server_kind
they_are_honest = (
  each_steps,
  (
    refl,
    (
      refl,
      (
        was_done (Reply okay) refl set_a_done sets_a_may,
        (
          refl,
          (
            was_done (Reply one) refl del_a_done dels_a_may,
            (
              was_done (Reply nil) refl no_a_done finds_no_a_may,
              tt,
            ),
          ),
        ),
      ),
    ),
  ),
  (refl, (refl, (refl, λ slot. refl))),
)

-- ---- one server: it is given SET a 1, DEL a (what was done of DEL a b) and GET a

abbrev pub one_by_one : List (List Step)
one_by_one = (sets_a ∷ []) ∷ (dels_a ∷ []) ∷ (finds_no_a ∷ []) ∷ []

pub they_lead : History only_b (concat one_by_one) behind
they_lead = (refl, (refl, (refl, λ slot. refl)))

pub they_are_as_on_one_server : AsOneServer may only_b none_done each_replied behind
unfolding destination rule_of table hash_slot splitting_of digits first_error server_kind
they_are_as_on_one_server = record {
  responses = (Reply okay ∷ Reply one ∷ []) ∷ (Reply nil ∷ []) ∷ [];
  counts = (refl, (refl, tt));
  served = (
    one_by_one,
    ((set_a_done, sets_a_may), ((del_a_done, dels_a_may), ((no_a_done, finds_no_a_may), tt))),
    they_lead,
  );
  answers = (
    (each_outcomes, refl, (tt, (refl, (refl, (tt, refl))))),
    ((nil, refl, refl), tt),
  );
}

-- ---- or the lost half was done all the same: then the server is given DEL a b

abbrev pub b_was_done : ℕ → Bool
b_was_done place = place == 1

abbrev pub behind_all : Keyspace
behind_all = with_cell (with_cell
    (with_cell (with_cell only_b slot_b []) slot_a (codes "1")) slot_a []) slot_a []

pub del_b_done : DoOperation (RunCommand del_b) (dels_b ∷ []) (Reply one)
unfolding destination rule_of table hash_slot splitting_of digits first_error server_kind
del_b_done = (one, refl, ((tuple_done refl refl (inr refl), tt), refl))

pub it_may_have_been_done : HonestRun may only_b b_was_done (command_logs each_replied) behind_all
unfolding they_are_honest first_error server_kind
it_may_have_been_done = (
  [] ∷ (dels_b ∷ []) ∷ (sets_a ∷ []) ∷ [] ∷ (dels_a ∷ []) ∷ (finds_no_a ∷ []) ∷ [],
  (
    refl,
    (
      was_done (Reply one) tt del_b_done ((3, lit< tt, refl), tt),
      they_are_honest.1.1.1,
    ),
  ),
  (refl, (refl, (refl, (refl, λ slot. refl)))),
)

pub del_ab_done : DoOperation (RunCommand del_ab) (dels_a ∷ dels_b ∷ []) (Reply (int (pos 2)))
unfolding destination rule_of table hash_slot splitting_of digits first_error server_kind
del_ab_done = (
  int (pos 2),
  refl,
  (
    (
      tuple_done refl refl (inr refl),
      (tuple_done refl refl (inr refl), tt),
    ),
    refl,
  ),
)

pub then_it_is_as_on_one_server : AsOneServer may only_b b_was_done each_replied behind_all
unfolding destination rule_of table hash_slot splitting_of digits first_error server_kind
then_it_is_as_on_one_server = record {
  responses = (Reply okay ∷ Reply (int (pos 2)) ∷ []) ∷ (Reply nil ∷ []) ∷ [];
  counts = (refl, (refl, tt));
  served = (
    (sets_a ∷ []) ∷ (dels_a ∷ dels_b ∷ []) ∷ (finds_no_a ∷ []) ∷ [],
    (
      (set_a_done, sets_a_may),
      (
        (del_ab_done, (dels_a_may.0, ((3, lit< tt, refl), tt))),
        ((no_a_done, finds_no_a_may), tt),
      ),
    ),
    (refl, (refl, (refl, (refl, λ slot. either (slot == slot_a) (slot == slot_b) (only_b slot))))),
  );
  answers = (
    (each_outcomes, refl, (tt, (refl, (refl, (tt, refl))))),
    ((nil, refl, refl), tt),
  );
}
  where
    either : (a b : Bool) (c : List ℕ)
        → cond a [] (cond b [] (cond a [] (cond a (codes "1") c)))
        ≡ cond a [] (cond a [] (cond a (codes "1") (cond b [] c)))
    either true b c = refl
    either false true c = refl
    either false false c = refl
