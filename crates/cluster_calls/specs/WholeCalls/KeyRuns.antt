-- Small runs of calls on two keys, over nodes that are honest: each is as on one server. `WrongServers` has
-- the same runs gone wrong.
use Rattle.std.specs.Prelude.{◌≡◌, ℕ, Bool, true, false, cond, ◌==◌, List, [], ◌∷◌, None, Result, Ok, codes, refl}
use Rattle.std.proofs.Common.{ap, sym, ◌∙◌, eqb-true, lit<}
use Rattle.resp_core.specs.Trees.{Tree, okay}
use Rattle.resp_core.specs.Errors.{Refusal}
use Rattle.resp_core.specs.Parts.{first_error}
use Rattle.std.specs.Fmt.{digits}
use Rattle.cluster_routing.specs.HashSlot.{hash_slot}
use Rattle.cluster_routing.specs.Routing.{destination}
use Rattle.cluster_routing.specs.Split.{splitting_of}
use Rattle.cluster_routing.specs.Table.{rule_of, table}
use Rattle.cluster_routing.specs.Examples.{first_node as n1, second_node as n2}
use Rattle.cluster_calls.specs.Links.Request.{Request}
use Rattle.cluster_calls.specs.Calls.Answer.{Answer, Value}
use Rattle.cluster_routing.specs.Lists.{concat}
use Rattle.cluster_calls.specs.OneServer.Operations.{RunCommand, Reply}
use Rattle.cluster_calls.specs.OneServer.Keyspace.{Keyspace, with_cell, Whole, Step, History}
use Rattle.cluster_calls.specs.OneServer.Meaning.{Meaning, DoOperation, AreAllowed}
use Rattle.cluster_calls.specs.OneServer.Honest.{HonestRun}
use Rattle.cluster_calls.specs.OneServer.Headline.{PlayedCall, RepliedCall, with_replies, IsPlayedFrom, command_logs, AsOneServer}
use Rattle.cluster_calls.specs.WholeCalls.Base.{on_halves, a_fault, taken, query, plain, text}
use Rattle.cluster_calls.specs.WholeCalls.Deeds.{does, was_done, whole_done}

-- ---- what the server may do: a key's slot has the key's value as its cell

abbrev pub set_a : List (List ℕ)
set_a = codes "SET" ∷ codes "a" ∷ codes "1" ∷ []

abbrev pub get_a : List (List ℕ)
get_a = codes "GET" ∷ codes "a" ∷ []

abbrev pub get_b : List (List ℕ)
get_b = codes "GET" ∷ codes "b" ∷ []

abbrev pub slot_a : ℕ
slot_a = 15495

abbrev pub slot_b : ℕ
slot_b = 3300

abbrev pub sets_a : Step
sets_a = does (Whole set_a) slot_a okay [] (codes "1")

abbrev pub gets_a : Step
gets_a = does (Whole get_a) slot_a (text (codes "1")) (codes "1") (codes "1")

abbrev pub gets_b : Step
gets_b = does (Whole get_b) slot_b (text (codes "2")) (codes "2") (codes "2")

abbrev pub meaning : Meaning
meaning = sets_a ∷ gets_a ∷ gets_b ∷ []

-- ---- keyspaces

-- no request without a reply was done
abbrev pub none_done : ℕ → Bool
none_done place = false

-- nothing but `b`, and then `a` too
abbrev pub only_b : Keyspace
only_b = with_cell (λ slot. []) slot_b (codes "2")

abbrev pub a_and_b : Keyspace
a_and_b = with_cell only_b slot_a (codes "1")

-- a cell that is put again as it is changes nothing
pub put_again : (keys : Keyspace) (slot other : ℕ) → with_cell keys slot (keys slot) other ≡ keys other
put_again keys slot other = by (other == slot) refl
  where
    by : (b : Bool) → other == slot ≡ b → cond b (keys slot) (keys other) ≡ keys other
    by true e = ap keys (sym (eqb-true other slot e))
    by false e = refl

-- ---- a run

abbrev pub played : List (List ℕ) → Result Answer Refusal → List Request → PlayedCall
played args answer log = record { call = query args; picks = []; answer = answer; log = log }

abbrev pub answered : List (List ℕ) → Tree → List Request → PlayedCall
answered args tree log = played args (Ok (Value tree)) log

-- SET a 1, GET a, GET b
abbrev pub three_calls : List PlayedCall
three_calls =
    answered set_a okay (plain n2 set_a ∷ [])
    ∷ answered get_a (text (codes "1")) (plain n2 get_a ∷ [])
    ∷ answered get_b (text (codes "2")) (plain n1 get_b ∷ [])
    ∷ []

abbrev pub three_replied : List RepliedCall
three_replied = with_replies (taken (text (codes "2") ∷ []) (okay ∷ text (codes "1") ∷ [])) three_calls

pub three_are_played : IsPlayedFrom None on_halves a_fault three_replied
unfolding destination rule_of table hash_slot splitting_of digits first_error
three_are_played = (refl, (refl, refl), refl, (refl, (refl, refl), refl, (refl, (refl, refl), refl, tt)))

pub set_a_done : DoOperation (RunCommand set_a) (sets_a ∷ []) (Reply okay)
unfolding destination rule_of table hash_slot splitting_of first_error
set_a_done = whole_done set_a slot_a okay [] (codes "1") refl refl refl

pub sets_a_allowed : AreAllowed meaning (sets_a ∷ [])
sets_a_allowed = ((0, lit< tt, refl), tt)

pub get_a_done : DoOperation (RunCommand get_a) (gets_a ∷ []) (Reply (text (codes "1")))
unfolding destination rule_of table hash_slot splitting_of first_error
get_a_done = whole_done get_a slot_a (text (codes "1")) (codes "1") (codes "1") refl refl refl

pub gets_a_allowed : AreAllowed meaning (gets_a ∷ [])
gets_a_allowed = ((1, lit< tt, refl), tt)

pub get_b_done : DoOperation (RunCommand get_b) (gets_b ∷ []) (Reply (text (codes "2")))
unfolding destination rule_of table hash_slot splitting_of first_error
get_b_done = whole_done get_b slot_b (text (codes "2")) (codes "2") (codes "2") refl refl refl

pub gets_b_allowed : AreAllowed meaning (gets_b ∷ [])
gets_b_allowed = ((2, lit< tt, refl), tt)

-- the steps of all three lead from the one keyspace to the other
abbrev pub three_steps : List (List Step)
three_steps = (sets_a ∷ []) ∷ (gets_a ∷ []) ∷ (gets_b ∷ []) ∷ []

pub three_steps_lead : History only_b (concat three_steps) a_and_b
three_steps_lead = (
  refl,
  (
    refl,
    (
      refl,
      λ slot. put_again
          (with_cell a_and_b slot_a (codes "1")) slot_b slot ∙ put_again a_and_b slot_a slot,
    ),
  ),
)

pub three_are_honest : HonestRun meaning only_b none_done (command_logs three_replied) a_and_b
unfolding first_error
three_are_honest = (
  three_steps,
  (
    was_done (Reply okay) refl set_a_done sets_a_allowed,
    (
      was_done (Reply (text (codes "1"))) refl get_a_done gets_a_allowed,
      (
        was_done (Reply (text (codes "2"))) refl get_b_done gets_b_allowed,
        tt,
      ),
    ),
  ),
  three_steps_lead,
)

pub three_are_as_on_one_server : AsOneServer meaning only_b none_done three_replied a_and_b
three_are_as_on_one_server = record {
  responses = (Reply okay ∷ []) ∷ (Reply (text (codes "1")) ∷ []) ∷ (Reply (text (codes "2")) ∷ []) ∷ [];
  counts = (refl, (refl, (refl, tt)));
  served = (
    three_steps,
    ((set_a_done, sets_a_allowed), ((get_a_done, gets_a_allowed), ((get_b_done, gets_b_allowed), tt))),
    three_steps_lead,
  );
  answers = ((okay, refl, refl), ((text (codes "1"), refl, refl), ((text (codes "2"), refl, refl), tt)));
}
