-- A run while another client writes between its calls, and looks behind it: honest, and on one server all
-- stays in its order.
use Rattle.std.specs.Prelude.{◌≡◌, ◌==◌, Bool, true, false, cond, List, [], ◌∷◌, codes, refl}
use Rattle.std.proofs.Common.{lit<}
use Rattle.resp_core.specs.Trees.{okay}
use Rattle.resp_core.specs.Parts.{first_error}
use Rattle.cluster_routing.specs.Examples.{second_node as n2}
use Rattle.cluster_routing.specs.HashSlot.{hash_slot}
use Rattle.cluster_routing.specs.Routing.{destination}
use Rattle.cluster_routing.specs.Split.{splitting_of}
use Rattle.cluster_routing.specs.Table.{rule_of, table}
use Rattle.cluster_calls.specs.OneServer.AmongOthers.{CallTurns, HonestAmongOthers, AsOneServerAmongOthers}
use Rattle.cluster_calls.specs.OneServer.Headline.{RepliedCall, with_replies}
use Rattle.cluster_calls.specs.OneServer.Keyspace.{Keyspace, with_cell, Whole, Step}
use Rattle.cluster_calls.specs.OneServer.Meaning.{Meaning, DoOperation, AreAllowed}
use Rattle.cluster_calls.specs.OneServer.Operations.{RunCommand, Reply}
use Rattle.cluster_calls.specs.WholeCalls.Base.{taken, plain, text}
use Rattle.cluster_calls.specs.WholeCalls.Deeds.{does, was_done, whole_done, in_its_place}
use Rattle.cluster_calls.specs.WholeCalls.KeyRuns.{set_a, get_a, slot_a, sets_a, none_done, answered, set_a_done}
use Rattle.cluster_calls.specs.WholeCalls.RunsAmongOthers.{nothing}

-- SET a 1, then another client sets a to 2, then GET a, answered with 2, and then another client finds that
-- too
abbrev pub set_and_get : List RepliedCall
set_and_get = with_replies (taken [] (okay ∷ text (codes "2") ∷ []))
    (answered set_a okay (plain n2 set_a ∷ []) ∷ answered get_a (text (codes "2")) (plain n2 get_a ∷ []) ∷ [])

abbrev pub sets_two : Step
sets_two = does (Whole (codes "SET" ∷ codes "a" ∷ codes "2" ∷ [])) slot_a okay (codes "1") (codes "2")

abbrev pub gets_two : Step
gets_two = does (Whole get_a) slot_a (text (codes "2")) (codes "2") (codes "2")

-- that of the other client need not be in it
abbrev pub set_or_get : Meaning
set_or_get = sets_a ∷ gets_two ∷ []

pub set_allowed : AreAllowed set_or_get (sets_a ∷ [])
set_allowed = ((0, lit< tt, refl), tt)

pub get_two_allowed : AreAllowed set_or_get (gets_two ∷ [])
get_two_allowed = ((1, lit< tt, refl), tt)

abbrev pub the_set : CallTurns
the_set = record { before = []; during = []; own = (sets_a ∷ []) ∷ [] }

abbrev pub the_get : CallTurns
the_get = record { before = sets_two ∷ []; during = []; own = (gets_two ∷ []) ∷ [] }

abbrev pub a_is_two : Keyspace
a_is_two = with_cell nothing slot_a (codes "2")

pub get_two_done : DoOperation (RunCommand get_a) (gets_two ∷ []) (Reply (text (codes "2")))
unfolding destination rule_of table hash_slot splitting_of first_error
get_two_done = whole_done get_a slot_a (text (codes "2")) (codes "2") (codes "2") refl refl refl

ends : (b : Bool) → cond b (codes "2") (cond b (codes "2") (cond b (codes "2") (cond b (codes "1") [])))
    ≡ cond b (codes "2") []
ends true = refl
ends false = refl

pub another_may_write_between_calls : HonestAmongOthers set_or_get nothing none_done set_and_get
    (the_set ∷ the_get ∷ []) (gets_two ∷ []) a_is_two
unfolding first_error
another_may_write_between_calls = record {
  requests = (
    (was_done (Reply okay) refl set_a_done set_allowed, tt),
    (
      (
        was_done (Reply (text (codes "2"))) refl get_two_done get_two_allowed,
        tt,
      ),
      tt,
    ),
  );
  history = (refl, (refl, (refl, (refl, λ slot. ends (slot == slot_a)))));
}

pub it_writes_between_them_on_one_server : AsOneServerAmongOthers set_or_get nothing none_done set_and_get
    (the_set ∷ the_get ∷ []) (gets_two ∷ []) a_is_two
unfolding first_error
it_writes_between_them_on_one_server = record {
  served = record { was = the_set; now = the_set; responses = Reply okay ∷ [] }
      ∷ record { was = the_get; now = the_get; responses = Reply (text (codes "2")) ∷ [] } ∷ [];
  all = refl;
  each = (
    in_its_place ((set_a_done, set_allowed), tt) (okay, refl, refl),
    (in_its_place ((get_two_done, get_two_allowed), tt) (text (codes "2"), refl, refl), tt),
  );
  history = (refl, (refl, (refl, (refl, λ slot. ends (slot == slot_a)))));
}
