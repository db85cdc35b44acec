-- A pipeline over two nodes while another client looks and writes: what the claim says of it, and what no
-- claim can.
use Rattle.std.specs.Prelude.{◌≡◌, ℕ, ◌==◌, Bool, true, false, cond, List, [], ◌∷◌, ◌++◌, map, Ok, codes, refl}
use Rattle.std.proofs.Common.{ap, sym, ◌∙◌}
use Rattle.std.proofs.lemmas.Bool.{false≢true}
use Rattle.resp_core.specs.Trees.{okay}
use Rattle.resp_core.specs.Parts.{first_error}
use Rattle.cluster_routing.specs.Combine.{array_of}
use Rattle.cluster_routing.specs.Examples.{first_node as n1, second_node as n2}
use Rattle.cluster_routing.specs.HashSlot.{hash_slot}
use Rattle.cluster_routing.specs.Routing.{destination}
use Rattle.cluster_routing.specs.Split.{splitting_of}
use Rattle.cluster_routing.specs.Table.{rule_of, table}
use Rattle.cluster_calls.specs.Calls.Answer.{Value}
use Rattle.cluster_calls.specs.OneServer.AmongOthers.{Turn, Own, Other, turns_on, CallTurns, HonestAmongOthers, AsOneServerAmongOthers}
use Rattle.cluster_calls.specs.OneServer.Headline.{RepliedCall, with_replies}
use Rattle.cluster_calls.specs.OneServer.Keyspace.{with_cell, Whole, Step}
use Rattle.cluster_calls.specs.OneServer.Operations.{Reply}
use Rattle.cluster_calls.specs.WholeCalls.Base.{taken, plain, text}
use Rattle.cluster_calls.specs.WholeCalls.Deeds.{does, was_done}
use Rattle.cluster_calls.specs.WholeCalls.KeyRuns.{set_a, get_a, get_b, slot_a, slot_b, sets_a, gets_a, gets_b, meaning, none_done, set_a_done, get_a_done, get_b_done, sets_a_allowed, gets_a_allowed, gets_b_allowed}
use Rattle.cluster_calls.specs.WholeCalls.Pipelines.{three}
use Rattle.cluster_calls.specs.WholeCalls.RunsAmongOthers.{nothing, a_is_one, both_put, finds_a, not_both}
use Rattle.cluster_calls.specs.WholeCalls.TurnsOnSlots.{same_on_each}

-- SET a 1, GET b, GET a: n2 is sent the first and the last, and then n1 the second. In between another client
-- finds a at 1, and then sets b to 2, which the pipeline finds.
abbrev pub one_pipeline : List RepliedCall
one_pipeline = with_replies (taken (text (codes "2") ∷ []) (okay ∷ text (codes "1") ∷ []))
    (record {
      call = three;
      picks = [];
      answer = Ok (Value (array_of (okay ∷ text (codes "2") ∷ text (codes "1") ∷ [])));
      log = plain n2 set_a ∷ plain n2 get_a ∷ plain n1 get_b ∷ [];
    } ∷ [])

abbrev pub sets_b : Step
sets_b = does (Whole (codes "SET" ∷ codes "b" ∷ codes "2" ∷ [])) slot_b okay [] (codes "2")

-- as it was: both of a, the other client's look and its write, b
abbrev pub written_within : CallTurns
written_within = record {
  before = [];
  during = [] ∷ [] ∷ (finds_a ∷ sets_b ∷ []) ∷ [];
  own = (sets_a ∷ []) ∷ (gets_a ∷ []) ∷ (gets_b ∷ []) ∷ [];
}

-- on one server: SET a, then b is set, then GET b and GET a, and then a is found
abbrev pub written_between : CallTurns
written_between = record {
  before = [];
  during = [] ∷ (sets_b ∷ []) ∷ [] ∷ (finds_a ∷ []) ∷ [];
  own = (sets_a ∷ []) ∷ (gets_b ∷ []) ∷ (gets_a ∷ []) ∷ [];
}

was_ends : (b c : Bool)
    → cond b (codes "2")
    (cond b (codes "2") (cond c (codes "1") (cond c (codes "1") (cond c (codes "1") []))))
    ≡ cond b (codes "2") (cond c (codes "1") [])
was_ends true c = refl
was_ends false true = refl
was_ends false false = refl

pub another_may_write_within_a_pipeline : HonestAmongOthers meaning nothing none_done one_pipeline
    (written_within ∷ []) [] both_put
unfolding first_error
another_may_write_within_a_pipeline = record {
  requests = (
    (
      was_done (Reply okay) refl set_a_done sets_a_allowed,
      (
        was_done (Reply (text (codes "1"))) refl get_a_done gets_a_allowed,
        (
          was_done (Reply (text (codes "2"))) refl get_b_done gets_b_allowed,
          tt,
        ),
      ),
    ),
    tt,
  );
  history = (refl, (refl, (refl, (refl, (refl, λ slot. was_ends (slot == slot_b) (slot == slot_a))))));
}

abbrev was : List Turn
was = Own sets_a ∷ Own gets_a ∷ Other finds_a ∷ Other sets_b ∷ Own gets_b ∷ []

abbrev now : List Turn
now = Own sets_a ∷ Other sets_b ∷ Own gets_b ∷ Own gets_a ∷ Other finds_a ∷ []

now_ends : (slot : ℕ)
    → with_cell (with_cell (with_cell (with_cell a_is_one slot_b (codes "2")) slot_b (codes "2")) slot_a
    (codes "1")) slot_a (codes "1") slot ≡ both_put slot
now_ends slot = by (slot == slot_a) refl (slot == slot_b) refl
  where
    by : (c : Bool) → slot == slot_a ≡ c → (b : Bool) → slot == slot_b ≡ b
        → cond c (codes "1")
        (cond c (codes "1") (cond b (codes "2") (cond b (codes "2") (cond c (codes "1") []))))
        ≡ cond b (codes "2") (cond c (codes "1") [])
    by true e true f = absurd (not_both slot e f)
    by true e false f = refl
    by false e true f = refl
    by false e false f = refl

pub it_writes_between_its_commands_on_one_server : AsOneServerAmongOthers meaning nothing none_done
    one_pipeline (written_within ∷ []) [] both_put
unfolding destination rule_of table hash_slot splitting_of first_error
it_writes_between_its_commands_on_one_server = record {
  served = record {
    was = written_within;
    now = written_between;
    responses = Reply okay ∷ Reply (text (codes "2")) ∷ Reply (text (codes "1")) ∷ [];
  } ∷ [];
  all = refl;
  each = (
    record {
      operations = (
        (set_a_done, sets_a_allowed),
        ((get_b_done, gets_b_allowed), ((get_a_done, gets_a_allowed), tt)),
      );
      answer = (okay ∷ text (codes "2") ∷ text (codes "1") ∷ [], refl, refl);
      before = refl;
      same = same_on_each (slot_a ∷ slot_b ∷ []) now was refl refl (refl, (refl, tt));
      in_place = λ one. absurd (false≢true one);
    },
    tt,
  );
  history = (refl, (refl, (refl, (refl, (refl, now_ends)))));
}

-- What no claim can say of a pipeline: that others' steps keep their order too. Who finds a at 1 behind GET a
-- and then sets b before GET b has seen the third command done before the second. Wherever these two stand in
-- their order, some slot differs.
abbrev pub around_each : List Step → List Step → List Step → List Step → List Turn
around_each first second third fourth =
    map Other first ++ (Own sets_a
    ∷ (map Other second ++ (Own gets_b ∷ (map Other third ++ (Own gets_a ∷ map Other fourth)))))

pub no_order_keeps_look_and_write : (first second third fourth : List Step)
    → first ++ (second ++ (third ++ fourth)) ≡ finds_a ∷ sets_b ∷ []
    → ((slot : ℕ) → turns_on slot (around_each first second third fourth) ≡ turns_on slot was) → ⊥
no_order_keeps_look_and_write (x ∷ first) second third fourth e same =
    let is : x ≡ finds_a = cc in
    let later = around_each first second third fourth in
    let h : Other finds_a ∷ turns_on slot_a later ≡ Own sets_a ∷ Own gets_a ∷ Other finds_a ∷ [] =
    ap (λ y. turns_on slot_a (Other y ∷ later)) (sym is) ∙ same slot_a in
    cc
no_order_keeps_look_and_write [] (x ∷ second) third fourth e same =
    let is : x ≡ finds_a = cc in
    let later = map Other second ++ (Own gets_b ∷ (map Other third ++ (Own gets_a ∷ map Other fourth))) in
    let h : Own sets_a ∷ Other finds_a ∷ turns_on slot_a later ≡ Own sets_a ∷ Own gets_a ∷ Other finds_a
    ∷ [] =
    ap (λ y. turns_on slot_a (Own sets_a ∷ Other y ∷ later)) (sym is) ∙ same slot_a in
    cc
no_order_keeps_look_and_write [] [] third fourth e same =
    let later = map Other third ++ (Own gets_a ∷ map Other fourth) in
    let h : Own gets_b ∷ turns_on slot_b later ≡ Other sets_b ∷ Own gets_b ∷ [] = same slot_b in
    cc
