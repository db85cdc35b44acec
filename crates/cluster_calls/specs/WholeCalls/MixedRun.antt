-- One run with a redirect, a split command of which a part is refused, a pipeline over two nodes, and a
-- request whose reply is lost: it is played legally, all of its calls are on slots, the nodes are honest, and
-- it is as on one server.
use Rattle.std.specs.Prelude.{◌==◌, ℕ, List, [], ◌∷◌, None, Ok, Err, codes, refl}
use Rattle.std.specs.Fmt.{digits}
use Rattle.std.specs.Str.{is_utf8, chars}
use Rattle.std.proofs.Common.{lit<, inr, cond, ap, sym, ◌∙◌}
use lib.Utf8.{encode}
use Rattle.resp_core.specs.Trees.{Tree, okay, server_error}
use Rattle.resp_core.specs.Errors.{by_cause, by_server, server_kind}
use Rattle.resp_core.specs.Parts.{first_error}
use Rattle.resp_core.specs.declared.errors.redis_error.Cause.TheVariants.{Io}
use Rattle.cluster_routing.specs.Combine.{array_of}
use Rattle.cluster_routing.specs.HashSlot.{hash_slot}
use Rattle.cluster_routing.specs.Lists.{concat}
use Rattle.cluster_routing.specs.Routing.{destination}
use Rattle.cluster_routing.specs.Split.{splitting_of}
use Rattle.cluster_routing.specs.Table.{rule_of, table}
use Rattle.cluster_routing.specs.Examples.{first_node as n1, second_node as n2}
use Rattle.cluster_calls.specs.Calls.Answer.{Value}
use Rattle.cluster_calls.specs.Calls.Call.{Pipeline}
use Rattle.cluster_calls.specs.OneServer.Operations.{RunCommand, Reply}
use Rattle.cluster_calls.specs.OneServer.Keyspace.{Keyspace, with_cell, PartOf, Step, History}
use Rattle.cluster_calls.specs.OneServer.Meaning.{Meaning, DoOperation, AreAllowed}
use Rattle.cluster_calls.specs.OneServer.Honest.{HonestRun}
use Rattle.cluster_calls.specs.OneServer.Headline.{PlayedCall, RepliedCall, with_replies, IsPlayedFrom, AreOnSlots, command_logs, AsOneServer}
use Rattle.cluster_calls.specs.WholeCalls.Base.{on_halves, a_fault, taken, plain, text, one, error, error_text, moved_to_n1}
use Rattle.cluster_calls.specs.WholeCalls.Deeds.{does, was_done, tuple_done}
use Rattle.cluster_calls.specs.WholeCalls.Pipelines.{entry}
use Rattle.cluster_calls.specs.WholeCalls.KeyRuns.{set_a, get_a, get_b, slot_a, slot_b, sets_a, gets_a, gets_b, none_done, a_and_b, put_again, played, answered, set_a_done, get_a_done, get_b_done}

abbrev pub del : List (List ℕ) → List (List ℕ)
del keys = codes "DEL" ∷ keys

abbrev pub dels_a : Step
dels_a = does (PartOf (codes "DEL") (codes "a" ∷ []) []) slot_a one (codes "1") []

abbrev pub may : Meaning
may = sets_a ∷ gets_a ∷ gets_b ∷ dels_a ∷ []

abbrev pub try_again : Tree
try_again = error (codes "TRYAGAIN") (codes "x")

-- GET a (MOVED to n1), DEL a b (the part with b refused), the pipeline SET a 1, GET b, GET a, and GET b
-- without a reply
abbrev pub four_calls : List PlayedCall
four_calls =
    answered get_a (text (codes "1")) (plain n2 get_a ∷ plain n1 get_a ∷ [])
    ∷ played (del (codes "a" ∷ codes "b" ∷ [])) (Err (by_server (error_text (codes "TRYAGAIN") (codes "x"))))
    (plain n2 (del (codes "a" ∷ [])) ∷ plain n1 (del (codes "b" ∷ [])) ∷ [])
    ∷ record {
      call = Pipeline (entry set_a ∷ entry get_b ∷ entry get_a ∷ []);
      picks = [];
      answer = Ok (Value (array_of (okay ∷ text (codes "2") ∷ text (codes "1") ∷ [])));
      log = plain n2 set_a ∷ plain n2 get_a ∷ plain n1 get_b ∷ [];
    }
    ∷ played get_b (Err (by_cause Io)) (plain n1 get_b ∷ [])
    ∷ []

abbrev pub four : List RepliedCall
four = with_replies
    (taken (text (codes "1") ∷ try_again ∷ text (codes "2") ∷ [])
    (server_error moved_to_n1 ∷ one ∷ okay ∷ text (codes "1") ∷ []))
    four_calls

pub four_are_played : IsPlayedFrom None on_halves a_fault four
unfolding destination rule_of table hash_slot splitting_of digits first_error is_utf8 chars encode server_kind
four_are_played = (
  refl,
  (refl, (refl, refl)),
  refl,
  (refl, (refl, (refl, refl)), refl, (refl, (refl, (refl, refl)), refl, (refl, (refl, refl), refl, tt))),
)

pub four_are_on_slots : AreOnSlots four
unfolding destination rule_of table hash_slot splitting_of digits
four_are_on_slots = (refl, (refl, (refl, (refl, tt))))

pub sets_a_may : AreAllowed may (sets_a ∷ [])
sets_a_may = ((0, lit< tt, refl), tt)

pub gets_a_may : AreAllowed may (gets_a ∷ [])
gets_a_may = ((1, lit< tt, refl), tt)

pub gets_b_may : AreAllowed may (gets_b ∷ [])
gets_b_may = ((2, lit< tt, refl), tt)

pub del_a_done : DoOperation (RunCommand (del (codes "a" ∷ []))) (dels_a ∷ []) (Reply one)
unfolding destination rule_of table hash_slot splitting_of digits first_error server_kind
del_a_done = (one, refl, ((tuple_done refl refl (inr refl), tt), refl))

pub dels_a_may : AreAllowed may (dels_a ∷ [])
dels_a_may = ((3, lit< tt, refl), tt)

-- the redirected request, the refused part and the lost request did nothing
abbrev pub four_steps : List (List Step)
four_steps = [] ∷ (gets_a ∷ []) ∷ (dels_a ∷ []) ∷ [] ∷ (sets_a ∷ []) ∷ (gets_a ∷ []) ∷ (gets_b ∷ []) ∷ [] ∷ []

abbrev pub behind : Keyspace
behind = with_cell (with_cell
    (with_cell (with_cell (with_cell a_and_b slot_a (codes "1")) slot_a []) slot_a (codes "1")) slot_a
    (codes "1")) slot_b (codes "2")

pub four_are_honest : HonestRun may a_and_b none_done (command_logs four) behind
unfolding first_error server_kind
four_are_honest = (
  four_steps,
  (
    refl,
    (
      was_done (Reply (text (codes "1"))) refl get_a_done gets_a_may,
      (
        was_done (Reply one) refl del_a_done dels_a_may,
        (
          refl,
          (
            was_done (Reply okay) refl set_a_done sets_a_may,
            (
              was_done (Reply (text (codes "1"))) refl get_a_done gets_a_may,
              (
                was_done (Reply (text (codes "2"))) refl get_b_done gets_b_may,
                (refl, tt),
              ),
            ),
          ),
        ),
      ),
    ),
  ),
  (refl, (refl, (refl, (refl, (refl, λ slot. refl))))),
)

-- ---- one server

-- given GET a, DEL a (what was done of DEL a b), SET a 1, GET b and GET a
abbrev pub one_by_one : List (List Step)
one_by_one = (gets_a ∷ []) ∷ (dels_a ∷ []) ∷ (sets_a ∷ []) ∷ (gets_b ∷ []) ∷ (gets_a ∷ []) ∷ []

abbrev pub set_again : Keyspace
set_again = with_cell (with_cell (with_cell a_and_b slot_a (codes "1")) slot_a []) slot_a (codes "1")

-- the order of the pipeline leads to the same keys as the order of the nodes
pub they_lead : History a_and_b (concat one_by_one) behind
they_lead = (
  refl,
  (
    refl,
    (
      refl,
      (
        refl,
        (
          refl,
          λ slot. put_again (with_cell set_again slot_b (codes "2")) slot_a slot ∙ ap
              (λ c. cond (slot == slot_b) (codes "2") c) (sym (put_again set_again slot_a slot)),
        ),
      ),
    ),
  ),
)

pub four_are_as_on_one_server : AsOneServer may a_and_b none_done four behind
unfolding destination rule_of table hash_slot splitting_of digits first_error server_kind
four_are_as_on_one_server = record {
  responses = (Reply (text (codes "1")) ∷ []) ∷ (Reply one ∷ [])
      ∷ (Reply okay ∷ Reply (text (codes "2")) ∷ Reply (text (codes "1")) ∷ []) ∷ [] ∷ [];
  counts = (refl, (refl, (refl, (refl, tt))));
  served = (
    one_by_one,
    (
      (get_a_done, gets_a_may),
      (
        (del_a_done, dels_a_may),
        ((set_a_done, sets_a_may), ((get_b_done, gets_b_may), ((get_a_done, gets_a_may), tt))),
      ),
    ),
    they_lead,
  );
  answers = (
    (text (codes "1"), refl, refl),
    (tt, ((okay ∷ text (codes "2") ∷ text (codes "1") ∷ [], refl, refl), (tt, tt))),
  );
}
