-- Pipelines that tell of each position, of which the wrong counts: a command that was sent on and done all the
-- same, a value that is another one's, a lost half of a split command. Beside each stands a right one.
use Rattle.std.specs.Prelude.{◌≡◌, ℕ, Bool, true, List, [], ◌∷◌, ◌++◌, Ok, codes, pos, refl, Some}
use Rattle.std.specs.List.{AllByRecursion}
use Rattle.std.specs.Fmt.{digits}
use Rattle.std.proofs.Common.{subst, lit<, inr}
use Rattle.resp_core.specs.Trees.{int, nil, okay, server_error}
use Rattle.resp_core.specs.Errors.{server_kind}
use Rattle.resp_core.specs.Parts.{first_error}
use Rattle.cluster_routing.specs.Examples.{first_node as n1, second_node as n2}
use Rattle.cluster_routing.specs.HashSlot.{hash_slot}
use Rattle.cluster_routing.specs.Lists.{concat, Pairwise}
use Rattle.cluster_routing.specs.Routing.{destination}
use Rattle.cluster_routing.specs.Split.{splitting_of}
use Rattle.cluster_routing.specs.Table.{rule_of, table}
use Rattle.cluster_calls.specs.Links.Request.{Request}
use Rattle.cluster_calls.specs.Calls.Answer.{Told}
use Rattle.cluster_calls.specs.Calls.Call.{Each}
use Rattle.cluster_calls.specs.OneServer.Commands.{AreOutcomesBy, IsAnswerBy}
use Rattle.cluster_calls.specs.OneServer.Headline.{PlayedCall, RepliedCall, with_replies, command_logs, AsOneServer}
use Rattle.cluster_calls.specs.OneServer.Honest.{HonestRun}
use Rattle.cluster_calls.specs.OneServer.Keyspace.{Keyspace, with_cell, Whole, Step, History}
use Rattle.cluster_calls.specs.OneServer.Meaning.{Meaning, DoOperation, DoAll, OneServer}
use Rattle.cluster_calls.specs.OneServer.Operations.{RunCommand, Response, Reply}
use Rattle.cluster_calls.specs.WholeCalls.Base.{taken, plain, text, one, moved_to_n1}
use Rattle.cluster_calls.specs.WholeCalls.Deeds.{tuple_done}
use Rattle.cluster_calls.specs.WholeCalls.EachRuns.{Outcome, told, lost_link, sent_on}
use Rattle.cluster_calls.specs.WholeCalls.EachSplits.{del_ab, del_a, del_b}
use Rattle.cluster_calls.specs.WholeCalls.KeyRuns.{set_a, get_a, slot_a, slot_b, meaning, none_done, only_b, a_and_b}
use Rattle.cluster_calls.specs.WholeCalls.MixedEach.{dels_b}
use Rattle.cluster_calls.specs.WholeCalls.MixedRun.{dels_a, del_a_done}
use Rattle.cluster_calls.specs.WholeCalls.Pipelines.{entry}
use Rattle.cluster_calls.specs.WholeCalls.WrongCounts.{no_keys, without_a}
use Rattle.cluster_calls.specs.WholeCalls.WrongServers.{get_a_is_whole, cannot_respond, one_without_steps}

-- a pipeline of one command, with what is told of it
abbrev pub tells : List (List ℕ) → Outcome → List Request → List PlayedCall
tells args outcome log = record
    { call = Each (entry args ∷ []); picks = []; answer = told (outcome ∷ []); log = log } ∷ []

-- ---- a command that was sent on

-- SET a 1, answered by MOVED
abbrev pub moved_set : List RepliedCall
moved_set = with_replies (taken [] (server_error moved_to_n1 ∷ [])) (tells set_a sent_on (plain n2 set_a ∷ []))

pub what_was_sent_on_does_nothing : AsOneServer meaning only_b none_done moved_set only_b
unfolding destination rule_of table hash_slot splitting_of digits first_error server_kind
what_was_sent_on_does_nothing = record {
  responses = [] ∷ [];
  counts = (refl, tt);
  served = ([], tt, λ slot. refl);
  answers = ((sent_on ∷ [], refl, (refl, refl)), tt);
}

-- whatever a server may do, and whatever of unanswered requests was done
pub and_was_not_done : (may : Meaning) (done : ℕ → Bool) → AsOneServer may only_b done moved_set a_and_b → ⊥
unfolding destination rule_of table hash_slot splitting_of digits first_error server_kind
and_was_not_done may done h = by h.served.0 (concat h.responses) h.served.1 h.served.2
  where
    by : (ss : List (List Step)) (rs : List Response) → DoAll may [] ss rs → History only_b (concat ss) a_and_b
        → ⊥
    by [] rs a leads = let e = leads slot_a in cc
    by (s ∷ ss) rs a leads = absurd a

pub a_node_that_sends_on_is_honest : (may : Meaning) (done : ℕ → Bool)
    → HonestRun may only_b done (command_logs moved_set) only_b
unfolding server_kind
a_node_that_sends_on_is_honest may done = ([] ∷ [], (refl, tt), λ slot. refl)

pub and_does_not_do_it : (may : Meaning) (done : ℕ → Bool)
    → HonestRun may only_b done (command_logs moved_set) a_and_b → ⊥
unfolding server_kind
and_does_not_do_it may done = one_without_steps may done (
  Each (entry set_a ∷ []),
  record { request = plain n2 set_a; place = 0; reply = Some (server_error moved_to_n1) },
) (λ s a. a)

-- it counts as no operation, and has no response
pub no_operation_was_sent_on : (response : Response) (responses : List Response)
    → AreOutcomesBy ((RunCommand set_a ∷ []) ∷ []) (sent_on ∷ []) (response ∷ responses) → ⊥
unfolding server_kind
no_operation_was_sent_on response responses h = let e : response ∷ [] ≡ [] = h.0 in cc

-- ---- a value that is another one's

pub a_value_is_its_response : AreOutcomesBy ((RunCommand get_a ∷ []) ∷ []) (Ok nil ∷ []) (Reply nil ∷ [])
unfolding first_error
a_value_is_its_response = (refl, refl)

pub and_no_other : AreOutcomesBy ((RunCommand get_a ∷ []) ∷ []) (Ok okay ∷ []) (Reply nil ∷ []) → ⊥
unfolding first_error
and_no_other h = let e : Reply nil ∷ [] ≡ Reply okay ∷ [] = h.0 in cc

pub responses_have_the_order_of_positions : AreOutcomesBy
    ((RunCommand set_a ∷ []) ∷ (RunCommand get_a ∷ []) ∷ []) (Ok okay ∷ Ok nil ∷ [])
    (Reply nil ∷ Reply okay ∷ []) → ⊥
unfolding first_error
responses_have_the_order_of_positions h = let e : Reply nil ∷ [] ≡ Reply okay ∷ [] = h.0 in cc

-- GET a, told as OK
abbrev pub as_okay : List Outcome
as_okay = Ok okay ∷ []

abbrev pub told_okay : List RepliedCall
told_okay = with_replies (taken [] (text (codes "1") ∷ [])) (tells get_a (Ok okay) (plain n2 get_a ∷ []))

pub another_value_is_no_servers : (keys keys' : Keyspace)
    → AsOneServer meaning keys none_done told_okay keys' → ⊥
unfolding destination rule_of table hash_slot splitting_of digits first_error
another_value_is_no_servers keys keys' h = by h.responses h.answers h.served
  where
    none : AllByRecursion (λ (x : Step). x.deed ≡ Whole get_a → x.response ≡ Reply okay → ⊥) meaning
    none = (λ d r. cc, (λ d r. cc, (λ d r. cc, tt)))

    shape : (rs : List Response) → AreOutcomesBy ((RunCommand get_a ∷ []) ∷ []) as_okay rs
        → rs ≡ Reply okay ∷ []
    shape [] a = a.0
    shape (r ∷ []) a = a.0
    shape (r ∷ r2 ∷ rs) a = let e = a.1 in cc

    only : (rs : List Response) (outcomes : List Outcome) → Told as_okay ≡ Told outcomes
        → AreOutcomesBy ((RunCommand get_a ∷ []) ∷ []) outcomes rs → rs ≡ Reply okay ∷ []
    only rs outcomes e a = let same : outcomes ≡ as_okay = cc
        in shape rs (subst (λ os. AreOutcomesBy ((RunCommand get_a ∷ []) ∷ []) os rs) same a)

    at_first : (ss : List (List Step)) (rs : List Response)
        → DoAll meaning (RunCommand get_a ∷ []) ss (Reply okay ∷ rs) → ⊥
    at_first [] rs a = absurd a
    at_first (s ∷ ss) rs a = cannot_respond meaning get_a s (Reply okay) get_a_is_whole none a.0.0 a.0.1

    by : (rs : List (List Response))
        → Pairwise (λ (t : RepliedCall) here. IsAnswerBy none_done t.call t.log t.answer here) told_okay rs
        → OneServer meaning keys (RunCommand get_a ∷ []) (concat rs) keys' → ⊥
    by [] a s = absurd a
    by (r ∷ rs) a s = at_first s.0 (concat rs)
        (subst (λ q. DoAll meaning (RunCommand get_a ∷ []) s.0 (q ++ concat rs)) (only r a.0.0 a.0.1 a.0.2) s.1)

-- ---- a split command that was half done

-- DEL a b, of which the part with b was lost
abbrev pub half_told : List RepliedCall
half_told = with_replies (taken [] (one ∷ [])) (tells del_ab lost_link (plain n2 del_a ∷ plain n1 del_b ∷ []))

pub the_answered_half_was_done : AsOneServer (dels_a ∷ []) a_and_b none_done half_told without_a
unfolding destination rule_of table hash_slot splitting_of digits first_error server_kind
the_answered_half_was_done = record {
  responses = (Reply one ∷ []) ∷ [];
  counts = (refl, tt);
  served = ((dels_a ∷ []) ∷ [], ((del_a_done, ((0, lit< tt, refl), tt)), tt), (refl, λ slot. refl));
  answers = ((lost_link ∷ [], refl, (tt, refl)), tt);
}

pub the_other_may_have_been : AsOneServer (dels_a ∷ dels_b ∷ []) a_and_b (λ place. true) half_told
    (with_cell without_a slot_b [])
unfolding destination rule_of table hash_slot splitting_of digits first_error server_kind
the_other_may_have_been = record {
  responses = (Reply (int (pos 2)) ∷ []) ∷ [];
  counts = (refl, tt);
  served = (
    (dels_a ∷ dels_b ∷ []) ∷ [],
    (
      (
        (
          int (pos 2),
          refl,
          (
            (
              tuple_done refl refl (inr refl),
              (tuple_done refl refl (inr refl), tt),
            ),
            refl,
          ),
        ),
        ((0, lit< tt, refl), ((1, lit< tt, refl), tt)),
      ),
      tt,
    ),
    (refl, (refl, λ slot. refl)),
  );
  answers = ((lost_link ∷ [], refl, (tt, refl)), tt);
}

-- but not where nothing says that it was
pub the_lost_half_was_not : (may : Meaning) → AsOneServer may a_and_b none_done half_told no_keys → ⊥
unfolding destination rule_of table hash_slot splitting_of digits first_error server_kind
the_lost_half_was_not may h = by h.served.0 (concat h.responses) h.served.1 h.served.2
  where
    on_a : (s : List Step) (r : Response) → DoOperation (RunCommand del_a) s r
        → History a_and_b (s ++ []) no_keys → ⊥
    on_a [] r d leads = absurd d.2.0
    on_a (x ∷ y ∷ s) r d leads = absurd d.2.0.1
    on_a (x ∷ []) r d leads = let e = subst (λ n. with_cell a_and_b n x.after slot_b ≡ []) d.2.0.0.slot
        (leads.1 slot_b) in cc

    by : (ss : List (List Step)) (rs : List Response) → DoAll may (RunCommand del_a ∷ []) ss rs
        → History a_and_b (concat ss) no_keys → ⊥
    by [] rs a leads = absurd a
    by (s ∷ ss) [] a leads = absurd a
    by (s ∷ []) (r ∷ rs) a leads = on_a s r a.0.0 leads
    by (s ∷ s2 ∷ ss) (r ∷ rs) a leads = absurd a.1
