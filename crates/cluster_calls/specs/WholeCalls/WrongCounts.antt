-- Runs in which what counts is wrong: a command done twice, a refused part done all the same, responses that
-- are another call's.
use Rattle.std.specs.Prelude.{◌≡◌, ◌==◌, ℕ, suc, Bool, true, false, cond, List, [], ◌∷◌, ◌++◌, map, length, Ok, Err, codes, pos, refl}
use Rattle.std.specs.List.{AllByRecursion}
use Rattle.std.specs.Fmt.{digits}
use Rattle.std.proofs.Common.{ap, sym, ◌∙◌, subst, lit<, inr}
use Rattle.std.proofs.lemmas.Bool.{false≢true}
use Rattle.resp_core.specs.Trees.{Tree, int}
use Rattle.resp_core.specs.Errors.{by_server, server_kind}
use Rattle.resp_core.specs.Parts.{first_error}
use Rattle.cluster_routing.specs.Combine.{array_of}
use Rattle.cluster_routing.specs.HashSlot.{hash_slot}
use Rattle.cluster_routing.specs.Routing.{destination}
use Rattle.cluster_routing.specs.Split.{splitting_of}
use Rattle.cluster_routing.specs.Table.{rule_of, table}
use Rattle.cluster_routing.specs.Lists.{concat, Pairwise}
use Rattle.cluster_routing.specs.Examples.{first_node as n1, second_node as n2}
use Rattle.cluster_calls.specs.Links.Request.{Request}
use Rattle.cluster_calls.specs.Calls.Answer.{Value}
use Rattle.cluster_calls.specs.Calls.Call.{Pipeline}
use Rattle.cluster_calls.specs.Calls.Replies.{not_ignored}
use Rattle.cluster_calls.specs.OneServer.Operations.{RunCommand, Response, Reply}
use Rattle.cluster_calls.specs.OneServer.Keyspace.{Keyspace, with_cell, Whole, Step, History}
use Rattle.cluster_calls.specs.OneServer.Meaning.{Meaning, DoOperation, DoAll, OneServer}
use Rattle.cluster_calls.specs.OneServer.Commands.{counting, IsAnswerBy}
use Rattle.cluster_calls.specs.OneServer.Headline.{PlayedCall, RepliedCall, with_replies, all_counting, AsOneServer}
use Rattle.cluster_calls.specs.WholeCalls.AskedRun.{incr_a, counts_one, counts_two, counts_up, incr_a_is_whole, incr_a_done}
use Rattle.cluster_calls.specs.WholeCalls.Base.{taken, plain, text, one, error, error_text}
use Rattle.cluster_calls.specs.WholeCalls.Deeds.{tuple_done, whole_done}
use Rattle.cluster_calls.specs.WholeCalls.Pipelines.{entry}
use Rattle.cluster_calls.specs.WholeCalls.KeyRuns.{get_a, get_b, slot_a, slot_b, gets_a, gets_b, meaning, none_done, a_and_b, played, answered, get_a_done, get_b_done, gets_a_allowed, gets_b_allowed, put_again}
use Rattle.cluster_calls.specs.WholeCalls.MixedRun.{del, dels_a}
use Rattle.cluster_calls.specs.WholeCalls.WrongServers.{one_command_cannot_lead}

-- ---- a command that was done twice

abbrev pub no_keys : Keyspace
no_keys slot = []

abbrev pub a_is : List ℕ → Keyspace
a_is value = with_cell no_keys slot_a value

abbrev pub first_byte : List ℕ → ℕ
first_byte [] = 0
first_byte (b ∷ bs) = b

-- INCR a, answered 1
abbrev pub one_incr : List RepliedCall
one_incr = with_replies (taken [] (one ∷ [])) (answered incr_a one (plain n2 incr_a ∷ []) ∷ [])

pub to_two_done : DoOperation (RunCommand incr_a) (counts_two ∷ []) (Reply (int (pos 2)))
unfolding destination rule_of table hash_slot splitting_of first_error
to_two_done = whole_done incr_a slot_a (int (pos 2)) (codes "1") (codes "2") refl refl refl

pub one_incr_leaves_one : AsOneServer counts_up no_keys none_done one_incr (a_is (codes "1"))
one_incr_leaves_one = record {
  responses = (Reply one ∷ []) ∷ [];
  counts = (refl, tt);
  served = ((counts_one ∷ []) ∷ [], ((incr_a_done, ((0, lit< tt, refl), tt)), tt), (refl, λ slot. refl));
  answers = ((one, refl, refl), tt);
}

pub one_incr_leaves_no_two : AsOneServer counts_up no_keys none_done one_incr (a_is (codes "2")) → ⊥
one_incr_leaves_no_two h = one_command_cannot_lead counts_up incr_a no_keys (a_is (codes "2"))
    (concat h.responses) incr_a_is_whole none h.served
  where
    none : AllByRecursion
        (λ (x : Step). x.deed ≡ Whole incr_a → History no_keys (x ∷ []) (a_is (codes "2")) → ⊥) counts_up
    none = (
      λ d leads. false≢true (ap (λ q. first_byte q == 50) (leads.1 slot_a)),
      (λ d leads. (let e = leads.0 in cc), tt),
    )

-- a server that is given the command twice leaves two, so the claim must count
pub two_incrs_leave_two : OneServer counts_up no_keys (RunCommand incr_a ∷ RunCommand incr_a ∷ [])
    (Reply one ∷ Reply (int (pos 2)) ∷ []) (a_is (codes "2"))
two_incrs_leave_two = (
  (counts_one ∷ []) ∷ (counts_two ∷ []) ∷ [],
  ((incr_a_done, ((0, lit< tt, refl), tt)), ((to_two_done, ((1, lit< tt, refl), tt)), tt)),
  (refl, (refl, λ slot. put_over (slot == slot_a))),
)
  where
    put_over : (b : Bool) → cond b (codes "2") (cond b (codes "1") []) ≡ cond b (codes "2") []
    put_over true = refl
    put_over false = refl

-- ---- a refused part that was done all the same

-- DEL a b, of which n1 refused the part with b
abbrev pub half_refused : List RepliedCall
half_refused = with_replies (taken (error (codes "TRYAGAIN") (codes "x") ∷ []) (one ∷ []))
    (played (del (codes "a" ∷ codes "b" ∷ [])) (Err (by_server (error_text (codes "TRYAGAIN") (codes "x"))))
    (plain n2 (del (codes "a" ∷ [])) ∷ plain n1 (del (codes "b" ∷ [])) ∷ []) ∷ [])

-- the keys where the part with a alone was done
abbrev pub without_a : Keyspace
without_a = with_cell a_and_b slot_a []

pub the_answered_part_was_done : AsOneServer (dels_a ∷ []) a_and_b none_done half_refused without_a
unfolding destination rule_of table hash_slot splitting_of digits first_error server_kind
the_answered_part_was_done = record {
  responses = (Reply one ∷ []) ∷ [];
  counts = (refl, tt);
  served = (
    (dels_a ∷ []) ∷ [],
    (
      (
        (one, refl, ((tuple_done refl refl (inr refl), tt), refl)),
        ((0, lit< tt, refl), tt),
      ),
      tt,
    ),
    (refl, λ slot. refl),
  );
  answers = (tt, tt);
}

-- whatever a server may do, and whatever of unanswered requests was done
pub the_refused_part_was_not : (may : Meaning) (done : ℕ → Bool)
    → AsOneServer may a_and_b done half_refused no_keys → ⊥
unfolding destination rule_of table hash_slot splitting_of digits first_error server_kind
the_refused_part_was_not may done h = by h.served.0 (concat h.responses) h.served.1 h.served.2
  where
    on_a : (s : List Step) (r : Response) → DoOperation (RunCommand (del (codes "a" ∷ []))) s r
        → History a_and_b (s ++ []) no_keys → ⊥
    on_a [] r d leads = absurd d.2.0
    on_a (x ∷ y ∷ s) r d leads = absurd d.2.0.1
    on_a (x ∷ []) r d leads = let e = subst (λ n. with_cell a_and_b n x.after slot_b ≡ []) d.2.0.0.slot
        (leads.1 slot_b) in cc

    by : (ss : List (List Step)) (rs : List Response)
        → DoAll may (RunCommand (del (codes "a" ∷ [])) ∷ []) ss rs → History a_and_b (concat ss) no_keys → ⊥
    by [] rs a leads = absurd a
    by (s ∷ ss) [] a leads = absurd a
    by (s ∷ []) (r ∷ rs) a leads = on_a s r a.0.0 leads
    by (s ∷ s2 ∷ ss) (r ∷ rs) a leads = absurd a.1

-- ---- a call that was given another call's responses

-- two pipelines of one command each, of which the second answers nothing
abbrev pub piped : List (List ℕ) → List Tree → List Request → PlayedCall
piped args trees log = record
    { call = Pipeline (entry args ∷ []); picks = []; answer = Ok (Value (array_of trees)); log = log }

abbrev pub silent : List RepliedCall
silent = with_replies (taken (text (codes "2") ∷ []) (text (codes "1") ∷ []))
    (piped get_a (text (codes "1") ∷ []) (plain n2 get_a ∷ []) ∷ piped get_b [] (plain n1 get_b ∷ []) ∷ [])

-- both responses for the first pipeline, and none for the second: all but `counts` holds
abbrev pub all_for_the_first : List (List Response)
all_for_the_first = (Reply (text (codes "1")) ∷ Reply (text (codes "2")) ∷ []) ∷ [] ∷ []

pub they_are_served : OneServer meaning a_and_b (all_counting none_done silent)
    (concat all_for_the_first) a_and_b
they_are_served = (
  (gets_a ∷ []) ∷ (gets_b ∷ []) ∷ [],
  ((get_a_done, gets_a_allowed), ((get_b_done, gets_b_allowed), tt)),
  (
    refl,
    (
      refl,
      λ slot. put_again
          (with_cell a_and_b slot_a (codes "1")) slot_b slot ∙ put_again a_and_b slot_a slot,
    ),
  ),
)

pub they_are_the_answers : Pairwise
    (λ (t : RepliedCall) here. IsAnswerBy none_done t.call t.log t.answer here) silent all_for_the_first
they_are_the_answers = ((text (codes "1") ∷ text (codes "2") ∷ [], refl, refl), (([], refl, refl), tt))

pub they_do_not_count : Pairwise
    (λ (t : RepliedCall) here. length here ≡ length (counting none_done t.call t.answer t.log)) silent
    all_for_the_first → ⊥
they_do_not_count h = let e = h.0 in cc

-- so no responses are the second pipeline's
pub a_silent_pipeline_is_no_servers : (keys keys' : Keyspace) (may : Meaning)
    → AsOneServer may keys none_done silent keys' → ⊥
a_silent_pipeline_is_no_servers keys keys' may h = by h.responses h.counts h.answers
  where
    no_trees : (trees : List Tree) → suc 0 ≡ length (map Reply trees)
        → Value (array_of []) ≡ Value (array_of (not_ignored (entry get_b ∷ []) trees)) → ⊥
    no_trees [] n e = cc
    no_trees (t ∷ ts) n e = cc

    by : (rs : List (List Response))
        → Pairwise (λ (t : RepliedCall) here. length here ≡ length (counting none_done t.call t.answer t.log))
        silent rs → Pairwise (λ (t : RepliedCall) here. IsAnswerBy none_done t.call t.log t.answer here) silent rs → ⊥
    by [] c a = absurd c
    by (r ∷ []) c a = absurd c.1
    by (r ∷ r2 ∷ rs) c a = no_trees a.1.0.0 (sym c.1.0 ∙ ap length a.1.0.1) a.1.0.2
