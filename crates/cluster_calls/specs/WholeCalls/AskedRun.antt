-- A query whose first node answers ASK, and which is sent on behind ASKING to another node and answered there:
-- it is played legally, the nodes are honest, and it is as on one server. Only the last request did something.
use Rattle.std.specs.Prelude.{◌≡◌, ◌≢◌, ℕ, ◌==◌, Bool, List, [], ◌∷◌, ◌++◌, None, codes, pos, refl}
use Rattle.std.specs.Fmt.{digits}
use Rattle.std.specs.List.{AllByRecursion}
use Rattle.std.specs.Str.{is_utf8, chars}
use Rattle.std.proofs.Common.{ap, lit<, subst, sym, ◌∙◌}
use Rattle.std.proofs.lemmas.Bool.{false≢true}
use lib.Utf8.{encode}
use Rattle.resp_core.specs.Trees.{Tree, int, okay, server_error}
use Rattle.resp_core.specs.Errors.{server_kind}
use Rattle.resp_core.specs.Parts.{first_error}
use Rattle.cluster_routing.specs.Examples.{first_node as n1, second_node as n2}
use Rattle.cluster_routing.specs.HashSlot.{hash_slot}
use Rattle.cluster_routing.specs.Lists.{concat, Pairwise}
use Rattle.cluster_routing.specs.Routing.{destination}
use Rattle.cluster_routing.specs.Split.{split_of, splitting_of}
use Rattle.cluster_routing.specs.Table.{rule_of, table}
use Rattle.cluster_calls.specs.OneServer.Headline.{RepliedCall, with_replies, IsPlayedFrom, AreOnSlots, command_logs, AsOneServer}
use Rattle.cluster_calls.specs.OneServer.Honest.{HonestRun, AccountsFor}
use Rattle.cluster_calls.specs.OneServer.Keyspace.{Keyspace, with_cell, Whole, Step, History}
use Rattle.cluster_calls.specs.OneServer.Meaning.{Meaning, number_in, DoOperation, AreAllowed}
use Rattle.cluster_calls.specs.OneServer.Operations.{RunCommand, Reply, reply_tree}
use Rattle.cluster_calls.specs.WholeCalls.Base.{on_n1, a_fault, taken, plain, behind_asking, one, ask_n2}
use Rattle.cluster_calls.specs.WholeCalls.Deeds.{does, was_done, whole_done}
use Rattle.cluster_calls.specs.WholeCalls.KeyRuns.{slot_a, none_done, only_b, a_and_b, answered}
use Rattle.cluster_calls.specs.WholeCalls.RunsAmongOthers.{is_one}
use Rattle.cluster_calls.specs.WholeCalls.WrongServers.{of_each, step_of, one_command_cannot_lead}

-- ---- INCR a: from no value to 1, and from 1 to 2

abbrev pub incr_a : List (List ℕ)
incr_a = codes "INCR" ∷ codes "a" ∷ []

abbrev pub counts_one : Step
counts_one = does (Whole incr_a) slot_a one [] (codes "1")

abbrev pub counts_two : Step
counts_two = does (Whole incr_a) slot_a (int (pos 2)) (codes "1") (codes "2")

abbrev pub counts_up : Meaning
counts_up = counts_one ∷ counts_two ∷ []

-- ---- n1 names n2 by ASK; n2 replies to ASKING and to INCR a

-- where n2 replies this to INCR a
abbrev pub asked_and_told : Tree → List RepliedCall
asked_and_told tree = with_replies (taken (server_error ask_n2 ∷ []) (okay ∷ tree ∷ []))
    (answered incr_a tree (plain n1 incr_a ∷ behind_asking n2 incr_a ∷ []) ∷ [])

abbrev pub asked : List RepliedCall
asked = asked_and_told one

pub asked_is_played : IsPlayedFrom None (on_n1 1) a_fault asked
unfolding destination rule_of table hash_slot splitting_of digits first_error is_utf8 chars encode server_kind
asked_is_played = (refl, (refl, (refl, refl)), refl, tt)

pub asked_is_on_slots : AreOnSlots asked
unfolding destination rule_of table hash_slot splitting_of digits
asked_is_on_slots = (refl, tt)

pub incr_a_done : DoOperation (RunCommand incr_a) (counts_one ∷ []) (Reply one)
unfolding destination rule_of table hash_slot splitting_of first_error
incr_a_done = whole_done incr_a slot_a one [] (codes "1") refl refl refl

pub counts_one_allowed : AreAllowed counts_up (counts_one ∷ [])
counts_one_allowed = ((0, lit< tt, refl), tt)

pub counts_one_leads : History only_b (counts_one ∷ []) a_and_b
counts_one_leads = (refl, λ slot. refl)

-- the request that was answered by ASK has no steps, and a is counted up once
pub asked_is_honest : HonestRun counts_up only_b none_done (command_logs asked) a_and_b
unfolding first_error server_kind
asked_is_honest = (
  [] ∷ (counts_one ∷ []) ∷ [],
  (refl, (was_done (Reply one) refl incr_a_done counts_one_allowed, tt)),
  counts_one_leads,
)

-- one server is given one INCR a
pub asked_is_as_on_one_server : AsOneServer counts_up only_b none_done asked a_and_b
asked_is_as_on_one_server = record {
  responses = (Reply one ∷ []) ∷ [];
  counts = (refl, tt);
  served = ((counts_one ∷ []) ∷ [], ((incr_a_done, counts_one_allowed), tt), counts_one_leads);
  answers = ((one, refl, refl), tt);
}

-- ---- n1 counted a up too, though it answered ASK, and so n2 replies 2: that is not honest

abbrev pub asked_twice : List RepliedCall
asked_twice = asked_and_told (int (pos 2))

abbrev pub counted_twice : Keyspace
counted_twice = with_cell a_and_b slot_a (codes "2")

-- the client cannot tell, and the meaning has both steps
pub asked_twice_is_played : IsPlayedFrom None (on_n1 1) a_fault asked_twice
unfolding destination rule_of table hash_slot splitting_of digits first_error is_utf8 chars encode server_kind
asked_twice_is_played = (refl, (refl, (refl, refl)), refl, tt)

pub both_would_lead : History only_b (counts_one ∷ counts_two ∷ []) counted_twice
both_would_lead = (refl, (refl, λ slot. refl))

-- but a request that was answered by ASK has no steps, whatever `done` says: it speaks only of requests that
-- got no reply
pub the_ask_did_nothing : (done : ℕ → Bool) (first last : List Step) → first ≢ []
    → Pairwise (AccountsFor counts_up done) (command_logs asked_twice) (first ∷ last ∷ []) → ⊥
unfolding first_error server_kind
the_ask_did_nothing done first last some h = some h.0

pub incr_a_is_whole : split_of incr_a ≡ None
unfolding rule_of table splitting_of
incr_a_is_whole = refl

pub no_count_is_two : (keys' : Keyspace) → AllByRecursion
    (λ (x : Step). x.deed ≡ Whole incr_a → x.response ≡ Reply (int (pos 2)) → History only_b (x ∷ []) keys' → ⊥)
    counts_up
no_count_is_two keys' = (
  λ d r leads. false≢true (ap (λ q. number_in (reply_tree q) == 2) r),
  (λ d r leads. (let e : [] ≡ codes "1" = leads.0 in cc), tt),
)

pub counting_twice_is_not_honest : (done : ℕ → Bool) (keys' : Keyspace)
    → HonestRun counts_up only_b done (command_logs asked_twice) keys' → ⊥
unfolding first_error server_kind
counting_twice_is_not_honest done keys' h = by h.0 h.1 h.2
  where
    by : (ss : List (List Step)) → Pairwise (AccountsFor counts_up done) (command_logs asked_twice) ss
        → History only_b (concat ss) keys' → ⊥
    by [] a leads = absurd a
    by (s ∷ []) a leads = absurd a.1
    by (s ∷ t ∷ []) a leads =
        let x = step_of counts_up incr_a t a.1.0.response incr_a_is_whole a.1.0.done a.1.0.allowed in
        let k = subst (λ q. History only_b (q ++ (t ++ [])) keys') a.0 leads in
        of_each
        (λ (y : Step). y.deed ≡ Whole incr_a → y.response ≡ Reply (int (pos 2)) → History only_b (y ∷ []) keys' → ⊥)
        counts_up x.step (no_count_is_two keys') x.allowed x.deed (x.same ∙ sym a.1.0.reply)
        (subst (λ q. History only_b (q ++ []) keys') x.alone k)
    by (s ∷ t ∷ u ∷ ss) a leads = absurd a.1.1

-- nor is it a server's, which is given one INCR a
pub none_counts_twice : AllByRecursion
    (λ (x : Step). x.deed ≡ Whole incr_a → History only_b (x ∷ []) counted_twice → ⊥) counts_up
none_counts_twice = (
  λ d leads. false≢true (sym (ap is_one (leads.1 slot_a))),
  (λ d leads. (let e : [] ≡ codes "1" = leads.0 in cc), tt),
)

pub and_is_no_servers : AsOneServer counts_up only_b none_done asked_twice counted_twice → ⊥
and_is_no_servers h = one_command_cannot_lead counts_up incr_a only_b counted_twice
    (concat h.responses) incr_a_is_whole none_counts_twice h.served
