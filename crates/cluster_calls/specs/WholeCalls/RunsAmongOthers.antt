-- Small runs while others use the same keys: what the claim says of them, what it cannot say, and one that is
-- not honest.
use Rattle.std.specs.Prelude.{◌≡◌, ℕ, Bool, true, false, cond, ◌==◌, List, [], ◌∷◌, ◌++◌, map, codes, refl}
use Rattle.std.specs.List.{AllByRecursion}
use Rattle.std.proofs.Common.{ap, sym, ◌∙◌, subst, eqb-true, lit<}
use Rattle.std.proofs.lemmas.Bool.{false≢true}
use Rattle.resp_core.specs.Trees.{okay, nil}
use Rattle.resp_core.specs.Parts.{first_error}
use Rattle.std.specs.Fmt.{digits}
use Rattle.cluster_routing.specs.Examples.{first_node as n1, second_node as n2}
use Rattle.cluster_routing.specs.HashSlot.{hash_slot}
use Rattle.cluster_routing.specs.Lists.{concat, Pairwise}
use Rattle.cluster_routing.specs.Routing.{destination}
use Rattle.cluster_routing.specs.Split.{splitting_of}
use Rattle.cluster_routing.specs.Table.{rule_of, table}
use Rattle.cluster_calls.specs.OneServer.Headline.{RepliedCall, with_replies}
use Rattle.cluster_calls.specs.OneServer.Keyspace.{Keyspace, with_cell, Whole, PartOf, Step, History}
use Rattle.cluster_calls.specs.OneServer.Meaning.{Meaning, DoOperation}
use Rattle.cluster_calls.specs.OneServer.Operations.{RunCommand, Reply}
use Rattle.cluster_calls.specs.OneServer.AmongOthers.{Turn, Own, Other, step_of, in_turn, turns_on, CallTurns, call_turns, run_turns, TurnsLead, AreItsRequests, HonestAmongOthers, are_on_one_slot, ServedCall, IsServed, calls_were, calls_now, AsOneServerAmongOthers}
use Rattle.cluster_calls.specs.WholeCalls.Base.{taken, plain, text}
use Rattle.cluster_calls.specs.WholeCalls.Deeds.{does, was_done, tuple_done}
use Rattle.cluster_calls.specs.WholeCalls.KeyRuns.{get_a, get_b, slot_a, slot_b, sets_a, gets_a, meaning, none_done, put_again, answered, get_a_done, gets_a_allowed}
use Rattle.cluster_calls.specs.WholeCalls.Splits.{mset_of}
use Rattle.cluster_calls.specs.WholeCalls.TurnsOnSlots.{same_on_each}
use Rattle.cluster_calls.specs.WholeCalls.WrongServers.{of_each, step_of as command_step, deed_byte, get_a_is_whole}

abbrev pub nothing : Keyspace
nothing = λ slot. []

-- ---- a value that another client wrote

-- GET a, answered with 1
abbrev pub one_get : List RepliedCall
one_get = with_replies (taken [] (text (codes "1") ∷ []))
    (answered get_a (text (codes "1")) (plain n2 get_a ∷ []) ∷ [])

abbrev pub a_is_one : Keyspace
a_is_one = with_cell nothing slot_a (codes "1")

-- before it another client sets a to 1
abbrev pub behind_a_set : CallTurns
behind_a_set = record { before = sets_a ∷ []; during = []; own = (gets_a ∷ []) ∷ [] }

pub a_get_may_find_what_another_set : HonestAmongOthers meaning nothing none_done one_get (behind_a_set ∷ [])
    [] a_is_one
unfolding first_error
a_get_may_find_what_another_set = record {
  requests = (
    (
      was_done (Reply (text (codes "1"))) refl get_a_done gets_a_allowed,
      tt,
    ),
    tt,
  );
  history = (refl, (refl, λ slot. put_again a_is_one slot_a slot));
}

-- before it another client sets a to 3, and it is answered with 1 all the same: that is not honest, whatever
-- its step was
abbrev pub sets_three : Step
sets_three = does (Whole (codes "SET" ∷ codes "a" ∷ codes "3" ∷ [])) slot_a okay [] (codes "3")

abbrev pub behind_a_three : List (List Step) → CallTurns
behind_a_three own = record { before = sets_three ∷ []; during = []; own = own }

-- its turns, and none behind
abbrev run_behind : List (List Step) → List Turn
run_behind own = (in_turn [] own ++ []) ++ []

pub a_get_cannot_miss_what_another_set : (own : List (List Step)) (keys' : Keyspace)
    → HonestAmongOthers meaning nothing none_done one_get (behind_a_three own ∷ []) [] keys' → ⊥
unfolding first_error
a_get_cannot_miss_what_another_set own keys' h = by own h.requests h.history.1
  where
    none : AllByRecursion
        (λ (x : Step). x.deed ≡ Whole get_a → with_cell nothing slot_a (codes "3") x.slot ≡ x.before → ⊥)
        meaning
    none = (λ d e. cc, (λ d e. cc, (λ d e. false≢true (ap (λ q. deed_byte q == 97) d), tt)))

    by : (ss : List (List Step))
        → Pairwise (AreItsRequests meaning none_done) one_get (behind_a_three ss ∷ [])
        → History (with_cell nothing slot_a (codes "3")) (map step_of (run_behind ss)) keys' → ⊥
    by [] a leads = absurd a.0
    by (s ∷ s2 ∷ ss) a leads = absurd a.0.1
    by (s ∷ []) a leads =
        let x = command_step meaning get_a s a.0.0.response get_a_is_whole a.0.0.done a.0.0.allowed in
        of_each (λ (y : Step). y.deed ≡ Whole get_a → with_cell nothing slot_a (codes "3") y.slot ≡ y.before
        → ⊥) meaning x.step none x.allowed x.deed
        (subst (λ q. History (with_cell nothing slot_a (codes "3")) (map step_of (run_behind (q ∷ []))) keys')
        x.alone leads).0

-- and no server would answer so
abbrev pub is_one : List ℕ → Bool
is_one [] = false
is_one (b ∷ bs) = b == 49

pub and_no_server_would : (keys' : Keyspace)
    → AsOneServerAmongOthers meaning nothing none_done one_get (behind_a_three ((gets_a ∷ []) ∷ []) ∷ [])
    [] keys' → ⊥
and_no_server_would keys' h = by h.served h.all h.each h.history
  where
    by : (xs : List ServedCall) → calls_were xs ≡ behind_a_three ((gets_a ∷ []) ∷ []) ∷ []
        → Pairwise (IsServed meaning none_done) one_get xs
        → TurnsLead nothing (run_turns (calls_now xs) []) keys' → ⊥
    by [] e a leads = absurd a
    by (x ∷ x2 ∷ xs) e a leads = absurd a.1
    by (x ∷ []) e a leads =
        let is : x.was ≡ behind_a_three ((gets_a ∷ []) ∷ []) = cc in
        let place = a.0.in_place (ap (λ (c : CallTurns). are_on_one_slot (concat c.own)) is) in
        let turns : call_turns x.now ≡ Other sets_three ∷ Own gets_a ∷ [] =
        ap (λ q. map Other q ++ in_turn x.now.during x.now.own) a.0.before ∙ ap
        (λ q. map Other x.was.before ++ q) place ∙ ap call_turns is in
        let k = subst (λ q. History nothing (map step_of ((q ++ []) ++ [])) keys') turns leads in
        false≢true (ap is_one k.1.0)

-- ---- a split command while another client looks

-- MSET a 1 b 2, sent in two parts to two nodes. In between another client finds a at 1, and then no b.
abbrev pub mset_ab : List (List ℕ)
mset_ab = codes "MSET" ∷ codes "a" ∷ codes "1" ∷ codes "b" ∷ codes "2" ∷ []

abbrev pub puts_a : Step
puts_a = does (PartOf (codes "MSET") (codes "a" ∷ codes "1" ∷ []) []) slot_a okay [] (codes "1")

abbrev pub puts_b : Step
puts_b = does (PartOf (codes "MSET") (codes "b" ∷ codes "2" ∷ []) []) slot_b okay [] (codes "2")

abbrev pub finds_a : Step
finds_a = gets_a

abbrev pub finds_no_b : Step
finds_no_b = does (Whole get_b) slot_b nil [] []

abbrev pub one_mset : List RepliedCall
one_mset = with_replies (taken (okay ∷ []) (okay ∷ []))
    (answered mset_ab okay
    (plain n2 (mset_of (codes "a") (codes "1")) ∷ plain n1 (mset_of (codes "b") (codes "2")) ∷ []) ∷ [])

abbrev pub puts : Meaning
puts = puts_a ∷ puts_b ∷ []

abbrev pub both_put : Keyspace
both_put = with_cell a_is_one slot_b (codes "2")

-- as it was: a, both looks, b
abbrev pub looked_within : CallTurns
looked_within = record
    { before = []; during = [] ∷ (finds_a ∷ finds_no_b ∷ []) ∷ []; own = (puts_a ∷ []) ∷ (puts_b ∷ []) ∷ [] }

pub put_a_done : DoOperation (RunCommand (mset_of (codes "a") (codes "1"))) (puts_a ∷ []) (Reply okay)
unfolding destination rule_of table hash_slot splitting_of digits first_error
put_a_done = (okay, refl, ((tuple_done refl refl refl, tt), refl))

pub put_b_done : DoOperation (RunCommand (mset_of (codes "b") (codes "2"))) (puts_b ∷ []) (Reply okay)
unfolding destination rule_of table hash_slot splitting_of digits first_error
put_b_done = (okay, refl, ((tuple_done refl refl refl, tt), refl))

pub mset_done : DoOperation (RunCommand mset_ab) (puts_a ∷ puts_b ∷ []) (Reply okay)
unfolding destination rule_of table hash_slot splitting_of digits first_error
mset_done = (okay, refl, ((tuple_done refl refl refl, (tuple_done refl refl refl, tt)), refl))

-- no slot is that of a and that of b
pub not_both : (slot : ℕ) → slot == slot_a ≡ true → slot == slot_b ≡ true → ⊥
not_both slot e f =
    let two : slot_a ≡ slot_b = sym (eqb-true slot slot_a e) ∙ eqb-true slot slot_b f in
    false≢true (sym (ap (λ n. n == slot_a) two))

cells : (b c : Bool)
    → cond b (codes "2") (cond b [] (cond c (codes "1") (cond c (codes "1") [])))
    ≡ cond b (codes "2") (cond c (codes "1") [])
cells true c = refl
cells false true = refl
cells false false = refl

pub others_may_look_within : HonestAmongOthers puts nothing none_done one_mset (looked_within ∷ [])
    [] both_put
unfolding first_error
others_may_look_within = record {
  requests = (
    (
      was_done (Reply okay) refl put_a_done ((0, lit< tt, refl), tt),
      (
        was_done (Reply okay) refl put_b_done ((1, lit< tt, refl), tt),
        tt,
      ),
    ),
    tt,
  );
  history = (refl, (refl, (refl, (refl, λ slot. cells (slot == slot_b) (slot == slot_a)))));
}

-- on one server: no b is found, then a and b are put at once, then a is found
abbrev pub looked_around : CallTurns
looked_around = record
    { before = []; during = (finds_no_b ∷ []) ∷ (finds_a ∷ []) ∷ []; own = (puts_a ∷ puts_b ∷ []) ∷ [] }

abbrev pub around : List Turn
around = Other finds_no_b ∷ Own puts_a ∷ Own puts_b ∷ Other finds_a ∷ []

abbrev pub within : List Turn
within = Own puts_a ∷ Other finds_a ∷ Other finds_no_b ∷ Own puts_b ∷ []

pub they_look_around_on_one_server : AsOneServerAmongOthers puts nothing none_done one_mset
    (looked_within ∷ []) [] both_put
unfolding destination rule_of table hash_slot splitting_of digits first_error
they_look_around_on_one_server = record {
  served = record { was = looked_within; now = looked_around; responses = Reply okay ∷ [] } ∷ [];
  all = refl;
  each = (
    record {
      operations = ((mset_done, ((0, lit< tt, refl), ((1, lit< tt, refl), tt))), tt);
      answer = (okay, refl, refl);
      before = refl;
      same = same_on_each (slot_a ∷ slot_b ∷ []) around within refl refl (refl, (refl, tt));
      in_place = λ one. absurd (false≢true one);
    },
    tt,
  );
  history = (refl, (refl, (refl, (refl, λ slot. ends slot))));
}
  where
    ends : (slot : ℕ)
        → with_cell (with_cell (with_cell (with_cell nothing slot_b []) slot_a (codes "1")) slot_b
        (codes "2")) slot_a (codes "1") slot ≡ both_put slot
    ends slot = by (slot == slot_a) refl (slot == slot_b) refl
      where
        by : (c : Bool) → slot == slot_a ≡ c → (b : Bool) → slot == slot_b ≡ b
            → cond c (codes "1") (cond b (codes "2") (cond c (codes "1") (cond b [] [])))
            ≡ cond b (codes "2") (cond c (codes "1") [])
        by true e true f = absurd (not_both slot e f)
        by true e false f = refl
        by false e true f = refl
        by false e false f = refl

-- What no claim can say of a split command: that others' steps keep their order too. Who finds a at 1 and
-- only then no b has seen it half done. With both looks in their order around the whole command, some slot
-- differs.
pub no_order_keeps_both_looks : (front back : List Step) → front ++ back ≡ finds_a ∷ finds_no_b ∷ []
    → ((slot : ℕ) → turns_on slot (map Other front ++ (Own puts_a ∷ Own puts_b ∷ map Other back))
    ≡ turns_on slot within) → ⊥
no_order_keeps_both_looks [] back e same =
    let h : Own puts_b ∷ Other finds_no_b ∷ [] ≡ Other finds_no_b ∷ Own puts_b ∷ [] =
    ap (λ q. turns_on slot_b (Own puts_a ∷ Own puts_b ∷ map Other q)) (sym e) ∙ same slot_b in
    cc
no_order_keeps_both_looks (x ∷ front) back e same =
    let is : x ≡ finds_a = cc in
    let h : Other finds_a ∷ turns_on slot_a (map Other front ++ (Own puts_a ∷ Own puts_b ∷ map Other back))
    ≡ Own puts_a ∷ Other finds_a ∷ [] =
    ap (λ y. turns_on slot_a (Other y ∷ (map Other front ++ (Own puts_a ∷ Own puts_b ∷ map Other back))))
    (sym is) ∙ same slot_a in
    cc

-- ---- two clients at once

-- MSET a 1 b 1 and MSET b 2 a 2 of two clients cross: a is put by the first, b by the second, then b by the
-- first, then a by the second. The claim says of each client that its command is as if done at once, others'
-- steps before and behind it. It says nothing of both together: neither order of the two whole commands is a
-- history.
abbrev puts_at : ℕ → List (List ℕ) → List ℕ → List ℕ → Step
puts_at slot tuple before after = does (PartOf (codes "MSET") tuple []) slot okay before after

abbrev first_a : Step
first_a = puts_at slot_a (codes "a" ∷ codes "1" ∷ []) [] (codes "1")

abbrev second_b : Step
second_b = puts_at slot_b (codes "b" ∷ codes "2" ∷ []) [] (codes "2")

abbrev first_b : Step
first_b = puts_at slot_b (codes "b" ∷ codes "1" ∷ []) (codes "2") (codes "1")

abbrev second_a : Step
second_a = puts_at slot_a (codes "a" ∷ codes "2" ∷ []) (codes "1") (codes "2")

-- the keys that steps leave
abbrev behind_all : Keyspace → List Step → Keyspace
behind_all keys [] = keys
behind_all keys (x ∷ xs) = behind_all (with_cell keys x.slot x.after) xs

-- these four steps, from no keys, are a history
abbrev AreAHistory : List Step → Type 0
AreAHistory steps = History nothing steps (behind_all nothing steps)

pub they_cross : AreAHistory (first_a ∷ second_b ∷ first_b ∷ second_a ∷ [])
they_cross = (refl, (refl, (refl, (refl, λ slot. refl))))

pub the_first_is_as_if_at_once : AreAHistory (second_b ∷ first_a ∷ first_b ∷ second_a ∷ [])
the_first_is_as_if_at_once = (refl, (refl, (refl, (refl, λ slot. refl))))

pub the_second_is_as_if_at_once : AreAHistory (first_a ∷ second_b ∷ second_a ∷ first_b ∷ [])
the_second_is_as_if_at_once = (refl, (refl, (refl, (refl, λ slot. refl))))

pub not_the_first_before_the_second : (keys' : Keyspace)
    → History nothing (first_a ∷ first_b ∷ second_b ∷ second_a ∷ []) keys' → ⊥
not_the_first_before_the_second keys' h = let e : [] ≡ codes "2" = h.1.0 in cc

pub not_the_second_before_the_first : (keys' : Keyspace)
    → History nothing (second_b ∷ second_a ∷ first_a ∷ first_b ∷ []) keys' → ⊥
not_the_second_before_the_first keys' h = let e : [] ≡ codes "1" = h.1.0 in cc
