-- A play on keys that another client uses too: the links of its two nodes from the first byte to the last, its
-- link calls, the client before and behind, and whose step comes when. MSET a 1 b 2 is made in two parts,
-- between which the other client finds a and then no b; then it sets a to 2; then GET a answers that; and then
-- the other client finds it too.
use Rattle.std.specs.Prelude.{◌≡◌, ℕ, ◌==◌, Bool, true, false, cond, List, [], ◌∷◌, ◌++◌, map, None, codes, refl}
use Rattle.std.specs.Fmt.{digits}
use Rattle.std.specs.List.{AllByRecursion}
use Rattle.std.proofs.Common.{ap, lit<, subst, sym, ◌∙◌}
use Rattle.std.proofs.lemmas.Bool.{false≢true}
use Rattle.resp_core.specs.Parts.{first_error}
use Rattle.resp_core.specs.Trees.{okay}
use Rattle.resp_link.specs.Call.{Seen}
use Rattle.cluster_routing.specs.Examples.{first_node as n1, second_node as n2}
use Rattle.cluster_routing.specs.HashSlot.{hash_slot}
use Rattle.cluster_routing.specs.Lists.{concat, Pairwise}
use Rattle.cluster_routing.specs.Parts.{Tuple}
use Rattle.cluster_routing.specs.Routing.{destination}
use Rattle.cluster_routing.specs.Split.{splitting_of}
use Rattle.cluster_routing.specs.Table.{rule_of, table}
use Rattle.cluster_routing.specs.declared.policy.ResponsePolicy.TheVariants.{AllSucceeded}
use Rattle.cluster_routing.specs.declared.policy.ResponsePolicy.{ResponsePolicy}
use Rattle.cluster_calls.specs.Links.Events.{Event}
use Rattle.cluster_calls.specs.Links.Play.{Plays, shown_of}
use Rattle.cluster_calls.specs.Links.Request.{Request, bytes_of}
use Rattle.cluster_calls.specs.Links.World.{World}
use Rattle.cluster_calls.specs.OneServer.AmongOthers.{CallTurns, HonestAmongOthers, ServedCall, AsOneServerAmongOthers}
use Rattle.cluster_calls.specs.OneServer.Headline.{PlayedCall, RepliedCall, with_replies, command_logs}
use Rattle.cluster_calls.specs.OneServer.Honest.{HonestRun, AccountsFor}
use Rattle.cluster_calls.specs.OneServer.Keyspace.{Keyspace, with_cell, Deed, PartOf, Step, History}
use Rattle.cluster_calls.specs.OneServer.Meaning.{Meaning, DoOperation, AreAllowed, DoesTuple}
use Rattle.cluster_calls.specs.OneServer.Operations.{RunCommand, Response, Reply}
use Rattle.cluster_calls.specs.OneServer.Played.{replied, HonestCluster}
use Rattle.cluster_calls.specs.OneServer.PlayedAmongOthers.{HonestSharedCluster}
use Rattle.cluster_calls.specs.WholeCalls.Base.{taken, plain, text}
use Rattle.cluster_calls.specs.WholeCalls.Deeds.{was_done, in_its_place}
use Rattle.cluster_calls.specs.WholeCalls.KeyRuns.{get_a, slot_a, slot_b, none_done, answered}
use Rattle.cluster_calls.specs.WholeCalls.MixedPlay.{link, world, replies_to}
use Rattle.cluster_calls.specs.WholeCalls.OthersBetweenCalls.{gets_two, the_get, get_two_done}
use Rattle.cluster_calls.specs.WholeCalls.RunsAmongOthers.{nothing, is_one, mset_ab, puts_a, puts_b, both_put, looked_within, looked_around, around, within, put_a_done, put_b_done, mset_done}
use Rattle.cluster_calls.specs.WholeCalls.Splits.{mset_of}
use Rattle.cluster_calls.specs.WholeCalls.TurnsOnSlots.{same_on_each}
use Rattle.cluster_calls.specs.WholeCalls.WrongServers.{of_each, step_of as command_step, get_a_is_whole}

-- ---- the calls

abbrev pub put_a : List (List ℕ)
put_a = mset_of (codes "a") (codes "1")

abbrev pub put_b : List (List ℕ)
put_b = mset_of (codes "b") (codes "2")

abbrev pub mset_answered : PlayedCall
mset_answered = answered mset_ab okay (plain n2 put_a ∷ plain n1 put_b ∷ [])

abbrev pub get_answered : PlayedCall
get_answered = answered get_a (text (codes "2")) (plain n2 get_a ∷ [])

abbrev pub shared_calls : List PlayedCall
shared_calls = mset_answered ∷ get_answered ∷ []

abbrev pub shared : List RepliedCall
shared = with_replies (taken (okay ∷ []) (okay ∷ text (codes "2") ∷ [])) shared_calls

-- ---- what the nodes get, and what they reply

abbrev pub to_n1 : List Request
to_n1 = plain n1 put_b ∷ []

abbrev pub to_n2 : List Request
to_n2 = plain n2 put_a ∷ plain n2 get_a ∷ []

pub n1_gets : bytes_of to_n1 ≡ codes "*3\r\n$4\r\nMSET\r\n$1\r\nb\r\n$1\r\n2\r\n"
unfolding digits
n1_gets = refl

pub n2_gets : bytes_of to_n2
    ≡ codes "*3\r\n$4\r\nMSET\r\n$1\r\na\r\n$1\r\n1\r\n*2\r\n$3\r\nGET\r\n$1\r\na\r\n"
unfolding digits
n2_gets = refl

-- ---- links

abbrev pub n1_0 : Seen
n1_0 = link [] (codes "+OK\r\n") 0

abbrev pub n1_1 : Seen
n1_1 = link (bytes_of to_n1) [] 1

abbrev pub n2_0 : Seen
n2_0 = link [] (codes "+OK\r\n$1\r\n2\r\n") 0

abbrev pub n2_1 : Seen
n2_1 = link (bytes_of (plain n2 put_a ∷ [])) (codes "$1\r\n2\r\n") 1

abbrev pub n2_2 : Seen
n2_2 = link (bytes_of to_n2) [] 2

-- ---- clients

abbrev pub at_first : World
at_first = world n1_0 n2_0 false

abbrev pub both_sent : World
both_sent = world n1_1 n2_1 false

abbrev pub at_last : World
at_last = world n1_1 n2_2 false

-- ---- link calls

abbrev pub by_mset : List Event
by_mset = replies_to n2 (plain n2 put_a ∷ []) (okay ∷ []) ∷ replies_to n1 (plain n1 put_b ∷ []) (okay ∷ []) ∷ []

abbrev pub by_get : List Event
by_get = replies_to n2 (plain n2 get_a ∷ []) (text (codes "2") ∷ []) ∷ []

-- ---- whose step comes when

-- what the other client does need not be in it
abbrev pub may : Meaning
may = puts_a ∷ puts_b ∷ gets_two ∷ []

abbrev pub shared_turns : List CallTurns
shared_turns = looked_within ∷ the_get ∷ []

abbrev pub looks_behind : List Step
looks_behind = gets_two ∷ []

abbrev pub behind : Keyspace
behind = with_cell both_put slot_a (codes "2")

pub puts_a_may : AreAllowed may (puts_a ∷ [])
puts_a_may = ((0, lit< tt, refl), tt)

pub puts_b_may : AreAllowed may (puts_b ∷ [])
puts_b_may = ((1, lit< tt, refl), tt)

pub gets_two_may : AreAllowed may (gets_two ∷ [])
gets_two_may = ((2, lit< tt, refl), tt)

-- a: put, found, set, got, found; b: not found, put
cells : (a b : Bool)
    → cond a (codes "2") (cond a (codes "2") (cond a (codes "2")
    (cond b (codes "2") (cond b [] (cond a (codes "1") (cond a (codes "1") []))))))
    ≡ cond a (codes "2") (cond b (codes "2") (cond a (codes "1") []))
cells true b = refl
cells false true = refl
cells false false = refl

pub shared_is_honest : HonestAmongOthers may nothing none_done shared shared_turns looks_behind behind
unfolding first_error
shared_is_honest = record {
  requests = (
    (
      was_done (Reply okay) refl put_a_done puts_a_may,
      (was_done (Reply okay) refl put_b_done puts_b_may, tt),
    ),
    (
      (
        was_done (Reply (text (codes "2"))) refl get_two_done gets_two_may,
        tt,
      ),
      tt,
    ),
  );
  history = (
    refl,
    (refl, (refl, (refl, (refl, (refl, (refl, λ slot. cells (slot == slot_a) (slot == slot_b))))))),
  );
}

-- on one server the other client finds no b before the command, and a behind it; all else stays
abbrev pub served_calls : List ServedCall
served_calls = record { was = looked_within; now = looked_around; responses = Reply okay ∷ [] }
    ∷ record { was = the_get; now = the_get; responses = Reply (text (codes "2")) ∷ [] } ∷ []

-- b: not found, put; a: put, found, set, got, found
cells_behind : (a b : Bool)
    → cond a (codes "2") (cond a (codes "2") (cond a (codes "2")
    (cond a (codes "1") (cond b (codes "2") (cond a (codes "1") (cond b [] []))))))
    ≡ cond a (codes "2") (cond b (codes "2") (cond a (codes "1") []))
cells_behind true b = refl
cells_behind false true = refl
cells_behind false false = refl

pub shared_is_as_on_one_server : AsOneServerAmongOthers may nothing none_done shared shared_turns looks_behind
    behind
unfolding destination rule_of table hash_slot splitting_of digits first_error
shared_is_as_on_one_server = record {
  served = served_calls;
  all = refl;
  each = (
    record {
      operations = ((mset_done, (puts_a_may.0, puts_b_may)), tt);
      answer = (okay, refl, refl);
      before = refl;
      same = same_on_each (slot_a ∷ slot_b ∷ []) around within refl refl (refl, (refl, tt));
      in_place = λ one. absurd (false≢true one);
    },
    (
      in_its_place ((get_two_done, gets_two_may), tt) (text (codes "2"), refl, refl),
      tt,
    ),
  );
  history = (
    refl,
    (refl, (refl, (refl, (refl, (refl, (refl, λ slot. cells_behind (slot == slot_a) (slot == slot_b))))))),
  );
}

-- ---- without the other client's steps no cluster with this meaning is honest over these calls

abbrev part_byte : Deed → ℕ
part_byte (PartOf word ((b ∷ bs) ∷ tuple) args) = b
part_byte deed = 0

only_puts_a : AllByRecursion (λ (x : Step). x.deed ≡ puts_a.deed → x ≡ puts_a) may
only_puts_a = (λ d. refl, (λ d. absurd (false≢true (ap (λ q. part_byte q == 97) d)), (λ d. cc, tt)))

only_puts_b : AllByRecursion (λ (x : Step). x.deed ≡ puts_b.deed → x ≡ puts_b) may
only_puts_b = (λ d. absurd (false≢true (ap (λ q. part_byte q == 98) d)), (λ d. refl, (λ d. cc, tt)))

only_gets_two : AllByRecursion (λ (x : Step). x.deed ≡ gets_two.deed → x ≡ gets_two) may
only_gets_two = (λ d. cc, (λ d. cc, (λ d. refl, tt)))

-- steps that do one tuple are the one step that the meaning has for it
one_put : (policy : ResponsePolicy) (word : List ℕ) (tuple : Tuple) (x : Step) → x.deed ≡ PartOf word tuple []
    → AllByRecursion (λ (y : Step). y.deed ≡ x.deed → y ≡ x) may → (s : List Step)
    → Pairwise (DoesTuple policy word []) (tuple ∷ []) s → AreAllowed may s → s ≡ x ∷ []
one_put policy word tuple x is only [] h allowed = absurd h
one_put policy word tuple x is only (y ∷ []) h allowed = ap (λ z. z ∷ [])
    (of_each (λ (z : Step). z.deed ≡ x.deed → z ≡ x) may y only allowed.0 (h.0.deed ∙ sym is))
one_put policy word tuple x is only (y ∷ z ∷ s) h allowed = absurd h.1

put_a_is : (s : List Step) (r : Response) → DoOperation (RunCommand put_a) s r → AreAllowed may s
    → s ≡ puts_a ∷ []
unfolding destination rule_of table hash_slot splitting_of digits
put_a_is s r h = one_put AllSucceeded (codes "MSET") (codes "a" ∷ codes "1" ∷ []) puts_a refl only_puts_a s h.2.0

put_b_is : (s : List Step) (r : Response) → DoOperation (RunCommand put_b) s r → AreAllowed may s
    → s ≡ puts_b ∷ []
unfolding destination rule_of table hash_slot splitting_of digits
put_b_is s r h = one_put AllSucceeded (codes "MSET") (codes "b" ∷ codes "2" ∷ []) puts_b refl only_puts_b s h.2.0

get_a_is : (s : List Step) (r : Response) → DoOperation (RunCommand get_a) s r → AreAllowed may s
    → s ≡ gets_two ∷ []
get_a_is s r h allowed =
    let x = command_step may get_a s r get_a_is_whole h allowed in
    x.alone ∙ ap (λ y. y ∷ [])
    (of_each (λ (y : Step). y.deed ≡ gets_two.deed → y ≡ gets_two) may x.step only_gets_two x.allowed x.deed)

pub they_are_not_honest_alone : (done : ℕ → Bool) (keys' : Keyspace)
    → HonestRun may nothing done (command_logs shared) keys' → ⊥
unfolding first_error
they_are_not_honest_alone done keys' h = by h.0 h.1 h.2
  where
    by : (ss : List (List Step)) → Pairwise (AccountsFor may done) (command_logs shared) ss
        → History nothing (concat ss) keys' → ⊥
    by [] a leads = absurd a
    by (s ∷ []) a leads = absurd a.1
    by (s ∷ s2 ∷ []) a leads = absurd a.1.1
    by (s ∷ s2 ∷ s3 ∷ s4 ∷ ss) a leads = absurd a.1.1.1
    by (s ∷ s2 ∷ s3 ∷ []) a leads =
        let e = put_a_is s a.0.response a.0.done a.0.allowed in
        let f = put_b_is s2 a.1.0.response a.1.0.done a.1.0.allowed in
        let g = get_a_is s3 a.1.1.0.response a.1.1.0.done a.1.1.0.allowed in
        let k = subst (λ q. History nothing (q ++ (s2 ++ (s3 ++ []))) keys') e leads in
        let l = subst (λ q. History nothing (puts_a ∷ (q ++ (s3 ++ []))) keys') f k in
        let m = subst (λ q. History nothing (puts_a ∷ puts_b ∷ (q ++ [])) keys') g l in
        false≢true (sym (ap is_one m.1.1.0))

-- ---- the statement

-- These two calls are all that was played, from `at_first` to `at_last`; the cluster is honest over them,
-- with the other client's steps in it, and not without; and they are as on one server with the same steps of
-- the other.
abbrev pub SharedIsPlayedWhole : Type 0
SharedIsPlayedWhole =
    (played : Plays None at_first at_last (map (λ (t : PlayedCall). t.call) shared_calls) []
    (map shown_of shared_calls) true)
    × (played.run ≡ shared_calls)
    × HonestSharedCluster played may nothing none_done shared_turns looks_behind behind
    × ((done : ℕ → Bool) (keys' : Keyspace) → HonestCluster played may nothing done keys' → ⊥)
    × AsOneServerAmongOthers may nothing none_done (replied played) shared_turns looks_behind behind
