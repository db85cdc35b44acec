-- A step of another client that is left out, moved or doubled: then the premise of the claim does not hold.
-- `RunsAmongOthers` has the right one.
use Rattle.std.specs.Prelude.{◌≡◌, ◌==◌, List, [], ◌∷◌, ◌++◌, map, codes}
use Rattle.std.specs.List.{AllByRecursion}
use Rattle.std.proofs.Common.{ap, subst}
use Rattle.std.proofs.lemmas.Bool.{false≢true}
use Rattle.resp_core.specs.Parts.{first_error}
use Rattle.cluster_routing.specs.Lists.{Pairwise}
use Rattle.cluster_calls.specs.OneServer.AmongOthers.{Turn, Other, step_of, in_turn, CallTurns, AreItsRequests, HonestAmongOthers}
use Rattle.cluster_calls.specs.OneServer.Keyspace.{Keyspace, Whole, Step, History}
use Rattle.cluster_calls.specs.WholeCalls.KeyRuns.{get_a, sets_a, meaning, none_done}
use Rattle.cluster_calls.specs.WholeCalls.RunsAmongOthers.{nothing, one_get}
use Rattle.cluster_calls.specs.WholeCalls.WrongServers.{of_each, step_of as command_step, deed_byte, get_a_is_whole}

-- GET a is answered with 1, and another client's SET a 1 before it is left out, whatever else is done behind
-- the GET
abbrev pub nothing_before : List (List Step) → List (List Step) → CallTurns
nothing_before later own = record { before = []; during = [] ∷ later; own = own }

-- the nodes are honest, and others did these steps in these places
abbrev pub IsHonestWith : CallTurns → List Step → Keyspace → Type 0
IsHonestWith turns last keys' = HonestAmongOthers meaning nothing none_done one_get (turns ∷ []) last keys'

abbrev run_of : List (List Step) → List (List Step) → List Step → List Turn
run_of later own last = (in_turn ([] ∷ later) own ++ []) ++ map Other last

pub a_get_finds_what_was_set_before_it : (later own : List (List Step)) (last : List Step) (keys' : Keyspace)
    → IsHonestWith (nothing_before later own) last keys' → ⊥
unfolding first_error
a_get_finds_what_was_set_before_it later own last keys' h = by own h.requests h.history
  where
    none : AllByRecursion (λ (x : Step). x.deed ≡ Whole get_a → nothing x.slot ≡ x.before → ⊥) meaning
    none = (λ d e. cc, (λ d e. cc, (λ d e. false≢true (ap (λ q. deed_byte q == 97) d), tt)))

    by : (ss : List (List Step))
        → Pairwise (AreItsRequests meaning none_done) one_get (nothing_before later ss ∷ [])
        → History nothing (map step_of (run_of later ss last)) keys' → ⊥
    by [] a leads = absurd a.0
    by (s ∷ s2 ∷ ss) a leads = absurd a.0.1
    by (s ∷ []) a leads =
        let x = command_step meaning get_a s a.0.0.response get_a_is_whole a.0.0.done a.0.0.allowed in
        of_each (λ (y : Step). y.deed ≡ Whole get_a → nothing y.slot ≡ y.before → ⊥) meaning x.step none
        x.allowed x.deed
        (subst (λ q. History nothing (map step_of (run_of later (q ∷ []) last)) keys') x.alone leads).0

-- so it is not left out
pub a_set_is_not_left_out : (own : List (List Step)) (keys' : Keyspace)
    → IsHonestWith (nothing_before [] own) [] keys' → ⊥
a_set_is_not_left_out own = a_get_finds_what_was_set_before_it [] own []

-- nor moved past the GET, which is on its slot
pub a_set_is_not_moved_past_a_get : (own : List (List Step)) (keys' : Keyspace)
    → IsHonestWith (nothing_before ((sets_a ∷ []) ∷ []) own) [] keys' → ⊥
a_set_is_not_moved_past_a_get own = a_get_finds_what_was_set_before_it ((sets_a ∷ []) ∷ []) own []

-- nor from before the call to behind it
pub a_set_is_not_moved_behind_the_call : (own : List (List Step)) (keys' : Keyspace)
    → IsHonestWith (nothing_before [] own) (sets_a ∷ []) keys' → ⊥
a_set_is_not_moved_behind_the_call own = a_get_finds_what_was_set_before_it [] own (sets_a ∷ [])

-- nor doubled: the second would find a at 1, and it found none
abbrev pub behind_two_sets : List (List Step) → CallTurns
behind_two_sets own = record { before = sets_a ∷ sets_a ∷ []; during = []; own = own }

pub a_set_is_not_doubled : (own : List (List Step)) (keys' : Keyspace)
    → IsHonestWith (behind_two_sets own) [] keys' → ⊥
a_set_is_not_doubled own keys' h = let e : codes "1" ≡ [] = h.history.1.0 in cc
