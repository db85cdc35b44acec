-- Entries that are read one after another.
use Rattle.std.proofs.Common.{◌≡◌, ℕ, List, [], ◌∷◌, ◌++◌, Option, Some, None, Result, Err, option_map, refl, subst, ◌∙◌}
use Rattle.std.proofs.Common.{map as each}
use Rattle.std.specs.List.{flat_map}
use Rattle.std.specs.Option.{option_and_then}
use Rattle.std.proofs.lemmas.List.{append_assoc}
use Rattle.resp_core.specs.Errors.{Unreadable, refused, no_memory}
use Rattle.resp_args.specs.Convert.{Answers, traverse}
use Rattle.stream_commands.specs.Entries.{Entry, Fields, ids_with_fields, without_times}
use Rattle.resp_core.specs.Trees.{Tree}

abbrev pub Pairs : Type 0
Pairs = List (List ℕ × Fields)

-- what was read, and the entries of the rest
abbrev pub with_rest : List Entry → Option (List Pairs) → Option (List Entry)
with_rest done rest = option_map (λ r. done ++ flat_map (each without_times) r) rest

one-more : (o : Option Pairs) (rest : Option (List Pairs)) (done more : List Entry) → option_map (λ es. done ++ each without_times es) o ≡ Some more → with_rest done (option_and_then (λ y. option_map (λ ys. y ∷ ys) rest) o) ≡ with_rest more rest
one-more None rest done more h = cc
one-more (Some es) None done more h = refl
one-more (Some es) (Some ys) done more h = let e : done ++ each without_times es ≡ more = cc in rw (← e, append_assoc done (each without_times es) (flat_map (each without_times) ys)) refl

-- one more item is read
pub entries-next : {A : Type 0} (read : A → Option Pairs) (all : Option (List Entry)) (left : List A) (x : A) (xs : List A) (done more : List Entry)
    → all ≡ with_rest done (traverse read left) → left ≡ x ∷ xs → option_map (λ es. done ++ each without_times es) (read x) ≡ Some more → all ≡ with_rest more (traverse read xs)
entries-next read all left x xs done more h l k = h ∙ rw l (one-more (read x) (traverse read xs) done more k)

none-more : (o : Option Pairs) (rest : Option (List Pairs)) (done : List Entry) → option_map (λ es. done ++ each without_times es) o ≡ None → with_rest done (option_and_then (λ y. option_map (λ ys. y ∷ ys) rest) o) ≡ None
none-more None rest done h = refl
none-more (Some es) rest done h = cc

-- or refused, and so is the whole
pub entries-stopped : {A S : Type 0} (read : A → Option Pairs) (means : S → List Entry) (all : Option (List Entry)) (left : List A) (x : A) (xs : List A) (done : List Entry) (e : Unreadable)
    → all ≡ with_rest done (traverse read left) → left ≡ x ∷ xs → Answers {S = Unit {0}} (λ _. []) (option_map (λ es. done ++ each without_times es) (read x)) (Err e) → Answers means all (Err e)
entries-stopped read means all left x xs done (refused text) h l k = h ∙ rw l (none-more (read x) (traverse read xs) done k)
entries-stopped read means all left x xs done no_memory h l k = tt

-- the same tree in other words
pub answers-at : (meaning : Unit {0} → List Entry) (f : Pairs → List Entry) (t u : Tree) (r : Result (Unit {0}) Unreadable) → t ≡ u → Answers meaning (option_map f (ids_with_fields t)) r → Answers meaning (option_map f (ids_with_fields u)) r
answers-at meaning f t u r e h = subst (λ x. Answers meaning (option_map f (ids_with_fields x)) r) e h
