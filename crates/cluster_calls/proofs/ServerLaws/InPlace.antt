-- Own steps that are all on one slot stay at their places among all steps of others.
use Rattle.std.proofs.Common.{◌≡◌, ℕ, Bool, true, false, cond, ◌==◌, List, [], ◌∷◌, ◌++◌, map, refl, sym, ap, ◌∙◌, subst, append-nil, eqb-true, eq-eqb}
use Rattle.std.specs.List.{AllByRecursion, list_all}
use Rattle.std.proofs.lemmas.Bool.{and_parts}
use Rattle.std.proofs.lemmas.List.{map-append}
use Rattle.cluster_routing.specs.Lists.{concat, front, rest}
use Rattle.cluster_calls.specs.OneServer.Keyspace.{Step, on_slot}
use Rattle.cluster_calls.specs.OneServer.AmongOthers.{Own, Other, in_turn, are_on_one_slot}
use Rattle.cluster_calls.proofs.ServerLaws.Pieces.{with_some, pieces, SamePieces, same_on_slot}
use Rattle.cluster_calls.proofs.ServerLaws.Splits.{on_one_slot}
use Rattle.cluster_calls.proofs.ServerLaws.Turns.{ahead, front_and_rest, turns_ahead}

-- the lists that are not empty
abbrev some_lists : List (List Step) → List (List Step)
some_lists [] = []
some_lists (xs ∷ xss) = with_some xs (some_lists xss)

-- ---- places

no_own : (own during : List (List Step)) → some_lists own ≡ [] → in_turn during own ≡ map Other (concat during)
no_own [] during e = refl
no_own ([] ∷ os) during e =
    ap (λ q. map Other (concat (front during)) ++ q) (no_own os (rest during) e) ∙ sym (map-append Other (concat (front during)) (concat (rest during))) ∙ ap (map Other) (front_and_rest during)
no_own ((x ∷ xs) ∷ os) during e = cc

-- the same lists but for empty ones can stand at the same places
pub placed_again : (owns moves during : List (List Step)) → some_lists owns ≡ some_lists moves → (fs : List (List Step)) × (in_turn fs owns ≡ in_turn during moves)
placed_again [] moves during e = (during, sym (no_own moves during (sym e)))
placed_again ([] ∷ os) moves during e = let r = placed_again os moves during e in ([] ∷ r.0, r.1)
placed_again ((y ∷ ys) ∷ os) [] during e = cc
placed_again ((y ∷ ys) ∷ os) ([] ∷ ms) during e =
    let r = placed_again ((y ∷ ys) ∷ os) ms (rest during) e in
    (ahead (concat (front during)) r.0, turns_ahead (concat (front during)) r.0 ((y ∷ ys) ∷ os) ∙ ap (λ q. map Other (concat (front during)) ++ q) r.1)
placed_again ((y ∷ ys) ∷ os) ((x ∷ xs) ∷ ms) during e =
    let same : y ∷ ys ≡ x ∷ xs = cc in
    let later : some_lists os ≡ some_lists ms = cc in
    let r = placed_again os ms (rest during) later in
    let f = concat (front during) in (
      f ∷ r.0,
      ap (λ q. map Other q ++ (map Own (y ∷ ys) ++ in_turn r.0 os)) (append-nil f)
          ∙ ap (λ q. map Other f ++ (map Own q ++ in_turn r.0 os)) same
          ∙ ap (λ q. map Other f ++ (map Own (x ∷ xs) ++ q)) r.1,
    )

-- ---- steps on one slot

all_on : (k : ℕ) (xs : List Step) → list_all (λ (y : Step). k == y.slot) xs ≡ true → AllByRecursion (λ (x : Step). x.slot ≡ k) xs
all_on k [] e = tt
all_on k (x ∷ xs) e = let p = and_parts (k == x.slot) (list_all (λ (y : Step). k == y.slot) xs) e in (sym (eqb-true k x.slot p.0), all_on k xs p.1)

-- a list that has nothing on other slots is all on this one
only_on : (k : ℕ) (xs : List Step) → ((s : ℕ) → s == k ≡ false → on_slot s xs ≡ []) → AllByRecursion (λ (x : Step). x.slot ≡ k) xs
only_on k [] h = tt
only_on k (x ∷ xs) h = (by (x.slot == k) refl, only_on k xs (λ s e. behind s (s == x.slot) (h s e)))
  where
    behind : (s : ℕ) (b : Bool) → cond b (x ∷ on_slot s xs) (on_slot s xs) ≡ [] → on_slot s xs ≡ []
    behind s true e = cc
    behind s false e = e

    by : (b : Bool) → x.slot == k ≡ b → x.slot ≡ k
    by true e = eqb-true x.slot k e
    by false e = let f : x ∷ on_slot x.slot xs ≡ [] = sym (ap (λ b. cond b (x ∷ on_slot x.slot xs) (on_slot x.slot xs)) (eq-eqb x.slot x.slot refl)) ∙ h x.slot e in cc

all-front : (k : ℕ) (xs ys : List Step) → AllByRecursion (λ (x : Step). x.slot ≡ k) (xs ++ ys) → AllByRecursion (λ (x : Step). x.slot ≡ k) xs × AllByRecursion (λ (x : Step). x.slot ≡ k) ys
all-front k [] ys h = (tt, h)
all-front k (x ∷ xs) ys h = let r = all-front k xs ys h.1 in ((h.0, r.0), r.1)

-- where all are on the slot, its pieces are the lists
lists_are_pieces : (k : ℕ) (xss : List (List Step)) → AllByRecursion (λ (x : Step). x.slot ≡ k) (concat xss) → pieces k xss ≡ some_lists xss
lists_are_pieces k [] h = refl
lists_are_pieces k (xs ∷ xss) h =
    let p = all-front k xs (concat xss) h in
    ap (λ q. with_some q (pieces k xss)) (on_one_slot k k xs p.0 ∙ ap (λ b. cond b xs []) (eq-eqb k k refl)) ∙ ap (with_some xs) (lists_are_pieces k xss p.1)

same_lists : (k : ℕ) (owns moves : List (List Step)) → AllByRecursion (λ (x : Step). x.slot ≡ k) (concat moves) → SamePieces owns moves → some_lists owns ≡ some_lists moves
same_lists k owns moves h same =
    sym (lists_are_pieces k owns (only_on k (concat owns) (λ s e. same_on_slot owns moves same s ∙ on_one_slot s k (concat moves) h ∙ ap (λ b. cond b (concat moves) []) e)))
    ∙ same k ∙ lists_are_pieces k moves h

pub same_on_one_slot : (owns moves : List (List Step)) → are_on_one_slot (concat moves) ≡ true → SamePieces owns moves → some_lists owns ≡ some_lists moves
same_on_one_slot owns moves e same = by (concat moves) refl e
  where
    by : (q : List Step) → concat moves ≡ q → are_on_one_slot q ≡ true → some_lists owns ≡ some_lists moves
    by [] f e = same_lists 0 owns moves (subst (AllByRecursion (λ (y : Step). y.slot ≡ 0)) (sym f) tt) same
    by (x ∷ q) f e = same_lists x.slot owns moves (subst (AllByRecursion (λ (y : Step). y.slot ≡ x.slot)) (sym f) (refl, all_on x.slot q e)) same
