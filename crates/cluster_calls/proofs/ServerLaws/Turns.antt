-- Others' steps between lists of own steps: their places when the own steps are regrouped.
use Rattle.std.proofs.Common.{◌≡◌, ℕ, Bool, true, false, cond, not, ◌==◌, List, [], ◌∷◌, ◌++◌, map, filter, refl, sym, ap, ◌∙◌, append-nil, append_assoc, eqb-true}
use Rattle.std.proofs.lemmas.List.{map-append}
use Rattle.std.proofs.lemmas.List.Elements.{filter-append}
use Rattle.cluster_routing.specs.Lists.{concat, front, rest}
use Rattle.cluster_calls.specs.OneServer.Keyspace.{Step, on_slot}
use Rattle.cluster_calls.specs.OneServer.AmongOthers.{Turn, Own, Other, step_of, in_turn, turns_on}
use Rattle.cluster_routing.proofs.SplitWords.{filter-const}
use Rattle.cluster_calls.proofs.ServerLaws.Grouping.{filter-map}
use Rattle.cluster_calls.proofs.ServerLaws.Pieces.{with_some, pieces, SamePieces}

-- ---- turns on a slot

pub turns-append : (s : ℕ) (xs ys : List Turn) → turns_on s (xs ++ ys) ≡ turns_on s xs ++ turns_on s ys
turns-append s xs ys = filter-append (λ t. s == (step_of t).slot) xs ys

pub others_on : (s : ℕ) (xs : List Step) → turns_on s (map Other xs) ≡ map Other (on_slot s xs)
others_on s xs = sym (filter-map Other (λ t. s == (step_of t).slot) xs)

pub own_on : (s : ℕ) (xs : List Step) → turns_on s (map Own xs) ≡ map Own (on_slot s xs)
own_on s xs = sym (filter-map Own (λ t. s == (step_of t).slot) xs)

-- others, own, and the rest
three_on : (s : ℕ) (g o : List Step) (r : List Turn) → turns_on s (map Other g ++ (map Own o ++ r)) ≡ map Other (on_slot s g) ++ (map Own (on_slot s o) ++ turns_on s r)
three_on s g o r =
    turns-append s (map Other g) (map Own o ++ r)
    ∙ ap (λ q. q ++ turns_on s (map Own o ++ r)) (others_on s g)
    ∙ ap (λ q. map Other (on_slot s g) ++ q) (turns-append s (map Own o) r ∙ ap (λ q. q ++ turns_on s r) (own_on s o))

-- ---- some steps more of others in front

abbrev pub ahead : List Step → List (List Step) → List (List Step)
ahead f others = (f ++ concat (front others)) ∷ rest others

pub front_and_rest : (others : List (List Step)) → concat (front others) ++ concat (rest others) ≡ concat others
front_and_rest [] = refl
front_and_rest (f ∷ fs) = ap (λ q. q ++ concat fs) (append-nil f)

pub turns_ahead : (f : List Step) (others owns : List (List Step)) → in_turn (ahead f others) owns ≡ map Other f ++ in_turn others owns
turns_ahead f others [] =
    ap (map Other) (append_assoc f (concat (front others)) (concat (rest others)) ∙ ap (λ q. f ++ q) (front_and_rest others)) ∙ map-append Other f (concat others)
turns_ahead f others (own ∷ owns) =
    ap (λ q. map Other q ++ (map Own own ++ in_turn (rest others) owns)) (append-nil (f ++ concat (front others)))
    ∙ ap (λ q. q ++ (map Own own ++ in_turn (rest others) owns)) (map-append Other f (concat (front others)))
    ∙ append_assoc (map Other f) (map Other (concat (front others))) (map Own own ++ in_turn (rest others) owns)

-- ---- slots that a list uses

abbrev is_some : {X : Type 0} → List X → Bool
is_some [] = false
is_some (x ∷ xs) = true

abbrev uses : List Step → ℕ → Bool
uses m s = is_some (on_slot s m)

-- the steps on slots that the list uses, and those on others
abbrev within : List Step → List Step → List Step
within m xs = filter (λ (x : Step). uses m x.slot) xs

abbrev without : List Step → List Step → List Step
without m xs = filter (λ (x : Step). not (uses m x.slot)) xs

within_on : (m xs : List Step) (s : ℕ) → on_slot s (within m xs) ≡ cond (uses m s) (on_slot s xs) []
within_on m xs s = filter-const (λ (x : Step). s == x.slot) (λ (x : Step). uses m x.slot) (uses m s) (λ x e. ap (uses m) (sym (eqb-true s x.slot e))) xs

without_on : (m xs : List Step) (s : ℕ) → on_slot s (without m xs) ≡ cond (not (uses m s)) (on_slot s xs) []
without_on m xs s = filter-const (λ (x : Step). s == x.slot) (λ (x : Step). not (uses m x.slot)) (not (uses m s)) (λ x e. ap (λ k. not (uses m k)) (sym (eqb-true s x.slot e))) xs

-- own lists without their first piece on each slot that m uses
abbrev strip : List Step → List (List Step) → List (List Step)
strip m [] = []
strip m (o ∷ os) = without m o ∷ strip (without o m) os

-- m is the first piece on each slot that it uses
abbrev Begins : List Step → List (List Step) → Type 0
Begins m owns = (s : ℕ) → (ps : List (List Step)) × (pieces s owns ≡ with_some (on_slot s m) ps)

-- ---- what is left of the pieces

unsome : {X : Type 0} (x : X) (xs : List X) (y : X) (ys : List X) (ps qs : List (List X)) → (x ∷ xs) ∷ ps ≡ (y ∷ ys) ∷ qs → (x ∷ xs ≡ y ∷ ys) × (ps ≡ qs)
unsome x xs y ys ps qs e = (let a : x ∷ xs ≡ y ∷ ys = cc in a, let b : ps ≡ qs = cc in b)

-- the parts of a list and the first piece, at one slot: o and m are what the first list and the first piece have there
left_at : (o m : List Step) (rest_of ps : List (List Step)) → with_some o rest_of ≡ with_some m ps → (qs : List (List Step)) × (rest_of ≡ with_some (cond (not (is_some o)) m []) qs) × (with_some (cond (not (is_some m)) o []) qs ≡ ps)
left_at [] [] rest_of ps e = (rest_of, refl, e)
left_at [] (x ∷ xs) rest_of ps e = (ps, e, refl)
left_at (y ∷ ys) [] rest_of ps e = (rest_of, refl, e)
left_at (y ∷ ys) (x ∷ xs) rest_of ps e = (rest_of, refl, (unsome y ys x xs rest_of ps e).1)

begins_rest : (m o : List Step) (os : List (List Step)) → Begins m (o ∷ os) → Begins (without o m) os
begins_rest m o os h s =
    let r = left_at (on_slot s o) (on_slot s m) (pieces s os) (h s).0 (h s).1 in
    (r.0, r.1 ∙ ap (λ q. with_some q r.0) (sym (without_on o m s)))

pub stripped : (m : List Step) (owns : List (List Step)) (s : ℕ) (ps : List (List Step)) → pieces s owns ≡ with_some (on_slot s m) ps → pieces s (strip m owns) ≡ ps
stripped m [] s ps e = by (on_slot s m) e
  where
    by : (q : List Step) → [] ≡ with_some q ps → [] ≡ ps
    by [] e = e
    by (x ∷ xs) e = cc
stripped m (o ∷ os) s ps e =
    let r = left_at (on_slot s o) (on_slot s m) (pieces s os) ps e in
    ap (λ q. with_some q (pieces s (strip (without o m) os))) (without_on m o s)
    ∙ ap (λ q. with_some (cond (not (uses m s)) (on_slot s o) []) q) (stripped (without o m) os s r.0 (r.1 ∙ ap (λ q. with_some q r.0) (sym (without_on o m s))))
    ∙ r.2

-- ---- a first piece put back

none_there : (m : List Step) (s : ℕ) (h : Begins m []) → on_slot s m ≡ []
none_there m s h = by (on_slot s m) (h s).1
  where
    by : (q : List Step) → [] ≡ with_some q (h s).0 → q ≡ []
    by [] e = refl
    by (x ∷ xs) e = cc

-- at one slot: what the list, the first piece and others have there
arranged : (g o m : List Step) (rest_of ps : List (List Step)) → with_some o rest_of ≡ with_some m ps → (r : List Turn)
    → map Other (cond (not (is_some m)) g []) ++ (map Own o ++ (map Own (cond (not (is_some o)) m []) ++ (map Other (cond (is_some m) g []) ++ r)))
    ≡ map Own m ++ (map Other g ++ (map Own (cond (not (is_some m)) o []) ++ r))
arranged g [] [] rest_of ps e r = refl
arranged g [] (x ∷ xs) rest_of ps e r = refl
arranged g (y ∷ ys) [] rest_of ps e r = refl
arranged g (y ∷ ys) (x ∷ xs) rest_of ps e r = ap (λ q. map Own q ++ (map Other g ++ r)) (unsome y ys x xs rest_of ps e).0

pub put_back : (m : List Step) (owns gs : List (List Step)) → Begins m owns → (fs : List (List Step)) × ((s : ℕ) → turns_on s (in_turn fs owns) ≡ map Own (on_slot s m) ++ turns_on s (in_turn gs (strip m owns)))
put_back m [] gs h = (gs, λ s. ap (λ q. map Own q ++ turns_on s (map Other (concat gs))) (sym (none_there m s h)))
put_back m (o ∷ os) gs h =
    let g = concat (front gs) in
    let m' = without o m in
    let moved = ahead (within m g) (rest gs) in
    let ih = put_back m' os moved (begins_rest m o os h) in
    let later = in_turn (rest gs) (strip m' os) in (
      without m g ∷ ih.0,
      λ s.
          ap (λ q. turns_on s (map Other q ++ (map Own o ++ in_turn ih.0 os))) (append-nil (without m g))
          ∙ three_on s (without m g) o (in_turn ih.0 os)
          ∙ ap (λ q. map Other q ++ (map Own (on_slot s o) ++ turns_on s (in_turn ih.0 os))) (without_on m g s)
          ∙ ap (λ q. map Other (cond (not (uses m s)) (on_slot s g) []) ++ (map Own (on_slot s o) ++ q))
          (ih.1 s
          ∙ ap (λ q. map Own q ++ turns_on s (in_turn moved (strip m' os))) (without_on o m s)
          ∙ ap (λ q. map Own (cond (not (uses o s)) (on_slot s m) []) ++ q)
          (ap (turns_on s) (turns_ahead (within m g) (rest gs) (strip m' os))
          ∙ turns-append s (map Other (within m g)) later
          ∙ ap (λ q. q ++ turns_on s later) (others_on s (within m g) ∙ ap (map Other) (within_on m g s))))
          ∙ arranged (on_slot s g) (on_slot s o) (on_slot s m) (pieces s os) (h s).0 (h s).1 (turns_on s later)
          ∙ ap (λ q. map Own (on_slot s m) ++ (map Other (on_slot s g) ++ (map Own q ++ turns_on s later))) (sym (without_on m o s))
          ∙ ap (λ q. map Own (on_slot s m) ++ q) (sym (three_on s g (without m o) later)),
    )

-- ---- regrouped

-- own lists without a step
pub nothing_own : (owns gs : List (List Step)) (s : ℕ) → pieces s owns ≡ [] → turns_on s (in_turn gs owns) ≡ turns_on s (map Other (concat gs))
nothing_own [] gs s e = refl
nothing_own (o ∷ os) gs s e =
    three_on s (concat (front gs)) o (in_turn (rest gs) os)
    ∙ by (on_slot s o) e (λ f. nothing_own os (rest gs) s f)
    ∙ ap (λ q. q ++ turns_on s (map Other (concat (rest gs)))) (sym (others_on s (concat (front gs))))
    ∙ sym (turns-append s (map Other (concat (front gs))) (map Other (concat (rest gs))))
    ∙ ap (turns_on s) (sym (map-append Other (concat (front gs)) (concat (rest gs))) ∙ ap (map Other) (front_and_rest gs))
  where
    by : (q : List Step) → with_some q (pieces s os) ≡ [] → (pieces s os ≡ [] → turns_on s (in_turn (rest gs) os) ≡ turns_on s (map Other (concat (rest gs))))
        → map Other (on_slot s (concat (front gs))) ++ (map Own q ++ turns_on s (in_turn (rest gs) os)) ≡ map Other (on_slot s (concat (front gs))) ++ turns_on s (map Other (concat (rest gs)))
    by [] f ih = ap (λ q. map Other (on_slot s (concat (front gs))) ++ q) (ih f)
    by (x ∷ xs) f ih = cc

-- own steps in other lists with the same pieces: others' steps can be put between them so that all turns of each slot stay as they are
pub regrouped_turns : (moves owns others : List (List Step)) → SamePieces owns moves → (during : List (List Step)) × ((s : ℕ) → turns_on s (in_turn during owns) ≡ turns_on s (in_turn others moves))
regrouped_turns [] owns others same = (others, λ s. nothing_own owns others s (same s))
regrouped_turns (m ∷ ms) owns others same =
    let f = concat (front others) in
    let ih = regrouped_turns ms (strip m owns) (rest others) (λ s. stripped m owns s (pieces s ms) (same s)) in
    let b = put_back m owns ih.0 (λ s. (pieces s ms, same s)) in (
      ahead f b.0,
      λ s.
          ap (turns_on s) (turns_ahead f b.0 owns)
          ∙ turns-append s (map Other f) (in_turn b.0 owns)
          ∙ ap (λ q. q ++ turns_on s (in_turn b.0 owns)) (others_on s f)
          ∙ ap (λ q. map Other (on_slot s f) ++ q) (b.1 s ∙ ap (λ q. map Own (on_slot s m) ++ q) (ih.1 s))
          ∙ sym (three_on s f m (in_turn (rest others) ms)),
    )
