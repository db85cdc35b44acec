-- The steps of a split command, sent part by part, in argument order again.
use Rattle.std.proofs.Common.{◌≡◌, ℕ, Bool, true, false, cond, ◌||◌, ◌==◌, nat_eq, List, [], ◌∷◌, ◌++◌, map, filter, refl, sym, ap, ◌∙◌, subst, append-nil, Contains, eqb-true}
use Rattle.std.specs.Prelude.{MatchBool}
use Rattle.std.specs.List.{AllByRecursion}
use Rattle.std.proofs.lemmas.Bool.{false≢true}
use Rattle.std.proofs.lemmas.List.Elements.{filter-append}
use Rattle.cluster_routing.specs.Lists.{concat, among, IsDistinct, Pairwise, draw}
use Rattle.cluster_routing.specs.declared.policy.ResponsePolicy.{ResponsePolicy}
use Rattle.cluster_routing.specs.Parts.{Tuple, tuple_slot}
use Rattle.cluster_routing.specs.Split.{part_tuples}
use Rattle.cluster_calls.specs.OneServer.Keyspace.{Step, on_slot}
use Rattle.cluster_calls.specs.OneServer.Meaning.{Meaning, DoesTuple}
use Rattle.cluster_calls.proofs.ServerLaws.Draw.{draw_each}

-- the step does the tuple, and the meaning has it
abbrev pub DoesAllowed : Meaning → ResponsePolicy → List ℕ → List (List ℕ) → Tuple → Step → Type 0
DoesAllowed meaning policy word shared t x = DoesTuple policy word shared t x × Contains meaning x

pub pairwise-zip : {A X : Type 0} (R : A → X → Type 0) (P : X → Type 0) (as' : List A) (xs : List X) → Pairwise R as' xs → AllByRecursion P xs → Pairwise (λ a x. R a x × P x) as' xs
pairwise-zip R P [] [] h p = tt
pairwise-zip R P [] (x ∷ xs) h p = absurd h
pairwise-zip R P (a ∷ as') [] h p = absurd h
pairwise-zip R P (a ∷ as') (x ∷ xs) h p = ((h.0, p.0), pairwise-zip R P as' xs h.1 p.1)

pub pairwise-left : {A X : Type 0} (R : A → X → Type 0) (P : X → Type 0) (as' : List A) (xs : List X) → Pairwise (λ a x. R a x × P x) as' xs → Pairwise R as' xs × AllByRecursion P xs
pairwise-left R P [] [] h = (tt, tt)
pairwise-left R P [] (x ∷ xs) h = absurd h
pairwise-left R P (a ∷ as') [] h = absurd h
pairwise-left R P (a ∷ as') (x ∷ xs) h = let r = pairwise-left R P as' xs h.1 in ((h.0.0, r.0), (h.0.1, r.1))

-- steps that are all on one slot
pub on_one_slot : (s k : ℕ) (xs : List Step) → AllByRecursion (λ (x : Step). x.slot ≡ k) xs → on_slot s xs ≡ cond (s == k) xs []
on_one_slot s k [] h = by (s == k)
  where
    by : (b : Bool) → on_slot s [] ≡ cond b [] []
    by true = refl
    by false = refl
on_one_slot s k (x ∷ xs) h = ap (λ n. cond (s == n) (x ∷ on_slot s xs) (on_slot s xs)) h.0 ∙ ap (λ q. cond (s == k) (x ∷ q) q) (on_one_slot s k xs h.1) ∙ by (s == k)
  where
    by : (b : Bool) → cond b (x ∷ cond b xs []) (cond b xs []) ≡ cond b (x ∷ xs) []
    by true = refl
    by false = refl

pub filter-head : {X : Type 0} (q : X → Bool) (xs : List X) (t : X) (ts : List X) → filter q xs ≡ t ∷ ts → q t ≡ true
filter-head q [] t ts e = cc
filter-head q (x ∷ xs) t ts e = by (q x) refl e (λ f. filter-head q xs t ts f)
  where
    by : (b : Bool) → q x ≡ b → cond b (x ∷ filter q xs) (filter q xs) ≡ t ∷ ts → (filter q xs ≡ t ∷ ts → q t ≡ true) → q t ≡ true
    by true h f ih = let n : x ≡ t = cc in ap q (sym n) ∙ h
    by false h f ih = ih f

-- items with a slot each, and what does an item on that slot
module _ {T : Type 0} (slot_of : T → ℕ) (D : T → Step → Type 0) (on : (t : T) (x : Step) → D t x → x.slot ≡ slot_of t) where
  abbrev items_at : ℕ → List T → List T
  items_at k ts = filter (λ t. k == slot_of t) ts

  -- the steps of a part are on its slot
  pub group_on_slot : (k : ℕ) (ts : List T) (st : List Step) → Pairwise D (items_at k ts) st → AllByRecursion (λ (x : Step). x.slot ≡ k) st
  group_on_slot k ts st h = walk (items_at k ts) st (passes ts) h
    where
      passes : (us : List T) → AllByRecursion (λ t. slot_of t ≡ k) (items_at k us)
      passes [] = tt
      passes (u ∷ us) = by (k == slot_of u) refl (passes us)
        where
          by : (b : Bool) → k == slot_of u ≡ b → AllByRecursion (λ t. slot_of t ≡ k) (items_at k us) → AllByRecursion (λ t. slot_of t ≡ k) (cond b (u ∷ items_at k us) (items_at k us))
          by true e r = (sym (eqb-true k (slot_of u) e), r)
          by false e r = r

      walk : (us : List T) (xs : List Step) → AllByRecursion (λ t. slot_of t ≡ k) us → Pairwise D us xs → AllByRecursion (λ (x : Step). x.slot ≡ k) xs
      walk [] [] a h = tt
      walk [] (x ∷ xs) a h = absurd h
      walk (u ∷ us) [] a h = absurd h
      walk (u ∷ us) (x ∷ xs) a h = (on u x h.0 ∙ a.0, walk us xs a.1 h.1)

  -- concat, the steps of a slot are those of its part, and none where that was not sent
  parts_on_slot : (tuples : List T) (slots : List ℕ) (sts : List (List Step)) → IsDistinct nat_eq slots → Pairwise (λ k st. Pairwise D (items_at k tuples) st) slots sts
      → (s : ℕ) → MatchBool (among nat_eq s slots) (Pairwise D (items_at s tuples) (on_slot s (concat sts))) (on_slot s (concat sts) ≡ [])
  parts_on_slot tuples [] [] d h s = refl
  parts_on_slot tuples [] (st ∷ sts) d h s = absurd h
  parts_on_slot tuples (k ∷ ks) [] d h s = absurd h
  parts_on_slot tuples (k ∷ ks) (st ∷ sts) d h s =
      by (nat_eq s k) refl (among nat_eq s ks) refl (parts_on_slot tuples ks sts d.1 h.1 s)
    where
      own : on_slot s (st ++ concat sts) ≡ cond (s == k) st [] ++ on_slot s (concat sts)
      own = filter-append (λ (x : Step). s == x.slot) st (concat sts) ∙ ap (λ q. q ++ on_slot s (concat sts)) (on_one_slot s k st (group_on_slot k tuples st h.0))

      by : (b : Bool) → nat_eq s k ≡ b → (c : Bool) → among nat_eq s ks ≡ c
          → MatchBool c (Pairwise D (items_at s tuples) (on_slot s (concat sts))) (on_slot s (concat sts) ≡ [])
          → MatchBool (b || c) (Pairwise D (items_at s tuples) (on_slot s (st ++ concat sts))) (on_slot s (st ++ concat sts) ≡ [])
      by true e true f r = absurd (false≢true (sym d.0 ∙ ap (λ n. among nat_eq n ks) (sym (eqb-true s k e)) ∙ f))
      by true e false f r =
          let here : on_slot s (st ++ concat sts) ≡ st = own ∙ ap (λ b. cond b st [] ++ on_slot s (concat sts)) e ∙ ap (λ q. st ++ q) r ∙ append-nil st in
          subst (λ q. Pairwise D (items_at s tuples) q) (sym here)
          (subst (λ n. Pairwise D (items_at n tuples) st) (sym (eqb-true s k e)) h.0)
      by false e true f r = subst (λ q. Pairwise D (items_at s tuples) q) (sym (own ∙ ap (λ b. cond b st [] ++ on_slot s (concat sts)) e)) r
      by false e false f r = own ∙ ap (λ b. cond b st [] ++ on_slot s (concat sts)) e ∙ r

  -- the tuples with these slots, at one slot
  kept_at : (slots : List ℕ) (tuples : List T) (s : ℕ) → items_at s (filter (λ t. among nat_eq (slot_of t) slots) tuples) ≡ cond (among nat_eq s slots) (items_at s tuples) []
  kept_at slots [] s = by (among nat_eq s slots)
    where
      by : (b : Bool) → items_at s [] ≡ cond b [] []
      by true = refl
      by false = refl
  kept_at slots (t ∷ tuples) s = by (s == slot_of t) refl (among nat_eq (slot_of t) slots) refl (among nat_eq s slots) refl (kept_at slots tuples s)
    where
      us : List T
      us = filter (λ t. among nat_eq (slot_of t) slots) tuples

      by : (b : Bool) → s == slot_of t ≡ b → (c : Bool) → among nat_eq (slot_of t) slots ≡ c → (e : Bool) → among nat_eq s slots ≡ e
          → items_at s us ≡ cond e (items_at s tuples) [] → items_at s (cond c (t ∷ us) us) ≡ cond e (cond b (t ∷ items_at s tuples) (items_at s tuples)) []
      by true h true k true m ih = ap (λ b. cond b (t ∷ items_at s us) (items_at s us)) h ∙ ap (λ q. t ∷ q) ih
      by true h true k false m ih = absurd (false≢true (sym m ∙ ap (λ n. among nat_eq n slots) (eqb-true s (slot_of t) h) ∙ k))
      by true h false k true m ih = absurd (false≢true (sym k ∙ ap (λ n. among nat_eq n slots) (sym (eqb-true s (slot_of t) h)) ∙ m))
      by true h false k false m ih = ih
      by false h true k e m ih = ap (λ b. cond b (t ∷ items_at s us) (items_at s us)) h ∙ ih
      by false h false k e m ih = ih

  -- the sent parts' steps can be put in argument order, and are the same steps on each slot
  pub in_item_order : (tuples : List T) (slots : List ℕ) (sts : List (List Step)) → IsDistinct nat_eq slots → Pairwise (λ k st. Pairwise D (items_at k tuples) st) slots sts
      → let us = filter (λ t. among nat_eq (slot_of t) slots) tuples in
      let xs = draw (map slot_of us) (λ s. on_slot s (concat sts)) in
      Pairwise D us xs × ((s : ℕ) → on_slot s xs ≡ on_slot s (concat sts))
  in_item_order tuples slots sts d h =
      draw_each D slot_of (λ (x : Step). x.slot) on
      (filter (λ t. among nat_eq (slot_of t) slots) tuples) (λ s. on_slot s (concat sts))
      (λ s. subst (λ q. Pairwise D q (on_slot s (concat sts))) (sym (kept_at slots tuples s)) (by s (among nat_eq s slots) (parts_on_slot tuples slots sts d h s)))
    where
      by : (s : ℕ) (b : Bool) → MatchBool b (Pairwise D (items_at s tuples) (on_slot s (concat sts))) (on_slot s (concat sts) ≡ [])
          → Pairwise D (cond b (items_at s tuples) []) (on_slot s (concat sts))
      by s true r = r
      by s false r = subst (λ q. Pairwise D [] q) (sym r) tt

module _ (meaning : Meaning) (policy : ResponsePolicy) (word : List ℕ) (shared : List (List ℕ)) where
  -- the steps of a part are on its slot
  pub part_on_slot : (k : ℕ) (ts : List Tuple) (st : List Step) → Pairwise (DoesAllowed meaning policy word shared) (part_tuples k ts) st → AllByRecursion (λ (x : Step). x.slot ≡ k) st
  part_on_slot = group_on_slot tuple_slot (DoesAllowed meaning policy word shared) (λ t x r. r.0.slot)

  -- the steps of a split command in argument order
  pub in_argument_order : (tuples : List Tuple) (slots : List ℕ) (sts : List (List Step)) → IsDistinct nat_eq slots → Pairwise (λ k st. Pairwise (DoesAllowed meaning policy word shared) (part_tuples k tuples) st) slots sts
      → let us = filter (λ t. among nat_eq (tuple_slot t) slots) tuples in
      let xs = draw (map tuple_slot us) (λ s. on_slot s (concat sts)) in
      Pairwise (DoesAllowed meaning policy word shared) us xs × ((s : ℕ) → on_slot s xs ≡ on_slot s (concat sts))
  in_argument_order = in_item_order tuple_slot (DoesAllowed meaning policy word shared) (λ t x r. r.0.slot)
