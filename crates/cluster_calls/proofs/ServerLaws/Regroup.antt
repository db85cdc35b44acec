-- Lists that are sent group by group, in any order of the groups.
use Rattle.std.proofs.Common.{◌≡◌, ◌↔◌, ℕ, Bool, true, false, cond, ◌||◌, ◌==◌, List, [], ◌∷◌, ◌++◌, filter, flat_map, refl, sym, ap, ◌∙◌, subst, append-nil, eqb-true}
use Rattle.std.specs.List.{AllByRecursion}
use Rattle.std.proofs.lemmas.Bool.{false≢true}
use Rattle.std.proofs.lemmas.List.Elements.{filter-append}
use Rattle.cluster_routing.specs.Lists.{among, IsDistinct, group_by_group}
use Rattle.cluster_calls.specs.OneServer.Keyspace.{Keyspace, Step, History, on_slot}
use Rattle.cluster_calls.proofs.ServerLaws.Histories.{history_same_slots}

filter-cond : {X : Type 0} (p : X → Bool) (c : Bool) (xs ys : List X) → filter p (cond c xs ys) ≡ cond c (filter p xs) (filter p ys)
filter-cond p true xs ys = refl
filter-cond p false xs ys = refl

-- one element more, which passes the test b and is of the group where c says so
one_more : {X : Type 0} (x : X) (rest kept : List X) (b c d : Bool) → (b ≡ true → d ≡ c) → kept ≡ cond d rest [] → cond c (cond b (x ∷ kept) kept) kept ≡ cond d (cond b (x ∷ rest) rest) []
one_more x rest kept true true true same h = ap (λ zs. x ∷ zs) h
one_more x rest kept true true false same h = absurd (false≢true (same refl))
one_more x rest kept true false true same h = absurd (false≢true (sym (same refl)))
one_more x rest kept true false false same h = h
one_more x rest kept false true d same h = h
one_more x rest kept false false d same h = h

none_of : (X : Type 0) (b : Bool) → cond {A = List X} false [] [] ≡ cond {A = List X} b [] []
none_of X true = refl
none_of X false = refl

-- concat, what is all or nothing at each of the distinct groups is there once or not at all
once : {A X : Type 0} (eq : A → A → Bool) (eq_true : (a b : A) → eq a b ≡ true → a ≡ b) (k : A) (xs : List X) (groups : List A) → IsDistinct eq groups → flat_map (λ g. cond (eq k g) xs []) groups ≡ cond (among eq k groups) xs []
once eq eq_true k xs [] d = refl
once eq eq_true k xs (g ∷ gs) d = by (eq k g) refl (among eq k gs) refl (once eq eq_true k xs gs d.1)
  where
    by : (b : Bool) → eq k g ≡ b → (c : Bool) → among eq k gs ≡ c → flat_map (λ h. cond (eq k h) xs []) gs ≡ cond (among eq k gs) xs [] → cond b xs [] ++ flat_map (λ h. cond (eq k h) xs []) gs ≡ cond (b || among eq k gs) xs []
    by true e true f h = absurd (false≢true (sym (subst (λ a. among eq a gs ≡ false) (sym (eq_true k g e)) d.0) ∙ f))
    by true e false f h = ap (λ zs. xs ++ zs) (h ∙ ap (λ c. cond c xs []) f) ∙ append-nil xs
    by false e c f h = h

module _ {A X : Type 0} (eq : A → A → Bool) (eq_true : (a b : A) → eq a b ≡ true → a ≡ b) (group : X → A) (p : X → Bool) (k : A) (one_group : (x : X) → p x ≡ true → group x ≡ k) where
  -- of one group, a test that only elements of group k pass takes all or nothing
  pub filter-group : (g : A) (xs : List X) → filter p (filter (λ x. eq (group x) g) xs) ≡ cond (eq k g) (filter p xs) []
  filter-group g [] = none_of X (eq k g)
  filter-group g (x ∷ xs) =
      filter-cond p (eq (group x) g) (x ∷ filter (λ y. eq (group y) g) xs) (filter (λ y. eq (group y) g) xs)
      ∙ one_more x (filter p xs) (filter p (filter (λ y. eq (group y) g) xs)) (p x) (eq (group x) g) (eq k g) (λ e. ap (λ a. eq a g) (sym (one_group x e))) (filter-group g xs)

  -- the same of all groups
  pub filter-group_by_group : (groups : List A) (xs : List X) → IsDistinct eq groups → filter p (group_by_group eq group groups xs) ≡ cond (among eq k groups) (filter p xs) []
  filter-group_by_group groups xs d = walk groups ∙ once eq eq_true k (filter p xs) groups d
    where
      walk : (gs : List A) → filter p (group_by_group eq group gs xs) ≡ flat_map (λ g. cond (eq k g) (filter p xs) []) gs
      walk [] = refl
      walk (g ∷ gs) = filter-append p (filter (λ x. eq (group x) g) xs) (group_by_group eq group gs xs) ∙ ap (λ zs. zs ++ filter p (group_by_group eq group gs xs)) (filter-group g xs) ∙ ap (λ zs. cond (eq k g) (filter p xs) [] ++ zs) (walk gs)

  -- where each element's group is among them, nothing is lost
  pub filter-grouped_all : (groups : List A) (xs : List X) → IsDistinct eq groups → AllByRecursion (λ x. among eq (group x) groups ≡ true) xs → filter p (group_by_group eq group groups xs) ≡ filter p xs
  filter-grouped_all groups xs d all = filter-group_by_group groups xs d ∙ whole (among eq k groups) refl
    where
      none : among eq k groups ≡ false → (ys : List X) → AllByRecursion (λ x. among eq (group x) groups ≡ true) ys → [] ≡ filter p ys
      none e [] h = refl
      none e (y ∷ ys) h = skip (p y) refl (none e ys h.1)
        where
          skip : (b : Bool) → p y ≡ b → [] ≡ filter p ys → [] ≡ cond b (y ∷ filter p ys) (filter p ys)
          skip true f then = absurd (false≢true (sym e ∙ ap (λ a. among eq a groups) (sym (one_group y f)) ∙ h.0))
          skip false f then = then

      whole : (b : Bool) → among eq k groups ≡ b → cond b (filter p xs) [] ≡ filter p xs
      whole true e = refl
      whole false e = none e xs all

-- a history stays one group by group
pub grouped_history : {A : Type 0} (eq : A → A → Bool) → ((a b : A) → eq a b ≡ true → a ≡ b) → (group : ℕ → A) (groups : List A) (keys keys' : Keyspace) (steps : List Step) → IsDistinct eq groups
    → AllByRecursion (λ (x : Step). among eq (group x.slot) groups ≡ true) steps → History keys (group_by_group eq (λ (x : Step). group x.slot) groups steps) keys' ↔ History keys steps keys'
grouped_history eq eq_true group groups keys keys' steps d all = (
  history_same_slots (group_by_group eq (λ (x : Step). group x.slot) groups steps) steps keys keys' same,
  history_same_slots steps (group_by_group eq (λ (x : Step). group x.slot) groups steps) keys keys' (λ s. sym (same s)),
)
  where
    same : (s : ℕ) → on_slot s (group_by_group eq (λ (x : Step). group x.slot) groups steps) ≡ on_slot s steps
    same s = filter-grouped_all eq eq_true (λ (x : Step). group x.slot) (λ (x : Step). s == x.slot) (group s) (λ x e. ap group (sym (eqb-true s x.slot e))) groups steps d all
