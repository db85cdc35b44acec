-- Keys differ where each is none of those before it.
use Rattle.std.proofs.Common.{◌≡◌, Bool, true, false, cond, not, ◌&&◌, ◌||◌, List, [], ◌∷◌, ◌++◌, ℕ, suc, ◌+◌, ◌<◌, map, length, drop, drop-cons, get_or, add-one, refl, sym, ap, ◌∙◌}
use Rattle.std.specs.Prelude.{bytes_eq}
use Rattle.std.specs.List.{IsDistinct as Differ, AllByRecursion, list_all, list_any}
use Rattle.std.proofs.lemmas.Bool.{false≢true, and_parts, not-true}
use Rattle.std.proofs.lemmas.List.{map-append}
use Rattle.std.proofs.lemmas.List.Folds.{list_any-append}
use Rattle.std.proofs.lemmas.Slice.Eq.{bytes_eq-Decides}
use Rattle.indexmap.specs.IndexSet.{insert_key}
use Rattle.cluster_routing.specs.Address.{Address, same_address}
use Rattle.cluster_routing.specs.Lists.{among, is_distinct}
use Rattle.cluster_calls.specs.Links.World.{has_repeats}
use Rattle.cluster_calls.proofs.LinkLaws.OpenLinks.{swapped}

-- whether each of these is none of those seen, nor of those before it
abbrev pub are_new : {A : Type 0} → (A → A → Bool) → List A → List A → Bool
are_new eq seen [] = true
are_new eq seen (k ∷ ks) = not (list_any (eq k) seen) && are_new eq (seen ++ k ∷ []) ks

neither : (a b c d : Bool) → (not (a || (b || false)) && (d && not c)) ≡ (not a && d && not (b || c))
neither true b c d = refl
neither false true c true = refl
neither false true c false = refl
neither false false c d = refl

regrouped : (a b c d : Bool) → (a && (b && c && d)) ≡ (a && b && (c && d))
regrouped false b c d = refl
regrouped true false c d = refl
regrouped true true c d = refl

module _ {A : Type 0} (eq : A → A → Bool) (turned : (a b : A) → eq a b ≡ eq b a) where
  abbrev unseen : List A → List A → Bool
  unseen seen ks = list_all (λ k. not (list_any (eq k) seen)) ks

  one_more_seen : (seen : List A) (k : A) (ks : List A) → unseen (seen ++ k ∷ []) ks ≡ (unseen seen ks && not (among eq k ks))
  one_more_seen seen k [] = refl
  one_more_seen seen k (x ∷ ks) =
      ap (λ b. not b && unseen (seen ++ k ∷ []) ks) (list_any-append (eq x) seen (k ∷ []) ∙ ap (λ b. list_any (eq x) seen || (b || false)) (turned x k))
      ∙ ap (λ b. not (list_any (eq x) seen || (eq k x || false)) && b) (one_more_seen seen k ks)
      ∙ neither (list_any (eq x) seen) (eq k x) (among eq k ks) (unseen seen ks)

  new_are : (seen ks : List A) → are_new eq seen ks ≡ (unseen seen ks && is_distinct eq ks)
  new_are seen [] = refl
  new_are seen (k ∷ ks) =
      ap (λ b. not (list_any (eq k) seen) && b) (new_are (seen ++ k ∷ []) ks ∙ ap (λ b. b && is_distinct eq ks) (one_more_seen seen k ks))
      ∙ regrouped (not (list_any (eq k) seen)) (unseen seen ks) (not (among eq k ks)) (is_distinct eq ks)

  all_unseen : (ks : List A) → unseen [] ks ≡ true
  all_unseen [] = refl
  all_unseen (k ∷ ks) = all_unseen ks

  pub none_seen : (ks : List A) → is_distinct eq ks ≡ are_new eq [] ks
  none_seen ks = sym (new_are [] ks ∙ ap (λ b. b && is_distinct eq ks) (all_unseen ks))

-- ---- a set of the keys seen

module _ {A B X : Type 0} (eq : A → A → Bool) (text : B → A) (shown : X → A) where
  pub any_of : (a : A) (ks : List B) → list_any (λ (k : B). eq a (text k)) ks ≡ list_any (eq a) (map text ks)
  any_of a [] = refl
  any_of a (k ∷ ks) = ap (λ b. eq a (text k) || b) (any_of a ks)

  next : (seen : List B) (key : A) (items : List X) (i : ℕ) (d : X) → i < length items → key ≡ shown (get_or items i d) → is_distinct eq (map shown items) ≡ are_new eq (map text seen) (map shown (drop i items))
      → is_distinct eq (map shown items) ≡ (not (list_any (λ (k : B). eq key (text k)) seen) && are_new eq (map text seen ++ key ∷ []) (map shown (drop (suc i) items)))
  next seen key items i d within its so =
      so ∙ ap (λ xs. are_new eq (map text seen) (map shown xs)) (drop-cons items i d within) ∙ ap (λ a. are_new eq (map text seen) (a ∷ map shown (drop (suc i) items))) (sym its)
      ∙ ap (λ c. not c && are_new eq (map text seen ++ key ∷ []) (map shown (drop (suc i) items))) (sym (any_of key seen))

  -- the next item's key was seen, which ends it
  pub key_seen : (seen : List B) (key : A) (b : Bool) → b ≡ not (list_any (λ (k : B). eq key (text k)) seen) → b ≡ false
      → (items : List X) (i : ℕ) (d : X) → i < length items → key ≡ shown (get_or items i d) → is_distinct eq (map shown items) ≡ are_new eq (map text seen) (map shown (drop i items)) → false ≡ is_distinct eq (map shown items)
  key_seen seen key b is e items i d within its so =
      sym (next seen key items i d within its so ∙ ap (λ c. c && are_new eq (map text seen ++ key ∷ []) (map shown (drop (suc i) items))) (sym is ∙ e))

  -- it was not, and is put behind the others
  pub key_unseen : (seen : List B) (key : B) (b : Bool) (more : List B) → b ≡ not (list_any (λ (k : B). eq (text key) (text k)) seen) → b ≡ true → more ≡ insert_key (λ (a c : B). eq (text a) (text c)) seen key
      → (items : List X) (i : ℕ) (d : X) → i < length items → text key ≡ shown (get_or items i d) → is_distinct eq (map shown items) ≡ are_new eq (map text seen) (map shown (drop i items))
      → is_distinct eq (map shown items) ≡ are_new eq (map text more) (map shown (drop (i + 1) items))
  key_unseen seen key b more is e put items i d within its so =
      let behind = map shown (drop (suc i) items) in
      let absent : list_any (λ (k : B). eq (text key) (text k)) seen ≡ false = not-true _ (sym is ∙ e) in
      let last : more ≡ seen ++ key ∷ [] = put ∙ ap (λ c. cond c seen (seen ++ key ∷ [])) absent in
      next seen (text key) items i d within its so ∙ ap (λ c. not c && are_new eq (map text seen ++ text key ∷ []) behind) absent
      ∙ ap (λ ks. are_new eq ks behind) (sym (ap (map text) last ∙ map-append text seen (key ∷ [])))
      ∙ ap (λ n. are_new eq (map text more) (map shown (drop n items))) (sym (add-one i))

-- ---- bytes

pub turned_bytes : (a b : List ℕ) → bytes_eq a b ≡ bytes_eq b a
turned_bytes a b = by (bytes_eq a b) refl
  where
    by : (c : Bool) → bytes_eq a b ≡ c → c ≡ bytes_eq b a
    by true e = sym ((bytes_eq-Decides b a).1 (sym ((bytes_eq-Decides a b).0 e)))
    by false e = other (bytes_eq b a) refl
      where
        other : (d : Bool) → bytes_eq b a ≡ d → false ≡ d
        other true f = sym e ∙ (bytes_eq-Decides a b).1 (sym ((bytes_eq-Decides b a).0 f))
        other false f = refl

-- differing keys as a fact

none_of : (k : List ℕ) (ks : List (List ℕ)) → not (among bytes_eq k ks) ≡ true → AllByRecursion (λ y. bytes_eq k y ≡ false) ks
none_of k [] h = tt
none_of k (x ∷ ks) h = by (bytes_eq k x) refl h (none_of k ks)
  where
    by : (b : Bool) → bytes_eq k x ≡ b → not (b || among bytes_eq k ks) ≡ true → (not (among bytes_eq k ks) ≡ true → AllByRecursion (λ y. bytes_eq k y ≡ false) ks) → AllByRecursion (λ y. bytes_eq k y ≡ false) (x ∷ ks)
    by true e g later = absurd (false≢true g)
    by false e g later = (e, later g)

pub differ : (ks : List (List ℕ)) → is_distinct bytes_eq ks ≡ true → Differ bytes_eq ks
unfolding Differ
differ [] h = tt
differ (k ∷ ks) h = let both = and_parts (not (among bytes_eq k ks)) (is_distinct bytes_eq ks) h in (none_of k ks both.0, differ ks both.1)

-- ---- addresses

-- an address is given twice where the addresses do not all differ
pub repeats_are : (addresses : List Address) → has_repeats addresses ≡ not (is_distinct same_address addresses)
repeats_are [] = refl
repeats_are (a ∷ as') = ap (λ b. b || has_repeats as') (found as') ∙ ap (λ b. among same_address a as' || b) (repeats_are as') ∙ either (among same_address a as') (is_distinct same_address as')
  where
    found : (bs : List Address) → list_any (λ b. same_address b a) bs ≡ among same_address a bs
    found [] = refl
    found (b ∷ bs) = ap (λ c. c || list_any (λ b. same_address b a) bs) (swapped b a) ∙ ap (λ c. same_address a b || c) (found bs)

    either : (b c : Bool) → (b || not c) ≡ not (not b && c)
    either true c = refl
    either false c = refl
