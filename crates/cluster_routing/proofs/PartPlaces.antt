-- The command of a part is what stands at the places of the part.
use Rattle.std.specs.Bool.{⊤}
use Rattle.std.specs.Prelude.{flat_map}
use Rattle.std.proofs.Common.{◌≡◌, ℕ, zero, suc, ◌+◌, ◌≤◌, ◌||◌, nat_eq, Bool, true, false, cond, List, [], ◌∷◌, ◌++◌, map, length, drop, Option, Some, None, option_map, refl, sym, ap, ◌∙◌, subst, arith, append_assoc, append-nil, eqb-true, eq-eqb}
use Rattle.std.specs.Borrow.{Bor}
use Rattle.std.specs.Slice.{IsItemAt}
use Rattle.std.proofs.lemmas.List.{length-map}
use Rattle.std.proofs.lemmas.Option.{slice_get-map}
use Rattle.resp_args.specs.Command.{Command}
use Rattle.resp_args.specs.declared.cmd.Arg.TheVariants.{Simple, Cursor}
use Rattle.cluster_routing.specs.Command.{Args, all_bytes, texts_in}
use Rattle.cluster_routing.specs.CombineLaws.{OneSlotIsTheWhole, SubsAreAtTheirPlaces}
use Rattle.cluster_routing.specs.Info.{lent_texts}
use Rattle.cluster_routing.specs.Lists.{among, concat, front}
use Rattle.cluster_routing.specs.Parts.{Tuple, argument_slots, len_in_tuples, places_from, tuple_slot}
use Rattle.cluster_routing.specs.Split.{join_split, text_list, part_places, part_tuples, shared_by, shared_text, sub_of, text_at, with_texts}
use Rattle.cluster_routing.specs.declared.policy.MultiSlotArgPattern.{MultiSlotArgPattern}
use Rattle.cluster_routing.specs.declared.policy.MultiSlotArgPattern.TheVariants.{KeysOnly, KeyValuePairs, KeysAndLastArg, KeyWithTwoArgTriples}
use Rattle.cluster_routing.proofs.Distinct.{nat_tells}
use Rattle.cluster_routing.proofs.Recut.{FitsShared, cut_of, cut_shaped, split_whole}
use Rattle.cluster_routing.proofs.Replies.{got}
use Rattle.cluster_routing.proofs.ServingShards.{among-firsts}

-- ---- what the code writes where there is no argument

pub nothing_there : (c : Command) (args : List (Option (Bor (List ℕ)))) (i : ℕ) → IsItemAt args i None → c ≡ with_texts c (text_at (lent_texts args) i)
nothing_there c args i h =
    ap (λ as'. record c { args = as' }) (sym (append-nil c.args))
    ∙ ap (λ (o : Option (Option (Bor (List ℕ)))). with_texts c (text_list (option_map (λ (a : Option (Bor (List ℕ))). option_map (λ (b : Bor (List ℕ)). b.now) a) o))) (got args i None h)
    ∙ ap (λ o. with_texts c (text_list o)) (sym (slice_get-map (λ (a : Option (Bor (List ℕ))). option_map (λ (b : Bor (List ℕ)). b.now) a) args i))

-- ---- arguments without gaps

abbrev whole : List (List ℕ) → List (Option (List ℕ))
whole texts = map (λ text. Some text) texts

texts_in-whole : (args : Args) (texts : List (List ℕ)) → all_bytes args ≡ Some texts → texts_in args ≡ whole texts
texts_in-whole [] texts e = let n : [] ≡ texts = cc in ap whole n
texts_in-whole (Cursor ∷ args) texts e = cc
texts_in-whole (Simple x ∷ args) texts e = by (all_bytes args) refl e (λ rest k. texts_in-whole args rest k)
  where
    by : (o : Option (List (List ℕ))) → all_bytes args ≡ o → option_map (λ rest. x ∷ rest) o ≡ Some texts → ((rest : List (List ℕ)) → all_bytes args ≡ Some rest → texts_in args ≡ whole rest) → Some x ∷ texts_in args ≡ whole texts
    by None k f later = cc
    by (Some rest) k f later = let n : x ∷ rest ≡ texts = cc in ap (λ us. Some x ∷ us) (later rest k) ∙ ap whole n

text_at-whole : (texts : List (List ℕ)) (i : ℕ) → text_at (whole texts) i ≡ front (drop i texts)
text_at-whole [] zero = refl
text_at-whole [] (suc i) = refl
text_at-whole (t ∷ texts) zero = refl
text_at-whole (t ∷ texts) (suc i) = text_at-whole texts i

-- the places from n on have these texts
abbrev HasFrom : (ℕ → List (List ℕ)) → ℕ → List (List ℕ) → Type 0
HasFrom f n [] = ⊤
HasFrom f n (x ∷ xs) = (f n ≡ x ∷ []) × HasFrom f (suc n) xs

has_next : (f g : ℕ → List (List ℕ)) → ((i : ℕ) → g (suc i) ≡ f i) → (n : ℕ) (xs : List (List ℕ)) → HasFrom f n xs → HasFrom g (suc n) xs
has_next f g h n [] k = tt
has_next f g h n (x ∷ xs) k = (h n ∙ k.0, has_next f g h (suc n) xs k.1)

has_all : (texts : List (List ℕ)) → HasFrom (text_at (whole texts)) 0 texts
has_all [] = tt
has_all (t ∷ texts) = (refl, has_next (text_at (whole texts)) (text_at (whole (t ∷ texts))) (λ i. refl) 0 texts (has_all texts))

from_zero : (n : ℕ) → n ≡ n + 0
from_zero n = omega arith

from_next : (n k : ℕ) → suc n + k ≡ n + suc k
from_next n k = omega arith

has_behind : (f : ℕ → List (List ℕ)) (n : ℕ) (xs ys : List (List ℕ)) → HasFrom f n (xs ++ ys) → HasFrom f (n + length xs) ys
has_behind f n [] ys h = subst (λ k. HasFrom f k ys) (from_zero n) h
has_behind f n (x ∷ xs) ys h = subst (λ k. HasFrom f k ys) (from_next n (length xs)) (has_behind f (suc n) xs ys h.1)

-- ---- the places of a slot

module _ (f : ℕ → List (List ℕ)) (slot : ℕ) where
  taken : (k : ℕ) → nat_eq slot k ≡ true → (n : ℕ) (xs more : List (List ℕ)) (slots : List ℕ) → HasFrom f n (xs ++ more)
      → flat_map f (places_from slot n (map (λ _. k) xs ++ slots)) ≡ xs ++ flat_map f (places_from slot (n + length xs) slots)
  taken k same n [] more slots h = ap (λ m. flat_map f (places_from slot m slots)) (from_zero n)
  taken k same n (x ∷ xs) more slots h =
      let behind : List ℕ = places_from slot (suc n) (map (λ _. k) xs ++ slots) in
      ap (λ b. flat_map f (cond b (n ∷ behind) behind)) same
      ∙ ap (λ us. us ++ flat_map f behind) h.0
      ∙ ap (λ us. x ∷ us) (taken k same (suc n) xs more slots h.1 ∙ ap (λ m. xs ++ flat_map f (places_from slot m slots)) (from_next n (length xs)))

  left_out : (k : ℕ) → nat_eq slot k ≡ false → (n : ℕ) (xs : List (List ℕ)) (slots : List ℕ) → flat_map f (places_from slot n (map (λ _. k) xs ++ slots)) ≡ flat_map f (places_from slot (n + length xs) slots)
  left_out k other n [] slots = ap (λ m. flat_map f (places_from slot m slots)) (from_zero n)
  left_out k other n (x ∷ xs) slots =
      let behind : List ℕ = places_from slot (suc n) (map (λ _. k) xs ++ slots) in
      ap (λ b. flat_map f (cond b (n ∷ behind) behind)) other
      ∙ left_out k other (suc n) xs slots
      ∙ ap (λ m. flat_map f (places_from slot m slots)) (from_next n (length xs))

  part_texts : (n : ℕ) (tuples : List Tuple) (more : List (List ℕ)) → HasFrom f n (concat tuples ++ more) → flat_map f (places_from slot n (argument_slots tuples)) ≡ concat (part_tuples slot tuples)
  part_texts n [] more h = refl
  part_texts n (t ∷ tuples) more h =
      let nested : HasFrom f n (t ++ (concat tuples ++ more)) = subst (HasFrom f n) (append_assoc t (concat tuples) more) h in
      by (nat_eq slot (tuple_slot t)) refl nested (part_texts (n + length t) tuples more (has_behind f n t (concat tuples ++ more) nested))
    where
      by : (b : Bool) → nat_eq slot (tuple_slot t) ≡ b → HasFrom f n (t ++ (concat tuples ++ more)) → flat_map f (places_from slot (n + length t) (argument_slots tuples)) ≡ concat (part_tuples slot tuples)
          → flat_map f (places_from slot n (map (λ _. tuple_slot t) t ++ argument_slots tuples)) ≡ concat (cond b (t ∷ part_tuples slot tuples) (part_tuples slot tuples))
      by true e nested behind = taken (tuple_slot t) e n t (concat tuples ++ more) (argument_slots tuples) nested ∙ ap (λ us. t ++ us) behind
      by false e nested behind = left_out (tuple_slot t) e n t (argument_slots tuples) ∙ behind

-- ---- the shared argument

front_of_one : (xs : List (List ℕ)) → length xs ≤ 1 → front xs ≡ xs
front_of_one [] h = refl
front_of_one (x ∷ []) h = refl
front_of_one (x ∷ y ∷ xs) h = absurd (omega (arith, h))

shared_is_one : (p : MultiSlotArgPattern) (xs : List (List ℕ)) → FitsShared p xs → length xs ≤ 1
shared_is_one KeysOnly xs f = omega (arith, f)
shared_is_one KeyValuePairs xs f = omega (arith, f)
shared_is_one KeysAndLastArg xs f = omega (arith, f)
shared_is_one KeyWithTwoArgTriples xs f = omega (arith, f)

shared_there : (p : MultiSlotArgPattern) (texts : List (List ℕ)) → FitsShared p (shared_by p texts) → text_at (whole texts) (len_in_tuples p (length (whole texts))) ≡ shared_by p texts
shared_there p texts f =
    ap (λ n. text_at (whole texts) (len_in_tuples p n)) (length-map texts (λ text. Some text))
    ∙ text_at-whole texts (len_in_tuples p (length texts)) ∙ front_of_one (shared_by p texts) (shared_is_one p (shared_by p texts) f)

pub subs_are_at_their_places : SubsAreAtTheirPlaces
subs_are_at_their_places args texts s slot a e =
    let c = cut_of texts s e in
    let p = s.splitting.pattern in
    let w = cut_shaped p c.behind c.some.0 c.some.1 (c.tuples ∙ ap Some c.some.2) in
    let places : List ℕ = part_places slot s.tuples in
    let behind : List (Option (List ℕ)) = whole c.behind in
    let joined : c.behind ≡ concat s.tuples ++ s.shared = sym w.1 ∙ ap (λ ts. concat ts ++ shared_by p c.behind) (sym c.some.2) ∙ ap (λ sh. concat s.tuples ++ sh) c.shared in
    ap (λ us. sub_of us places) (texts_in-whole args texts a ∙ ap whole c.whole)
    ∙ ap (λ o. s.word ∷ (flat_map (text_at behind) places ++ shared_text o behind)) c.splitting
    ∙ ap (λ us. s.word ∷ (flat_map (text_at behind) places ++ us)) (shared_there p c.behind w.2 ∙ c.shared)
    ∙ ap (λ us. s.word ∷ (us ++ s.shared)) (part_texts (text_at behind) slot 0 s.tuples s.shared (subst (HasFrom (text_at behind) 0) joined (has_all c.behind)))

-- ---- one slot

all_taken : (slot : ℕ) (tuples : List Tuple) → ((k : ℕ) → among nat_eq k (map tuple_slot tuples) ≡ true → nat_eq slot k ≡ true) → part_tuples slot tuples ≡ tuples
all_taken slot [] h = refl
all_taken slot (t ∷ tuples) h =
    ap (λ b. cond b (t ∷ part_tuples slot tuples) (part_tuples slot tuples)) (h (tuple_slot t) (ap (λ b. b || among nat_eq (tuple_slot t) (map tuple_slot tuples)) (eq-eqb (tuple_slot t) (tuple_slot t) refl)))
    ∙ ap (λ us. t ∷ us) (all_taken slot tuples (λ k m. h k (or_right (nat_eq k (tuple_slot t)) m)))
  where
    or_right : (b : Bool) {c : Bool} → c ≡ true → (b || c) ≡ true
    or_right true e = refl
    or_right false e = e

pub one_slot_is_the_whole : OneSlotIsTheWhole
one_slot_is_the_whole texts s slot e one = ap (join_split s.word s.shared) (all_taken slot s.tuples same) ∙ split_whole texts s e
  where
    alone : (b : Bool) → (b || false) ≡ true → b ≡ true
    alone true h = refl
    alone false h = h

    same : (k : ℕ) → among nat_eq k (map tuple_slot s.tuples) ≡ true → nat_eq slot k ≡ true
    same k m =
        let h : (nat_eq k slot || false) ≡ true = sym (ap (among nat_eq k) one) ∙ among-firsts nat_eq nat_tells k (map tuple_slot s.tuples) ∙ m in
        eq-eqb slot k (sym (eqb-true k slot (alone (nat_eq k slot) h)))
