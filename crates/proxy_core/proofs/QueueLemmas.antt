-- One step of the scan for a command that overtook, and of the pass that settles a queue.
use Rattle.std.proofs.Common.{◌≡◌, ℕ, ◌+◌, ◌-◌, ◌<◌, ◌≤◌, Bool, true, false, ◌&&◌, ◌||◌, List, [], ◌∷◌, ◌++◌, length, get_or, take, drop, refl, sym, ◌∙◌, ap, subst, arith, append_assoc, length-append, length-drop}
use Rattle.std.proofs.lemmas.List.{drop_more, drop_all, get_or-take, length-take-le, take_at, append-nil}
use Rattle.proxy_core.specs.declared.outcome.Outcome.{Outcome}
use Rattle.proxy_core.specs.declared.queue.Entry.{Entry}
use Rattle.proxy_core.specs.declared.queue.Entry.TheVariants.{Waits, Reads}
use Rattle.proxy_core.specs.Fates.{may_be_done}
use Rattle.proxy_core.specs.Queue.{waiting, overtaken, settled, LeavesFirst}

-- what a list shows from i on, by the element that was read there
pub drop_read : {X : Type 0} (xs : List X) (i : ℕ) (x : X) → i < length xs → x ≡ get_or xs i x → drop i xs ≡ x ∷ drop (i + 1) xs
drop_read xs i x h e = drop_more xs i x h ∙ ap (λ y. y ∷ drop (i + 1) xs) (sym e)

pub drop_take_read : {X : Type 0} (xs : List X) (n i : ℕ) (x : X) → i < n → n ≤ length xs → x ≡ get_or xs i x → drop i (take n xs) ≡ x ∷ drop (i + 1) (take n xs)
drop_take_read xs n i x h l e =
    let len : length (take n xs) ≡ n = length-take-le n xs l in
    drop_read (take n xs) i x (omega arith) (e ∙ sym (get_or-take n xs i x h))

pub scan_hit : (p q r : Bool) → p ≡ true → q ≡ true → ((p && q) || r) ≡ true
scan_hit p q r e f = ap (λ x. (x && q) || r) e ∙ ap (λ x. x || r) f

pub scan_miss_first : (p q r : Bool) → p ≡ false → ((p && q) || r) ≡ r
scan_miss_first p q r e = ap (λ x. (x && q) || r) e

pub scan_miss_second : (p q r : Bool) → q ≡ false → ((p && q) || r) ≡ r
scan_miss_second true q r e = ap (λ x. x || r) e
scan_miss_second false q r e = refl

module _ {C V : Type 0} (overlaps : C → C → Bool) where
  pub scan_reads : (c : C) (es : List (Entry C V)) (os : List (Outcome V)) (n i j : ℕ) (x : Entry C V) (v : V)
      → i < n → n ≤ length es → x ≡ get_or es i x → x ≡ Reads v
      → overtaken overlaps c (drop i (take n es)) (drop j os) ≡ overtaken overlaps c (drop (i + 1) (take n es)) (drop j os)
  scan_reads c es os n i j x v h l e k =
      ap (λ xs. overtaken overlaps c xs (drop j os)) (drop_take_read es n i x h l e ∙ ap (λ y. y ∷ drop (i + 1) (take n es)) k)

  pub scan_none : (c : C) (es : List (Entry C V)) (os : List (Outcome V)) (n i j : ℕ) (x : Entry C V) (d : C)
      → i < n → n ≤ length es → x ≡ get_or es i x → x ≡ Waits d → length os ≤ j
      → overtaken overlaps c (drop i (take n es)) (drop j os) ≡ false
  scan_none c es os n i j x d h l e k none =
      ap (λ xs. overtaken overlaps c xs (drop j os)) (drop_take_read es n i x h l e ∙ ap (λ y. y ∷ drop (i + 1) (take n es)) k)
      ∙ ap (λ ys. overtaken overlaps c (Waits d ∷ drop (i + 1) (take n es)) ys) (drop_all j os none)

  -- at a command that waits, with its outcome
  pub scan_waits : (c : C) (es : List (Entry C V)) (os : List (Outcome V)) (n i j : ℕ) (x : Entry C V) (d : C) (o : Outcome V)
      → i < n → n ≤ length es → x ≡ get_or es i x → x ≡ Waits d → j < length os → o ≡ get_or os j o
      → overtaken overlaps c (drop i (take n es)) (drop j os) ≡ ((may_be_done o.fate && overlaps c d) || overtaken overlaps c (drop (i + 1) (take n es)) (drop (j + 1) os))
  scan_waits c es os n i j x d o h l e k inside r =
      ap (λ xs. overtaken overlaps c xs (drop j os)) (drop_take_read es n i x h l e ∙ ap (λ y. y ∷ drop (i + 1) (take n es)) k)
      ∙ ap (λ ys. overtaken overlaps c (Waits d ∷ drop (i + 1) (take n es)) ys) (drop_read os j o inside r)

  -- the pass over a queue, with i entries done: those stand behind the others
  pub record Midway (all : List (Entry C V)) (os : List (Outcome V)) (i : ℕ) (now : List (Entry C V)) (left : List (Outcome V)) : Type 0 where
    pub done : List (Entry C V)
    pub now_is : now ≡ drop i all ++ done
    pub rest : done ++ settled overlaps (drop i all) left ≡ settled overlaps all os
    pub outcomes : drop (length (waiting (drop i all))) left ≡ drop (length (waiting all)) os

  pub midway_starts : (all : List (Entry C V)) (os : List (Outcome V)) → Midway all os 0 all os
  midway_starts all os = record { done = []; now_is = sym (append-nil all); rest = refl; outcomes = refl }

  heads : (x y : Entry C V) (xs ys : List (Entry C V)) → x ∷ xs ≡ y ∷ ys → (x ≡ y) × (xs ≡ ys)
  heads x y xs ys e = (cc, cc)

  waiting_step : (e : Entry C V) (r : List (Entry C V)) (left : List (Outcome V)) → drop (length (waiting r)) (drop (length (waiting (e ∷ []))) left) ≡ drop (length (waiting (e ∷ r))) left
  waiting_step (Reads v) r left = refl
  waiting_step (Waits c) r [] = drop_all (length (waiting r)) [] (omega arith)
  waiting_step (Waits c) r (o ∷ os) = refl

  pub midway_more : (all : List (Entry C V)) (os : List (Outcome V)) (i k : ℕ) (now : List (Entry C V)) (left : List (Outcome V)) (e e' : Entry C V) (now' : List (Entry C V)) (left' : List (Outcome V))
      → Midway all os i now left → i + 1 + k ≡ length all → now ≡ e ∷ now'
      → e' ∷ settled overlaps (take k now') left' ≡ settled overlaps (e ∷ take k now') left
      → left' ≡ drop (length (waiting (e ∷ []))) left
      → Midway all os (i + 1) (now' ++ e' ∷ []) left'
  midway_more all os i k now left e e' now' left' m n p s t =
      let first : drop i all ≡ get_or all i e ∷ drop (i + 1) all = drop_more all i e (omega arith) in
      let whole : e ∷ now' ≡ get_or all i e ∷ (drop (i + 1) all ++ m.done) = sym p ∙ m.now_is ∙ ap (λ xs. xs ++ m.done) first in
      let same : (e ≡ get_or all i e) × (now' ≡ drop (i + 1) all ++ m.done) = heads e (get_or all i e) now' (drop (i + 1) all ++ m.done) whole in
      let from : drop i all ≡ e ∷ drop (i + 1) all = first ∙ ap (λ y. y ∷ drop (i + 1) all) (sym same.0) in
      let len : length (drop (i + 1) all) ≡ k = length-drop (i + 1) all ∙ omega arith in
      let front : take k now' ≡ drop (i + 1) all = ap (λ xs. take k xs) same.1 ∙ take_at (drop (i + 1) all) m.done k len in
      let step : e' ∷ settled overlaps (drop (i + 1) all) left' ≡ settled overlaps (e ∷ drop (i + 1) all) left = subst (λ (xs : List (Entry C V)). e' ∷ settled overlaps xs left' ≡ settled overlaps (e ∷ xs) left) front s in
      record {
        done = m.done ++ e' ∷ [];
        now_is = ap (λ xs. xs ++ e' ∷ []) same.1 ∙ append_assoc (drop (i + 1) all) m.done (e' ∷ []);
        rest = append_assoc m.done (e' ∷ []) (settled overlaps (drop (i + 1) all) left') ∙ ap (λ xs. m.done ++ xs) (step ∙ ap (λ xs. settled overlaps xs left) (sym from)) ∙ m.rest;
        outcomes = ap (λ xs. drop (length (waiting (drop (i + 1) all))) xs) t ∙ waiting_step e (drop (i + 1) all) left ∙ ap (λ xs. drop (length (waiting xs)) left) (sym from) ∙ m.outcomes;
      }

  pub midway_ends : (all : List (Entry C V)) (os : List (Outcome V)) (i : ℕ) (now : List (Entry C V)) (left : List (Outcome V))
      → Midway all os i now left → length all ≤ i → (now ≡ settled overlaps all os) × (left ≡ drop (length (waiting all)) os)
  midway_ends all os i now left m l =
      let none : drop i all ≡ [] = drop_all i all l in (
        m.now_is ∙ ap (λ xs. xs ++ m.done) none ∙ sym (append-nil m.done) ∙ ap (λ xs. m.done ++ settled overlaps xs left) (sym none) ∙ m.rest,
        ap (λ xs. drop (length (waiting xs)) left) (sym none) ∙ m.outcomes,
      )

  pub midway_has : (all : List (Entry C V)) (os : List (Outcome V)) (i : ℕ) (now : List (Entry C V)) (left : List (Outcome V))
      → Midway all os i now left → i < length all → 0 < length now
  midway_has all os i now left m l =
      let e = ap length m.now_is ∙ length-append (drop i all) m.done in
      let d = length-drop i all in omega arith

  -- how long the queue stays
  pub midway_length : (all : List (Entry C V)) (os : List (Outcome V)) (i : ℕ) (now : List (Entry C V)) (left : List (Outcome V)) (m : Midway all os i now left) → length now ≡ (length all - i) + length m.done
  midway_length all os i now left m = ap length m.now_is ∙ length-append (drop i all) m.done ∙ ap (λ n. n + length m.done) (length-drop i all)

  pub midway_waits : (all : List (Entry C V)) (os : List (Outcome V)) (i k : ℕ) (now : List (Entry C V)) (left : List (Outcome V)) (e e' : Entry C V) (now' : List (Entry C V)) (left' : List (Outcome V)) (c : C)
      → Midway all os i now left → i + 1 + k ≡ length all → now ≡ e ∷ now' → e ≡ Waits c
      → LeavesFirst overlaps c (take k now') left left' e' → left' ≡ drop 1 left
      → Midway all os (i + 1) (now' ++ e' ∷ []) left'
  midway_waits all os i k now left e e' now' left' c m n p w s d =
      midway_more all os i k now left e e' now' left' m n p
      (s ∙ ap (λ (x : Entry C V). settled overlaps (x ∷ take k now') left) (sym w))
      (d ∙ ap (λ (x : Entry C V). drop (length (waiting (x ∷ []))) left) (sym w))

  pub midway_reads : (all : List (Entry C V)) (os : List (Outcome V)) (i k : ℕ) (now : List (Entry C V)) (left : List (Outcome V)) (e e' : Entry C V) (now' : List (Entry C V)) (v : V)
      → Midway all os i now left → i + 1 + k ≡ length all → now ≡ e ∷ now' → e ≡ Reads v → e' ≡ Reads v
      → Midway all os (i + 1) (now' ++ e' ∷ []) left
  midway_reads all os i k now left e e' now' v m n p w s =
      midway_more all os i k now left e e' now' left m n p
      (ap (λ (x : Entry C V). x ∷ settled overlaps (take k now') left) s ∙ ap (λ (x : Entry C V). settled overlaps (x ∷ take k now') left) (sym w))
      (ap (λ (x : Entry C V). drop (length (waiting (x ∷ []))) left) (sym w))
