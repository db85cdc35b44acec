-- What is known of a queue from the place i on.
use Rattle.std.proofs.Common.{◌≡◌, ℕ, suc, ◌+◌, ◌<◌, ◌≤◌, Bool, true, false, cond, ◌&&◌, ◌||◌, List, [], ◌∷◌, ◌++◌, length, get_or, take, drop, refl, sym, ◌∙◌, ap, subst, arith}
use Rattle.std.proofs.lemmas.List.{drop_all, take_all, take_more, take-append-le}
use Rattle.proxy_core.specs.declared.outcome.Outcome.{Outcome}
use Rattle.proxy_core.specs.declared.queue.Entry.{Entry}
use Rattle.proxy_core.specs.declared.queue.Entry.TheVariants.{Waits, Reads}
use Rattle.proxy_core.specs.declared.done.Done.{Done}
use Rattle.proxy_core.specs.Fates.{may_be_done}
use Rattle.proxy_core.specs.Slots.{overlap}
use Rattle.proxy_core.specs.Done.{overtakes}
use Rattle.proxy_core.specs.Queue.{waiting, overtaken}
use Rattle.proxy_core.specs.Verdicts.{verdicts, MayTell}
use Rattle.proxy_core.proofs.QueueLemmas.{drop_read}

waiting-append : {C V : Type 0} (es fs : List (Entry C V)) → length (waiting (es ++ fs)) ≡ length (waiting es) + length (waiting fs)
waiting-append [] fs = omega arith
waiting-append (Reads v ∷ es) fs = waiting-append es fs
waiting-append (Waits c ∷ es) fs = let e = waiting-append es fs in omega (arith, e)

-- how many wait before the next place
pub waiting_more : {C V : Type 0} (es : List (Entry C V)) (i : ℕ) (x : Entry C V) → i < length es → x ≡ get_or es i x
    → length (waiting (take (i + 1) es)) ≡ length (waiting (take i es)) + length (waiting (x ∷ []))
waiting_more es i x h e =
    let more : take (i + 1) es ≡ take i es ++ x ∷ [] = take_more es i x h ∙ ap (λ y. take i es ++ y ∷ []) (sym e) in
    ap (λ xs. length (waiting xs)) more ∙ waiting-append (take i es) (x ∷ [])

pub waits_one : {C V : Type 0} (es : List (Entry C V)) (i : ℕ) (x : Entry C V) (c : C) → i < length es → x ≡ get_or es i x → x ≡ Waits c
    → length (waiting (take (i + 1) es)) ≡ length (waiting (take i es)) + 1
waits_one es i x c h e k = waiting_more es i x h e ∙ ap (λ y. length (waiting (take i es)) + length (waiting (y ∷ []))) k

pub waits_none : {C V : Type 0} (es : List (Entry C V)) (i : ℕ) (x : Entry C V) (v : V) → i < length es → x ≡ get_or es i x → x ≡ Reads v
    → length (waiting (take (i + 1) es)) ≡ length (waiting (take i es))
waits_none es i x v h e k = waiting_more es i x h e ∙ ap (λ y. length (waiting (take i es)) + length (waiting (y ∷ []))) k ∙ omega arith

overtaken_none : {C V : Type 0} (overlaps : C → C → Bool) (c : C) (es : List (Entry C V)) → overtaken overlaps c es [] ≡ false
overtaken_none overlaps c [] = refl
overtaken_none overlaps c (Reads v ∷ es) = overtaken_none overlaps c es
overtaken_none overlaps c (Waits d ∷ es) = refl

module _ {C V : Type 0} (overlaps : C → C → Bool) where
  reads_here : (es : List (Entry C V)) (i : ℕ) (x : Entry C V) (v : V) → i < length es → x ≡ get_or es i x → x ≡ Reads v → drop i es ≡ Reads v ∷ drop (i + 1) es
  reads_here es i x v h e k = drop_read es i x h e ∙ ap (λ y. y ∷ drop (i + 1) es) k

  module _ (slots : C → List ℕ) where
    -- the commands from the place i on, of which the first that waits has the outcome at `next`: those that were done, and the verdicts
    pub record Behind (es : List (Entry C V)) (os : List (Outcome V)) (i next : ℕ) (done : Done) (told : List Bool) : Type 0 where
      pub next_is : next ≡ length (waiting (take i es))
      pub done_are : (c : C) → overtakes done (slots c) ≡ overtaken overlaps c (drop i es) (drop next os)
      pub told_are : told ≡ verdicts overlaps (drop i es) (drop next os)

    pub behind_starts : (es : List (Entry C V)) (os : List (Outcome V)) (n next : ℕ) (done : Done) → n ≡ length es → next ≡ length (waiting es)
        → ((ss : List ℕ) → overtakes done ss ≡ false) → Behind es os n next done []
    behind_starts es os n next done l e none =
        let rest : drop n es ≡ [] = drop_all n es (omega arith) in
        record {
          next_is = e ∙ ap (λ xs. length (waiting xs)) (sym (take_all n es (omega arith)));
          done_are = λ c. none (slots c) ∙ ap (λ xs. overtaken overlaps c xs (drop next os)) (sym rest);
          told_are = ap (λ xs. verdicts overlaps xs (drop next os)) (sym rest);
        }

    pub behind_reads : (es : List (Entry C V)) (os : List (Outcome V)) (i j next : ℕ) (done : Done) (told : List Bool) (x : Entry C V) (v : V)
        → j ≡ i + 1 → i < length es → x ≡ get_or es i x → x ≡ Reads v → Behind es os j next done told → Behind es os i next done told
    behind_reads es os i j next done told x v s h e k b =
        let here = reads_here es i x v h e k in
        let from : drop j es ≡ drop (i + 1) es = ap (λ n. drop n es) s in
        record {
          next_is = b.next_is ∙ ap (λ n. length (waiting (take n es))) s ∙ waits_none es i x v h e k;
          done_are = λ c. b.done_are c ∙ ap (λ xs. overtaken overlaps c xs (drop next os)) from ∙ sym (ap (λ xs. overtaken overlaps c xs (drop next os)) here);
          told_are = b.told_are ∙ ap (λ xs. verdicts overlaps xs (drop next os)) from ∙ sym (ap (λ xs. verdicts overlaps xs (drop next os)) here);
        }

    -- a command that waits has an outcome before the next one's
    pub behind_has : (es : List (Entry C V)) (os : List (Outcome V)) (i j next : ℕ) (done : Done) (told : List Bool) (x : Entry C V) (d : C)
        → j ≡ i + 1 → i < length es → x ≡ get_or es i x → x ≡ Waits d → Behind es os j next done told → next ≡ length (waiting (take i es)) + 1
    behind_has es os i j next done told x d s h e k b =
        b.next_is ∙ ap (λ n. length (waiting (take n es))) s ∙ waits_one es i x d h e k

    -- what stands at its place and behind it, and the place of its outcome
    waits_at : (es : List (Entry C V)) (i j next now : ℕ) (x : Entry C V) (d : C) → j ≡ i + 1 → i < length es → x ≡ get_or es i x → x ≡ Waits d → now + 1 ≡ next → next ≡ length (waiting (take i es)) + 1
        → (drop i es ≡ Waits d ∷ drop (i + 1) es) × (drop j es ≡ drop (i + 1) es) × (now ≡ length (waiting (take i es)))
    waits_at es i j next now x d s h e k m had = (drop_read es i x h e ∙ ap (λ y. y ∷ drop (i + 1) es) k, ap (λ n. drop n es) s, omega arith)

    pub behind_none : (es : List (Entry C V)) (os : List (Outcome V)) (i j next now : ℕ) (done : Done) (told : List Bool) (x : Entry C V) (d : C)
        → j ≡ i + 1 → i < length es → x ≡ get_or es i x → x ≡ Waits d → now + 1 ≡ next → length os ≤ now
        → Behind es os j next done told → Behind es os i now done told
    behind_none es os i j next now done told x d s h e k m past b =
        let at = waits_at es i j next now x d s h e k m (behind_has es os i j next done told x d s h e k b) in
        let before : drop next os ≡ [] = drop_all next os (omega arith) in
        let after : drop now os ≡ [] = drop_all now os (omega arith) in
        record {
          next_is = at.2;
          done_are = λ c. b.done_are c ∙ ap (λ ys. overtaken overlaps c (drop j es) ys) before ∙ overtaken_none overlaps c (drop j es)
              ∙ sym (ap (λ xs. overtaken overlaps c xs (drop now os)) at.0 ∙ ap (λ ys. overtaken overlaps c (Waits d ∷ drop (i + 1) es) ys) after);
          told_are = b.told_are ∙ ap (λ xs. verdicts overlaps xs (drop next os)) at.1 ∙ ap (λ ys. verdicts overlaps (drop (i + 1) es) ys) before
              ∙ sym (ap (λ xs. verdicts overlaps xs (drop now os)) at.0 ∙ ap (λ ys. verdicts overlaps (Waits d ∷ drop (i + 1) es) ys) after);
        }

    outcome_here : (os : List (Outcome V)) (next now : ℕ) (o : Outcome V) → now + 1 ≡ next → now < length os → o ≡ get_or os now o → drop now os ≡ o ∷ drop next os
    outcome_here os next now o m inside r = drop_read os now o inside r ∙ ap (λ n. o ∷ drop n os) m

    -- a command that was done
    pub behind_done : ((a b : C) → overlaps a b ≡ overlap (slots a) (slots b))
        → (es : List (Entry C V)) (os : List (Outcome V)) (i j next now : ℕ) (done more : Done) (told : List Bool) (x : Entry C V) (d : C) (o : Outcome V)
        → j ≡ i + 1 → i < length es → x ≡ get_or es i x → x ≡ Waits d → now + 1 ≡ next → now < length os → o ≡ get_or os now o → may_be_done o.fate ≡ true
        → ((ss : List ℕ) → overtakes more ss ≡ (overlap ss (slots d) || overtakes done ss))
        → Behind es os j next done told → Behind es os i now more told
    behind_done law es os i j next now done more told x d o s h e k m inside r was adds b =
        let at = waits_at es i j next now x d s h e k m (behind_has es os i j next done told x d s h e k b) in
        let first = outcome_here os next now o m inside r in
        record {
          next_is = at.2;
          done_are = λ c. adds (slots c) ∙ ap (λ p. p || overtakes done (slots c)) (sym (law c d)) ∙ ap (λ q. overlaps c d || q) (b.done_are c ∙ ap (λ xs. overtaken overlaps c xs (drop next os)) at.1)
              ∙ sym (ap (λ xs. overtaken overlaps c xs (drop now os)) at.0 ∙ ap (λ ys. overtaken overlaps c (Waits d ∷ drop (i + 1) es) ys) first
              ∙ ap (λ p. (p && overlaps c d) || overtaken overlaps c (drop (i + 1) es) (drop next os)) was);
          told_are = b.told_are ∙ ap (λ xs. verdicts overlaps xs (drop next os)) at.1
              ∙ sym (ap (λ xs. verdicts overlaps xs (drop now os)) at.0 ∙ ap (λ ys. verdicts overlaps (Waits d ∷ drop (i + 1) es) ys) first
              ∙ ap (λ p. cond p (verdicts overlaps (drop (i + 1) es) (drop next os)) (verdicts overlaps (drop (i + 1) es) (drop next os) ++ overtaken overlaps d (drop (i + 1) es) (drop next os) ∷ [])) was);
        }

    -- a command that was not done
    pub behind_undone : (es : List (Entry C V)) (os : List (Outcome V)) (i j next now : ℕ) (done : Done) (told : List Bool) (x : Entry C V) (d : C) (o : Outcome V) (verdict : Bool)
        → j ≡ i + 1 → i < length es → x ≡ get_or es i x → x ≡ Waits d → now + 1 ≡ next → now < length os → o ≡ get_or os now o → may_be_done o.fate ≡ false
        → verdict ≡ overtakes done (slots d)
        → Behind es os j next done told → Behind es os i now done (told ++ verdict ∷ [])
    behind_undone es os i j next now done told x d o verdict s h e k m inside r kept is b =
        let at = waits_at es i j next now x d s h e k m (behind_has es os i j next done told x d s h e k b) in
        let first = outcome_here os next now o m inside r in
        record {
          next_is = at.2;
          done_are = λ c. b.done_are c ∙ ap (λ xs. overtaken overlaps c xs (drop next os)) at.1
              ∙ sym (ap (λ xs. overtaken overlaps c xs (drop now os)) at.0 ∙ ap (λ ys. overtaken overlaps c (Waits d ∷ drop (i + 1) es) ys) first
              ∙ ap (λ p. (p && overlaps c d) || overtaken overlaps c (drop (i + 1) es) (drop next os)) kept);
          told_are = ap (λ v. told ++ v ∷ []) (is ∙ b.done_are d ∙ ap (λ xs. overtaken overlaps d xs (drop next os)) at.1)
              ∙ ap (λ vs. vs ++ overtaken overlaps d (drop (i + 1) es) (drop next os) ∷ []) (b.told_are ∙ ap (λ xs. verdicts overlaps xs (drop next os)) at.1)
              ∙ sym (ap (λ xs. verdicts overlaps xs (drop now os)) at.0 ∙ ap (λ ys. verdicts overlaps (Waits d ∷ drop (i + 1) es) ys) first
              ∙ ap (λ p. cond p (verdicts overlaps (drop (i + 1) es) (drop next os)) (verdicts overlaps (drop (i + 1) es) (drop next os) ++ overtaken overlaps d (drop (i + 1) es) (drop next os) ∷ [])) kept);
        }

  -- what is told of a queue whose first entry was taken, and of one that has another behind it
  pub told_first : (told : List Bool) (os : List (Outcome V)) (now now' : List (Entry C V)) (e x : Entry C V) (n k : ℕ)
      → now ≡ e ∷ now' → e ≡ x → n ≡ suc k → MayTell overlaps told (take n now) os → MayTell overlaps told (x ∷ take k now') os
  told_first told os now now' e x n k p w s t =
      let whole : take n now ≡ x ∷ take k now' = ap (λ m. take m now) s ∙ ap (λ xs. take (suc k) xs) p ∙ ap (λ y. y ∷ take k now') w in
      subst (λ (xs : List (Entry C V)). MayTell overlaps told xs os) whole t

  pub told_rest : (told : List Bool) (os : List (Outcome V)) (now' all : List (Entry C V)) (e' : Entry C V) (n k : ℕ)
      → all ≡ now' ++ e' ∷ [] → k ≤ length now' → n ≡ k → MayTell overlaps told (take k now') os → MayTell overlaps told (take n all) os
  told_rest told os now' all e' n k p l s t =
      let whole : take k now' ≡ take n all = sym (ap (λ m. take m all) s ∙ ap (λ xs. take k xs) p ∙ take-append-le k now' (e' ∷ []) l) in
      subst (λ (xs : List (Entry C V)). MayTell overlaps told xs os) whole t
