-- A turn asks of each guest what waits of it, and settles its queue by its own outcomes.
use Rattle.std.proofs.Common.{◌≡◌, ◌≢◌, ℕ, suc, zero, ◌+◌, ◌<◌, Bool, true, false, cond, ◌&&◌, ◌||◌, ◌==◌, List, [], ◌∷◌, ◌++◌, length, get_or, take, drop, refl, sym, ◌∙◌, ap, arith, eq-eqb}
use Rattle.std.proofs.lemmas.List.{append-nil}
use Rattle.proxy_core.specs.declared.outcome.Outcome.{Outcome}
use Rattle.proxy_core.specs.declared.queue.Entry.{Entry}
use Rattle.proxy_core.specs.declared.queue.Entry.TheVariants.{Waits, Reads}
use Rattle.proxy_core.specs.Fates.{may_be_done}
use Rattle.proxy_core.specs.Queue.{waiting, overtaken, settled, settled_one}
use Rattle.proxy_core.specs.Batch.{asked_by, commands_of, outcomes_of, batch_from, all_settled}

same_number : (g : ℕ) → (g == g) ≡ true
same_number g = eq-eqb g g refl

other_number : (h g : ℕ) → h ≢ g → (h == g) ≡ false
other_number h g n = grind arith

commands_own : {C : Type 0} (g : ℕ) (cs : List C) (rest : List (ℕ × C)) → commands_of g (asked_by g cs ++ rest) ≡ cs ++ commands_of g rest
commands_own g [] rest = refl
commands_own g (c ∷ cs) rest =
    ap (λ b. cond b (c ∷ commands_of g (asked_by g cs ++ rest)) (commands_of g (asked_by g cs ++ rest))) (same_number g)
    ∙ ap (λ xs. c ∷ xs) (commands_own g cs rest)

commands_others : {C : Type 0} (g h : ℕ) (cs : List C) (rest : List (ℕ × C)) → h ≢ g → commands_of g (asked_by h cs ++ rest) ≡ commands_of g rest
commands_others g h [] rest n = refl
commands_others g h (c ∷ cs) rest n =
    ap (λ b. cond b (c ∷ commands_of g (asked_by h cs ++ rest)) (commands_of g (asked_by h cs ++ rest))) (other_number h g n)
    ∙ commands_others g h cs rest n

module _ {C V : Type 0} where
  outcomes_own : (g : ℕ) (cs : List C) (rest : List (ℕ × C)) (os : List (Outcome V)) → ((left : List (Outcome V)) → outcomes_of g rest left ≡ []) → outcomes_of g (asked_by g cs ++ rest) os ≡ take (length cs) os
  outcomes_own g [] rest os n = n os
  outcomes_own g (c ∷ cs) rest [] n = refl
  outcomes_own g (c ∷ cs) rest (o ∷ os) n =
      ap (λ b. cond b (o ∷ outcomes_of g (asked_by g cs ++ rest) os) (outcomes_of g (asked_by g cs ++ rest) os)) (same_number g)
      ∙ ap (λ xs. o ∷ xs) (outcomes_own g cs rest os n)

  outcomes_none : (g : ℕ) (bs : List (ℕ × C)) → outcomes_of {V = V} g bs [] ≡ []
  outcomes_none g [] = refl
  outcomes_none g (b ∷ bs) = refl

  outcomes_others : (g h : ℕ) (cs : List C) (rest : List (ℕ × C)) (os : List (Outcome V)) → h ≢ g → outcomes_of g (asked_by h cs ++ rest) os ≡ outcomes_of g rest (drop (length cs) os)
  outcomes_others g h [] rest os n = refl
  outcomes_others g h (c ∷ cs) rest [] n = sym (outcomes_none g rest)
  outcomes_others g h (c ∷ cs) rest (o ∷ os) n =
      ap (λ b. cond b (o ∷ outcomes_of g (asked_by h cs ++ rest) os) (outcomes_of g (asked_by h cs ++ rest) os)) (other_number h g n)
      ∙ outcomes_others g h cs rest os n

  none_behind : (g n : ℕ) (qs : List (List (Entry C V))) (os : List (Outcome V)) → g < n → outcomes_of g (batch_from n qs) os ≡ []
  none_behind g n [] os h = refl
  none_behind g n (q ∷ qs) os h =
      let ne : n ≢ g = omega arith in
      outcomes_others g n (waiting q) (batch_from (suc n) qs) os ne ∙ none_behind g (suc n) qs (drop (length (waiting q)) os) (omega arith)

  no_commands_behind : (g n : ℕ) (qs : List (List (Entry C V))) → g < n → commands_of g (batch_from n qs) ≡ []
  no_commands_behind g n [] h = refl
  no_commands_behind g n (q ∷ qs) h =
      let ne : n ≢ g = omega arith in
      commands_others g n (waiting q) (batch_from (suc n) qs) ne ∙ no_commands_behind g (suc n) qs (omega arith)

  pub commands_at : (n g m : ℕ) (qs : List (List (Entry C V))) → m ≡ n + g → commands_of m (batch_from n qs) ≡ waiting (get_or qs g [])
  commands_at n g m [] e = refl
  commands_at n zero m (q ∷ qs) e =
      let same : m ≡ n = omega arith in
      ap (λ k. commands_of k (asked_by n (waiting q) ++ batch_from (suc n) qs)) same ∙ commands_own n (waiting q) (batch_from (suc n) qs)
      ∙ ap (λ xs. waiting q ++ xs) (no_commands_behind n (suc n) qs (omega arith)) ∙ append-nil (waiting q)
  commands_at n (suc g) m (q ∷ qs) e =
      let ne : n ≢ m = omega arith in
      commands_others m n (waiting q) (batch_from (suc n) qs) ne ∙ commands_at (suc n) g m qs (omega arith)

  module _ (overlaps : C → C → Bool) where
    overtaken_take : (c : C) (q : List (Entry C V)) (os : List (Outcome V)) → overtaken overlaps c q (take (length (waiting q)) os) ≡ overtaken overlaps c q os
    overtaken_take c [] os = refl
    overtaken_take c (Reads v ∷ q) os = overtaken_take c q os
    overtaken_take c (Waits d ∷ q) [] = refl
    overtaken_take c (Waits d ∷ q) (o ∷ os) = ap (λ b. (may_be_done o.fate && overlaps c d) || b) (overtaken_take c q os)

    settled_take : (q : List (Entry C V)) (os : List (Outcome V)) → settled overlaps q (take (length (waiting q)) os) ≡ settled overlaps q os
    settled_take [] os = refl
    settled_take (Reads v ∷ q) os = ap (λ xs. Reads v ∷ xs) (settled_take q os)
    settled_take (Waits c ∷ q) [] = refl
    settled_take (Waits c ∷ q) (o ∷ os) =
        ap (λ b. cond (may_be_done o.fate || b) (Reads o.reply) (Waits c) ∷ settled overlaps q (take (length (waiting q)) os)) (overtaken_take c q os)
        ∙ ap (λ xs. settled_one overlaps c o q os ∷ xs) (settled_take q os)

    pub settled_at : (n g m : ℕ) (qs : List (List (Entry C V))) (os : List (Outcome V)) → m ≡ n + g → get_or (all_settled overlaps qs os) g [] ≡ settled overlaps (get_or qs g []) (outcomes_of m (batch_from n qs) os)
    settled_at n g m [] os e = refl
    settled_at n zero m (q ∷ qs) os e =
        let same : m ≡ n = omega arith in
        sym (settled_take q os)
        ∙ ap (λ xs. settled overlaps q xs) (sym (outcomes_own n (waiting q) (batch_from (suc n) qs) os (λ left. none_behind n (suc n) qs left (omega arith))))
        ∙ ap (λ k. settled overlaps q (outcomes_of k (asked_by n (waiting q) ++ batch_from (suc n) qs) os)) (sym same)
    settled_at n (suc g) m (q ∷ qs) os e =
        let ne : n ≢ m = omega arith in
        settled_at (suc n) g m qs (drop (length (waiting q)) os) (omega arith)
        ∙ ap (λ xs. settled overlaps (get_or qs g []) xs) (sym (outcomes_others m n (waiting q) (batch_from (suc n) qs) os ne))

    pub length-settled : (q : List (Entry C V)) (os : List (Outcome V)) → length (settled overlaps q os) ≡ length q
    length-settled [] os = refl
    length-settled (Reads v ∷ q) os = ap (λ n. suc n) (length-settled q os)
    length-settled (Waits c ∷ q) [] = ap (λ n. suc n) (length-settled q [])
    length-settled (Waits c ∷ q) (o ∷ os) = ap (λ n. suc n) (length-settled q os)
