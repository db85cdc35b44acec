-- Bytes spell values in one way: what two links took of the same bytes.
use Rattle.std.proofs.Common.{◌≡◌, ◌≤◌, ◌⊎◌, ℕ, List, [], ◌∷◌, ◌++◌, length, Option, Some, None, refl, sym, ap, ◌∙◌, subst, inl, inr, arith, append_assoc, append-nil, length-append}
use Rattle.std.proofs.lemmas.List.{append_cancel_left}
use Rattle.std.specs.Io.KnownBytes.{Consumes, prepend_known}
use Rattle.resp_core.specs.Trees.{Tree}
use Rattle.resp_core.specs.Incoming.{SpelledInOrder}
use Rattle.resp_core.specs.Standing.{BeginsWith, BeginsFaulty, BeginsUnfinished}
use Rattle.resp_core.proofs.LawProofs.{one_value, no_value_and_fault}
use Rattle.cluster_calls.specs.Links.Faults.{LinkFault, io, grammar}

-- ---- the one list is a front of the other

abbrev Behind : ℕ → List Tree → List Tree → List ℕ → Type 0
Behind limit ss ts rest = (t : Tree) × (more : List Tree) × (behind : List ℕ) × (ts ≡ ss ++ t ∷ more) × BeginsWith limit t rest behind

pub compared : (limit : ℕ) (ss ts : List Tree) (x y rx ry : List ℕ) → SpelledInOrder limit x ss → SpelledInOrder limit y ts → x ++ rx ≡ y ++ ry
    → ((more : List Tree) × (ss ≡ ts ++ more)) ⊎ Behind limit ss ts rx
compared limit ss [] x y rx ry p q e = inl (ss, refl)
compared limit [] (t ∷ ts) x y rx ry p q e =
    let all : rx ≡ q.0 ++ (q.1 ++ ry) = sym (ap (λ z. z ++ rx) p) ∙ e ∙ ap (λ z. z ++ ry) q.2 ∙ append_assoc q.0 q.1 ry in
    inr (t, ts, q.1 ++ ry, refl, (q.0, q.3, all))
compared limit (s ∷ ss) (t ∷ ts) x y rx ry p q e =
    let left : x ++ rx ≡ p.0 ++ (p.1 ++ rx) = ap (λ z. z ++ rx) p.2 ∙ append_assoc p.0 p.1 rx in
    let right : y ++ ry ≡ q.0 ++ (q.1 ++ ry) = ap (λ z. z ++ ry) q.2 ∙ append_assoc q.0 q.1 ry in
    let both : p.0 ++ (p.1 ++ rx) ≡ q.0 ++ (q.1 ++ ry) = sym left ∙ e ∙ right in
    let one = one_value limit 1 p.0 q.0 (p.1 ++ rx) (q.1 ++ ry) s t p.3 q.3 both in
    let later : p.1 ++ rx ≡ q.1 ++ ry = append_cancel_left p.0 (p.1 ++ rx) (q.1 ++ ry) (both ∙ ap (λ z. z ++ (q.1 ++ ry)) (sym one.0)) in
    elim (compared limit ss ts p.1 q.1 rx ry p.4 q.4 later) [
      | inl f ↦ inl (f.0, ap (λ z. z ∷ ss) one.1 ∙ ap (λ zs. t ∷ zs) f.1)
      | inr b ↦ inr (b.0, b.1, b.2, ap (λ z. z ∷ ts) (sym one.1) ∙ ap (λ zs. s ∷ zs) b.3, b.4)
    ]

pub same_rest : (limit : ℕ) (ts : List Tree) (x y rx ry : List ℕ) → SpelledInOrder limit x ts → SpelledInOrder limit y ts → x ++ rx ≡ y ++ ry → rx ≡ ry
same_rest limit [] x y rx ry p q e = sym (ap (λ z. z ++ rx) p) ∙ e ∙ ap (λ z. z ++ ry) q
same_rest limit (t ∷ ts) x y rx ry p q e =
    let left : x ++ rx ≡ p.0 ++ (p.1 ++ rx) = ap (λ z. z ++ rx) p.2 ∙ append_assoc p.0 p.1 rx in
    let right : y ++ ry ≡ q.0 ++ (q.1 ++ ry) = ap (λ z. z ++ ry) q.2 ∙ append_assoc q.0 q.1 ry in
    let both : p.0 ++ (p.1 ++ rx) ≡ q.0 ++ (q.1 ++ ry) = sym left ∙ e ∙ right in
    let one = one_value limit 1 p.0 q.0 (p.1 ++ rx) (q.1 ++ ry) t t p.3 q.3 both in
    same_rest limit ts p.1 q.1 rx ry p.4 q.4 (append_cancel_left p.0 (p.1 ++ rx) (q.1 ++ ry) (both ∙ ap (λ z. z ++ (q.1 ++ ry)) (sym one.0)))

-- ---- all that the bytes spell

-- behind these values the bytes end without a whole one, or are faulty
pub record SpellsAll (limit : ℕ) (bytes : List ℕ) (values : List Tree) (fault : LinkFault) : Type 0 where
  pub front : List ℕ
  pub rest : List ℕ
  pub joins : bytes ≡ front ++ rest
  pub spells : SpelledInOrder limit front values
  pub ends : ((fault ≡ io) × BeginsUnfinished limit rest) ⊎ ((fault ≡ grammar) × BeginsFaulty limit rest)

no_more : (limit : ℕ) (t : Tree) (fault : LinkFault) (rest behind : List ℕ) → ((fault ≡ io) × BeginsUnfinished limit rest) ⊎ ((fault ≡ grammar) × BeginsFaulty limit rest) → BeginsWith limit t rest behind → ⊥
no_more limit t fault rest behind (inl u) b = u.1.0 t behind b
no_more limit t fault rest behind (inr f) b = no_value_and_fault limit 1 b.0 f.1.0 behind f.1.1 t b.1 f.1.2 (sym b.2 ∙ f.1.3)

-- others that the bytes spell are a front
pub all_first : (limit : ℕ) (bytes y ry : List ℕ) (ss ts : List Tree) (fault : LinkFault) → SpellsAll limit bytes ss fault → bytes ≡ y ++ ry → SpelledInOrder limit y ts → (more : List Tree) × (ss ≡ ts ++ more)
all_first limit bytes y ry ss ts fault a e q = elim (compared limit ss ts a.front y a.rest ry a.spells q (sym a.joins ∙ e)) [
  | inl f ↦ f
  | inr b ↦ absurd (no_more limit b.0 fault a.rest b.2 a.ends b.4)
]

nothing_more : (xs ys : List Tree) → length (xs ++ ys) ≤ length xs → ys ≡ []
nothing_more xs [] h = refl
nothing_more xs (y ∷ ys) h = absurd (omega (arith, h, length-append xs (y ∷ ys)))

pub all_same : (limit : ℕ) (bytes : List ℕ) (ss ts : List Tree) (f g : LinkFault) → SpellsAll limit bytes ss f → SpellsAll limit bytes ts g → (ss ≡ ts) × (f ≡ g)
all_same limit bytes ss ts f g a b =
    let m = all_first limit bytes b.front b.rest ss ts f a b.joins b.spells in
    let n = all_first limit bytes a.front a.rest ts ss g b a.joins a.spells in
    let none : n.0 ≡ [] = nothing_more ss n.0 (omega (arith, ap length m.1, ap length n.1, length-append ts m.0, length-append ss n.0)) in
    let same : ts ≡ ss = n.1 ∙ ap (λ z. ss ++ z) none ∙ append-nil ss in
    let rest : a.rest ≡ b.rest = same_rest limit ss a.front b.front a.rest b.rest a.spells (subst (SpelledInOrder limit b.front) same b.spells) (sym a.joins ∙ b.joins) in
    (sym same, by f g a.ends (subst (λ r. ((g ≡ io) × BeginsUnfinished limit r) ⊎ ((g ≡ grammar) × BeginsFaulty limit r)) (sym rest) b.ends))
  where
    by : (f g : LinkFault) {r : List ℕ} → ((f ≡ io) × BeginsUnfinished limit r) ⊎ ((f ≡ grammar) × BeginsFaulty limit r) → ((g ≡ io) × BeginsUnfinished limit r) ⊎ ((g ≡ grammar) × BeginsFaulty limit r) → f ≡ g
    by f g (inl u) (inl v) = u.0 ∙ sym v.0
    by f g (inl u) (inr v) = absurd (u.1.1 v.1)
    by f g (inr u) (inl v) = absurd (v.1.1 u.1)
    by f g (inr u) (inr v) = u.0 ∙ sym v.0

-- ---- bytes that two readings used up, one behind the other

pub used_up : (bytes unread held first got second rest : List ℕ) (middle left : Option (List ℕ)) → Consumes (Some bytes) (prepend_known unread middle) first → unread ≡ held → Consumes middle left got → held ++ got ≡ second ++ rest
    → (n : List ℕ) × (left ≡ Some n) × (bytes ≡ (first ++ second) ++ (rest ++ n)) × (length got ≤ length bytes)
used_up bytes unread held first got second rest None left p u q j = absurd p
used_up bytes unread held first got second rest (Some m) None p u q j = absurd q
used_up bytes unread held first got second rest (Some m) (Some n) p u q j =
    let inner : unread ++ m ≡ second ++ (rest ++ n) = ap (λ z. z ++ m) u ∙ ap (λ z. held ++ z) q ∙ sym (append_assoc held got n) ∙ ap (λ z. z ++ n) j ∙ append_assoc second rest n in (
      n,
      refl,
      p ∙ ap (λ z. first ++ z) inner ∙ sym (append_assoc first second (rest ++ n)),
      omega (arith, ap length p, ap length q, length-append first (unread ++ m), length-append unread m, length-append got n),
    )
