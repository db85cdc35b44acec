-- Turns on a few slots: whoever has them the same on these has them the same on every slot. And looks, which
-- leave all as it is.
use Rattle.std.specs.Prelude.{◌≡◌, ℕ, ◌==◌, ◌||◌, ◌&&◌, Bool, true, false, cond, List, [], ◌∷◌, refl}
use Rattle.std.specs.List.{AllByRecursion}
use Rattle.std.proofs.Common.{ap, sym, ◌∙◌, subst, eqb-true}
use Rattle.std.proofs.lemmas.Bool.{false≢true}
use Rattle.cluster_calls.specs.OneServer.AmongOthers.{Turn, step_of, turns_on}
use Rattle.cluster_calls.specs.OneServer.Keyspace.{Keyspace, with_cell, Step, History}

abbrev pub is_one_of : List ℕ → ℕ → Bool
is_one_of [] slot = false
is_one_of (s ∷ ss) slot = slot == s || is_one_of ss slot

-- all turns are on these slots
abbrev pub are_on : List ℕ → List Turn → Bool
are_on slots [] = true
are_on slots (t ∷ ts) = is_one_of slots (step_of t).slot && are_on slots ts

both_hold : (b c : Bool) → (b && c) ≡ true → (b ≡ true) × (c ≡ true)
both_hold true c h = (refl, h)
both_hold false c h = absurd (false≢true h)

-- on another slot there are none
none_on : (slots : List ℕ) (slot : ℕ) → is_one_of slots slot ≡ false → (ts : List Turn)
    → are_on slots ts ≡ true → turns_on slot ts ≡ []
none_on slots slot out [] h = refl
none_on slots slot out (t ∷ ts) h =
    by (slot == (step_of t).slot) refl
    (none_on slots slot out ts (both_hold (is_one_of slots (step_of t).slot) (are_on slots ts) h).1)
  where
    by : (b : Bool) → slot == (step_of t).slot ≡ b → turns_on slot ts ≡ []
        → cond b (t ∷ turns_on slot ts) (turns_on slot ts) ≡ []
    by true e ih =
        let here = (both_hold (is_one_of slots (step_of t).slot) (are_on slots ts) h).0 in
        absurd (false≢true (sym out ∙ ap (is_one_of slots) (eqb-true slot (step_of t).slot e) ∙ here))
    by false e ih = ih

at_slot : (P : ℕ → Type 0) (slots : List ℕ) (slot : ℕ) → is_one_of slots slot ≡ true → AllByRecursion P slots
    → P slot
at_slot P [] slot e h = absurd (false≢true e)
at_slot P (s ∷ ss) slot e h = by (slot == s) refl e (λ f. at_slot P ss slot f h.1)
  where
    by : (b : Bool) → slot == s ≡ b → (b || is_one_of ss slot) ≡ true → (is_one_of ss slot ≡ true → P slot)
        → P slot
    by true f k later = subst P (sym (eqb-true slot s f)) h.0
    by false f k later = later k

pub same_on_each : (slots : List ℕ) (xs ys : List Turn) → are_on slots xs ≡ true → are_on slots ys ≡ true
    → AllByRecursion (λ s. turns_on s xs ≡ turns_on s ys) slots → (slot : ℕ)
    → turns_on slot xs ≡ turns_on slot ys
same_on_each slots xs ys in_xs in_ys same slot = by (is_one_of slots slot) refl
  where
    by : (b : Bool) → is_one_of slots slot ≡ b → turns_on slot xs ≡ turns_on slot ys
    by true e = at_slot (λ s. turns_on s xs ≡ turns_on s ys) slots slot e same
    by false e = none_on slots slot e xs in_xs ∙ sym (none_on slots slot e ys in_ys)

-- ---- looks

-- a step that finds these keys and leaves them
abbrev pub LooksAt : Keyspace → Step → Type 0
LooksAt keys x = (keys x.slot ≡ x.before) × (x.before ≡ x.after)

looks_from : (keys keys' : Keyspace) → ((slot : ℕ) → keys slot ≡ keys' slot) → (xs : List Step)
    → AllByRecursion (LooksAt keys') xs → History keys xs keys'
looks_from keys keys' same [] h = same
looks_from keys keys' same (x ∷ xs) h = (
  same x.slot ∙ h.0.0,
  looks_from (with_cell keys x.slot x.after) keys' (λ slot. by slot (slot == x.slot) refl) xs h.1,
)
  where
    by : (slot : ℕ) (b : Bool) → slot == x.slot ≡ b → cond b x.after (keys slot) ≡ keys' slot
    by slot true e = sym h.0.1 ∙ sym h.0.0 ∙ ap keys' (sym (eqb-true slot x.slot e))
    by slot false e = same slot

-- looks alone are a history in any order
pub looks_lead : (keys : Keyspace) (xs : List Step) → AllByRecursion (LooksAt keys) xs → History keys xs keys
looks_lead keys xs h = looks_from keys keys (λ slot. refl) xs h
