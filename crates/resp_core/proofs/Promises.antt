-- promises over several calls, and over one call of a device that refuses by number
use Rattle.std.proofs.Common.{◌≡◌, ◌≢◌, ◌≤◌, ◌<◌, ◌+◌, ℕ, zero, suc, subst, inl, inr, arith}
use Rattle.std.proofs.lemmas.Bool.Decides.{leb_tells}
use Rattle.resp_core.specs.Promise.{Promise, nothing, refuses_none, refuses_only, refuses_at, RefusesNone, MayRefuse}
use Rattle.resp_core.specs.Counts.{counted}

-- no call was made
pub RefusesNone-none : (p : Promise) (n : ℕ) → RefusesNone p n n
RefusesNone-none nothing n = tt
RefusesNone-none refuses_none n = tt
RefusesNone-none (refuses_only k) n = elim (leb_tells k n) [ inl h ↦ inl h.1 | inr h ↦ inr h.1 ]

both_kept : (p : Promise) (a b c : ℕ) → RefusesNone p a b → RefusesNone p b c → RefusesNone p a c
both_kept nothing a b c h k = tt
both_kept refuses_none a b c h k = tt
both_kept (refuses_only n) a b c (inl h) k = inl h
both_kept (refuses_only n) a b c (inr h) (inl k) = absurd (omega (arith, h, k))
both_kept (refuses_only n) a b c (inr h) (inr k) = inr k

pub RefusesNone-append : (p q : Promise) (a b c : ℕ) → q ≡ p → RefusesNone p a b → RefusesNone q b c → RefusesNone p a c
RefusesNone-append p q a b c e h k = both_kept p a b c h (subst (λ r. RefusesNone r b c) e k)

-- a call that is not the one to refuse was answered
pub answered_by_number : (at before after : ℕ) → after ≡ counted before → after ≢ at → RefusesNone (refuses_at at) before after
answered_by_number zero before after e other = tt
answered_by_number (suc n) before after e other = elim (leb_tells (suc n) before) [
  | inl h ↦ inl h.1
  | inr h ↦ inr (omega (arith, h.1, e, other))
]

-- the one to refuse was refused
pub refused_by_number : (at before after : ℕ) → after ≡ counted before → after ≡ at → MayRefuse (refuses_at at) after
refused_by_number zero before after e same = absurd (omega (arith, e, same))
refused_by_number (suc n) before after e same = same
