-- Readings where more bytes follow, and the bytes that they take.
use Rattle.std.proofs.Common.{◌≡◌, ℕ, ◌+◌, ◌<◌, ◌≤◌, Bool, true, false, if◌then◌else◌, List, [], ◌∷◌, ◌++◌, length, Result, Ok, Err, refl, sym, ap, ◌∙◌, append_assoc, length-append, arith}
use Rattle.resp_requests.specs.declared.fault.Fault.{Fault}
use Rattle.resp_requests.specs.Gaps.{Gap, short, fault, Read, ◌>>=◌}

-- what was read stays so where more bytes follow, and so does a fault
abbrev pub Extends : {A : Type 0} → Read A → List ℕ → Read A → Type 0
Extends (Ok x) more r = r ≡ Ok (x.0, x.1 ++ more)
Extends (Err short) more r = Unit {0}
Extends (Err (fault f)) more r = r ≡ Err (fault f)

pub extends_if : {A : Type 0} (c : Bool) (r s : Read A) (more : List ℕ) (u v : Read A) → Extends r more u → Extends s more v
    → Extends (if c then r else s) more (if c then u else v)
extends_if true r s more u v p q = p
extends_if false r s more u v p q = q

pub extends_along : {A : Type 0} (r : Read A) (more : List ℕ) (u v : Read A) → v ≡ u → Extends r more u → Extends r more v
extends_along (Ok x) more u v e p = e ∙ p
extends_along (Err short) more u v e p = tt
extends_along (Err (fault f)) more u v e p = e ∙ p

pub extends_then : {A B : Type 0} (r : Read A) (more : List ℕ) (u : Read A) (f : A × List ℕ → Read B) → Extends r more u
    → ((x : A) (rest : List ℕ) → Extends (f (x, rest)) more (f (x, rest ++ more)))
    → Extends (r >>= f) more (u >>= f)
extends_then (Ok x) more u f p q = let e = ap (λ v. v >>= f) p in let h = q x.0 x.1 in extends_along (f x) more (f (x.0, x.1 ++ more)) (u >>= f) e h
extends_then (Err short) more u f p q = tt
extends_then (Err (fault g)) more u f p q = ap (λ v. v >>= f) p

-- a test of what was read, which takes no bytes
pub extends_test : {A N : Type 0} (t : Result N Gap) (more : List ℕ) (f g : N → Read A)
    → ((n : N) → Extends (f n) more (g n)) → Extends (t >>= f) more (t >>= g)
extends_test (Ok n) more f g q = q n
extends_test (Err short) more f g q = tt
extends_test (Err (fault h)) more f g q = refl

-- some bytes were taken, and these are behind them
pub record Behind (bytes rest : List ℕ) : Type 0 where
  pub used : List ℕ
  pub some : 0 < length used
  pub parts : bytes ≡ used ++ rest

abbrev pub Took : {A : Type 0} → List ℕ → Read A → Type 0
Took bytes (Ok x) = Behind bytes x.1
Took bytes (Err e) = Unit {0}

pub took_if : {A : Type 0} (c : Bool) (bytes : List ℕ) (r s : Read A) → Took bytes r → Took bytes s → Took bytes (if c then r else s)
took_if true bytes r s p q = p
took_if false bytes r s p q = q

-- what was taken of the rest was taken of all
pub behind_both : (a b c : List ℕ) → Behind a b → Behind b c → Behind a c
behind_both a b c p q = record {
  used = p.used ++ q.used;
  some = omega (arith, p.some, length-append p.used q.used);
  parts = p.parts ∙ ap (λ (l : List ℕ). p.used ++ l) q.parts ∙ sym (append_assoc p.used q.used c);
}

-- what is read of the rest, if anything is taken there or not
abbrev pub TookOrNot : {A : Type 0} → List ℕ → Read A → Type 0
TookOrNot bytes (Ok x) = (used : List ℕ) × (bytes ≡ used ++ x.1)
TookOrNot bytes (Err e) = Unit {0}

pub behind_more : (a b c : List ℕ) → Behind a b → ((used : List ℕ) × (b ≡ used ++ c)) → Behind a c
behind_more a b c p q = record {
  used = p.used ++ q.0;
  some = omega (arith, p.some, length-append p.used q.0);
  parts = p.parts ∙ ap (λ (l : List ℕ). p.used ++ l) q.1 ∙ sym (append_assoc p.used q.0 c);
}

took_rest : {B : Type 0} (a b : List ℕ) (r : Read B) → Behind a b → TookOrNot b r → Took a r
took_rest a b (Ok x) p q = behind_more a b x.1 p q
took_rest a b (Err e) p q = tt

pub took_then : {A B : Type 0} (bytes : List ℕ) (r : Read A) (f : A × List ℕ → Read B) → Took bytes r
    → ((x : A) (rest : List ℕ) → TookOrNot rest (f (x, rest))) → Took bytes (r >>= f)
took_then bytes (Ok x) f p q = took_rest bytes x.1 (f x) p (q x.0 x.1)
took_then bytes (Err e) f p q = tt

pub took_test : {A N : Type 0} (t : Result N Gap) (bytes : List ℕ) (f : N → Read A)
    → ((n : N) → TookOrNot bytes (f n)) → TookOrNot bytes (t >>= f)
took_test (Ok n) bytes f q = q n
took_test (Err e) bytes f q = tt

pub took_some : {A : Type 0} (bytes : List ℕ) (r : Read A) → Took bytes r → TookOrNot bytes r
took_some bytes (Ok x) p = (p.used, p.parts)
took_some bytes (Err e) p = tt

not_longer : {B : Type 0} (a b : List ℕ) (r : Read B) → ((used : List ℕ) × (a ≡ used ++ b)) → TookOrNot b r → TookOrNot a r
not_longer a b (Ok x) p q = (p.0 ++ q.0, p.1 ∙ ap (λ (l : List ℕ). p.0 ++ l) q.1 ∙ sym (append_assoc p.0 q.0 x.1))
not_longer a b (Err e) p q = tt

pub took_all : {A B : Type 0} (bytes : List ℕ) (r : Read A) (f : A × List ℕ → Read B) → TookOrNot bytes r
    → ((x : A) (rest : List ℕ) → TookOrNot rest (f (x, rest))) → TookOrNot bytes (r >>= f)
took_all bytes (Ok x) f p q = not_longer bytes x.1 (f x) p (q x.0 x.1)
took_all bytes (Err e) f p q = tt

-- where something was read
pub took_is : {A : Type 0} (bytes : List ℕ) (r : Read A) (x : A) (rest : List ℕ) → r ≡ Ok (x, rest) → Took bytes r → Behind bytes rest
took_is bytes r x rest e p = rw e at p
