-- What a turn leaves is not asked where it, or one behind it, may have been done.
use Rattle.std.proofs.Common.{◌≡◌, ℕ, zero, suc, ◌<◌, Bool, true, false, cond, ◌&&◌, ◌||◌, List, [], ◌∷◌, Some, None, refl, ◌∙◌, ap, arith}
use Rattle.proxy_core.specs.declared.outcome.Outcome.{Outcome}
use Rattle.proxy_core.specs.declared.outcome.Fate.{Fate}
use Rattle.proxy_core.specs.declared.queue.Entry.{Entry}
use Rattle.proxy_core.specs.declared.queue.Entry.TheVariants.{Waits, Reads}
use Rattle.proxy_core.specs.Fates.{may_be_done}
use Rattle.proxy_core.specs.Queue.{overtaken, settled, settled_one}
use Rattle.proxy_core.specs.Laws.{waits_at, fate_at}

some_is : {A : Type 0} (x y : A) → Some x ≡ Some y → x ≡ y
some_is x y e = cc

or_left : (a b : Bool) → a ≡ true → (a || b) ≡ true
or_left a b e = ap (λ x. x || b) e

or_right : (a b : Bool) → b ≡ true → (a || b) ≡ true
or_right true b e = refl
or_right false b e = e

module _ {C V : Type 0} (overlaps : C → C → Bool) where
  waits_settled : (c : C) (o : Outcome V) (q : List (Entry C V)) (os : List (Outcome V)) (rest : List (Entry C V)) → (may_be_done o.fate || overtaken overlaps c q os) ≡ true
      → waits_at (settled_one overlaps c o q os ∷ rest) 0 ≡ None
  waits_settled c o q os rest e = ap (λ b. waits_at (cond b (Reads o.reply) (Waits c) ∷ rest) 0) e

  pub asks_once : (q : List (Entry C V)) (os : List (Outcome V)) (k : ℕ) (f : Fate) → fate_at q os k ≡ Some f → may_be_done f ≡ true → waits_at (settled overlaps q os) k ≡ None
  asks_once [] os k f e d = refl
  asks_once (Reads v ∷ q) os zero f e d = refl
  asks_once (Reads v ∷ q) os (suc k) f e d = asks_once q os k f e d
  asks_once (Waits c ∷ q) [] k f e d = cc
  asks_once (Waits c ∷ q) (o ∷ os) zero f e d = waits_settled c o q os (settled overlaps q os) (or_left (may_be_done o.fate) (overtaken overlaps c q os) (ap may_be_done (some_is o.fate f e) ∙ d))
  asks_once (Waits c ∷ q) (o ∷ os) (suc k) f e d = asks_once q os k f e d

  overtakes : (c d : C) (q : List (Entry C V)) (os : List (Outcome V)) (k : ℕ) (f : Fate) → waits_at q k ≡ Some d → overlaps c d ≡ true → fate_at q os k ≡ Some f → may_be_done f ≡ true → overtaken overlaps c q os ≡ true
  overtakes c d [] os k f w v e m = cc
  overtakes c d (Reads x ∷ q) os zero f w v e m = cc
  overtakes c d (Reads x ∷ q) os (suc k) f w v e m = overtakes c d q os k f w v e m
  overtakes c d (Waits x ∷ q) [] k f w v e m = cc
  overtakes c d (Waits x ∷ q) (o ∷ os) zero f w v e m =
      or_left (may_be_done o.fate && overlaps c x) (overtaken overlaps c q os) (ap (λ b. b && overlaps c x) (ap may_be_done (some_is o.fate f e) ∙ m) ∙ ap (overlaps c) (some_is x d w) ∙ v)
  overtakes c d (Waits x ∷ q) (o ∷ os) (suc k) f w v e m = or_right (may_be_done o.fate && overlaps c x) (overtaken overlaps c q os) (overtakes c d q os k f w v e m)

  pub keeps_order : (q : List (Entry C V)) (os : List (Outcome V)) (i k : ℕ) (c d : C) (f : Fate) → i < k
      → waits_at q i ≡ Some c → waits_at q k ≡ Some d → overlaps c d ≡ true
      → fate_at q os k ≡ Some f → may_be_done f ≡ true → waits_at (settled overlaps q os) i ≡ None
  keeps_order [] os i k c d f l w x v e m = refl
  keeps_order (Reads y ∷ q) os zero k c d f l w x v e m = refl
  keeps_order (Reads y ∷ q) os (suc i) zero c d f l w x v e m = absurd (omega arith)
  keeps_order (Reads y ∷ q) os (suc i) (suc k) c d f l w x v e m = keeps_order q os i k c d f (omega arith) w x v e m
  keeps_order (Waits y ∷ q) [] i k c d f l w x v e m = cc
  keeps_order (Waits y ∷ q) (o ∷ os) i zero c d f l w x v e m = absurd (omega arith)
  keeps_order (Waits y ∷ q) (o ∷ os) zero (suc k) c d f l w x v e m =
      waits_settled y o q os (settled overlaps q os) (or_right (may_be_done o.fate) (overtaken overlaps y q os) (overtakes y d q os k f x (ap (λ z. overlaps z d) (some_is y c w) ∙ v) e m))
  keeps_order (Waits y ∷ q) (o ∷ os) (suc i) (suc k) c d f l w x v e m = keeps_order q os i k c d f (omega arith) w x v e m
