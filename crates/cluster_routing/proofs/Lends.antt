-- Addresses that a list holds.
use Rattle.std.proofs.Common.{◌≡◌, ℕ, zero, suc, List, [], ◌∷◌, Some, sym, subst, arith}
use Rattle.std.specs.Prelude.{slice_get, Contains}
use Rattle.cluster_routing.specs.Address.{Address}
use Rattle.cluster_routing.specs.Candidates.{candidate_nodes}
use Rattle.cluster_routing.specs.Lent.{lent}
use Rattle.cluster_routing.specs.declared.candidates.ReadCandidates.{ReadCandidates}

pub contained : {X : Type 0} (xs : List X) (k : ℕ) (x : X) → slice_get xs k ≡ Some x → Contains xs x
contained [] k x h = cc
contained (y ∷ xs) zero x h = let e : y ≡ x = cc in (0, omega arith, e)
contained (y ∷ xs) (suc k) x h = let r : Contains xs x = contained xs k x h in (suc r.0, omega (arith, r.1), r.2)

pub contained_behind : {X : Type 0} (y : X) (xs : List X) (x : X) → Contains xs x → Contains (y ∷ xs) x
contained_behind y xs x r = (suc r.0, omega (arith, r.1), r.2)

-- candidates are told by which sort they are
pub among : (c sort : ReadCandidates) (a : Address) → c ≡ sort → Contains (candidate_nodes (lent sort)) a → Contains (candidate_nodes (lent c)) a
among c sort a is h = subst (λ (x : ReadCandidates). Contains (candidate_nodes (lent x)) a) (sym is) h
