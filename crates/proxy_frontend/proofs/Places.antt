-- One guest's connection among all.
use Rattle.std.proofs.Common.{◌≡◌, ℕ, zero, suc, ◌<◌, List, [], ◌∷◌, length, Option, Some, None, get_or, sym, ◌∙◌, arith}
use Rattle.std.proofs.lemmas.List.{get_or_default}

-- what was read at place g
pub read_at : {A : Type 0} (xs : List (Option A)) (g : ℕ) (o : Option A) (x : A) → o ≡ get_or xs g o → o ≡ Some x → g < length xs → get_or xs g None ≡ Some x
read_at xs g o x r e h = get_or_default xs g None o h ∙ sym r ∙ e

-- something stands only within the list
pub within : {A : Type 0} (xs : List (Option A)) (g : ℕ) (x : A) → get_or xs g None ≡ Some x → g < length xs
within [] g x e = absurd (let no : ⊥ = cc in no)
within (y ∷ xs) zero x e = omega arith
within (y ∷ xs) (suc g) x e = let less = within xs g x e in omega arith
