-- The first number that no guest has.
use Rattle.std.proofs.Common.{◌≡◌, ℕ, zero, suc, ◌+◌, ◌<◌, Bool, true, false, List, [], ◌∷◌, refl, arith}
use Rattle.proxy_core.specs.Guests.{free_from, is_open_at}

-- every number below it is taken
pub free_open : (bs : List Bool) (k i : ℕ) → k + i < free_from k bs → is_open_at bs i ≡ true
free_open [] k i l = absurd (omega arith)
free_open (false ∷ bs) k i l = absurd (omega arith)
free_open (true ∷ bs) k zero l = refl
free_open (true ∷ bs) k (suc i) l = free_open bs (suc k) i (omega arith)
