-- How many reads gave some bytes.
use Rattle.std.proofs.Common.{◌≡◌, ◌≤◌, ◌+◌, ◌*◌, ℕ, List, ◌++◌, length, length-append, ap, arith, inl, inr}
use Rattle.resp_core.specs.Incoming.{Reading, Given, ReadsWhile}

-- so many reads gave what was got
pub given_in : (Such : List ℕ → Type 0) (a b : Reading) (got : List ℕ) → ReadsWhile Such a b got → (reads : ℕ) × (a.allowed ≡ b.allowed + reads) × Given reads got
given_in Such a b got (inl none) = (0, omega (arith, none.0), (omega (arith, ap length none.2), omega (arith, ap length none.2)))
given_in Such a b got (inr last) = (
  last.2 + 1,
  omega (arith, last.6),
  (
    omega (arith, last.4.0, last.5.0, ap length last.3, length-append last.0 last.1),
    omega (arith, last.4.1, last.5.1, ap length last.3, length-append last.0 last.1),
  ),
)

pub given_both : (n m : ℕ) (xs ys : List ℕ) → Given n xs → Given m ys → Given (n + m) (xs ++ ys)
given_both n m xs ys p q = (omega (arith, p.0, q.0, length-append xs ys), omega (arith, p.1, q.1, length-append xs ys))

pub allowed_both : (n m a b c : ℕ) → a ≡ b + n → b ≡ c + 1 + m → a ≡ c + 1 + (n + m)
allowed_both n m a b c p q = omega (arith, p, q)
