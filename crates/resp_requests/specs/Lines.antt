-- Lines of requests. Source: the RESP specification, and Redis 7.0.15, which ends an inline request at an LF,
-- ends the lines of an array at a CR whatever byte follows it, and reads 64 KiB of an unfinished line at most.
use Rattle.std.specs.Prelude.{ℕ, ◌-◌, ◌==◌, if◌then◌else◌, List, [], ◌∷◌, drop, Result, Ok, Err}
use Rattle.resp_requests.specs.declared.fault.Fault.{Fault}
use Rattle.resp_requests.specs.declared.fault.Fault.TheVariants.{ZeroByte}
use Rattle.resp_requests.specs.Gaps.{Gap, short, fault, Read, ◌>>=◌}

-- The bytes up to the first `end`, so many at most; one byte more is the fault `long`. No line has a zero
-- byte: Redis finds no end behind one.
unfoldable pub line_at : ℕ → ℕ → Fault → List ℕ → Read (List ℕ)
line_at end most long [] = Err short
line_at end most long (b ∷ bs) = if b == end then Ok ([], bs)
    else if b == 0 then Err (fault ZeroByte)
    else if most == 0 then Err (fault long)
    else (line_at end (most - 1) long bs >>= λ x. Ok (b ∷ x.0, x.1))

-- behind one byte more
unfoldable pub behind_byte : List ℕ → Result (List ℕ) Gap
behind_byte [] = Err short
behind_byte (b ∷ bs) = Ok bs

-- the line of a count or of a length: up to the first CR, and the byte behind it, which is the LF
unfoldable pub head_at : ℕ → Fault → List ℕ → Read (List ℕ)
head_at most long bs = line_at 13 most long bs >>= λ x. behind_byte x.1 >>= λ rest. Ok (x.0, rest)
