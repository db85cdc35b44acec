-- Arrays of bulks, the requests that client libraries send. Source: the RESP specification ("Clients send
-- commands to a Redis server as an array of bulk strings"), and Redis 7.0.15, which reads any two bytes behind
-- an argument.
use Rattle.std.specs.Prelude.{ℕ, zero, suc, ◌+◌, ◌==◌, nat_lt, nat_le, Bool, if◌then◌else◌, List, [], ◌∷◌, length, take, drop, Option, Some, None, Result, Ok, Err}
use Rattle.resp_requests.specs.declared.fault.Fault.{Fault}
use Rattle.resp_requests.specs.declared.fault.Fault.TheVariants.{LongCount, LongLength, BadCount, NoDollar, BadLength}
use Rattle.resp_requests.specs.declared.limits.Limits.{Limits}
use Rattle.resp_requests.specs.Gaps.{Gap, short, fault, Read, ◌>>=◌}
use Rattle.resp_requests.specs.Lines.{head_at}
use Rattle.resp_requests.specs.Numbers.{number_in, is_negative}

-- a number up to the limit
abbrev pub within : Option ℕ → ℕ → Fault → Result ℕ Gap
within None most bad = Err (fault bad)
within (Some n) most bad = if nat_le n most then Ok n else Err (fault bad)

-- how many arguments follow; a number below zero counts as none
unfoldable pub count_in : List ℕ → ℕ → Result ℕ Gap
count_in digits most = if is_negative digits then Ok 0 else within (number_in digits) most BadCount

-- the length of an argument, behind its dollar; an empty line has its CR there
unfoldable pub length_in : List ℕ → ℕ → Result ℕ Gap
length_in [] most = Err (fault (NoDollar 13))
length_in (b ∷ digits) most =
    if b == 36 then within (number_in digits) most BadLength else Err (fault (NoDollar b))

-- the line of the count, without its star
unfoldable pub count_at : Limits → List ℕ → Read ℕ
count_at l bs = head_at l.longest_line LongCount bs >>= λ head.
    count_in (drop 1 head.0) l.most_arguments >>= λ n. Ok (n, head.1)

-- so many bytes, and the two behind them, which are CR LF
unfoldable pub text_at : ℕ → List ℕ → Read (List ℕ)
text_at n bs = if nat_lt (length bs) (n + 2) then Err short else Ok (take n bs, drop (n + 2) bs)

unfoldable pub argument_at : Limits → List ℕ → Read (List ℕ)
argument_at l bs = head_at l.longest_line LongLength bs >>= λ head.
    length_in head.0 l.longest_argument >>= λ n. text_at n head.1

-- so many arguments
unfoldable pub arguments_at : Limits → ℕ → List ℕ → Read (List (List ℕ))
arguments_at l zero bs = Ok ([], bs)
arguments_at l (suc n) bs = argument_at l bs >>= λ a.
    arguments_at l n a.1 >>= λ others. Ok (a.0 ∷ others.0, others.1)

unfoldable pub array_at : Limits → List ℕ → Read (List (List ℕ))
array_at l bs = count_at l bs >>= λ count. arguments_at l count.0 count.1
