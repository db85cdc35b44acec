-- The texts by which a server refuses. Source: the protocol errors of Redis 7.0.15; that of a zero byte is
-- this library's own.
use Rattle.std.specs.Prelude.{ℕ, ◌==◌, ◌||◌, if◌then◌else◌, List, [], ◌∷◌, ◌++◌, codes}
use Rattle.resp_requests.specs.declared.fault.Fault.{Fault}
use Rattle.resp_requests.specs.declared.fault.Fault.TheVariants.{LongInline, LongCount, LongLength, BadCount, NoDollar, BadLength, OpenQuote, ZeroByte}

-- a CR and an LF are shown as blanks
abbrev pub shown : ℕ → ℕ
shown b = if b == 13 || b == 10 then 32 else b

abbrev pub no_dollar : ℕ → List ℕ
no_dollar b = codes "Protocol error: expected '$', got '" ++ shown b ∷ codes "'"

-- the text by which a server refuses: that of Redis, but for a zero byte
abbrev pub message : Fault → List ℕ
message LongInline = codes "Protocol error: too big inline request"
message LongCount = codes "Protocol error: too big mbulk count string"
message LongLength = codes "Protocol error: too big bulk count string"
message BadCount = codes "Protocol error: invalid multibulk length"
message (NoDollar b) = no_dollar b
message BadLength = codes "Protocol error: invalid bulk length"
message OpenQuote = codes "Protocol error: unbalanced quotes in request"
message ZeroByte = codes "Protocol error: zero byte in a line"
