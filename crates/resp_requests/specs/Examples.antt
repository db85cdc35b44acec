-- Bytes and the commands that they spell. Sources: the RESP specification, and what Redis 7.0.15 was seen to
-- do.
use Rattle.std.specs.Prelude.{◌≡◌, ℕ, List, [], ◌∷◌, ◌++◌, codes}
use Rattle.resp_requests.specs.declared.fault.Fault.{Fault}
use Rattle.resp_requests.specs.declared.fault.Fault.TheVariants.{LongInline, BadCount, NoDollar, BadLength, OpenQuote, ZeroByte}
use Rattle.resp_requests.specs.declared.limits.Limits.{Limits}
use Rattle.resp_requests.specs.Requests.{Command, unfinished, faulty, requests}

abbrev pub limits : Limits
limits = record { most_arguments = 3; longest_argument = 20; longest_line = 30 }

-- these commands, and the beginning of one more
abbrev pub Reads : List ℕ → List Command → List ℕ → Type 0
Reads bytes commands rest = requests limits bytes ≡ record { commands = commands; ending = unfinished rest }

-- these commands, and a fault
abbrev pub Refuses : List ℕ → List Command → Fault → Type 0
Refuses bytes commands f = requests limits bytes ≡ record { commands = commands; ending = faulty f }

abbrev pub ping : Command
ping = codes "PING" ∷ []

abbrev pub echo : List ℕ → Command
echo text = codes "ECHO" ∷ text ∷ []

-- an argument may hold any bytes; empty arrays are left out; what is unfinished waits
abbrev pub ArraysOfBulks : Type 0
ArraysOfBulks =
    Reads (codes "*2\r\n$4\r\nECHO\r\n$4\r\n\r\n*1\r\n*1\r\n$4\r\nPI") (echo (codes "\r\n*1") ∷ [])
    (codes "*1\r\n$4\r\nPI")
    × Reads (codes "*0\r\n*-1\r\n*1\r\n$4\r\nPING\r\n") (ping ∷ []) []
    × Reads (codes "*1\r\n$4\r\nPINGxyPING\r\n") (ping ∷ ping ∷ []) []

-- each part of an array that is none is told, behind the commands before it
abbrev pub BadArrays : Type 0
BadArrays =
    Refuses (codes "PING\r\n*x\r\nPING\r\n") (ping ∷ []) BadCount
    × Refuses (codes "*01\r\n") [] BadCount
    × Refuses (codes "*4\r\n") [] BadCount
    × Refuses (codes "*1\r\nPING\r\n") [] (NoDollar 80)
    × Refuses (codes "*1\r\n$-1\r\n") [] BadLength
    × Refuses (codes "*1\r\n$21\r\n") [] BadLength

-- words stand between blanks, and an LF ends the line; empty lines are left out
abbrev pub Words : Type 0
Words =
    Reads (codes "PING\r\n\r\n ECHO  a\nPING") (ping ∷ echo (codes "a") ∷ []) (codes "PING")
    × Refuses (codes "ECHO 12345678901234567890123456") [] LongInline
    × Refuses (codes "PING\r\nPING" ++ 0 ∷ []) (ping ∷ []) ZeroByte

-- double quotes have escapes, single ones only that of a quote, and behind either a blank stands
abbrev pub Quotes : Type 0
Quotes =
    Reads (codes "ECHO \"a \\x41\\q\\\"\"\r\n") (echo (codes "a Aq\"") ∷ []) []
    × Reads (codes "ECHO 'a\\'\\n'\r\n") (echo (codes "a'\\n") ∷ []) []
    × Reads (codes "ECHO a\"b c\"\r\n") (echo (codes "ab c") ∷ []) []
    × Refuses (codes "ECHO \"a\r\n") [] OpenQuote
    × Refuses (codes "ECHO \"a\"b\r\n") [] OpenQuote
