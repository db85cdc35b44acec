-- What the code reads of a line.
use Rattle.std.specs.Prelude.{◌≡◌, ⊤, ℕ, List, map, Option, Some, None, Result, Ok, Err}
use Rattle.std.specs.Borrow.{Bor}
use Rattle.cluster_routing.specs.Seen.{address}
use Rattle.cluster_client.specs.Shown.{call_in}
use Rattle.cluster_session.specs.Lines.{Access, reading, writing, Meaning, node, fault, read_only, budget, levels, call, pipe, each, multi, command, run}
use Rattle.cluster_session.specs.declared.session.lines.LineError.{LineError}
use Rattle.cluster_session.specs.declared.session.lines.LineError.TheVariants.{Bad, Memory}
use Rattle.cluster_session.specs.declared.session.script.Access.{Access as CodeAccess}
use Rattle.cluster_session.specs.declared.session.script.Access.TheVariants.{Read, Write}
use Rattle.cluster_session.specs.declared.session.script.Line.{Line}
use Rattle.cluster_session.specs.declared.session.script.Line.TheVariants as lines

abbrev pub access_in : CodeAccess → Access
access_in Read = reading
access_in Write = writing

abbrev pub meaning_in : Line → Meaning
meaning_in (lines.Node at piece bytes) = node (address at) piece bytes.items
meaning_in (lines.Fault at access number) = fault (address at) (access_in access) number
meaning_in (lines.ReadOnly name) = read_only name.items
meaning_in (lines.Budget n) = budget n
meaning_in (lines.Levels n) = levels n.limit
meaning_in (lines.Call c) = call (call_in c)
meaning_in lines.Pipe = pipe
meaning_in lines.Each = each
meaning_in lines.Multi = multi
meaning_in (lines.Command c ignored) = command (record { command = c; ignored = ignored })
meaning_in lines.Run = run

-- the words of a line
abbrev pub words_in : List (Bor (List ℕ)) → List (List ℕ)
words_in words = map (λ word. word.now) words

-- A value is what was read, and something is bad where it says nothing; memory may be refused in any case.
abbrev pub Reads : {V A : Type 0} → (V → A) → Option A → Result V LineError → Type 0
Reads shown said (Ok v) = said ≡ Some (shown v)
Reads shown said (Err Bad) = said ≡ None
Reads shown said (Err Memory) = ⊤
