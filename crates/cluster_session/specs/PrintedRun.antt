-- What a session prints of its calls.
-- Source: the session language is this repository's own (docs/SESSIONS.md).
use Rattle.std.specs.Prelude.{◌≡◌, ℕ, true, false, List, [], ◌++◌, None, unwrap_or}
use Rattle.std.specs.List.{flat_map}
use Rattle.resp_link.specs.Call.{Seen}
use Rattle.cluster_calls.specs.Links.Play.{Plays, Shown}
use Rattle.cluster_calls.specs.Links.World.{World, Node, addresses_of, has_repeats}
use Rattle.cluster_session.specs.Printed.{call_line}
use Rattle.cluster_session.specs.PrintedLines.{request_line, sent_line}
use Rattle.cluster_session.specs.Session.{Session, start}

-- what a call answered, and then each request that it sent
abbrev pub call_lines : Shown → List ℕ
call_lines shown = call_line shown.answer ++ flat_map request_line shown.log

-- all bytes that went out over a link
abbrev pub sent_bytes : Seen → List ℕ
sent_bytes link = unwrap_or link.sent []

abbrev pub node_line : Node → List ℕ
node_line node = sent_line node.address (sent_bytes node.link)

-- the text of calls that were played, and of the nodes behind them
abbrev pub run_text : List Shown → List Node → List ℕ
run_text calls nodes = flat_map call_lines calls ++ flat_map node_line nodes

-- All calls of the session were played, one after another, from its nodes as they are set up, each address
-- once; the text is theirs.
pub record PrintsRun (session : Session) (output : List ℕ) : Type 0 where
  pub after : World
  pub shown : List Shown
  pub distinct : has_repeats (addresses_of (start session).nodes) ≡ false
  pub plays : Plays None (start session) after session.calls [] shown true
  pub text : output ≡ run_text shown after.nodes
