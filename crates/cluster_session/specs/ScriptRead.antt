-- What the code reads of a session's lines.
use Rattle.std.specs.Prelude.{◌≡◌, ⊤, ℕ, map, option_map, Option, Some, None, Result, Ok, Err}
use Rattle.std.specs.BTreeMap.{BTreeMap}
use Rattle.cluster_routing.specs.Address.{Address}
use Rattle.cluster_routing.specs.Info.{texts}
use Rattle.cluster_routing.specs.Seen.{address}
use Rattle.cluster_routing.specs.declared.address.NodeAddress.{NodeAddress}
use Rattle.cluster_client.specs.Shown.{call_in}
use Rattle.cluster_session.specs.Script.{Draft, Nodes, session_of}
use Rattle.cluster_session.specs.Session.{Session, Setup}
use Rattle.cluster_session.specs.declared.session.lines.LineError.{LineError}
use Rattle.cluster_session.specs.declared.session.lines.LineError.TheVariants.{Bad, Memory}
use Rattle.cluster_session.specs.declared.session.script.Node.{Node}
use Rattle.cluster_session.specs.declared.session.script.Script.{Script}
use Rattle.cluster_session.specs.declared.session.script.ScriptError.{ScriptError}
use Rattle.cluster_session.specs.declared.session.script.ScriptError.TheVariants as errors

abbrev pub setup_in : Node → Setup
setup_in node = record {
  piece = node.piece;
  bytes = node.bytes.items;
  failing_read = node.failing_read;
  failing_write = node.failing_write;
}

abbrev pub node_in : NodeAddress × Node → Address × Setup
node_in node = (address node.0, setup_in node.1)

abbrev pub nodes_in : BTreeMap NodeAddress Node → Nodes
nodes_in nodes = map node_in nodes.entries

abbrev pub draft_in : Script → Draft
draft_in script = record {
  nodes = nodes_in script.nodes;
  read_only = texts script.read_only.items;
  budget = script.budget;
  levels = option_map (λ levels. levels.limit) script.levels;
  calls = map call_in script.calls.items;
  pipeline = script.pipeline;
  tells_each = script.tells_each;
  transaction = option_map (λ commands. commands.items) script.transaction;
}

abbrev pub session_in : Script → Session
session_in script = session_of (draft_in script)

-- What stands after a line is what the line makes, and it is bad where it makes nothing; memory may be
-- refused in any case.
abbrev pub Makes : {A T : Type 0} → Option A → A → Result T LineError → Type 0
Makes said after (Ok t) = said ≡ Some after
Makes said after (Err Bad) = said ≡ None
Makes said after (Err Memory) = ⊤

-- The draft after all lines, or the number of the first bad one; memory may be refused in any case.
abbrev pub MakesAll : {T : Type 0} → Result Draft ℕ → Draft → Result T ScriptError → Type 0
MakesAll said after (Ok t) = said ≡ Ok after
MakesAll said after (Err (errors.BadLine number)) = said ≡ Err number
MakesAll said after (Err errors.Memory) = ⊤

-- The session of a text, or the number of its first bad line; memory may be refused in any case.
abbrev pub ReadsSession : Result Session ℕ → Result Script ScriptError → Type 0
ReadsSession said (Ok script) = said ≡ Ok (session_in script)
ReadsSession said (Err (errors.BadLine number)) = said ≡ Err number
ReadsSession said (Err errors.Memory) = ⊤
