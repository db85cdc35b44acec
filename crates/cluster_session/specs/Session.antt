-- A session as plain data: what is set up for each node, and the calls.
-- Source: the session language is this repository's own (docs/SESSIONS.md).
use Rattle.std.specs.Prelude.{ℕ, true, false, List, [], map, Some}
use Rattle.resp_core.specs.Counts.{no_reads}
use Rattle.resp_core.specs.Promise.{refuses_at}
use Rattle.resp_link.specs.Call.{Seen}
use Rattle.resp_link.specs.Counts.{no_writes}
use Rattle.cluster_routing.specs.Address.{Address}
use Rattle.cluster_calls.specs.Calls.Call.{Call}
use Rattle.cluster_calls.specs.Links.World.{World, Node, new_world}

-- What is set up for a node: the most bytes that one read gives, the bytes that come from it, and the numbers
-- of the read and of the write that fail, counted from 1; 0 where none does.
pub record Setup : Type 0 where
  pub piece : ℕ
  pub bytes : List ℕ
  pub failing_read : ℕ
  pub failing_write : ℕ

-- The nodes in the ascending order of their addresses, the names of commands that only read, how many
-- redirects a request follows, how deep the values nest that the nodes answer, and the calls in order.
pub record Session : Type 0 where
  pub nodes : List (Address × Setup)
  pub read_only : List (List ℕ)
  pub budget : ℕ
  pub levels : ℕ
  pub calls : List Call

-- ---- the client before the first call

-- An open link with this limit: nothing was sent, and all the bytes are still to come. It refuses the read
-- and the write that are to fail, and no other.
abbrev pub link_at_start : ℕ → Setup → Seen
link_at_start levels setup = record {
  sent = Some [];
  unread = Some setup.bytes;
  held = [];
  pushes = [];
  counts = no_reads (refuses_at setup.failing_read);
  write_counts = no_writes (refuses_at setup.failing_write);
  flushed = true;
  usable = true;
  owes = false;
  limit = levels;
}

abbrev pub node_at_start : ℕ → Address × Setup → Node
node_at_start levels node = record { address = node.0; link = link_at_start levels node.1 }

abbrev pub start : Session → World
start session = new_world (map (node_at_start session.levels) session.nodes)
    (record { budget = session.budget; read_only = session.read_only })
