-- A link call of the whole runs, over one node's link, while all others stay.
use Rattle.std.proofs.Common.{◌≡◌, ℕ, ◌+◌, List, [], ◌∷◌, ◌++◌, length, Some, arith}
use Rattle.resp_core.specs.Trees.{Tree}
use Rattle.cluster_routing.specs.Address.{Address}
use Rattle.cluster_calls.specs.Links.Events.{AllTo, LinkCalled, fails, reply_count}
use Rattle.cluster_calls.specs.Links.Faults.{io}
use Rattle.cluster_calls.specs.Links.Request.{Request, bytes_of}
use Rattle.cluster_calls.specs.Links.World.{Node, link_at, set_link}
use Rattle.cluster_calls.specs.WholeCalls.MixedPlay.{link, ended_link, replies_to}
use Rattle.cluster_calls.proofs.WholePlay.LinksEnd.{IsOneRead, answers_by_one_read, fails_by_no_bytes}

-- one read gives all replies to these requests
pub replied : (old new : List Node) (node : Address) (sent unread got : List ℕ) (reads : ℕ) (q : Request) (qs : List Request) (t : Tree) (ts : List Tree) → link_at old node ≡ Some (link sent (got ++ unread) reads)
    → new ≡ set_link old node (link (sent ++ bytes_of (q ∷ qs)) unread (reads + 1)) → AllTo node (q ∷ qs) → reply_count (q ∷ qs) ≡ length (t ∷ ts) → IsOneRead got (t ∷ ts) → LinkCalled old new (replies_to node (q ∷ qs) (t ∷ ts))
replied old new node sent unread got reads q qs t ts found now to counted read = record {
  before = link sent (got ++ unread) reads;
  after = link (sent ++ bytes_of (q ∷ qs)) unread (reads + 1);
  found = found;
  now = now;
  some = λ none. cc;
  to_node = to;
  ends = answers_by_one_read sent (bytes_of (q ∷ qs)) unread got reads (reply_count (q ∷ qs)) t ts counted read;
}

-- the link ends before a reply
pub lost : (old new : List Node) (node : Address) (sent : List ℕ) (reads : ℕ) (q : Request) (qs : List Request) → link_at old node ≡ Some (link sent [] reads) → new ≡ set_link old node (ended_link (sent ++ bytes_of (q ∷ qs)) (reads + 1)) → AllTo node (q ∷ qs)
    → LinkCalled old new (record { node = node; requests = q ∷ qs; taken = []; ending = fails io })
lost old new node sent reads q qs found now to = record {
  before = link sent [] reads;
  after = ended_link (sent ++ bytes_of (q ∷ qs)) (reads + 1);
  found = found;
  now = now;
  some = λ none. cc;
  to_node = to;
  ends = fails_by_no_bytes sent (bytes_of (q ∷ qs)) reads (reply_count (q ∷ qs)) (omega arith);
}
