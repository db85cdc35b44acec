-- The mixed run, played: the links of its two nodes from the first byte to the last, its link calls, and the
-- client before and behind.
use Rattle.std.specs.Prelude.{◌≡◌, ℕ, Bool, true, false, List, [], ◌∷◌, map, None, Some, codes, refl}
use Rattle.std.specs.Fmt.{digits}
use Rattle.std.proofs.Common.{sym}
use Rattle.std.proofs.lemmas.Bool.{false≢true}
use Rattle.resp_core.specs.Errors.{Refusal}
use Rattle.resp_core.specs.Promise.{nothing}
use Rattle.resp_core.specs.Trees.{Tree, okay, server_error}
use Rattle.resp_link.specs.Call.{Seen}
use Rattle.resp_link.specs.Counts.{no_writes}
use Rattle.cluster_routing.specs.Address.{Address}
use Rattle.cluster_routing.specs.Examples.{first_node as n1, second_node as n2, halves}
use Rattle.cluster_calls.specs.Links.Events.{Event, answers, fails, AnswersFrom, FailsFrom, in_sending, in_receiving}
use Rattle.cluster_calls.specs.Links.Faults.{io}
use Rattle.cluster_calls.specs.Links.Play.{Plays, shown_of}
use Rattle.cluster_calls.specs.Links.Request.{Request, bytes_of}
use Rattle.cluster_calls.specs.Links.World.{World}
use Rattle.cluster_calls.specs.OneServer.Headline.{PlayedCall, AsOneServer}
use Rattle.cluster_calls.specs.OneServer.Played.{replied, HonestCluster}
use Rattle.cluster_calls.specs.WholeCalls.Base.{plain, text, one, moved_to_n1}
use Rattle.cluster_calls.specs.WholeCalls.KeyRuns.{set_a, get_a, get_b, none_done, a_and_b}
use Rattle.cluster_calls.specs.WholeCalls.MixedRun.{del, may, try_again, four_calls, behind}

-- ---- what the nodes get, and what they reply

abbrev pub to_n1 : List Request
to_n1 = plain n1 get_a ∷ plain n1 (del (codes "b" ∷ [])) ∷ plain n1 get_b ∷ plain n1 get_b ∷ []

abbrev pub to_n2 : List Request
to_n2 = plain n2 get_a ∷ plain n2 (del (codes "a" ∷ [])) ∷ plain n2 set_a ∷ plain n2 get_a ∷ []

pub n1_gets : bytes_of to_n1
    ≡ codes "*2\r\n$3\r\nGET\r\n$1\r\na\r\n*2\r\n$3\r\nDEL\r\n$1\r\nb\r\n*2\r\n$3\r\nGET\r\n$1\r\nb\r\n*2\r\n$3\r\nGET\r\n$1\r\nb\r\n"
unfolding digits
n1_gets = refl

pub n2_gets : bytes_of to_n2
    ≡ codes "*2\r\n$3\r\nGET\r\n$1\r\na\r\n*2\r\n$3\r\nDEL\r\n$1\r\na\r\n*3\r\n$3\r\nSET\r\n$1\r\na\r\n$1\r\n1\r\n*2\r\n$3\r\nGET\r\n$1\r\na\r\n"
unfolding digits
n2_gets = refl

-- ---- links

-- what went out over a link, what is still to come, how many reads were made, and how many gave nothing
abbrev pub link_seen : List ℕ → List ℕ → ℕ → ℕ → Bool → Seen
link_seen sent unread reads empty open' = record {
  sent = Some sent;
  unread = Some unread;
  held = [];
  pushes = [];
  counts = record { promise = nothing; refused = 0; empty = empty; reads = reads };
  write_counts = no_writes nothing;
  flushed = true;
  usable = open';
  owes = false;
  limit = 100;
}

-- an open link
abbrev pub link : List ℕ → List ℕ → ℕ → Seen
link sent unread reads = link_seen sent unread reads 0 true

-- the link closed by a read that gave nothing
abbrev pub ended_link : List ℕ → ℕ → Seen
ended_link sent reads = link_seen sent [] reads 1 false

abbrev pub n1_0 : Seen
n1_0 = link [] (codes "$1\r\n1\r\n-TRYAGAIN x\r\n$1\r\n2\r\n") 0

abbrev pub n1_1 : Seen
n1_1 = link (bytes_of (plain n1 get_a ∷ [])) (codes "-TRYAGAIN x\r\n$1\r\n2\r\n") 1

abbrev pub n1_2 : Seen
n1_2 = link (bytes_of (plain n1 get_a ∷ plain n1 (del (codes "b" ∷ [])) ∷ [])) (codes "$1\r\n2\r\n") 2

abbrev pub n1_3 : Seen
n1_3 = link (bytes_of (plain n1 get_a ∷ plain n1 (del (codes "b" ∷ [])) ∷ plain n1 get_b ∷ [])) [] 3

abbrev pub n1_4 : Seen
n1_4 = ended_link (bytes_of to_n1) 4

abbrev pub n2_0 : Seen
n2_0 = link [] (codes "-MOVED 15495 n1:7001\r\n:1\r\n+OK\r\n$1\r\n1\r\n") 0

abbrev pub n2_1 : Seen
n2_1 = link (bytes_of (plain n2 get_a ∷ [])) (codes ":1\r\n+OK\r\n$1\r\n1\r\n") 1

abbrev pub n2_2 : Seen
n2_2 = link (bytes_of (plain n2 get_a ∷ plain n2 (del (codes "a" ∷ [])) ∷ [])) (codes "+OK\r\n$1\r\n1\r\n") 2

abbrev pub n2_3 : Seen
n2_3 = link (bytes_of to_n2) [] 3

-- ---- clients: over slots by halves, with links to both nodes

abbrev pub world : Seen → Seen → Bool → World
world first second needs_refresh = record {
  nodes = record { address = n1; link = first } ∷ record { address = n2; link = second } ∷ [];
  entries = halves;
  settings = record { budget = 1; read_only = [] };
  needs_refresh = needs_refresh;
  log = [];
  picked = [];
}

abbrev pub at_first : World
at_first = world n1_0 n2_0 false

abbrev pub redirected : World
redirected = world n1_1 n2_1 true

abbrev pub split : World
split = world n1_2 n2_2 true

abbrev pub piped : World
piped = world n1_3 n2_3 true

abbrev pub at_last : World
at_last = world n1_4 n2_3 true

-- ---- link calls

abbrev pub replies_to : Address → List Request → List Tree → Event
replies_to node requests trees = record
    { node = node; requests = requests; taken = trees; ending = answers trees }

-- GET a to n2, which names n1
abbrev pub by_moved : List Event
by_moved = replies_to n2 (plain n2 get_a ∷ []) (server_error moved_to_n1 ∷ [])
    ∷ replies_to n1 (plain n1 get_a ∷ []) (text (codes "1") ∷ []) ∷ []

-- DEL a b, of which n1 refuses its part
abbrev pub by_parts : List Event
by_parts = replies_to n2 (plain n2 (del (codes "a" ∷ [])) ∷ []) (one ∷ [])
    ∷ replies_to n1 (plain n1 (del (codes "b" ∷ [])) ∷ []) (try_again ∷ []) ∷ []

-- the pipeline, in one go to each node
abbrev pub by_nodes : List Event
by_nodes =
    replies_to n2 (plain n2 set_a ∷ plain n2 get_a ∷ []) (okay ∷ text (codes "1") ∷ [])
    ∷ replies_to n1 (plain n1 get_b ∷ []) (text (codes "2") ∷ []) ∷ []

-- GET b, over which n1's link ends
abbrev pub by_none : List Event
by_none = record { node = n1; requests = plain n1 get_b ∷ []; taken = []; ending = fails io } ∷ []

-- ---- the statement

-- The mixed run is all that was played, from `at_first` to `at_last`; the cluster is honest over it; and it
-- is as on one server.
abbrev pub FourArePlayedWhole : Type 0
FourArePlayedWhole =
    (played : Plays None at_first at_last (map (λ (t : PlayedCall). t.call) four_calls) []
    (map shown_of four_calls) true)
    × (played.run ≡ four_calls) × HonestCluster played may a_and_b none_done behind
    × AsOneServer may a_and_b none_done (replied played) behind

-- ---- what the links may not do: answer behind their end, and stay open behind a lost reply

pub an_ended_link_answers_nothing : (new : Seen) (bytes : List ℕ) (count : ℕ) (taken replies : List Tree)
    → AnswersFrom n1_4 new bytes count taken replies → ⊥
an_ended_link_answers_nothing new bytes count taken replies h = false≢true h.contract.was_open

pub a_lost_reply_closes_the_link : (sent unread bytes : List ℕ) (reads count : ℕ) (taken : List Tree)
    (refusal : Refusal)
    → FailsFrom n1_3 (link sent unread reads) bytes count taken refusal → ⊥
a_lost_reply_closes_the_link sent unread bytes reads count taken refusal
    (in_sending contract is_io none_taken) = false≢true (sym contract.closed)
a_lost_reply_closes_the_link sent unread bytes reads count taken refusal (in_receiving contract values) =
    false≢true (sym contract.closed)
