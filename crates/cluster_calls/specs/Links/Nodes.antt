-- What became of each node over some link calls: what went out to it, what was taken from it, and whether its
-- link failed.
use Rattle.std.specs.Prelude.{◌≡◌, ◌≢◌, ℕ, Bool, true, false, List, [], ◌∷◌, ◌++◌, map, filter, Option, Some}
use Rattle.std.specs.Io.KnownBytes.{Appends, Consumes, prepend_known}
use Rattle.resp_core.specs.Trees.{Tree}
use Rattle.resp_core.specs.Errors.{Refusal}
use Rattle.resp_core.specs.Incoming.{SpelledInOrder}
use Rattle.resp_link.specs.Replies.{is_push}
use Rattle.resp_link.specs.Call.{Seen, SamePromises}
use Rattle.cluster_routing.specs.Address.{Address}
use Rattle.cluster_routing.specs.Lists.{concat}
use Rattle.cluster_calls.specs.Links.Request.{Request, bytes_of}
use Rattle.cluster_calls.specs.Links.Log.{Exchange, has_lost}
use Rattle.cluster_calls.specs.Links.World.{Node, link_at}
use Rattle.cluster_calls.specs.Calls.OneSlot.{args_of}
use Rattle.cluster_calls.specs.Calls.Task.{Task, pipeline_of, positions_of, transaction_of}
use Rattle.cluster_calls.specs.Calls.Transactions.{in_sizes, size}
use Rattle.cluster_calls.specs.Links.Faults.{LinkFault, refusal_by_fault}
use Rattle.cluster_calls.specs.Links.Events.{reply_count, FailsFrom, in_sending, in_receiving}

-- ---- requests by link calls

-- a task's requests to one node by link calls: a pipeline's all in one, a transaction's attempt by attempt,
-- others each in its own
abbrev pub in_one : List Request → List (List Request)
in_one [] = []
in_one (q ∷ qs) = (q ∷ qs) ∷ []

abbrev pub link_calls : Task → List Request → List (List Request)
link_calls (pipeline_of entries) qs = in_one qs
link_calls (positions_of entries) qs = in_one qs
link_calls (transaction_of commands) qs = in_sizes (size (args_of commands)) qs
link_calls _ qs = map (λ q. q ∷ []) qs

-- ---- bytes

-- exactly the bytes of the link calls; where a write or flush failed, of the last one a part from its front
abbrev pub IsSentFor : Bool → List (List Request) → List ℕ → Type 0
IsSentFor false calls sent = sent ≡ bytes_of (concat calls)
IsSentFor true calls sent =
    (before : List (List Request)) × (last : List Request) × (part : List ℕ) × (rest : List ℕ)
    × (calls ≡ before ++ last ∷ []) × (part ++ rest ≡ bytes_of last)
    × (sent ≡ bytes_of (concat before) ++ part)

-- the bytes to come over a link: those read and not taken, and those that its reader has left
abbrev pub coming : Seen → Option (List ℕ)
coming link = prepend_known link.held link.unread

-- These values came in over a link, no deeper than its limit, and the pushes among them were set aside.
-- Behind them some bytes are unread: on a link that is still open those that it holds. Its limit and what its
-- devices promise stay.
pub record Came (old new : Seen) (taken : List Tree) : Type 0 where
  pub bytes : List ℕ
  pub unread : List ℕ
  pub spells : SpelledInOrder old.limit bytes taken
  pub consumed : Consumes (coming old) (prepend_known unread new.unread) bytes
  pub kept : new.usable ≡ true → unread ≡ new.held
  pub set_aside : new.pushes ≡ old.pushes ++ filter is_push taken
  pub promises : SamePromises old new
  pub same_limit : new.limit ≡ old.limit

-- ---- one node

abbrev pub is_in_sending : {old new : Seen} {bytes : List ℕ} {count : ℕ} {taken : List Tree}
    {refusal : Refusal} → FailsFrom old new bytes count taken refusal → Bool
is_in_sending (in_sending fails is_io nothing) = true
is_in_sending (in_receiving contract values) = false

-- the last link call failed by this fault, and those before it were answered
pub record LostBy (old new : Seen) (calls : List (List Request)) (taken : List Tree) (fault : LinkFault)
    (write_failed : Bool) : Type 0 where
  pub mid : Seen
  pub before : List (List Request)
  pub last : List Request
  pub earlier : List Tree
  pub later : List Tree
  pub in_order : calls ≡ before ++ last ∷ []
  pub values : taken ≡ earlier ++ later
  pub sent : Appends old.sent mid.sent (bytes_of (concat before))
  pub came : Came old mid earlier
  pub fails : FailsFrom mid new (bytes_of last) (reply_count last) later (refusal_by_fault fault)
  pub by_write : write_failed ≡ is_in_sending fails

-- The requests of the link calls went out to the node, and these values were taken from it. Where one was
-- unanswered its link failed, and a node without requests is as it was.
pub record NodeMade (old new : Seen) (calls : List (List Request)) (taken : List Tree) (is_lost : Bool)
    (fault : LinkFault) : Type 0 where
  pub write_failed : Bool
  pub bytes : List ℕ
  pub sent : Appends old.sent new.sent bytes
  pub are : IsSentFor write_failed calls bytes
  pub came : Came old new taken
  pub kept : is_lost ≡ false → (write_failed ≡ false) × (new.usable ≡ old.usable)
  pub failed : is_lost ≡ true → (new.usable ≡ false) × LostBy old new calls taken fault write_failed
  pub was_open : calls ≢ [] → old.usable ≡ true
  pub untouched : calls ≡ [] → new ≡ old

-- what became of all nodes, each with its link calls
pub record NodesMade (old new : List Node) (calls : Address → List (List Request)) (xs : List Exchange)
    (taken : Address → List Tree) (faults : Address → LinkFault) : Type 0 where
  pub addresses : map (λ (n : Node). n.address) new ≡ map (λ (n : Node). n.address) old
  pub each : (a : Address) (before after : Seen) → link_at old a ≡ Some before → link_at new a ≡ Some after
      → NodeMade before after (calls a) (taken a) (has_lost a xs) (faults a)
