-- The log of requests with the replies that they got: each request takes the next ones from its node.
-- Source: the Redis protocol specification (a server answers the requests of a connection in their order).
use Rattle.std.specs.Prelude.{ℕ, suc, ◌+◌, ◌&&◌, Bool, true, false, if◌then◌else◌, is_none, List, [], ◌∷◌, map, drop, slice_get, Option, Some, None}
use Rattle.std.specs.List.{list_any}
use Rattle.resp_core.specs.Trees.{Tree}
use Rattle.resp_link.specs.Replies.{replies_of}
use Rattle.cluster_routing.specs.Address.{Address, same_address}
use Rattle.cluster_calls.specs.Links.Request.{Request, skipped}
use Rattle.cluster_calls.specs.Links.Reply.{Sort, Moved, Data, sort_of}

-- a request with its place in the log of the run and the reply that it got
pub record Exchange : Type 0 where
  pub request : Request
  pub place : ℕ
  pub reply : Option Tree

abbrev pub requests : List Exchange → List Request
requests xs = map (λ (x : Exchange). x.request) xs

-- what was taken from each node, without the pushes among it
abbrev pub replies : (Address → List Tree) → Address → List Tree
replies taken node = replies_of (taken node)

-- a request behind ASKING gets two replies, of which the second counts
abbrev pub reply_at : List Tree → Request → Option Tree
reply_at trees request = slice_get trees (skipped request.asking)

abbrev pub left_after : (Address → List Tree) → Request → Address → List Tree
left_after queues request node =
    if same_address request.node node then drop (skipped request.asking + 1) (queues node) else queues node

-- each request with its reply: the next one from its node
abbrev pub exchanges : (Address → List Tree) → ℕ → List Request → List Exchange
exchanges queues place [] = []
exchanges queues place (q ∷ qs) =
    record { request = q; place = place; reply = reply_at (queues q.node) q }
    ∷ exchanges (left_after queues q) (suc place) qs

abbrev pub left_after_all : (Address → List Tree) → List Request → Address → List Tree
left_after_all queues [] = queues
left_after_all queues (q ∷ qs) = left_after_all (left_after queues q) qs

-- ---- what became of a request

abbrev pub is_unanswered : Exchange → Bool
is_unanswered x = is_none x.reply

abbrev pub is_data : Sort → Bool
is_data Data = true
is_data _ = false

abbrev pub is_data_reply : Option Tree → Bool
is_data_reply None = false
is_data_reply (Some tree) = is_data (sort_of tree)

-- its reply holds no error
abbrev pub is_answered : Exchange → Bool
is_answered x = is_data_reply x.reply

-- whether a reply of this sort is itself MOVED
abbrev pub is_moved_sort : Sort → Bool
is_moved_sort (Moved e) = true
is_moved_sort _ = false

abbrev pub is_moved_reply : Option Tree → Bool
is_moved_reply None = false
is_moved_reply (Some tree) = is_moved_sort (sort_of tree)

-- its reply is itself MOVED
abbrev pub is_moved : Exchange → Bool
is_moved x = is_moved_reply x.reply

-- whether a request to this node is unanswered
abbrev pub has_lost : Address → List Exchange → Bool
has_lost node xs = list_any (λ (x : Exchange). same_address x.request.node node && is_unanswered x) xs

-- ---- words on exchanges

-- the last of a list
abbrev pub last_of : {X : Type 0} → List X → Option X
last_of [] = None
last_of (x ∷ []) = Some x
last_of (x ∷ y ∷ xs) = last_of (y ∷ xs)

-- the exchanges behind the last answered one
abbrev pub behind_answers : List Exchange → List Exchange
behind_answers [] = []
behind_answers (x ∷ xs) = if list_any is_answered (x ∷ xs) then behind_answers xs else x ∷ xs
