-- Which logs a call makes, from its plan and the replies.
-- Source: the Redis Cluster specification; documentation of the crate `redis`, `ClusterPipeline`.
use Rattle.std.specs.Prelude.{◌≡◌, ℕ, false, List, [], ◌∷◌, map, filter, length, take, drop, MatchBool, MatchResult}
use Rattle.std.specs.List.{list_any}
use Rattle.cluster_routing.specs.Address.{Address, same_address}
use Rattle.cluster_routing.specs.Lists.{concat, firsts}
use Rattle.cluster_calls.specs.Links.Request.{Request}
use Rattle.cluster_calls.specs.Links.Log.{Exchange, requests, is_answered, is_unanswered}
use Rattle.cluster_calls.specs.Calls.Call.{Call}
use Rattle.cluster_calls.specs.Calls.Task.{Task, slot_map_of, one_command, pipeline_of, positions_of, several_nodes, one_node, read_of, transaction_of, task_of}
use Rattle.cluster_calls.specs.Calls.Plan.{Client, Dispatch, plan}
use Rattle.cluster_calls.specs.Calls.OneSlot.{args_of}
use Rattle.cluster_calls.specs.Calls.Redirects.{Hop, FollowsRedirects}
use Rattle.cluster_calls.specs.Calls.Transactions.{FollowsAttempts}

abbrev pub first_hop : Dispatch → Hop
first_hop d = record { node = d.node; asking = false }

abbrev pub direct : Dispatch → Request
direct d = record { node = d.node; args = d.args; asking = false }

-- part by part, each with its redirects; the next part begins exactly if this one was answered
abbrev pub PartByPart : Client → List Dispatch → List Exchange → Type 0
PartByPart client [] xs = xs ≡ []
PartByPart client (d ∷ ds) xs =
    FollowsRedirects client.links client.settings.budget (first_hop d) d.args
    (λ x behind. MatchBool (is_answered x) (PartByPart client ds behind) (behind ≡ [])) xs

-- the nodes in order of first use, and what goes to each
abbrev pub nodes_in_use : List Dispatch → List Address
nodes_in_use ds = firsts same_address (map (λ (d : Dispatch). d.node) ds)

abbrev pub node_groups : List Dispatch → List (List Dispatch)
node_groups ds = map (λ node. filter (λ (d : Dispatch). same_address d.node node) ds) (nodes_in_use ds)

-- each node's commands in one go; nothing after a node whose link failed
abbrev pub NodeByNode : List (List Dispatch) → List Exchange → Type 0
NodeByNode [] xs = xs ≡ []
NodeByNode (group ∷ groups) xs =
    (requests (take (length group) xs) ≡ map direct group)
    × MatchBool (list_any is_unanswered (take (length group) xs)) (drop (length group) xs ≡ [])
    (NodeByNode groups (drop (length group) xs))

-- the attempts at a transaction, from the node of its dispatches on; without dispatches there is none
abbrev pub AttemptAfterAttempt : Client → List (List (List ℕ)) → List Dispatch → List Exchange → Type 0
AttemptAfterAttempt client commands [] xs = xs ≡ []
AttemptAfterAttempt client commands (d ∷ ds) xs =
    FollowsAttempts client.links client.settings.budget (first_hop d) commands xs

-- The exchanges are those that a task makes, from its dispatches on. A refresh, a command to several nodes and
-- one to a node that is named follow no redirect. Where each position is told by itself, each node gets its
-- commands in one go, whatever becomes of the others.
abbrev pub AreMade : Client → Task → List Dispatch → List Exchange → Type 0
AreMade client (slot_map_of node) ds xs = requests xs ≡ map direct ds
AreMade client (one_command command number order) ds xs = PartByPart client ds xs
AreMade client (pipeline_of entries) ds xs = NodeByNode (node_groups ds) xs
AreMade client (positions_of entries) ds xs = requests xs ≡ map direct (concat (node_groups ds))
AreMade client (several_nodes command) ds xs = requests xs ≡ map direct ds
AreMade client (one_node node command) ds xs = requests xs ≡ map direct ds
AreMade client (read_of options streams) ds xs = PartByPart client ds xs
AreMade client (transaction_of commands) ds xs = AttemptAfterAttempt client (args_of commands) ds xs

-- a call that is refused before sending makes no request
abbrev pub IsLegalCall : Client → List Address → Call → List Exchange → Type 0
IsLegalCall client picks call xs = MatchResult (plan client picks call)
    (λ ds. AreMade client (task_of call) ds xs) (λ refusal. xs ≡ [])
