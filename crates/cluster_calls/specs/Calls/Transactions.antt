-- Transactions: commands of one slot, done as one by the slot's primary. MULTI, the commands and EXEC go out
-- in one write.
-- Sources: the Redis documentation, "Transactions"; the Redis Cluster specification, "MOVED redirection" and
-- "ASK redirection"; what Redis 7.0.15 was seen to answer (docs/DECISIONS.md, "Transactions").
use Rattle.std.specs.Prelude.{◌≡◌, ℕ, zero, suc, ◌+◌, ◌-◌, ◌/◌, Bool, true, false, ◌&&◌, ◌||◌, is_none, is_some, if◌then◌else◌, List, [], ◌∷◌, ◌++◌, map, length, take, drop, Option, Some, None, Result, Ok, Err}
use Rattle.resp_core.specs.Trees.{Tree, ErrorText, array, nil, okay, server_error, no_trees}
use Rattle.resp_core.specs.Errors.{Refusal, by_cause, by_server}
use Rattle.resp_core.specs.Parts.{or_else}
use Rattle.resp_core.specs.declared.errors.redis_error.Cause.TheVariants.{NoLink}
use Rattle.resp_args.specs.Command.{Command}
use Rattle.cluster_routing.specs.Address.{Address}
use Rattle.cluster_routing.specs.Policies.{bad_reply, or_bad_reply}
use Rattle.cluster_calls.specs.Links.Faults.{LinkFault, refusal_by_fault}
use Rattle.cluster_calls.specs.Links.Log.{Exchange, requests, is_unanswered, last_of}
use Rattle.cluster_calls.specs.Links.Reply.{Sort, Moved, Ask, sort_of}
use Rattle.cluster_calls.specs.Links.Request.{Request, multi, exec}
use Rattle.cluster_calls.specs.Calls.OneSlot.{args_of}
use Rattle.cluster_calls.specs.Calls.Parts.{unless}
use Rattle.cluster_calls.specs.Calls.Plan.{Client, Dispatch}
use Rattle.cluster_calls.specs.Calls.Redirects.{Hop, Next, Stays, Lost, MatchNext, next_of, request_of}

-- ---- one attempt

abbrev pub without_asking : Address → List (List ℕ) → Request
without_asking node args = record { node = node; args = args; asking = false }

-- MULTI, the commands and EXEC; where ASKING is wanted it goes before MULTI, and holds for all of them
abbrev pub attempt : Hop → List (List (List ℕ)) → List Request
attempt hop commands = request_of hop multi ∷ map (without_asking hop.node) (commands ++ exec ∷ [])

-- what a transaction's plan sends to a node, in order
abbrev pub dispatches_to : Address → List (List (List ℕ)) → List Dispatch
dispatches_to node commands = map (λ args. record { node = node; args = args })
    (multi ∷ commands ++ exec ∷ [])

abbrev pub size : List (List (List ℕ)) → ℕ
size commands = length commands + 2

-- a list parted into lists of this size, as a log into attempts
abbrev pub so_many : {X : Type 0} → ℕ → ℕ → List X → List (List X)
so_many zero size xs = []
so_many (suc n) size xs = take size xs ∷ so_many n size (drop size xs)

abbrev pub in_sizes : {X : Type 0} → ℕ → List X → List (List X)
in_sizes size xs = so_many (length xs / size) size xs

-- ---- what became of an attempt, by its replies in order

abbrev pub multi_reply : List (Option Tree) → Option Tree
multi_reply [] = None
multi_reply (r ∷ rs) = r

abbrev pub reply_there : Option (Option Tree) → Option Tree
reply_there None = None
reply_there (Some reply) = reply

abbrev pub exec_reply : List (Option Tree) → Option Tree
exec_reply replies = reply_there (last_of replies)

abbrev pub is_okay : Option Tree → Bool
is_okay (Some okay) = true
is_okay _ = false

abbrev pub is_array : Option Tree → Bool
is_array (Some (array items)) = true
is_array _ = false

abbrev pub is_nil : Option Tree → Bool
is_nil (Some nil) = true
is_nil _ = false

abbrev pub own_error : Option Tree → Option ErrorText
own_error (Some (server_error e)) = Some e
own_error _ = None

pub data Fate : Type 0 where
  done : Fate
  not_done : Fate
  may_be_done : Fate

-- nil, or itself an error
abbrev pub is_refused : Option Tree → Bool
is_refused reply = is_nil reply || is_some (own_error reply)

-- Where EXEC is refused nothing was done, if MULTI began the transaction: else each command was done, or not,
-- by itself. An array has the replies of commands that were done.
abbrev pub fate_by : Bool → Option Tree → Fate
fate_by begun reply = if begun && is_refused reply then not_done
    else if is_array reply then done else may_be_done

abbrev pub fate : List (Option Tree) → Fate
fate replies = fate_by (is_okay (multi_reply replies)) (exec_reply replies)

-- ---- redirects

abbrev pub is_redirect_sort : Sort → Bool
is_redirect_sort (Moved e) = true
is_redirect_sort (Ask e) = true
is_redirect_sort _ = false

-- a reply that is itself MOVED or ASK
abbrev pub is_redirect : Option Tree → Bool
is_redirect None = false
is_redirect (Some tree) = is_redirect_sort (sort_of tree)

abbrev pub first_redirect : List (Option Tree) → Option Tree
first_redirect [] = None
first_redirect (r ∷ rs) = if is_redirect r then r else first_redirect rs

-- EXEC's own reply where it is one, else the first of the others
abbrev pub redirect_in : List (Option Tree) → Option Tree
redirect_in replies = first_redirect (exec_reply replies ∷ replies)

abbrev pub if_not_done : Fate → Next → Next
if_not_done not_done next = next
if_not_done _ next = Stays

-- a transaction is sent again only where it was not done, by a redirect that is within the budget and
-- readable
abbrev pub next_attempt : List Address → ℕ → List (Option Tree) → Next
next_attempt links budget replies = if_not_done (fate replies) (next_of links budget (redirect_in replies))

abbrev pub replies_in : List Exchange → List (Option Tree)
replies_in xs = map (λ (x : Exchange). x.reply) xs

-- The transaction goes to its node, and on from there, whole, exactly where its replies send it on: once for
-- each redirect within the budget.
abbrev pub FollowsAttempts : List Address → ℕ → Hop → List (List (List ℕ)) → List Exchange → Type 0
FollowsAttempts links zero hop commands xs = requests xs ≡ attempt hop commands
FollowsAttempts links (suc redirects) hop commands xs =
    (requests (take (size commands) xs) ≡ attempt hop commands)
    × MatchNext (next_attempt links (suc redirects) (replies_in (take (size commands) xs)))
    (drop (size commands) xs ≡ [])
    (λ next. FollowsAttempts links redirects next commands (drop (size commands) xs))

abbrev pub first_to : Address → Hop
first_to node = record { node = node; asking = false }

-- ---- what is answered

-- the first of the replies that are themselves errors: it says why
abbrev pub first_own_error : List (Option Tree) → Option ErrorText
first_own_error [] = None
first_own_error (r ∷ rs) = or_else (own_error r) (first_own_error rs)

abbrev pub error_or_bad : Option ErrorText → Refusal
error_or_bad None = bad_reply
error_or_bad (Some e) = by_server e

-- EXEC's array answers, whatever it holds; nil does where nothing was wrong before it
abbrev pub answers : Bool → Option ErrorText → Option Tree → Bool
answers begun error reply = is_array reply || (begun && (is_nil reply && is_none error))

-- whether the reply to EXEC is the answer: an array is, and nil where nothing was wrong before it
abbrev pub exec_answers : List (Option Tree) → Bool
exec_answers replies = answers (is_okay (multi_reply replies)) (first_own_error replies) (exec_reply replies)

abbrev pub attempt_answer : List (Option Tree) → Result Tree Refusal
attempt_answer replies = if exec_answers replies then or_bad_reply (exec_reply replies)
    else Err (error_or_bad (first_own_error replies))

abbrev pub unless_lost : Next → Result Tree Refusal → Result Tree Refusal
unless_lost Lost answer = Err (by_cause NoLink)
unless_lost _ answer = answer

-- by the fault of the link on which a reply is missing
abbrev pub lost_refusal : (Address → LinkFault) → List Exchange → Option Refusal
lost_refusal faults [] = None
lost_refusal faults (x ∷ xs) = if is_unanswered x then Some (refusal_by_fault (faults x.request.node))
    else lost_refusal faults xs

-- by the last attempt, with so many redirects left
abbrev pub last_answer : List Address → (Address → LinkFault) → ℕ → List Exchange → Result Tree Refusal
last_answer links faults redirects xs = unless (lost_refusal faults xs)
    (unless_lost (next_attempt links redirects (replies_in xs)) (attempt_answer (replies_in xs)))

abbrev pub attempt_count : List (List (List ℕ)) → List Exchange → ℕ
attempt_count commands xs = length xs / size commands

abbrev pub last_attempt : List (List (List ℕ)) → List Exchange → List Exchange
last_attempt commands xs = drop (length xs - size commands) xs

abbrev pub sent_answer : Client → (Address → LinkFault) → List (List (List ℕ)) → List Exchange
    → Result Tree Refusal
sent_answer client faults commands xs = last_answer client.links faults
    (suc client.settings.budget - attempt_count commands xs) (last_attempt commands xs)

-- of no commands there is no attempt, and an empty array
abbrev pub commands_answer : Client → (Address → LinkFault) → List Command → List Exchange
    → Result Tree Refusal
commands_answer client faults [] xs = Ok (array no_trees)
commands_answer client faults (c ∷ cs) xs = sent_answer client faults (args_of (c ∷ cs)) xs

-- ---- what may have done something

-- Of an attempt's exchanges those that may have done something: behind MULTI the commands are queued, and EXEC
-- does them all; where MULTI began nothing each command is done by itself, and EXEC nothing, unless it was
-- answered by an array.
abbrev pub is_as_one : List (Option Tree) → Bool
is_as_one replies = is_okay (multi_reply replies) || is_array (exec_reply replies)

abbrev pub attempt_log : List Exchange → List Exchange
attempt_log xs = if is_as_one (replies_in xs) then drop (length xs - 1) xs else drop 1 xs
