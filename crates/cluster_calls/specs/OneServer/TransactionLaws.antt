-- What no legal log of a transaction has: an attempt behind one by which it was done, or may have been, and
-- more attempts than the budget allows.
use Rattle.std.specs.Prelude.{◌≡◌, ◌<◌, ◌≤◌, ℕ, suc, ◌*◌, List, length, take, drop}
use Rattle.resp_args.specs.Command.{Command}
use Rattle.cluster_routing.specs.Address.{Address}
use Rattle.cluster_calls.specs.Links.Log.{Exchange}
use Rattle.cluster_calls.specs.Calls.Call.{Transaction}
use Rattle.cluster_calls.specs.Calls.Legal.{IsLegalCall}
use Rattle.cluster_calls.specs.Calls.OneSlot.{args_of}
use Rattle.cluster_calls.specs.Calls.Plan.{Client}
use Rattle.cluster_calls.specs.Calls.Transactions.{fate, not_done, replies_in, size}

-- how many requests each attempt has
abbrev pub width : List Command → ℕ
width commands = size (args_of commands)

-- the attempt with this number, from 0
abbrev pub attempt_at : List Command → ℕ → List Exchange → List Exchange
attempt_at commands number xs = take (width commands) (drop (number * width commands) xs)

-- An attempt has another behind it only if nothing was done by it. So a transaction is done at most once, and
-- by the last attempt alone.
abbrev pub OnlyNotDoneIsSentAgain : Type 0
OnlyNotDoneIsSentAgain = (client : Client) (picks : List Address) (commands : List Command)
    (xs : List Exchange) (number : ℕ)
    → IsLegalCall client picks (Transaction commands) xs → suc number * width commands < length xs
    → fate (replies_in (attempt_at commands number xs)) ≡ not_done

-- each attempt is whole, and there is at most one for each redirect within the budget, and the first
abbrev pub AttemptsAreBounded : Type 0
AttemptsAreBounded = (client : Client) (picks : List Address) (commands : List Command)
    (xs : List Exchange) → IsLegalCall client picks (Transaction commands) xs
    → (count : ℕ) × (length xs ≡ count * width commands) × (count ≤ suc client.settings.budget)
