-- What a call leaves behind: the slot map, whether a refresh is needed, and the open links.
use Rattle.std.specs.Prelude.{Bool, false, not, ◌&&◌, ◌||◌, if◌then◌else◌, ℕ, List, [], ◌∷◌, filter, Option, Some, None}
use Rattle.std.specs.List.{list_any}
use Rattle.resp_core.specs.Trees.{Tree}
use Rattle.cluster_routing.specs.Address.{Address}
use Rattle.cluster_routing.specs.SlotMap.{SlotEntries, put_all}
use Rattle.cluster_routing.specs.SlotsReply.{ranges}
use Rattle.cluster_calls.specs.Links.Log.{Exchange, is_answered, is_unanswered, is_moved, has_lost}
use Rattle.cluster_calls.specs.Calls.Call.{Call, Refresh, Pipeline, Each, Transaction}
use Rattle.cluster_calls.specs.Calls.OneSlot.{args_of}
use Rattle.cluster_calls.specs.Calls.Plan.{Client}
use Rattle.cluster_calls.specs.Calls.Transactions.{in_sizes, size}

abbrev pub entries_by : SlotEntries → List ℕ → Option Tree → SlotEntries
entries_by entries host None = entries
entries_by entries host (Some tree) = put_all [] (ranges tree host)

-- the slot map after a call: that of an accepted refresh's reply, else as before
abbrev pub map_after : SlotEntries → Call → List Exchange → SlotEntries
map_after entries (Refresh node) (x ∷ []) = if is_answered x then entries_by entries node.host x.reply
    else entries
map_after entries _ xs = entries

-- whether a reply of a pipeline is MOVED; those that a refused link call took do not count
abbrev pub some_moved : List Exchange → Bool
some_moved xs = list_any (λ (x : Exchange). is_moved x && not (has_lost x.request.node xs)) xs

-- whether an attempt at a transaction was answered whole, and with MOVED among its replies
abbrev pub is_moved_whole : List Exchange → Bool
is_moved_whole xs = list_any is_moved xs && not (list_any is_unanswered xs)

-- whether a refresh is needed after a call: a request was answered by MOVED, and no refresh was accepted
-- since
abbrev pub flag_after : Bool → Call → List Exchange → Bool
flag_after flag (Refresh node) (x ∷ []) = if is_answered x then false else flag
flag_after flag (Refresh node) _ = flag
flag_after flag (Pipeline entries) xs = flag || some_moved xs
flag_after flag (Each entries) xs = flag || some_moved xs
flag_after flag (Transaction commands) xs = flag
    || list_any is_moved_whole (in_sizes (size (args_of commands)) xs)
flag_after flag _ xs = flag || list_any is_moved xs

-- a node with an unanswered request is closed
abbrev pub links_after : List Address → List Exchange → List Address
links_after links xs = filter (λ node. not (has_lost node xs)) links

abbrev pub client_after : Client → Call → List Exchange → Client
client_after client call xs = record {
  settings = client.settings;
  entries = map_after client.entries call xs;
  links = links_after client.links xs;
}
