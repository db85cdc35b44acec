-- Replies to XAUTOCLAIM: where to go on, what was claimed, and ids that are gone. Arrays are arrays here,
-- with no attribute round them. Source: the Redis documentation of XAUTOCLAIM (Return information); old
-- servers leave null in the place of a deleted entry.
use Rattle.std.specs.Prelude.{ℕ, List, [], ◌∷◌, Bool, Option, Some, None, option_map, nat_lt, length, map as each}
use Rattle.resp_core.specs.Trees.{Tree, nil, bulk, array}
use Rattle.resp_core.specs.View.{trees_of}
use Rattle.resp_args.specs.Convert.{items}
use Rattle.stream_commands.specs.Shapes.{a_text, perhaps, list_of, ◌and◌}
use Rattle.stream_commands.specs.Entries.{Entry, entries}

-- the claimed entries, and whether items of the reply hold none
pub record Claimed : Type 0 where
  pub entries : List Entry
  pub some_invalid : Bool

-- where to go on, what was claimed, and ids that are gone
pub record AutoClaim : Type 0 where
  pub next : List ℕ
  pub claimed : Claimed
  pub deleted : List (List ℕ)

-- the first item that is no null
abbrev pub first_no_null : List Tree → Option Tree
first_no_null [] = None
first_no_null (nil ∷ ts) = first_no_null ts
first_no_null (t ∷ ts) = Some t

-- those that are there
abbrev pub keep_present : {M : Type 0} → List (Option M) → List M
keep_present [] = []
keep_present (Some m ∷ ms) = m ∷ keep_present ms
keep_present (None ∷ ms) = keep_present ms

-- an id alone
abbrev pub id_alone : List ℕ → Entry
id_alone id = record { id = id; fields = []; milliseconds = None; deliveries = None }

-- the first item that is no null says which form the list has: ids, or entries
abbrev pub entries_by_first : Option Tree → Tree → Option (List Entry)
entries_by_first None t = Some []
entries_by_first (Some (bulk id)) t = option_map (λ ids. each id_alone (keep_present ids))
    (list_of (perhaps a_text) t)
entries_by_first (Some (array ts)) t = entries t
entries_by_first (Some other) t = None

-- the entries of a list, read in the form that the first item that is no null has
abbrev pub entries_listed : List Tree → Option (List Entry)
entries_listed ts = entries_by_first (first_no_null ts) (array (trees_of ts))

-- fewer entries than items: some items hold none
abbrev pub claimed_from : List Tree → List Entry → Claimed
claimed_from ts es = record { entries = es; some_invalid = nat_lt (length es) (length ts) }

-- what the second item of a reply tells as claimed
abbrev pub claimed : Tree → Option Claimed
claimed (array ts) = option_map (claimed_from (items ts))
    (entries_by_first (first_no_null (items ts)) (array ts))
claimed t = None

abbrev pub autoclaim : List ℕ → Claimed → List (List ℕ) → AutoClaim
autoclaim next claimed deleted = record { next = next; claimed = claimed; deleted = deleted }

-- two items, or three where the server tells deleted ids
abbrev pub autoclaim_of : List Tree → Option AutoClaim
autoclaim_of (next ∷ list ∷ []) = Some autoclaim and a_text next and claimed list and Some []
autoclaim_of (next ∷ list ∷ deleted ∷ []) =
    Some autoclaim and a_text next and claimed list and list_of a_text deleted
autoclaim_of ts = None

-- what a reply to XAUTOCLAIM is read as
abbrev pub autoclaim_reply : Tree → Option AutoClaim
autoclaim_reply (array ts) = autoclaim_of (items ts)
autoclaim_reply t = None
