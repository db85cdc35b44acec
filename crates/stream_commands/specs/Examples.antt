-- Examples of whole commands: what a call writes, and beside it other orders that the server would read as
-- something else or refuse. Source: the Redis documentation of each command (Syntax, Examples).
use Rattle.std.specs.Prelude.{◌≡◌, ◌≢◌, ℕ, ◌==◌, List, [], ◌∷◌, Some, None, true, false, codes, if◌then◌else◌}
use Rattle.stream_commands.specs.Clauses.{Args}
use Rattle.stream_commands.specs.Settings.{max_entries, min_id, manual, automatic, TrimSettings, AddSettings, ClaimSettings, GroupNames, ReadSettings}
use Rattle.stream_commands.specs.Commands.{xadd, xtrim, xread, xrange, xclaim, xautoclaim, xpending, xinfo_stream, xinfo_groups, xinfo_consumers, xdelex}
use Rattle.stream_commands.specs.declared.trim.StreamTrimmingMode.TheVariants.{Exact, Approx}
use Rattle.stream_commands.specs.declared.policy.StreamDeletionPolicy.TheVariants.{KeepRef, DelRef, Acked}

abbrev put_before : ℕ → Args → Args
put_before byte [] = (byte ∷ []) ∷ []
put_before byte (w ∷ ws) = (byte ∷ w) ∷ ws

-- a text cut at each space
abbrev pub words : List ℕ → Args
words [] = [] ∷ []
words (byte ∷ bytes) = if byte == 32 then [] ∷ words bytes else put_before byte (words bytes)

-- the arguments are the words of this text, and not those of the other
pub record Writes (args : Args) (line other : List ℕ) : Type 0 where
  pub right : args ≡ words line
  pub no_other : args ≢ words other

-- ---- settings of the examples

abbrev pub about_ten : TrimSettings
about_ten = record {
  trim = record { mode = Approx; threshold = max_entries 10; limit = Some 5 };
  policy = Some Acked;
}

abbrev pub add_once : AddSettings
add_once = record {
  nomkstream = true;
  policy = Some KeepRef;
  idempotency = Some (manual (codes "producer-1") (codes "iid-1"));
  trim = Some (record { mode = Exact; threshold = min_id (codes "3-0"); limit = Some 5 });
}

abbrev pub add_by_server : AddSettings
add_by_server = record {
  nomkstream = false;
  policy = None;
  idempotency = Some (automatic (codes "producer-1"));
  trim = Some (record { mode = Approx; threshold = max_entries 10; limit = None });
}

abbrev pub read_alone : ReadSettings
read_alone = record { group = None; block = Some 100; count = Some 2; noack = true; claim = Some 7 }

abbrev pub mine : GroupNames
mine = record { group = codes "mygroup" ∷ []; consumer = codes "Alice" ∷ [] }

abbrev pub read_for_a_group : ReadSettings
read_for_a_group = record
    { group = Some mine; block = Some 100; count = Some 2; noack = true; claim = Some 7 }

abbrev pub read_plainly : ReadSettings
read_plainly = record { group = None; block = None; count = None; noack = false; claim = None }

abbrev pub claim_all_set : ClaimSettings
claim_all_set = record
    { idle = Some 1; time = Some 2; retry = Some 3; force = true; justid = true; lastid = Some (codes "9-0") }

abbrev pub two_ids : Args
two_ids = codes "1-0" ∷ codes "2-0" ∷ []

-- ---- the commands

-- the options stand before the id, the policy before the trim, each name before its value
abbrev pub XaddWrites : Type 0
XaddWrites =
    Writes (xadd (codes "mystream") add_once (codes "4-0")
    ((codes "name", codes "Sara") ∷ (codes "surname", codes "OConnor") ∷ []))
    (codes "XADD mystream NOMKSTREAM KEEPREF IDMP producer-1 iid-1 MINID = 3-0 LIMIT 5 4-0 name Sara surname OConnor")
    (codes "XADD mystream NOMKSTREAM IDMP producer-1 iid-1 MINID = 3-0 LIMIT 5 KEEPREF 4-0 name Sara surname OConnor")
    × Writes (xadd (codes "mystream") add_by_server (codes "*") ((codes "name", codes "Sara") ∷ []))
    (codes "XADD mystream IDMPAUTO producer-1 MAXLEN ~ 10 * name Sara")
    (codes "XADD mystream * IDMPAUTO producer-1 MAXLEN ~ 10 name Sara")

-- the policy stands behind the limit
abbrev pub XtrimWrites : Type 0
XtrimWrites = Writes (xtrim (codes "mystream") about_ten) (codes "XTRIM mystream MAXLEN ~ 10 LIMIT 5 ACKED")
    (codes "XTRIM mystream ACKED MAXLEN ~ 10 LIMIT 5")

-- all keys stand before all ids, behind STREAMS; a group gives the command its other name, and NOACK and
-- CLAIM are for a group alone; a key may itself be that word
abbrev pub XreadWrites : Type 0
XreadWrites =
    Writes (xread read_alone (codes "writers" ∷ codes "mystream" ∷ []) two_ids)
    (codes "XREAD BLOCK 100 COUNT 2 STREAMS writers mystream 1-0 2-0")
    (codes "XREAD BLOCK 100 COUNT 2 STREAMS writers 1-0 mystream 2-0")
    × Writes (xread read_for_a_group (codes "mystream" ∷ []) (codes ">" ∷ []))
    (codes "XREADGROUP GROUP mygroup Alice BLOCK 100 COUNT 2 NOACK CLAIM 7 STREAMS mystream >")
    (codes "XREADGROUP STREAMS mystream > GROUP mygroup Alice BLOCK 100 COUNT 2 NOACK CLAIM 7")
    × Writes (xread read_plainly (codes "STREAMS" ∷ []) (codes "0" ∷ [])) (codes "XREAD STREAMS STREAMS 0")
    (codes "XREAD STREAMS 0 STREAMS")

-- the first id stands before the last one
abbrev pub XrangeWrites : Type 0
XrangeWrites = Writes (xrange (codes "mystream") (codes "1-0") (codes "2-0"))
    (codes "XRANGE mystream 1-0 2-0") (codes "XRANGE mystream 2-0 1-0")

-- the ids stand behind the least idle time and before the options
abbrev pub XclaimWrites : Type 0
XclaimWrites = Writes
    (xclaim (codes "mystream") (codes "mygroup") (codes "Alice") 3600000 two_ids claim_all_set)
    (codes "XCLAIM mystream mygroup Alice 3600000 1-0 2-0 IDLE 1 TIME 2 RETRYCOUNT 3 FORCE JUSTID LASTID 9-0")
    (codes "XCLAIM mystream mygroup Alice 3600000 IDLE 1 TIME 2 RETRYCOUNT 3 FORCE JUSTID LASTID 9-0 1-0 2-0")

-- the start stands behind the least idle time
abbrev pub XautoclaimWrites : Type 0
XautoclaimWrites = Writes
    (xautoclaim (codes "mystream") (codes "mygroup") (codes "Alice") 3600000 (codes "0-0")
    (record { count = Some 25; justid = true }))
    (codes "XAUTOCLAIM mystream mygroup Alice 3600000 0-0 COUNT 25 JUSTID")
    (codes "XAUTOCLAIM mystream mygroup Alice 0-0 3600000 COUNT 25 JUSTID")

-- the key stands before the group
abbrev pub XpendingWrites : Type 0
XpendingWrites = Writes (xpending (codes "mystream") (codes "mygroup")) (codes "XPENDING mystream mygroup")
    (codes "XPENDING mygroup mystream")

-- the word of the question stands before the key
abbrev pub XinfoWrites : Type 0
XinfoWrites =
    Writes (xinfo_stream (codes "mystream")) (codes "XINFO STREAM mystream") (codes "XINFO mystream STREAM")
    × Writes (xinfo_groups (codes "mystream")) (codes "XINFO GROUPS mystream") (codes "XINFO mystream GROUPS")
    × Writes (xinfo_consumers (codes "mystream") (codes "mygroup")) (codes "XINFO CONSUMERS mystream mygroup")
    (codes "XINFO CONSUMERS mygroup mystream")

-- the policy stands before IDS, and the number of the ids before them
abbrev pub XdelexWrites : Type 0
XdelexWrites =
    Writes (xdelex (codes "mystream") DelRef two_ids) (codes "XDELEX mystream DELREF IDS 2 1-0 2-0")
    (codes "XDELEX mystream IDS 2 1-0 2-0 DELREF")
    × Writes (xdelex (codes "a") KeepRef two_ids) (codes "XDELEX a KEEPREF IDS 2 1-0 2-0")
    (codes "XDELEX a IDS 2 1-0 2-0 KEEPREF")
