-- Replies of stream commands and what they are read as, each checked by computation. Source: the replies are
-- those of the Redis documentation of XREADGROUP, XRANGE, XAUTOCLAIM, XPENDING, XINFO and XDELEX (Return
-- information), made small.
use Rattle.std.specs.Prelude.{◌≡◌, ℕ, pos, negsuc, List, [], ◌∷◌, true, false, Some, None, codes, refl}
use Rattle.std.specs.Fmt.{digits}
use Rattle.std.specs.Str.{is_utf8, chars}
use lib.Utf8.{encode}
use Rattle.resp_core.specs.Trees.{Tree, nil, int, bulk, array, map, attribute, no_pairs}
use Rattle.resp_core.specs.View.{trees_of, pairs_of}
use Rattle.stream_commands.specs.Shapes.{list_of}
use Rattle.stream_commands.specs.Entries.{Entry, Fields}
use Rattle.stream_commands.specs.EntryReplies.{range_reply, claim_reply}
use Rattle.stream_commands.specs.ReadReply.{read_reply}
use Rattle.stream_commands.specs.AutoClaim.{autoclaim_reply, id_alone}
use Rattle.stream_commands.specs.Consumers.{consumers_reply}
use Rattle.stream_commands.specs.Groups.{groups_reply}
use Rattle.stream_commands.specs.Pending.{pending_reply, none_pending, some_pending}
use Rattle.stream_commands.specs.PendingCount.{pending_count_reply}
use Rattle.stream_commands.specs.StreamInfo.{no_entry, info_stream_reply, info_stream_idempotent_reply}
use Rattle.stream_commands.specs.StatusCodes.{status}

-- short words for trees

abbrev pub line : List Tree → Tree
line ts = array (trees_of ts)

abbrev pub pairs : List (Tree × Tree) → Tree
pairs ps = map (pairs_of ps)

abbrev pub num : ℕ → Tree
num n = int (pos n)

abbrev pub b : List ℕ → Tree
b = bulk

abbrev pub entry_with : List ℕ → Fields → Entry
entry_with id fields = record { id = id; fields = fields; milliseconds = None; deliveries = None }

abbrev pub f_is_v : Fields
f_is_v = (codes "f", b (codes "v")) ∷ []

abbrev pub first : Entry
first = entry_with (codes "1-0") f_is_v

-- a read by a group that claims: one row `a` with an entry of four
abbrev pub claiming : Tree → Tree
claiming deliveries = line
    (line (b (codes "a")
    ∷ line (line (b (codes "1-0") ∷ line (b (codes "f") ∷ b (codes "v") ∷ []) ∷ num 5 ∷ deliveries ∷ []) ∷ [])
    ∷ []) ∷ [])

pub reads_claim_form : read_reply (claiming (num 1))
    ≡ Some (record {
      key = codes "a";
      entries = record {
        id = codes "1-0";
        fields = f_is_v;
        milliseconds = Some (pos 5);
        deliveries = Some (pos 1);
      } ∷ [];
    } ∷ [])
unfolding digits is_utf8 chars encode
reads_claim_form = refl

-- a null is also no fields, so this one is standard form: two ids
pub reads_standard_form_first : read_reply (claiming nil)
    ≡ Some (record { key = codes "a"; entries = first ∷ entry_with (codes "5") [] ∷ [] } ∷ [])
unfolding digits is_utf8 chars encode
reads_standard_form_first = refl

pub refuses_a_read_of_a_number : read_reply (num 1) ≡ None
refuses_a_read_of_a_number = refl

pub refuses_a_row_without_entries : read_reply (line (line (b (codes "a") ∷ []) ∷ [])) ≡ None
unfolding is_utf8 chars encode
refuses_a_row_without_entries = refl

-- one range in three spellings

abbrev pub range_by_arrays : Tree
range_by_arrays = line (line (b (codes "1-0") ∷ line (b (codes "f") ∷ b (codes "v") ∷ []) ∷ []) ∷ [])

abbrev pub range_with_fields_by_map : Tree
range_with_fields_by_map = line
    (line (b (codes "1-0") ∷ pairs ((b (codes "f"), b (codes "v")) ∷ []) ∷ []) ∷ [])

abbrev pub range_by_maps : Tree
range_by_maps = pairs ((b (codes "1-0"), pairs ((b (codes "f"), b (codes "v")) ∷ [])) ∷ [])

pub reads_a_range_by_arrays : range_reply range_by_arrays ≡ Some (first ∷ [])
unfolding is_utf8 chars encode
reads_a_range_by_arrays = refl

pub reads_a_range_with_fields_by_map : range_reply range_with_fields_by_map ≡ Some (first ∷ [])
unfolding is_utf8 chars encode
reads_a_range_with_fields_by_map = refl

pub reads_a_range_by_maps : range_reply range_by_maps ≡ Some (first ∷ [])
unfolding is_utf8 chars encode
reads_a_range_by_maps = refl

pub refuses_odd_fields : range_reply (line (line (b (codes "1-0") ∷ line (b (codes "f") ∷ []) ∷ []) ∷ []))
    ≡ None
unfolding is_utf8 chars encode
refuses_odd_fields = refl

pub refuses_a_claim_of_ids : claim_reply (line (b (codes "1-0") ∷ [])) ≡ None
unfolding is_utf8 chars encode
refuses_a_claim_of_ids = refl

-- claimed by an automatic claim

pub refuses_one_item : autoclaim_reply (line (b (codes "0-0") ∷ [])) ≡ None
refuses_one_item = refl

pub claims_nothing : autoclaim_reply (line (b (codes "0-0") ∷ line [] ∷ line [] ∷ []))
    ≡ Some (record {
      next = codes "0-0";
      claimed = record { entries = []; some_invalid = false };
      deleted = [];
    })
unfolding is_utf8 chars encode
claims_nothing = refl

pub claims_nothing_of_a_null : autoclaim_reply (line (b (codes "5-0") ∷ line (nil ∷ []) ∷ line [] ∷ []))
    ≡ Some (record {
      next = codes "5-0";
      claimed = record { entries = []; some_invalid = true };
      deleted = [];
    })
unfolding is_utf8 chars encode
claims_nothing_of_a_null = refl

pub claims_an_id_beside_a_null : autoclaim_reply
    (line (b (codes "5-0") ∷ line (b (codes "1-0") ∷ nil ∷ []) ∷ []))
    ≡ Some (record {
      next = codes "5-0";
      claimed = record { entries = id_alone (codes "1-0") ∷ []; some_invalid = true };
      deleted = [];
    })
unfolding is_utf8 chars encode
claims_an_id_beside_a_null = refl

pub refuses_claimed_numbers : autoclaim_reply (line (b (codes "5-0") ∷ line (num 1 ∷ []) ∷ [])) ≡ None
unfolding is_utf8 chars encode
refuses_claimed_numbers = refl

abbrev pub two_entries : Tree
two_entries = line (
    line (b (codes "1713465533411-0")
    ∷ line (b (codes "name") ∷ b (codes "test") ∷ b (codes "other") ∷ b (codes "whaterver") ∷ []) ∷ [])
    ∷ line (b (codes "1713465536069-0")
    ∷ line (b (codes "name") ∷ b (codes "another test") ∷ b (codes "other") ∷ b (codes "something") ∷ [])
    ∷ [])
    ∷ [])

abbrev pub both_entries : List Entry
both_entries =
    entry_with (codes "1713465533411-0")
    ((codes "name", b (codes "test")) ∷ (codes "other", b (codes "whaterver")) ∷ [])
    ∷ entry_with (codes "1713465536069-0")
    ((codes "name", b (codes "another test")) ∷ (codes "other", b (codes "something")) ∷ [])
    ∷ []

pub claims_two_entries : autoclaim_reply
    (line (b (codes "1713465536578-0") ∷ two_entries ∷ line (b (codes "123456789-0") ∷ []) ∷ []))
    ≡ Some (record {
      next = codes "1713465536578-0";
      claimed = record { entries = both_entries; some_invalid = false };
      deleted = codes "123456789-0" ∷ [];
    })
unfolding is_utf8 chars encode
claims_two_entries = refl

pub claims_two_entries_of_an_old_server : autoclaim_reply
    (line (b (codes "1713465536578-0") ∷ two_entries ∷ []))
    ≡ Some (record {
      next = codes "1713465536578-0";
      claimed = record { entries = both_entries; some_invalid = false };
      deleted = [];
    })
unfolding is_utf8 chars encode
claims_two_entries_of_an_old_server = refl

pub claims_two_ids : autoclaim_reply
    (line (b (codes "1713465536578-0") ∷ line (b (codes "1713465533411-0") ∷ b (codes "1713465536069-0") ∷ [])
    ∷ line (b (codes "123456789-0") ∷ []) ∷ []))
    ≡ Some (record {
      next = codes "1713465536578-0";
      claimed = record {
        entries = id_alone (codes "1713465533411-0") ∷ id_alone (codes "1713465536069-0")
            ∷ [];
        some_invalid = false;
      };
      deleted = codes "123456789-0" ∷ [];
    })
unfolding is_utf8 chars encode
claims_two_ids = refl

-- pending entries

pub finds_none_pending : pending_reply (line (num 0 ∷ nil ∷ nil ∷ nil ∷ [])) ≡ Some none_pending
finds_none_pending = refl

pub finds_two_pending : pending_reply
    (line (num 2 ∷ b (codes "1-0") ∷ b (codes "2-0")
    ∷ line (line (b (codes "c") ∷ b (codes "2") ∷ []) ∷ nil ∷ []) ∷ []))
    ≡ Some (some_pending
    (record {
      count = pos 2;
      start = codes "1-0";
      end = codes "2-0";
      consumers = record { name = codes "c"; pending = pos 2; idle = pos 0 } ∷ [];
    }))
unfolding digits is_utf8 chars encode
finds_two_pending = refl

pub refuses_pending_without_an_end : pending_reply (line (num 2 ∷ b (codes "1-0") ∷ nil ∷ nil ∷ [])) ≡ None
unfolding is_utf8 chars encode
refuses_pending_without_an_end = refl

pub refuses_pending_behind_an_attribute : pending_reply
    (attribute (line (num 0 ∷ nil ∷ nil ∷ nil ∷ [])) no_pairs) ≡ None
refuses_pending_behind_an_attribute = refl

pub counts_a_pending_entry : pending_count_reply
    (line (line (b (codes "1-0") ∷ b (codes "c") ∷ num 7 ∷ num 1 ∷ []) ∷ []))
    ≡ Some (record { id = codes "1-0"; consumer = codes "c"; milliseconds = pos 7; deliveries = pos 1 } ∷ [])
unfolding is_utf8 chars encode
counts_a_pending_entry = refl

pub refuses_a_negative_time : pending_count_reply
    (line (line (b (codes "1-0") ∷ b (codes "c") ∷ int (negsuc 0) ∷ num 1 ∷ []) ∷ [])) ≡ None
unfolding is_utf8 chars encode
refuses_a_negative_time = refl

-- information

pub tells_a_first_entry : info_stream_reply
    (pairs ((b (codes "first-entry"), line (b (codes "1-0") ∷ line (b (codes "f") ∷ b (codes "v") ∷ []) ∷ []))
    ∷ []))
    ≡ Some (record {
      last_generated = [];
      radix_tree_keys = pos 0;
      groups = pos 0;
      length = pos 0;
      first = first;
      last = no_entry;
    })
unfolding is_utf8 chars encode
tells_a_first_entry = refl

pub refuses_an_entry_whose_fields_are_a_text : info_stream_reply
    (pairs ((b (codes "first-entry"), line (b (codes "1-0") ∷ b (codes "f") ∷ [])) ∷ [])) ≡ None
unfolding is_utf8 chars encode
refuses_an_entry_whose_fields_are_a_text = refl

pub tells_of_idempotent_ids : info_stream_idempotent_reply
    (line (b (codes "idmp-duration") ∷ num 100 ∷ b (codes "pids-tracked") ∷ b (codes "3") ∷ b (codes "length")
    ∷ num 7 ∷ []))
    ≡ Some (record {
      base = record {
        last_generated = [];
        radix_tree_keys = pos 0;
        groups = pos 0;
        length = pos 7;
        first = no_entry;
        last = no_entry;
      };
      duration = pos 100;
      maxsize = pos 0;
      producers_tracked = pos 3;
      ids_tracked = pos 0;
      ids_added = pos 0;
      ids_repeated = pos 0;
    })
unfolding digits is_utf8 chars encode
tells_of_idempotent_ids = refl

pub refuses_a_maxsize_past_16_bits : info_stream_idempotent_reply
    (pairs ((b (codes "idmp-maxsize"), num 65536) ∷ [])) ≡ None
unfolding is_utf8 chars encode
refuses_a_maxsize_past_16_bits = refl

pub tells_of_a_consumer : consumers_reply
    (line (pairs ((b (codes "name"), b (codes "c")) ∷ (b (codes "inactive"), num 9)
    ∷ (b (codes "pending"), num 2) ∷ []) ∷ []))
    ≡ Some (record { name = codes "c"; pending = pos 2; idle = pos 0 } ∷ [])
unfolding is_utf8 chars encode
tells_of_a_consumer = refl

pub refuses_a_consumer_of_negative_idleness : consumers_reply
    (line (pairs ((b (codes "idle"), int (negsuc 0)) ∷ []) ∷ [])) ≡ None
unfolding is_utf8 chars encode
refuses_a_consumer_of_negative_idleness = refl

pub tells_of_a_group : groups_reply
    (line (line (b (codes "name") ∷ b (codes "g") ∷ b (codes "entries-read") ∷ num 4 ∷ b (codes "lag") ∷ nil
    ∷ []) ∷ [])) ≡ Some (record {
      name = codes "g";
      consumers = pos 0;
      pending = pos 0;
      last_delivered = [];
      entries_read = Some (pos 4);
      lag = None;
    } ∷ [])
unfolding is_utf8 chars encode
tells_of_a_group = refl

pub refuses_a_group_of_no_fields : groups_reply (line (num 1 ∷ [])) ≡ None
refuses_a_group_of_no_fields = refl

-- status codes, here 0 for a missing id, 1 for a deleted one and 2 for one that is kept

pub tells_deleted_and_missing : list_of {M = ℕ} (status 0 1 2) (line (num 1 ∷ int (negsuc 0) ∷ []))
    ≡ Some (1 ∷ 0 ∷ [])
tells_deleted_and_missing = refl

pub refuses_another_code : list_of {M = ℕ} (status 0 1 2) (line (num 3 ∷ int (negsuc 0) ∷ [])) ≡ None
refuses_another_code = refl

pub refuses_a_code_as_a_text : status {M = ℕ} 0 1 2 (b (codes "1")) ≡ None
refuses_a_code_as_a_text = refl
