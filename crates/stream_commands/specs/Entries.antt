-- Entries of a stream, and the two forms in which replies list them.
-- Source: the Redis documentation of XRANGE, XREAD and XREADGROUP (Return information).
use Rattle.std.specs.Prelude.{ℕ, ℤ, List, Option, None, option_map, map as each}
use Rattle.std.specs.List.{flat_map}
use Rattle.resp_core.specs.Trees.{Tree}
use Rattle.resp_args.specs.Convert.{tuple4}
use Rattle.stream_commands.specs.Shapes.{a_text, a_count, a_tree, perhaps, list_of, named}

-- names and values, in order of arrival
abbrev pub Fields : Type 0
Fields = List (List ℕ × Tree)

-- an entry: its id and its fields, and where the reply tells them when and how often it was delivered
pub record Entry : Type 0 where
  pub id : List ℕ
  pub fields : Fields
  pub milliseconds : Option ℤ
  pub deliveries : Option ℤ

-- fields
abbrev pub some_fields : Tree → Option Fields
some_fields = named a_tree

-- standard form: lists of ids, each with its fields

abbrev pub ids_with_fields : Tree → Option (List (List ℕ × Fields))
ids_with_fields = named some_fields

abbrev pub without_times : List ℕ × Fields → Entry
without_times e = record { id = e.0; fields = e.1; milliseconds = None; deliveries = None }

-- entries in standard form: ids, each with its fields
abbrev pub entries : Tree → Option (List Entry)
entries t = option_map (flat_map (each without_times)) (list_of ids_with_fields t)

-- claim form: an id, its fields, milliseconds and deliveries side by side

abbrev pub claimed_entry : Tree → Option (List ℕ × Fields × Option ℤ × Option ℤ)
claimed_entry = tuple4 a_text some_fields (perhaps a_count) (perhaps a_count)

abbrev pub with_times : List ℕ × Fields × Option ℤ × Option ℤ → Entry
with_times e = record { id = e.0; fields = e.1; milliseconds = e.2; deliveries = e.3 }

-- entries in claim form: id, fields, milliseconds and deliveries side by side
abbrev pub claimed_entries : Tree → Option (List Entry)
claimed_entries t = option_map (each with_times) (list_of claimed_entry t)
