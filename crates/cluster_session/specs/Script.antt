-- The session that a text spells, or the number of its first bad line.
-- Source: the session language is this repository's own (docs/SESSIONS.md).
use Rattle.std.specs.Prelude.{ℕ, suc, ◌==◌, Bool, true, false, if◌then◌else◌, List, [], ◌∷◌, ◌++◌, length, Option, Some, None, is_some, option_map, option_and_then, unwrap_or, ok_or, Result, Ok, Err, codes, bytes_eq}
use Rattle.std.specs.List.{list_any}
use Rattle.std.specs.Result.{result_map_both}
use Rattle.std.specs.Str.{is_utf8}
use Rattle.std.specs.BTreeMap.{insert_entry, is_at}
use Rattle.std.specs.Map.{lookup, set_value}
use Rattle.resp_args.specs.Command.{Command}
use Rattle.cluster_routing.specs.Address.{Address, address_cmp}
use Rattle.cluster_calls.specs.Calls.Call.{Call, Pipeline, Each, Transaction, Entry}
use Rattle.cluster_session.specs.Lines.{Access, reading, writing, Meaning, node, fault, read_only, budget, levels, call, pipe, each, multi, command, run, Words, is_skipped, pieces, said_by_text}
use Rattle.cluster_session.specs.Session.{Session, Setup}

-- what is set up for each node, by ascending address
abbrev pub Nodes : Type 0
Nodes = List (Address × Setup)

-- What the lines so far set up and call, and the commands of a pipeline or a transaction that no line has
-- ended yet; of a pipeline also whether it tells of each of them.
pub record Draft : Type 0 where
  pub nodes : Nodes
  pub read_only : List (List ℕ)
  pub budget : Option ℕ
  pub levels : Option ℕ
  pub calls : List Call
  pub pipeline : Option (List Entry)
  pub tells_each : Bool
  pub transaction : Option (List Command)

abbrev pub nothing_yet : Draft
nothing_yet = record {
  nodes = [];
  read_only = [];
  budget = None;
  levels = None;
  calls = [];
  pipeline = None;
  tells_each = false;
  transaction = None;
}

-- ---- what a line adds; nothing where it is bad at its place

-- a line that sets something up stands before the first call
abbrev pub before_calls : Draft → Option Draft → Option Draft
before_calls draft changed = if length draft.calls == 0 then changed else None

-- what is set up for the node of an address
abbrev pub setup_at : Address → Nodes → Option Setup
setup_at at nodes = lookup (is_at (address_cmp at)) nodes

-- a node, where its address has none yet
abbrev pub put_node : Address → Setup → Nodes → Option Nodes
put_node at setup nodes = if is_some (setup_at at nodes) then None
    else Some (insert_entry address_cmp nodes at setup)

-- the number of what fails, where nothing of its kind is to fail yet
abbrev pub first_fault : ℕ → ℕ → Option ℕ
first_fault old number = if old == 0 then Some number else None

abbrev pub set_fault : Access → ℕ → Setup → Option Setup
set_fault reading number setup = option_map (λ n. record setup { failing_read = n })
    (first_fault setup.failing_read number)
set_fault writing number setup = option_map (λ n. record setup { failing_write = n })
    (first_fault setup.failing_write number)

-- a fault of a node that has none of its kind yet
abbrev pub put_fault : Address → Access → ℕ → Nodes → Option Nodes
put_fault at access number nodes =
    option_map (set_value (is_at (address_cmp at)) nodes)
    (option_and_then (set_fault access number) (setup_at at nodes))

abbrev pub with_nodes : Draft → Nodes → Draft
with_nodes draft nodes = record draft { nodes = nodes }

abbrev pub add_node : Address → Setup → Draft → Option Draft
add_node at setup draft = option_map (with_nodes draft) (put_node at setup draft.nodes)

abbrev pub add_fault : Address → Access → ℕ → Draft → Option Draft
add_fault at access number draft = option_map (with_nodes draft) (put_fault at access number draft.nodes)

abbrev pub add_read_only : List ℕ → Draft → Draft
add_read_only name draft = record draft { read_only = draft.read_only ++ name ∷ [] }

-- the budget, where no line has set it
abbrev pub set_budget : ℕ → Draft → Option Draft
set_budget number draft = if is_some draft.budget then None else Some (record draft { budget = Some number })

-- how deep values may nest, where no line has set it
abbrev pub set_levels : ℕ → Draft → Option Draft
set_levels number draft = if is_some draft.levels then None else Some (record draft { levels = Some number })

abbrev pub add_call : Call → Draft → Draft
add_call c draft = record draft { calls = draft.calls ++ c ∷ [] }

-- a line that ends a pipeline, or a transaction
abbrev pub is_run : List ℕ → Bool
is_run line = bytes_eq line (codes "run")

-- a pipeline begins, where a line behind this one ends it
abbrev pub begin_pipeline : Bool → Words → Draft → Option Draft
begin_pipeline tells_each later draft = if list_any is_run later
    then Some (record draft { pipeline = Some []; tells_each = tells_each }) else None

abbrev pub begin_transaction : Words → Draft → Option Draft
begin_transaction later draft = if list_any is_run later then Some (record draft { transaction = Some [] })
    else None

-- outside both: what the line says, with the lines behind it
abbrev pub add_outside : Words → Meaning → Draft → Option Draft
add_outside later (node at piece bytes) draft =
    before_calls draft (add_node at
    (record { piece = piece; bytes = bytes; failing_read = 0; failing_write = 0 }) draft)
add_outside later (fault at access number) draft = before_calls draft (add_fault at access number draft)
add_outside later (read_only name) draft = before_calls draft (Some (add_read_only name draft))
add_outside later (budget number) draft = before_calls draft (set_budget number draft)
add_outside later (levels number) draft = before_calls draft (set_levels number draft)
add_outside later (call c) draft = Some (add_call c draft)
add_outside later pipe draft = begin_pipeline false later draft
add_outside later each draft = begin_pipeline true later draft
add_outside later multi draft = begin_transaction later draft
add_outside later (command entry) draft = None
add_outside later run draft = None

-- the call of a pipeline
abbrev pub pipeline_call : Bool → List Entry → Call
pipeline_call tells_each entries = if tells_each then Each entries else Pipeline entries

-- inside a pipeline of these commands so far
abbrev pub add_inside : List Entry → Meaning → Draft → Option Draft
add_inside entries (command entry) draft = Some (record draft { pipeline = Some (entries ++ entry ∷ []) })
add_inside entries run draft = Some
    (add_call (pipeline_call draft.tells_each entries) (record draft { pipeline = None }))
add_inside entries _ draft = None

-- inside a transaction of these commands so far, none of which is left out of the answer
abbrev pub add_to : List Command → Meaning → Draft → Option Draft
add_to commands (command entry) draft = if entry.ignored then None
    else Some (record draft { transaction = Some (commands ++ entry.command ∷ []) })
add_to commands run draft = Some (add_call (Transaction commands) (record draft { transaction = None }))
add_to commands _ draft = None

abbrev pub add_unpiped : Option (List Command) → Words → Meaning → Draft → Option Draft
add_unpiped None later said draft = add_outside later said draft
add_unpiped (Some commands) later said draft = add_to commands said draft

abbrev pub add_said : Option (List Entry) → Words → Meaning → Draft → Option Draft
add_said None later said draft = add_unpiped draft.transaction later said draft
add_said (Some entries) later said draft = add_inside entries said draft

-- ---- a line, and all lines

-- what a line of UTF-8 says; none where it is skipped
abbrev pub said_by_line : List ℕ → Option (Option Meaning)
said_by_line line =
    if is_skipped line then Some None else
    if is_utf8 line then option_map Some (said_by_text line) else None

-- what a line that says this adds; a skipped one nothing
abbrev pub add_any : Words → Option Meaning → Draft → Option Draft
add_any later None draft = Some draft
add_any later (Some said) draft = add_said draft.pipeline later said draft

-- a line, with those behind it
abbrev pub add_line : Words → List ℕ → Draft → Option Draft
add_line later line draft = option_and_then (λ said. add_any later said draft) (said_by_line line)

-- what comes of a value, or why there is none
abbrev pub and_then : {A B E : Type 0} → (A → Result B E) → Result A E → Result B E
and_then f (Ok a) = f a
and_then f (Err e) = Err e

-- all lines, the first of which has this number; else the number of the first bad one
abbrev pub add_lines : ℕ → Words → Draft → Result Draft ℕ
add_lines number [] draft = Ok draft
add_lines number (line ∷ later) draft = and_then (λ next. add_lines (suc number) later next)
    (ok_or (add_line later line draft) number)

-- without a line for it a request follows one redirect, and values nest a hundred deep at most
abbrev pub session_of : Draft → Session
session_of draft = record {
  nodes = draft.nodes;
  read_only = draft.read_only;
  budget = unwrap_or draft.budget 1;
  levels = unwrap_or draft.levels 100;
  calls = draft.calls;
}

-- the session of a text, whose lines are what stands between the bytes LF
abbrev pub session_in_text : List ℕ → Result Session ℕ
session_in_text text = result_map_both session_of (λ number. number)
    (add_lines 1 (pieces 10 text) nothing_yet)
