-- What the plan of a read in parts sends, and what its requests did.
use Rattle.std.proofs.Common.{◌≡◌, ℕ, Bool, true, false, cond, ◌||◌, ◌==◌, nat_eq, List, [], ◌∷◌, ◌++◌, map, drop, length, Option, Some, None, Result, Ok, Err, refl, sym, ap, ◌∙◌, subst, Contains, eqb-true, eq-eqb}
use Rattle.std.specs.List.{AllByRecursion}
use Rattle.std.proofs.lemmas.Bool.{false≢true}
use Rattle.resp_core.specs.Errors.{Refusal}
use Rattle.cluster_routing.specs.Address.{Address}
use Rattle.cluster_routing.specs.HashSlot.{hash_slot}
use Rattle.cluster_routing.specs.Lists.{concat, among, IsDistinct, Pairwise, draw}
use Rattle.cluster_routing.specs.Parts.{tuple_slot}
use Rattle.cluster_routing.specs.declared.route.SlotAddr.{SlotAddr}
use Rattle.stream_commands.specs.Settings.{ReadSettings}
use Rattle.cluster_calls.specs.Calls.Call.{Stream, Call}
use Rattle.cluster_calls.specs.Calls.Parts.{result_then, read_part, read_parts, unless}
use Rattle.cluster_calls.specs.Calls.Plan.{Client, Dispatch, dispatches, in_order, order_of, plan}
use Rattle.cluster_calls.specs.Calls.Reads.{stream_slots, streams_at, read_head, read_slot}
use Rattle.cluster_calls.specs.Calls.Task.{Task, read_of, task_of, early_refusal, stream_keys, stream_ids}
use Rattle.cluster_calls.specs.Links.Log.{Exchange}
use Rattle.cluster_calls.specs.OneServer.Commands.{read_with, streams_with}
use Rattle.cluster_calls.specs.OneServer.Keyspace.{Step, on_slot}
use Rattle.cluster_calls.specs.OneServer.Meaning.{Meaning, DoesRead, rows_of_steps, AreAllowed}
use Rattle.cluster_calls.specs.OneServer.Operations.{Operation, ReadKeys, Response, Rows, task_operation}
use Rattle.cluster_calls.specs.Calls.TaskParts.{task_parts}
use Rattle.cluster_calls.proofs.LogLaws.Plans.{IsFor, dispatches_for, or_right, all-weaker, firsts_among}
use Rattle.cluster_calls.proofs.ServerLaws.Distinct.{among-firsts}
use Rattle.cluster_calls.proofs.ServerLaws.Pieces.{with_some, SamePieces, IsDoneAs, ServedIn, one_piece}
use Rattle.cluster_calls.proofs.ServerLaws.Splits.{pairwise-zip, pairwise-left, filter-head, group_on_slot, in_item_order}

-- ---- the slot that a part's arguments name

head_dropped : (head keys ids : List (List ℕ)) → drop (length head) ((head ++ keys) ++ ids) ≡ keys ++ ids
head_dropped [] keys ids = refl
head_dropped (h ∷ head) keys ids = head_dropped head keys ids

-- a slot among those of the streams has a stream
has_stream : (k : ℕ) (streams : List Stream) → among nat_eq k (map (λ (s : Stream). hash_slot s.key) streams) ≡ true → (t : Stream) × (ts : List Stream) × (streams_at k streams ≡ t ∷ ts)
has_stream k [] e = absurd (false≢true e)
has_stream k (s ∷ streams) e = by (k == hash_slot s.key) e (λ f. has_stream k streams f)
  where
    by : (b : Bool) → (b || among nat_eq k (map (λ (s : Stream). hash_slot s.key) streams)) ≡ true → (among nat_eq k (map (λ (s : Stream). hash_slot s.key) streams) ≡ true → (t : Stream) × (ts : List Stream) × (streams_at k streams ≡ t ∷ ts))
        → (t : Stream) × (ts : List Stream) × (cond b (s ∷ streams_at k streams) (streams_at k streams) ≡ t ∷ ts)
    by true e ih = (s, streams_at k streams, refl)
    by false e ih = ih e

module _ (options : ReadSettings) (streams : List Stream) where
  abbrev pub slot_in : Dispatch → ℕ
  slot_in d = read_slot options d.args

  part_slot : (role : SlotAddr) (k : ℕ) → among nat_eq k (map (λ (s : Stream). hash_slot s.key) streams) ≡ true → read_slot options (read_part role options streams k).args ≡ k
  part_slot role k e =
      let w = has_stream k streams e in
      ap tuple_slot (head_dropped (read_head options) (stream_keys (streams_at k streams)) (stream_ids (streams_at k streams)))
      ∙ ap (λ q. tuple_slot (stream_keys q ++ stream_ids q)) w.2
      ∙ sym (eqb-true k (hash_slot w.0.key) (filter-head (λ (t : Stream). k == hash_slot t.key) streams w.0 w.1 w.2))

  slots_are : (role : SlotAddr) (ks : List ℕ) (ds : List Dispatch) → AllByRecursion (λ k. among nat_eq k (map (λ (s : Stream). hash_slot s.key) streams) ≡ true) ks → Pairwise IsFor (map (read_part role options streams) ks) ds → map slot_in ds ≡ ks
  slots_are role [] [] a h = refl
  slots_are role [] (d ∷ ds) a h = absurd h
  slots_are role (k ∷ ks) [] a h = absurd h
  slots_are role (k ∷ ks) (d ∷ ds) a h = ap (λ n. n ∷ map slot_in ds) (ap (read_slot options) h.0 ∙ part_slot role k a.0) ∙ ap (λ ns. k ∷ ns) (slots_are role ks ds a.1 h.1)

  -- the dispatches have each slot of the streams once
  sends_read : (role : SlotAddr) (ds : List Dispatch) → Pairwise IsFor (map (read_part role options streams) (stream_slots streams)) ds → map slot_in ds ≡ stream_slots streams
  sends_read role ds h = slots_are role (stream_slots streams) ds (firsts_among (map (λ (s : Stream). hash_slot s.key) streams)) h

  streams_among : (ss : List Stream) → AllByRecursion (λ (s : Stream). among nat_eq (hash_slot s.key) (map (λ (t : Stream). hash_slot t.key) ss) ≡ true) ss
  streams_among [] = tt
  streams_among (s ∷ ss) = (
    ap (λ b. b || among nat_eq (hash_slot s.key) (map (λ (t : Stream). hash_slot t.key) ss)) (eq-eqb (hash_slot s.key) (hash_slot s.key) refl),
    all-weaker _ _ (λ (u : Stream) h. or_right (nat_eq (hash_slot u.key) (hash_slot s.key)) h) ss (streams_among ss),
  )

  pub streams_whole : AllByRecursion (λ (s : Stream). among nat_eq (hash_slot s.key) (stream_slots streams) ≡ true) streams
  streams_whole = all-weaker _ _ (λ (s : Stream) g. among-firsts nat_eq eqb-true (hash_slot s.key) (map (λ (t : Stream). hash_slot t.key) streams) g) streams (streams_among streams)

  -- the plan of the read
  pub plan_reads : (client : Client) (picks : List Address) (call : Call) (ds : List Dispatch) → task_of call ≡ read_of options streams → plan client picks call ≡ Ok ds → map slot_in ds ≡ stream_slots streams
  plan_reads client picks call ds t e = at_early (early_refusal call) (subst at_task t e)
    where
      at_task : Task → Type 0
      at_task task = result_then (unless (early_refusal call) (task_parts client.settings.read_only client.entries task)) (λ parts. result_then (dispatches client picks parts) (λ es. Ok (in_order (order_of task) es))) ≡ Ok ds

      at_sent : (o : Result (List Dispatch) Refusal) → dispatches client picks (read_parts client.settings.read_only options streams) ≡ o → result_then o (λ es. Ok es) ≡ Ok ds → map slot_in ds ≡ stream_slots streams
      at_sent (Ok es) d g = let same : es ≡ ds = cc in subst (λ q. map slot_in q ≡ stream_slots streams) same (sends_read _ es (dispatches_for client (read_parts client.settings.read_only options streams) picks es d))
      at_sent (Err r) d g = cc

      at_early : (o : Option Refusal) → result_then (unless o (Ok (read_parts client.settings.read_only options streams))) (λ parts. result_then (dispatches client picks parts) (λ es. Ok es)) ≡ Ok ds → map slot_in ds ≡ stream_slots streams
      at_early None g = at_sent (dispatches client picks (read_parts client.settings.read_only options streams)) refl g
      at_early (Some r) g = cc

  -- ---- the requests that count, with their steps

  -- what a request of the read asks for, by its arguments
  abbrev pub read_operation : List (List ℕ) → Operation
  read_operation args = task_operation (read_of options streams) args

  abbrev pub IsReadDone : Meaning → Exchange → List Step → Type 0
  IsReadDone meaning x st = IsDoneAs meaning read_operation x st

  abbrev pub slot_named : Exchange → ℕ
  slot_named x = read_slot options x.request.args

  abbrev pub ReadsAllowed : Meaning → Stream → Step → Type 0
  ReadsAllowed meaning s x = DoesRead options s x × Contains meaning x

  pub read_groups : (meaning : Meaning) (xs : List Exchange) (sts : List (List Step)) → Pairwise (IsReadDone meaning) xs sts → Pairwise (λ k st. Pairwise (ReadsAllowed meaning) (streams_at k streams) st) (map slot_named xs) sts
  read_groups meaning [] [] h = tt
  read_groups meaning [] (st ∷ sts) h = absurd h
  read_groups meaning (x ∷ xs) [] h = absurd h
  read_groups meaning (x ∷ xs) (st ∷ sts) h = (pairwise-zip (DoesRead options) (Contains meaning) (streams_at (slot_named x) streams) st h.0.done.0 h.0.allowed, read_groups meaning xs sts h.1)

  pub slots_sent : (ds : List Dispatch) (xs : List Exchange) → Pairwise (λ (d : Dispatch) (x : Exchange). x.request.args ≡ d.args) ds xs → map slot_named xs ≡ map slot_in ds
  slots_sent [] [] h = refl
  slots_sent [] (x ∷ xs) h = absurd h
  slots_sent (d ∷ ds) [] h = absurd h
  slots_sent (d ∷ ds) (x ∷ xs) h = ap (λ a. read_slot options a ∷ map slot_named xs) h.0 ∙ ap (λ q. slot_in d ∷ q) (slots_sent ds xs h.1)

  -- each part's steps are on its slot
  groups_on : (meaning : Meaning) (slots : List ℕ) (sts : List (List Step)) → Pairwise (λ k st. Pairwise (ReadsAllowed meaning) (streams_at k streams) st) slots sts
      → Pairwise (λ k st. AllByRecursion (λ (x : Step). x.slot ≡ k) st) slots sts
  groups_on meaning [] [] h = tt
  groups_on meaning [] (st ∷ sts) h = absurd h
  groups_on meaning (k ∷ ks) [] h = absurd h
  groups_on meaning (k ∷ ks) (st ∷ sts) h = (group_on_slot (λ (s : Stream). hash_slot s.key) (ReadsAllowed meaning) (λ s x q. q.0.slot) k streams st h.0, groups_on meaning ks sts h.1)

  -- the counted requests on one server: the read of their streams in the call's order
  pub record ReadAgain (meaning : Meaning) (moves : List (List Step)) (us : List Stream) (sts : List (List Step)) : Type 0 where
    pub steps : List Step
    pub does : Pairwise (DoesRead options) us steps
    pub allowed : AreAllowed meaning steps
    pub same : (s : ℕ) → on_slot s steps ≡ on_slot s (concat sts)
    pub pieces_are : SamePieces (steps ∷ []) moves

  pub read_again : (meaning : Meaning) (moves : List (List Step)) (slots : List ℕ) (sts : List (List Step)) → IsDistinct nat_eq slots → Pairwise (λ k st. Pairwise (ReadsAllowed meaning) (streams_at k streams) st) slots sts → SamePieces sts moves
      → ReadAgain meaning moves (streams_with slots streams) sts
  read_again meaning moves slots sts distinct h c =
      let us = streams_with slots streams in
      let steps = draw (map (λ (s : Stream). hash_slot s.key) us) (λ s. on_slot s (concat sts)) in
      let r = in_item_order (λ (s : Stream). hash_slot s.key) (ReadsAllowed meaning) (λ s x q. q.0.slot) streams slots sts distinct h in
      let both = pairwise-left (DoesRead options) (Contains meaning) us steps r.0 in
      record {
        steps = steps;
        does = both.0;
        allowed = both.1;
        same = r.1;
        pieces_are = λ s. ap (λ q. with_some q []) (r.1 s) ∙ sym (one_piece slots sts distinct (groups_on meaning slots sts h) s) ∙ c s;
      }

  -- a read by these steps on one server
  pub one_read : (meaning : Meaning) (moves : List (List Step)) (us : List Stream) (sts : List (List Step)) → (r : ReadAgain meaning moves us sts) → ServedIn meaning (ReadKeys options us ∷ []) (Rows (rows_of_steps r.steps) ∷ []) moves
  one_read meaning moves us sts r = (r.steps ∷ [], (((r.does, refl), r.allowed), tt), r.pieces_are)

  pub kept_read : (meaning : Meaning) (moves : List (List Step)) (us : List Stream) (sts : List (List Step)) → ReadAgain meaning moves us sts → (responses : List Response) × ServedIn meaning (read_with options us) responses moves
  kept_read meaning moves [] sts r = ([], ([], tt, subst (λ q. SamePieces (q ∷ []) moves) (none r.steps r.does) r.pieces_are))
    where
      none : (st : List Step) → Pairwise (DoesRead options) [] st → st ≡ []
      none [] h = refl
      none (x ∷ st) h = absurd h
  kept_read meaning moves (u ∷ us) sts r = (Rows (rows_of_steps r.steps) ∷ [], one_read meaning moves (u ∷ us) sts r)
