-- A read in parts is as good as the read on one server.
use Rattle.std.proofs.Common.{◌≡◌, ℕ, Bool, true, false, cond, nat_eq, List, [], ◌∷◌, ◌++◌, map, filter, length, Option, Some, None, Ok, Err, refl, sym, ap, ◌∙◌, subst, arith, ltb-true, eqb-true, eq-eqb}
use Rattle.std.specs.Prelude.{bytes_eq, nat_lt, ◌||◌, ◌==◌, option_map, option_and_then}
use Rattle.std.specs.List.{AllByRecursion}
use Rattle.std.proofs.lemmas.Bool.{false≢true}
use Rattle.std.proofs.lemmas.List.{map-append}
use Rattle.resp_core.specs.Errors.{Refusal}
use Rattle.cluster_routing.specs.Address.{Address}
use Rattle.cluster_routing.specs.HashSlot.{hash_slot}
use Rattle.cluster_routing.specs.Lists.{concat, among, firsts, is_distinct, IsDistinct, Pairwise}
use Rattle.cluster_routing.specs.Policies.{bad_reply, or_bad_reply}
use Rattle.cluster_routing.proofs.Recut.{all-filter}
use Rattle.stream_commands.specs.Join.{all_rows, in_key_order, join}
use Rattle.stream_commands.specs.ReadReply.{Row}
use Rattle.stream_commands.specs.Settings.{ReadSettings}
use Rattle.cluster_calls.proofs.Lists.{all-append}
use Rattle.cluster_calls.specs.Calls.Answer.{Read, answer_of}
use Rattle.cluster_calls.specs.Calls.Call.{Stream, Call}
use Rattle.cluster_calls.specs.Calls.Legal.{IsLegalCall, PartByPart}
use Rattle.cluster_calls.specs.Calls.Parts.{unless}
use Rattle.cluster_calls.specs.Calls.Plan.{Client, Dispatch}
use Rattle.cluster_calls.specs.Calls.Reads.{stream_slots, streams_at, key_places, read_slot, readings, joined, read_rows}
use Rattle.cluster_calls.specs.Calls.Refusals.{part_refusal}
use Rattle.cluster_calls.specs.Calls.Task.{read_of, task_of, stream_keys, are_of_one_slot}
use Rattle.cluster_calls.specs.Links.Faults.{LinkFault}
use Rattle.cluster_calls.specs.Links.Log.{Exchange, is_answered, behind_answers}
use Rattle.cluster_calls.specs.OneServer.Commands.{task_done, task_kept, streams_with, IsTaskAnswer}
use Rattle.cluster_calls.specs.OneServer.Honest.{is_counted}
use Rattle.cluster_calls.specs.OneServer.Keyspace.{Step, on_slot}
use Rattle.cluster_calls.specs.OneServer.Meaning.{Meaning, DoesRead, rows_of_steps}
use Rattle.cluster_calls.specs.OneServer.Operations.{ReadKeys, Rows, task_operation}
use Rattle.cluster_calls.proofs.LogLaws.Plans.{all-weaker}
use Rattle.cluster_calls.proofs.ServerLaws.Calls.{CallServed, served_by}
use Rattle.cluster_calls.proofs.ServerLaws.Counted.{counted_steps, parts_begun, AllDone, parts_done}
use Rattle.cluster_calls.proofs.ServerLaws.Distinct.{firsts_distinct}
use Rattle.cluster_calls.proofs.ServerLaws.PartCall.{filter_all}
use Rattle.cluster_calls.proofs.ServerLaws.Pieces.{SamePieces, AccountsAs, HonestIn, ServedIn, same_on_slot}
use Rattle.cluster_calls.proofs.ServerLaws.ReadParts.{slot_in, slot_named, plan_reads, streams_whole, IsReadDone, read_groups, slots_sent, ReadAgain, read_again, one_read, kept_read}
use Rattle.cluster_calls.proofs.ServerLaws.ReadRows.{join_is, rows_told_by, rows_in_order, all_by_slot}

among-head : (k : ℕ) (xs ys : List ℕ) → among nat_eq k (xs ++ ys) ≡ false → among nat_eq k xs ≡ false
among-head k [] ys h = refl
among-head k (x ∷ xs) ys h = by (nat_eq k x) h (λ g. among-head k xs ys g)
  where
    by : (b : Bool) → (b || among nat_eq k (xs ++ ys)) ≡ false → (among nat_eq k (xs ++ ys) ≡ false → among nat_eq k xs ≡ false) → (b || among nat_eq k xs) ≡ false
    by true h ih = h
    by false h ih = ih h

distinct-head : (xs ys : List ℕ) → IsDistinct nat_eq (xs ++ ys) → IsDistinct nat_eq xs
distinct-head [] ys h = tt
distinct-head (x ∷ xs) ys h = (among-head x xs ys h.0, distinct-head xs ys h.1)

-- ---- streams of one slot

slots_twice : (ss : List Stream) → map hash_slot (stream_keys ss) ≡ map (λ (s : Stream). hash_slot s.key) ss
slots_twice [] = refl
slots_twice (s ∷ ss) = ap (λ q. hash_slot s.key ∷ q) (slots_twice ss)

one_slot : (ss : List Stream) (ks : List ℕ) → nat_lt (length ks) 2 ≡ true → AllByRecursion (λ (s : Stream). among nat_eq (hash_slot s.key) ks ≡ true) ss → (k : ℕ) × AllByRecursion (λ (s : Stream). hash_slot s.key ≡ k) ss
one_slot ss [] l h = (0, all-weaker _ _ (λ s e. absurd (false≢true e)) ss h)
one_slot ss (k ∷ []) l h = (k, all-weaker _ _ (λ (s : Stream) e. eqb-true (hash_slot s.key) k (by (nat_eq (hash_slot s.key) k) e)) ss h)
  where
    by : (b : Bool) → (b || false) ≡ true → b ≡ true
    by true e = refl
    by false e = e
one_slot ss (k ∷ k2 ∷ ks) l h = let g = ltb-true (length (k ∷ k2 ∷ ks)) 2 l in absurd (omega (arith, g))

slot_of_all : (ss : List Stream) (options : ReadSettings) → are_of_one_slot (stream_keys ss) ≡ true → (k : ℕ) × AllByRecursion (λ (s : Stream). hash_slot s.key ≡ k) ss
slot_of_all ss options alone = one_slot ss (stream_slots ss) (ap (λ q. nat_lt (length (firsts nat_eq q)) 2) (sym (slots_twice ss)) ∙ alone) (streams_whole options ss)

slots_of_steps : (options : ReadSettings) (k : ℕ) (ss : List Stream) (st : List Step) → AllByRecursion (λ (s : Stream). hash_slot s.key ≡ k) ss → Pairwise (DoesRead options) ss st → AllByRecursion (λ (x : Step). x.slot ≡ k) st
slots_of_steps options k [] [] a h = tt
slots_of_steps options k [] (x ∷ st) a h = absurd h
slots_of_steps options k (s ∷ ss) [] a h = absurd h
slots_of_steps options k (s ∷ ss) (x ∷ st) a h = (h.0.slot ∙ a.0, slots_of_steps options k ss st a.1 h.1)

all_on_slot : (k : ℕ) (xs : List Step) → AllByRecursion (λ (x : Step). x.slot ≡ k) xs → on_slot k xs ≡ xs
all_on_slot k xs h = filter_all (λ (x : Step). k == x.slot) xs (all-weaker _ _ (λ (x : Step) e. eq-eqb k x.slot (sym e)) xs h)

-- steps of one slot that agree on it are the same
same_steps : (k : ℕ) (xs ys : List Step) → ((s : ℕ) → on_slot s xs ≡ on_slot s ys) → AllByRecursion (λ (x : Step). x.slot ≡ k) xs → xs ≡ ys
same_steps k xs ys same h =
    let other = all_by_slot (λ (x : Step). x.slot ≡ k) ys (λ s. subst (AllByRecursion (λ (x : Step). x.slot ≡ k)) (same s) (all-filter (λ (x : Step). x.slot ≡ k) (λ (x : Step). s == x.slot) xs h)) in
    sym (all_on_slot k xs h) ∙ same k ∙ all_on_slot k ys other

-- where all streams have one slot so have all steps
pub read_on_one : (meaning : Meaning) (done : ℕ → Bool) (options : ReadSettings) (streams : List Stream) → are_of_one_slot (stream_keys streams) ≡ true → (xs : List Exchange) (own : List (List Step))
    → Pairwise (AccountsAs meaning done (task_operation (read_of options streams))) xs own → (k : ℕ) × AllByRecursion (λ (x : Step). x.slot ≡ k) (concat own)
read_on_one meaning done options streams alone xs own h =
    let w = slot_of_all streams options alone in
    let c = counted_steps meaning done (task_operation (read_of options streams)) xs own h in
    let here = all_here w.0 w.1 (filter (is_counted done) xs) c.0 c.1 in
    (w.0, subst (AllByRecursion (λ (x : Step). x.slot ≡ w.0)) (same_steps w.0 (concat c.0) (concat own) (same_on_slot c.0 own c.2) here) here)
  where
    all_here : (k : ℕ) → AllByRecursion (λ (s : Stream). hash_slot s.key ≡ k) streams → (xs : List Exchange) (sts : List (List Step)) → Pairwise (IsReadDone options streams meaning) xs sts → AllByRecursion (λ (x : Step). x.slot ≡ k) (concat sts)
    all_here k a [] [] h = tt
    all_here k a [] (st ∷ sts) h = absurd h
    all_here k a (x ∷ xs) [] h = absurd h
    all_here k a (x ∷ xs) (st ∷ sts) h =
        let slot = read_slot options x.request.args in
        all-append (λ (y : Step). y.slot ≡ k) st (concat sts)
        (slots_of_steps options k (streams_at slot streams) st (all-filter (λ (s : Stream). hash_slot s.key ≡ k) (λ (s : Stream). slot == hash_slot s.key) streams a) h.0.done.0) (all_here k a xs sts h.1)

-- ---- the call

module _ (client : Client) (faults : Address → LinkFault) (meaning : Meaning) (moves : List (List Step)) (done : ℕ → Bool) (picks : List Address) (options : ReadSettings) (streams : List Stream)
    (distinct : is_distinct bytes_eq (stream_keys streams) ≡ true) (call : Call) (is_read : task_of call ≡ read_of options streams) (xs : List Exchange) (honest : HonestIn meaning done (task_operation (read_of options streams)) xs moves) where
  steps : (ts : List (List Step)) × Pairwise (IsReadDone options streams meaning) (filter (is_counted done) xs) ts × SamePieces ts honest.0
  steps = counted_steps meaning done (task_operation (read_of options streams)) xs honest.0 honest.1

  pieces_same : SamePieces steps.0 moves
  pieces_same slot = steps.2 slot ∙ honest.2 slot

  again : IsDistinct nat_eq (map (slot_named options streams) (filter (is_counted done) xs)) → ReadAgain options streams meaning moves (streams_with (map (slot_named options streams) (filter (is_counted done) xs)) streams) steps.0
  again d = read_again options streams meaning moves (map (slot_named options streams) (filter (is_counted done) xs)) steps.0 d (read_groups options streams meaning (filter (is_counted done) xs) steps.0 steps.1) pieces_same

  -- a refused read keeps what was counted
  refused : (r : Refusal) → IsDistinct nat_eq (map (slot_named options streams) (filter (is_counted done) xs)) → CallServed meaning done call (Err r) xs moves
  refused r d =
      let k = kept_read options streams meaning moves (streams_with (map (slot_named options streams) (filter (is_counted done) xs)) streams) steps.0 (again d) in
      record { responses = k.0; served = subst (λ t. ServedIn meaning (task_kept done t xs) k.0 moves) (sym is_read) k.1; answer_is = tt }

  module _ (ds : List Dispatch) (sends : map (slot_in options streams) ds ≡ stream_slots streams) (legal : PartByPart client ds xs) where
    counted_distinct : IsDistinct nat_eq (map (slot_named options streams) (filter (is_counted done) xs))
    counted_distinct =
        let b = parts_begun client done ds xs legal in
        let all = firsts_distinct nat_eq (map (λ (s : Stream). hash_slot s.key) streams) in
        let whole : map (slot_in options streams) b.begun ++ map (slot_in options streams) b.later ≡ stream_slots streams = sym (map-append (slot_in options streams) b.begun b.later) ∙ ap (map (slot_in options streams)) (sym b.all) ∙ sends in
        subst (IsDistinct nat_eq) (sym (slots_sent options streams b.begun (filter (is_counted done) xs) b.args))
        (distinct-head (map (slot_in options streams) b.begun) (map (slot_in options streams) b.later) (subst (IsDistinct nat_eq) (sym whole) all))

    module _ (fine : part_refusal client faults (behind_answers xs) ≡ None) where
      all : AllDone done ds xs
      all = parts_done client faults done ds xs legal fine

      whole : streams_with (map (slot_named options streams) (filter (is_counted done) xs)) streams ≡ streams
      whole =
          ap (λ q. streams_with q streams) (slots_sent options streams ds (filter (is_counted done) xs) all.args ∙ sends)
          ∙ filter_all (λ (s : Stream). among nat_eq (hash_slot s.key) (stream_slots streams)) streams (streams_whole options streams)

      whole_again : ReadAgain options streams meaning moves streams steps.0
      whole_again = subst (λ q. ReadAgain options streams meaning moves q steps.0) whole (again counted_distinct)

      -- an answered read has its record from the server
      told : (rows : List Row) → rows_of_steps whole_again.steps ≡ Some rows → CallServed meaning done call (Ok (Read rows)) xs moves
      told rows e = record {
        responses = Rows (Some rows) ∷ [];
        served = subst (λ t. ServedIn meaning (task_done done t xs) (Rows (Some rows) ∷ []) moves) (sym is_read)
            (subst (λ o. ServedIn meaning (ReadKeys options streams ∷ []) (Rows o ∷ []) moves) e (one_read options streams meaning moves streams steps.0 whole_again));
        answer_is = subst (λ t. IsTaskAnswer done call t xs (Read rows) (Rows (Some rows) ∷ [])) (sym is_read) (rows, refl, refl);
      }

      parts_told : (replies : List (List Row)) → readings (filter is_answered xs) ≡ Some replies → rows_of_steps (concat steps.0) ≡ Some (all_rows replies)
      parts_told replies e = rows_told_by options streams meaning (filter (is_counted done) xs) all.answered steps.0 steps.1 replies (ap readings (sym all.answers) ∙ e)

      several : (replies : List (List Row)) (out : List Row) → readings (filter is_answered xs) ≡ Some replies → out ≡ in_key_order (stream_keys streams) (all_rows replies) → rows_of_steps whole_again.steps ≡ Some out
      several replies out e o =
          rows_in_order options streams meaning (filter (is_counted done) xs) steps.0 steps.1 whole_again.steps whole_again.same whole_again.does distinct (all_rows replies) (parts_told replies e)
          ∙ ap (λ q. Some q) (sym o)

      alone : are_of_one_slot (stream_keys streams) ≡ true → (replies : List (List Row)) → readings (filter is_answered xs) ≡ Some replies → rows_of_steps whole_again.steps ≡ Some (all_rows replies)
      alone l replies e =
          let w = slot_of_all streams options l in
          ap rows_of_steps (same_steps w.0 whole_again.steps (concat steps.0) whole_again.same (slots_of_steps options w.0 streams whole_again.steps w.1 whole_again.does))
          ∙ parts_told replies e

      places : List (List ℕ)
      places = map (λ (x : Exchange). key_places (read_slot options x.request.args) streams) (filter is_answered xs)

      at_one : (o : Option (List (List Row))) → are_of_one_slot (stream_keys streams) ≡ true → readings (filter is_answered xs) ≡ o → CallServed meaning done call (or_bad_reply (option_map Read (option_map all_rows o))) xs moves
      at_one None e f = refused bad_reply counted_distinct
      at_one (Some replies) e f = told (all_rows replies) (alone e replies f)

      at_join : (replies : List (List Row)) → readings (filter is_answered xs) ≡ Some replies → (o : Option (List Row)) → join (stream_keys streams) places replies ≡ o → CallServed meaning done call (or_bad_reply (option_map Read o)) xs moves
      at_join replies f None g = refused bad_reply counted_distinct
      at_join replies f (Some out) g = told out (several replies out f (join_is (stream_keys streams) places replies out g))

      at_several : (o : Option (List (List Row))) → readings (filter is_answered xs) ≡ o → CallServed meaning done call (or_bad_reply (option_map Read (option_and_then (join (stream_keys streams) places) o))) xs moves
      at_several None f = refused bad_reply counted_distinct
      at_several (Some replies) f = at_join replies f (join (stream_keys streams) places replies) refl

      at_rows : (b : Bool) → are_of_one_slot (stream_keys streams) ≡ b
          → CallServed meaning done call (or_bad_reply (option_map Read (cond b (option_map all_rows (readings (filter is_answered xs))) (joined options streams (filter is_answered xs))))) xs moves
      unfolding places
      at_rows true e = at_one (readings (filter is_answered xs)) e refl
      at_rows false e = at_several (readings (filter is_answered xs)) refl

    by_refusal : (o : Option Refusal) → part_refusal client faults (behind_answers xs) ≡ o → CallServed meaning done call (unless o (or_bad_reply (option_map Read (read_rows options streams (filter is_answered xs))))) xs moves
    by_refusal None fine = at_rows fine (are_of_one_slot (stream_keys streams)) refl
    by_refusal (Some r) fine = refused r counted_distinct

  pub read_served : IsLegalCall client picks call xs → CallServed meaning done call (answer_of client picks faults call xs) xs moves
  read_served =
      served_by client faults meaning moves done picks call (read_of options streams) is_read xs
      (λ ds p l. by_refusal ds (plan_reads options streams client picks call ds is_read p) l (part_refusal client faults (behind_answers xs)) refl)
      (λ r l. refused r (subst (λ q. IsDistinct nat_eq (map (slot_named options streams) (filter (is_counted done) q))) (sym l) tt))
