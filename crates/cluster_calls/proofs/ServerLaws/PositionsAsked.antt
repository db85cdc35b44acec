-- What the exchanges of each position of a pipeline that tells of each ask for: its command whole, or its parts.
use Rattle.std.proofs.Common.{◌≡◌, ℕ, Bool, true, false, nat_eq, List, [], ◌∷◌, map, take, drop, length, Option, Some, None, Result, Ok, Err, refl, sym, ap, ◌∙◌, subst, eqb-true}
use Rattle.std.specs.List.{AllByRecursion}
use Rattle.std.proofs.Math.Seq.{take-append_seam, drop-append_seam}
use Rattle.std.proofs.lemmas.List.{length-map}
use Rattle.std.proofs.lemmas.Simd.{map-map}
use Rattle.resp_core.specs.Errors.{Refusal}
use Rattle.resp_args.specs.Packed.{sent}
use Rattle.cluster_routing.specs.Address.{Address}
use Rattle.cluster_routing.specs.Lists.{among, Pairwise}
use Rattle.cluster_routing.specs.Parts.{Tuple, tuple_slot}
use Rattle.cluster_routing.specs.Split.{Split, split_of, part_slots, sub}
use Rattle.cluster_routing.specs.declared.route.SlotAddr.TheVariants.{Master}
use Rattle.cluster_routing.proofs.Recut.{cut_of}
use Rattle.cluster_calls.specs.Links.Log.{Exchange}
use Rattle.cluster_calls.specs.Links.Request.{Request}
use Rattle.cluster_calls.specs.Calls.Call.{Entry, Each}
use Rattle.cluster_calls.specs.Calls.InParts.{split_at, part_entry, entries_by, in_parts, part_count, first_unplaced}
use Rattle.cluster_calls.specs.Calls.Parts.{Part, slot_part, parts_of, if_one_slot, whole_part, reads_several_slots, pipeline_parts, result_then, unless}
use Rattle.cluster_calls.specs.Calls.Plan.{Client, Dispatch, dispatches, plan}
use Rattle.cluster_calls.specs.Calls.Replies.{args_slot, exchange_slot, slot_by, first_tuple_slot}
use Rattle.cluster_calls.specs.OneServer.Commands.{split_with, kept_by, kept_of}
use Rattle.cluster_calls.specs.OneServer.Laws.{GapsNameNoKey}
use Rattle.cluster_calls.proofs.LogLaws.EachInParts.{HasPart, have_parts, sent_as_they_are, split_is}
use Rattle.cluster_calls.proofs.LogLaws.EachPosition.{IsItsOwn, LosesItsNode}
use Rattle.cluster_calls.proofs.LogLaws.PipePlans.{one_part, pipeline_parts_are, pipeline_nodes}
use Rattle.cluster_calls.proofs.LogLaws.Plans.{IsFor, dispatches_for, sends_parts, part_slots_are, firsts_among, tuples_among, all-weaker, split_parts_are}
use Rattle.cluster_calls.proofs.ServerLaws.Distinct.{among-firsts}
use Rattle.cluster_calls.proofs.ServerLaws.Draw.{pairwise-nil}
use Rattle.cluster_calls.proofs.ServerLaws.Grouping.{all-halves, pairwise-length, pairwise-split}
use Rattle.cluster_calls.proofs.ServerLaws.OnePosition.{AskFor, its_dispatch, split_with_all}
use Rattle.cluster_calls.proofs.ServerLaws.PartCall.{filter_all}
use Rattle.cluster_calls.proofs.ServerLaws.Pipes.{IsPipeDispatch, IsEntryDispatch, dispatch_facts}

-- position by position, each with so many of the exchanges
abbrev pub AskForEach : List Entry → List Exchange → Type 0
AskForEach [] ys = ys ≡ []
AskForEach (e ∷ es) ys = AskFor (sent e.command) (split_at e) (take (part_count (split_at e)) ys) × AskForEach es (drop (part_count (split_at e)) ys)

abbrev pub IsEntryExchange : Entry → Exchange → Type 0
IsEntryExchange e y = y.request.args ≡ sent e.command

-- ---- a command that goes whole

only_part : (e : Entry) → HasPart e → (p : Part) × (parts_of [] e.command 0 ≡ Ok (p ∷ []))
only_part e has = by (reads_several_slots e.command.args) (parts_of [] e.command 0) refl has.1
  where
    by : (b : Bool) (r : Result (List Part) Refusal) → parts_of [] e.command 0 ≡ r → if_one_slot b (whole_part (sent e.command) r) ≡ Some has.0 → (p : Part) × (parts_of [] e.command 0 ≡ Ok (p ∷ []))
    by true r q k = cc
    by false (Err refusal) q k = cc
    by false (Ok []) q k = cc
    by false (Ok (p ∷ [])) q k = (p, q)
    by false (Ok (p ∷ p2 ∷ ps)) q k = cc

first_is : (ts : List Tuple) (k : ℕ) → (t : Tuple) × (us : List Tuple) × (ts ≡ t ∷ us) → part_slots ts ≡ k ∷ [] → first_tuple_slot ts ≡ k
first_is [] k some e = cc
first_is (t ∷ ts) k some e = cc

-- of a command of one slot the whole is kept
one_slot_kept : (e : Entry) → HasPart e → (y : Exchange) → IsEntryExchange e y → kept_of (sent e.command) (y ∷ []) ≡ sent e.command ∷ []
one_slot_kept e has y a = by (split_of (sent e.command)) refl
  where
    by : (o : Option Split) → split_of (sent e.command) ≡ o → kept_of (sent e.command) (y ∷ []) ≡ sent e.command ∷ []
    by None s = ap (λ o. kept_by (sent e.command) o (y ∷ [])) s
    by (Some split) s =
        let p = only_part e has in
        let k = one_part e.command p.0 p.1 split (part_slots split.tuples) (split_parts_are [] e.command 0 (p.0 ∷ []) split s p.1) in
        let slot : exchange_slot y ≡ k.0 = ap args_slot a ∙ ap (slot_by (sent e.command)) s ∙ first_is split.tuples k.0 (cut_of (sent e.command) split s).some k.1 in
        let all = all-weaker (λ t. among nat_eq (tuple_slot t) (map tuple_slot split.tuples) ≡ true) (λ t. among nat_eq (tuple_slot t) (exchange_slot y ∷ []) ≡ true)
        (λ t g. subst (λ q. among nat_eq (tuple_slot t) q ≡ true) (k.1 ∙ ap (λ n. n ∷ []) (sym slot)) (among-firsts nat_eq eqb-true (tuple_slot t) (map tuple_slot split.tuples) g)) split.tuples (tuples_among split.tuples) in
        ap (λ o. kept_by (sent e.command) o (y ∷ [])) s ∙ ap (split_with split) (filter_all (λ t. among nat_eq (tuple_slot t) (exchange_slot y ∷ [])) split.tuples all) ∙ split_with_all (sent e.command) split s

-- ---- one position

for_parts : (split : Split) (ks : List ℕ) (ys : List Exchange) → Pairwise IsEntryExchange (map (part_entry split) ks) ys → Pairwise IsFor (map (slot_part Master split) ks) (map its_dispatch ys)
for_parts split [] [] h = tt
for_parts split [] (y ∷ ys) h = absurd h
for_parts split (k ∷ ks) [] h = absurd h
for_parts split (k ∷ ks) (y ∷ ys) h = (h.0 ∙ sent_as_they_are 0 (sub split k), for_parts split ks ys h.1)

ask_for : (e : Entry) (o : Option Split) → split_at e ≡ o → (ys : List Exchange) → Pairwise IsEntryExchange (entries_by e o) ys → AllByRecursion HasPart (entries_by e o) → AskFor (sent e.command) o ys
ask_for e None s [] h has = absurd h
ask_for e None s (y ∷ y2 ∷ ys) h has = absurd h.1
ask_for e None s (y ∷ []) h has = (y, refl, h.0, one_slot_kept e has.0 y h.0)
ask_for e (Some split) s ys h has =
    let is = split_is (parts_of [] e.command 0) (split_of (sent e.command)) split s in
    let for_each = for_parts split (part_slots split.tuples) ys h in (
      is,
      sends_parts (sent e.command) split is Master (map its_dispatch ys) for_each,
      sym (map-map (λ (d : Dispatch). args_slot d.args) its_dispatch ys) ∙ part_slots_are (sent e.command) split is Master (part_slots split.tuples) (map its_dispatch ys) (firsts_among (map tuple_slot split.tuples)) for_each,
    )

-- ---- all positions

as_many : (e : Entry) (o : Option Split) → length (entries_by e o) ≡ part_count o
as_many e None = refl
as_many e (Some split) = length-map (part_slots split.tuples) (part_entry split)

pub ask_for_each : (entries : List Entry) (ys : List Exchange) → Pairwise IsEntryExchange (in_parts entries) ys → AllByRecursion HasPart (in_parts entries) → AskForEach entries ys
ask_for_each [] ys h has = pairwise-nil IsEntryExchange ys h
ask_for_each (e ∷ es) ys h has =
    let r = pairwise-split IsEntryExchange (entries_by e (split_at e)) (in_parts es) ys h in
    let both = all-halves HasPart (entries_by e (split_at e)) (in_parts es) has in
    let count : part_count (split_at e) ≡ length r.0 = sym (as_many e (split_at e)) ∙ pairwise-length IsEntryExchange (entries_by e (split_at e)) r.0 r.3 in
    let own : take (part_count (split_at e)) ys ≡ r.0 = ap (λ n. take n ys) count ∙ ap (take (length r.0)) r.2 ∙ take-append_seam r.0 r.1 in
    let later : drop (part_count (split_at e)) ys ≡ r.1 = ap (λ n. drop n ys) count ∙ ap (drop (length r.0)) r.2 ∙ drop-append_seam r.0 r.1 in (
      subst (AskFor (sent e.command) (split_at e)) (sym own) (ask_for e (split_at e) refl r.0 r.3 both.0),
      subst (AskForEach es) (sym later) (ask_for_each es r.1 r.4 both.1),
    )

-- ---- by the plan

pub entry_exchanges : (xs : List Exchange) (es : List Entry) (ds : List Dispatch) (ys : List Exchange) → Pairwise IsEntryDispatch es ds → Pairwise (IsItsOwn xs) ds ys → Pairwise IsEntryExchange es ys × AllByRecursion (LosesItsNode xs) ys
entry_exchanges xs [] [] [] h k = (tt, tt)
entry_exchanges xs [] [] (y ∷ ys) h k = absurd k
entry_exchanges xs [] (d ∷ ds) ys h k = absurd h
entry_exchanges xs (e ∷ es) [] ys h k = absurd h
entry_exchanges xs (e ∷ es) (d ∷ ds) [] h k = absurd k
entry_exchanges xs (e ∷ es) (d ∷ ds) (y ∷ ys) h k =
    let r = entry_exchanges xs es ds ys h.1 k.1 in
    ((ap (λ (q : Request). q.args) k.0.0 ∙ h.0.args, r.0), (k.0.1, r.1))

-- the dispatches of the parts of all positions
pub record EachPlanned (client : Client) (entries : List Entry) (ds : List Dispatch) : Type 0 where
  pub parts : AllByRecursion HasPart (in_parts entries)
  pub facts : AllByRecursion (IsPipeDispatch client) ds × Pairwise IsEntryDispatch (in_parts entries) ds

pub each_planned : GapsNameNoKey → (client : Client) (picks : List Address) (entries : List Entry) (ds : List Dispatch) → plan client picks (Each entries) ≡ Ok ds → EachPlanned client entries ds
each_planned gaps client picks entries ds e = by (first_unplaced 0 entries) (pipeline_parts 0 (in_parts entries)) refl e
  where
    sent_by : (parts : List Part) → pipeline_parts 0 (in_parts entries) ≡ Ok parts → (o : Result (List Dispatch) Refusal) → dispatches client picks parts ≡ o → result_then o (λ es. Ok es) ≡ Ok ds → EachPlanned client entries ds
    sent_by parts p (Err refusal) d f = cc
    sent_by parts p (Ok es) d f =
        let same : es ≡ ds = cc in
        let w = pipeline_parts_are gaps (in_parts entries) 0 parts p in
        subst (EachPlanned client entries) same (record {
          parts = have_parts (in_parts entries) 0 parts p;
          facts = dispatch_facts client (in_parts entries) parts es w (dispatches_for client parts picks es d) (pipeline_nodes client (in_parts entries) parts picks es w d);
        })

    by : (o : Option Refusal) (r : Result (List Part) Refusal) → pipeline_parts 0 (in_parts entries) ≡ r → result_then (unless o r) (λ parts. result_then (dispatches client picks parts) (λ es. Ok es)) ≡ Ok ds → EachPlanned client entries ds
    by (Some refusal) r p f = cc
    by None (Err refusal) p f = cc
    by None (Ok parts) p f = sent_by parts p (dispatches client picks parts) refl f
