-- A pipeline that tells of each position is as good as what counts of its commands on one server.
use Rattle.std.proofs.Common.{◌≡◌, ℕ, Bool, List, [], ◌∷◌, ◌++◌, map, filter, take, drop, length, take-append-drop, Result, Ok, Err, MatchResult, refl, sym, ap, ◌∙◌, subst}
use Rattle.std.specs.List.{AllByRecursion}
use Rattle.std.proofs.Math.Seq.{take-append_seam, drop-append_seam, take-nil, drop-nil}
use Rattle.std.proofs.lemmas.List.{take-map, drop-map}
use Rattle.resp_core.specs.Trees.{Tree}
use Rattle.resp_core.specs.Errors.{Refusal}
use Rattle.resp_args.specs.Packed.{sent}
use Rattle.cluster_routing.specs.Address.{Address}
use Rattle.cluster_routing.specs.Lists.{concat, Pairwise}
use Rattle.cluster_calls.specs.Links.Faults.{LinkFault, refusal_by_fault}
use Rattle.cluster_calls.specs.Links.Log.{Exchange, requests}
use Rattle.cluster_calls.specs.Calls.Answer.{Told, answer_of}
use Rattle.cluster_calls.specs.Calls.Call.{Entry, Each}
use Rattle.cluster_calls.specs.Calls.EachInParts.{outcome_by_parts, outcomes_by_parts, positions_told}
use Rattle.cluster_calls.specs.Calls.InParts.{split_at, splits_in, in_parts, part_count}
use Rattle.cluster_calls.specs.Calls.Legal.{IsLegalCall, direct, node_groups}
use Rattle.cluster_calls.specs.Calls.Parts.{result_then}
use Rattle.cluster_calls.specs.Calls.Plan.{Client, Dispatch, plan}
use Rattle.cluster_calls.specs.Calls.Replies.{args_slot, in_pipeline_order, with_slot}
use Rattle.cluster_calls.specs.OneServer.Commands.{kept_of, positions_kept, by_position, IsOutcomeBy, AreOutcomesBy}
use Rattle.cluster_calls.specs.OneServer.Honest.{is_counted}
use Rattle.cluster_calls.specs.OneServer.Keyspace.{Step}
use Rattle.cluster_calls.specs.OneServer.Laws.{GapsNameNoKey, IsGiven}
use Rattle.cluster_calls.specs.OneServer.Meaning.{Meaning}
use Rattle.cluster_calls.specs.OneServer.Operations.{RunCommand, Response, run_each}
use Rattle.cluster_calls.proofs.LogLaws.EachPosition.{LosesItsNode}
use Rattle.cluster_calls.proofs.LogLaws.Gaps.{every_gap_names_no_key}
use Rattle.cluster_calls.proofs.ServerLaws.Calls.{CallServed, kept_none, nothing_done}
use Rattle.cluster_calls.proofs.ServerLaws.Draw.{pairwise-nil}
use Rattle.cluster_calls.proofs.ServerLaws.Grouping.{all-halves, pairwise-split}
use Rattle.cluster_calls.proofs.ServerLaws.OnePosition.{position_served, answered_kept}
use Rattle.cluster_calls.proofs.ServerLaws.Pieces.{SamePieces, AccountsAs, HonestIn, ServedIn, do_all_length, served-append}
use Rattle.cluster_calls.proofs.ServerLaws.PipeOrder.{all_sent_honest, own_in_order}
use Rattle.cluster_calls.proofs.ServerLaws.Pipes.{drawn_none}
use Rattle.cluster_calls.proofs.ServerLaws.PositionOutcomes.{told, position_says}
use Rattle.cluster_calls.proofs.ServerLaws.PositionsAsked.{AskForEach, ask_for_each, entry_exchanges, EachPlanned, each_planned}

-- ---- no exchange, no operation

none_kept : (done : ℕ → Bool) (entries : List Entry) → concat (positions_kept done entries []) ≡ []
none_kept done [] = refl
none_kept done (e ∷ es) =
    ap (λ ys. run_each (kept_of (sent e.command) (filter (is_counted done) ys)) ++ concat (positions_kept done es (drop (part_count (split_at e)) []))) (take-nil (part_count (split_at e)))
    ∙ ap (λ q. run_each q ++ concat (positions_kept done es (drop (part_count (split_at e)) []))) (kept_none (sent e.command))
    ∙ ap (λ ys. concat (positions_kept done es ys)) (drop-nil (part_count (split_at e)))
    ∙ none_kept done es

module _ (faults : Address → LinkFault) (xs : List Exchange) where
  abbrev outcomes : List Entry → List Exchange → List (Result Tree Refusal)
  outcomes entries ys = outcomes_by_parts (splits_in entries) (map (told faults xs) ys)

  -- the first position's outcome is that of its exchanges, and the others' are those of the others
  own_outcome : (e : Entry) (ys : List Exchange)
      → outcome_by_parts (split_at e) (take (part_count (split_at e)) (map (told faults xs) ys)) ≡ outcome_by_parts (split_at e) (map (told faults xs) (take (part_count (split_at e)) ys))
  own_outcome e ys = ap (outcome_by_parts (split_at e)) (take-map (told faults xs) (part_count (split_at e)) ys)

  later_outcomes : (e : Entry) (es : List Entry) (ys : List Exchange)
      → outcomes_by_parts (splits_in es) (drop (part_count (split_at e)) (map (told faults xs) ys)) ≡ outcomes es (drop (part_count (split_at e)) ys)
  later_outcomes e es ys = ap (outcomes_by_parts (splits_in es)) (drop-map (told faults xs) (part_count (split_at e)) ys)

  halves_lose : (n : ℕ) (ys : List Exchange) → AllByRecursion (LosesItsNode xs) ys → AllByRecursion (LosesItsNode xs) (take n ys) × AllByRecursion (LosesItsNode xs) (drop n ys)
  halves_lose n ys h = all-halves (LosesItsNode xs) (take n ys) (drop n ys) (subst (AllByRecursion (LosesItsNode xs)) (sym (take-append-drop n ys)) h)

  -- ---- position by position

  record EachServed (meaning : Meaning) (done : ℕ → Bool) (entries : List Entry) (ys : List Exchange) (moves : List (List Step)) : Type 0 where
    responses : List Response
    served : ServedIn meaning (concat (positions_kept done entries ys)) responses moves
    outcomes_are : AreOutcomesBy (positions_kept done entries ys) (outcomes entries ys) responses

  positions_served : (meaning : Meaning) (done : ℕ → Bool) (entries : List Entry) (ys : List Exchange) → AskForEach entries ys → AllByRecursion (LosesItsNode xs) ys
      → (moves : List (List Step)) → Pairwise (AccountsAs meaning done RunCommand) ys moves → EachServed meaning done entries ys moves
  positions_served meaning done [] ys asked loses moves h =
      let none : moves ≡ [] = pairwise-nil (AccountsAs meaning done RunCommand) moves (subst (λ q. Pairwise (AccountsAs meaning done RunCommand) q moves) asked h) in
      record { responses = []; served = ([], tt, subst (SamePieces []) (sym none) (λ slot. refl)); outcomes_are = refl }
  positions_served meaning done (e ∷ es) ys asked loses moves h =
      let n = part_count (split_at e) in
      let s = pairwise-split (AccountsAs meaning done RunCommand) (take n ys) (drop n ys) moves (subst (λ q. Pairwise (AccountsAs meaning done RunCommand) q moves) (sym (take-append-drop n ys)) h) in
      let lose = halves_lose n ys loses in
      let here = position_served meaning done (sent e.command) (split_at e) (take n ys) asked.0 (outcome_by_parts (split_at e) (map (told faults xs) (take n ys)))
      (position_says faults xs (sent e.command) (split_at e) (take n ys) asked.0 lose.0) s.0 s.3 in
      let later = positions_served meaning done es (drop n ys) asked.1 lose.1 s.1 s.4 in
      let own = run_each (kept_of (sent e.command) (filter (is_counted done) (take n ys))) in
      let count : length own ≡ length here.responses = sym (do_all_length meaning own here.served.0 here.responses here.served.1) in
      let first : take (length own) (here.responses ++ later.responses) ≡ here.responses = ap (λ m. take m (here.responses ++ later.responses)) count ∙ take-append_seam here.responses later.responses in
      let others : drop (length own) (here.responses ++ later.responses) ≡ later.responses = ap (λ m. drop m (here.responses ++ later.responses)) count ∙ drop-append_seam here.responses later.responses in
      record {
        responses = here.responses ++ later.responses;
        served = subst (ServedIn meaning (own ++ concat (positions_kept done es (drop n ys))) (here.responses ++ later.responses)) (sym s.2)
            (served-append meaning own (concat (positions_kept done es (drop n ys))) here.responses later.responses s.0 s.1 here.served later.served);
        outcomes_are = (
          subst (λ q. IsOutcomeBy q (take (length own) (here.responses ++ later.responses))) (sym (own_outcome e ys)) (subst (IsOutcomeBy (outcome_by_parts (split_at e) (map (told faults xs) (take n ys)))) (sym first) here.outcome_is),
          subst (λ q. AreOutcomesBy (positions_kept done es (drop n ys)) q (drop (length own) (here.responses ++ later.responses))) (sym (later_outcomes e es ys))
              (subst (AreOutcomesBy (positions_kept done es (drop n ys)) (outcomes es (drop n ys))) (sym others) later.outcomes_are),
        );
      }

  -- where each position was given, each command counts whole
  given_whole : (done : ℕ → Bool) (entries : List Entry) (ys : List Exchange) → AskForEach entries ys → AllByRecursion (LosesItsNode xs) ys → AllByRecursion IsGiven (outcomes entries ys)
      → positions_kept done entries ys ≡ map (λ (e : Entry). run_each (sent e.command ∷ [])) entries
  given_whole done [] ys asked loses given = refl
  given_whole done (e ∷ es) ys asked loses given =
      let n = part_count (split_at e) in
      let lose = halves_lose n ys loses in
      let says = position_says faults xs (sent e.command) (split_at e) (take n ys) asked.0 lose.0 in
      let all = says.given given.0.0 (sym (own_outcome e ys) ∙ given.0.1) given.0.2 in
      ap (λ q. run_each q ∷ positions_kept done es (drop n ys)) (answered_kept done (sent e.command) (split_at e) (take n ys) asked.0 all.0)
      ∙ ap (λ q. run_each (sent e.command ∷ []) ∷ q) (given_whole done es (drop n ys) asked.1 lose.1 (subst (AllByRecursion IsGiven) (later_outcomes e es ys) given.1))

-- ---- the call

-- what its exchanges in the order of its parts ask for
in_order : (client : Client) (entries : List Entry) (ds : List Dispatch) (xs : List Exchange) → EachPlanned client entries ds → requests xs ≡ map direct (concat (node_groups ds))
    → AskForEach entries (in_pipeline_order (in_parts entries) xs) × AllByRecursion (LosesItsNode xs) (in_pipeline_order (in_parts entries) xs)
in_order client entries ds xs planned asked =
    let ys = in_pipeline_order (in_parts entries) xs in
    let r = entry_exchanges xs (in_parts entries) ds ys planned.facts.1 (own_in_order client (in_parts entries) ds xs planned.facts asked) in
    (ask_for_each entries ys r.0 planned.parts, r.1)

pub each_served : (client : Client) (faults : Address → LinkFault) (meaning : Meaning) (moves : List (List Step)) (done : ℕ → Bool) (picks : List Address) (entries : List Entry) (xs : List Exchange) → GapsNameNoKey
    → IsLegalCall client picks (Each entries) xs → HonestIn meaning done RunCommand xs moves → CallServed meaning done (Each entries) (answer_of client picks faults (Each entries) xs) xs moves
each_served client faults meaning moves done picks entries xs gaps legal honest = by (plan client picks (Each entries)) refl legal
  where
    by : (o : Result (List Dispatch) Refusal) → plan client picks (Each entries) ≡ o → MatchResult o (λ ds. requests xs ≡ map direct (concat (node_groups ds))) (λ refusal. xs ≡ [])
        → CallServed meaning done (Each entries) (result_then o (λ ds. Ok (Told (positions_told (λ node. refusal_by_fault (faults node)) entries xs)))) xs moves
    by (Err refusal) p none =
        let nothing : in_pipeline_order (in_parts entries) xs ≡ [] = ap (in_pipeline_order (in_parts entries)) none ∙ drawn_none (map (λ (x : Entry). args_slot (sent x.command)) (in_parts entries)) (λ slot. with_slot slot []) (λ n. refl) in
        let kept_nothing : concat (by_position done entries xs) ≡ [] = ap (λ ys. concat (positions_kept done entries ys)) nothing ∙ none_kept done entries in
        record {
          responses = [];
          served = subst (λ q. ServedIn meaning q [] moves) (sym kept_nothing) ([], tt, nothing_done meaning moves done RunCommand (subst (λ q. HonestIn meaning done RunCommand q moves) none honest));
          answer_is = tt;
        }
    by (Ok ds) p asked =
        let planned = each_planned gaps client picks entries ds p in
        let order = in_order client entries ds xs planned asked in
        let h = all_sent_honest client meaning done (in_parts entries) ds xs planned.facts asked moves honest in
        let each = positions_served faults xs meaning done entries (in_pipeline_order (in_parts entries) xs) order.0 order.1 h.0 h.1 in
        record {
          responses = each.responses;
          served = (each.served.0, each.served.1, λ slot. each.served.2 slot ∙ h.2 slot);
          answer_is = (positions_told (λ node. refusal_by_fault (faults node)) entries xs, refl, each.outcomes_are);
        }

-- of a call that was answered, and each position given, all of each command counts
pub each_given_counts_whole : (client : Client) (picks : List Address) (faults : Address → LinkFault) (done : ℕ → Bool) (entries : List Entry) (xs : List Exchange) (outcomes : List (Result Tree Refusal)) → IsLegalCall client picks (Each entries) xs
    → answer_of client picks faults (Each entries) xs ≡ Ok (Told outcomes) → AllByRecursion IsGiven outcomes → by_position done entries xs ≡ map (λ (e : Entry). run_each (sent e.command ∷ [])) entries
each_given_counts_whole client picks faults done entries xs outcomes legal answered given = by (plan client picks (Each entries)) refl legal answered
  where
    by : (o : Result (List Dispatch) Refusal) → plan client picks (Each entries) ≡ o → MatchResult o (λ ds. requests xs ≡ map direct (concat (node_groups ds))) (λ refusal. xs ≡ [])
        → result_then o (λ ds. Ok (Told (positions_told (λ node. refusal_by_fault (faults node)) entries xs))) ≡ Ok (Told outcomes) → by_position done entries xs ≡ map (λ (e : Entry). run_each (sent e.command ∷ [])) entries
    by (Err refusal) p none a = cc
    by (Ok ds) p asked a =
        let same : positions_told (λ node. refusal_by_fault (faults node)) entries xs ≡ outcomes = cc in
        let order = in_order client entries ds xs (each_planned every_gap_names_no_key client picks entries ds p) asked in
        given_whole faults xs done entries (in_pipeline_order (in_parts entries) xs) order.0 order.1 (subst (AllByRecursion IsGiven) (sym same) given)
