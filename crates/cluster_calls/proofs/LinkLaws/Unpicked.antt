-- A command that was answered without a request has no parts, and so no picks.
use Rattle.std.specs.Prelude.{MatchResult, ◌&&◌, filter_map, nat_eq, nat_lt, slice_get}
use Rattle.std.specs.List.{list_all}
use Rattle.std.proofs.Common.{arith, ◌≡◌, ◌<◌, ◌≤◌, inl, inr, ltb-true, ℕ, suc, Bool, true, false, cond, List, [], ◌∷◌, ◌++◌, length, Option, Some, None, refl, ap, ◌∙◌, subst, Result, Ok, Err}
use Rattle.std.proofs.lemmas.Bool.{and_parts, false≢true}
use Rattle.std.proofs.lemmas.Option.{slice_get_cases}
use Rattle.resp_core.specs.Errors.{Refusal, by_cause}
use Rattle.resp_core.specs.declared.errors.redis_error.Cause.TheVariants.{BadOrder, NoLink}
use Rattle.resp_args.specs.Command.{Command}
use Rattle.cluster_routing.specs.Address.{Address}
use Rattle.cluster_routing.specs.Choice.{Strategy}
use Rattle.cluster_routing.specs.Policies.{or_bad_reply}
use Rattle.cluster_routing.specs.Lists.{among, is_distinct, is_permutation, numbers_below}
use Rattle.cluster_calls.specs.Links.Faults.{LinkFault}
use Rattle.cluster_calls.specs.Links.Happened.{client_of, log_with_replies, CallMade}
use Rattle.cluster_calls.specs.Links.Events.{taken_of}
use Rattle.cluster_calls.specs.Links.Log.{Exchange}
use Rattle.cluster_calls.specs.Links.World.{World, is_linked}
use Rattle.cluster_calls.specs.Calls.Answer.{Answer, answer_of, call_answer}
use Rattle.cluster_calls.specs.Calls.Call.{Call}
use Rattle.cluster_calls.specs.Calls.Legal.{AreMade, IsLegalCall, PartByPart}
use Rattle.cluster_calls.specs.Calls.Parts.{Part, fits_order, if_ordered, parts_of, result_then, unless}
use Rattle.cluster_calls.specs.Calls.Picks.{ArePicks, ArePicksOf}
use Rattle.cluster_calls.specs.Calls.Plan.{Client, Dispatch, First, call_parts, dispatch_one, dispatches, first_of, in_order, order_of, plan, with_first}
use Rattle.cluster_calls.specs.Calls.Refusals.{sent_refusal}
use Rattle.cluster_calls.specs.Calls.Task.{early_refusal, one_command, task_of, Task}
use Rattle.cluster_calls.specs.Calls.TaskParts.{task_parts}
use Rattle.cluster_calls.proofs.LinkLaws.PlainAnswers.{by_task, is_positions}
use Rattle.cluster_calls.proofs.LinkLaws.Played.{plain_played}
use Rattle.cluster_calls.proofs.LogLaws.Plans.{IsFor, dispatches_for}
use Rattle.cluster_calls.proofs.LogLaws.SentOnce.{pair_length}

abbrev no_exchanges : List Exchange
no_exchanges = []

-- ---- no dispatches, no parts

no_front : (d : Dispatch) (r : Result (List Dispatch) Refusal) → with_first d r ≡ Ok [] → ⊥
no_front d (Ok ds) e = cc
no_front d (Err refusal) e = cc

some_dispatch : (links : List Address) (part : Part) (o : Option First) (later : List Address → Result (List Dispatch) Refusal) → dispatch_one links part o later ≡ Ok [] → ⊥
some_dispatch links part None later e = cc
some_dispatch links part (Some first) later e = by (is_linked links first.node) e
  where
    by : (b : Bool) → cond b (with_first (record { node = first.node; args = part.args }) (later first.picks)) (Err (by_cause NoLink)) ≡ Ok [] → ⊥
    by true k = no_front (record { node = first.node; args = part.args }) (later first.picks) k
    by false k = cc

pub no_parts : (client : Client) (picks : List Address) (parts : List Part) → dispatches client picks parts ≡ Ok [] → parts ≡ []
no_parts client picks [] e = refl
no_parts client picks (part ∷ parts) e = absurd (some_dispatch client.links part (first_of client.entries picks part.target) (λ left. dispatches client left parts) e)

-- ---- also in another order

last_holds : (p : ℕ → Bool) (xs : List ℕ) (n : ℕ) → list_all p (xs ++ n ∷ []) ≡ true → p n ≡ true
last_holds p [] n e = (and_parts (p n) true e).0
last_holds p (x ∷ xs) n e = last_holds p xs n (and_parts (p x) (list_all p (xs ++ n ∷ [])) e).1

some_number : (n : ℕ) → is_permutation (suc n) [] ≡ true → ⊥
some_number n e = false≢true (last_holds (λ i. among nat_eq i []) (numbers_below n) n (and_parts (list_all (λ i. among nat_eq i []) (numbers_below (suc n))) true e).0)

no_taken : {T : Type 0} (items : List T) (order : List ℕ) → is_permutation (length items) order ≡ true → filter_map (slice_get items) order ≡ [] → items ≡ []
no_taken [] order p e = refl
no_taken (x ∷ items) [] p e = absurd (some_number (length items) p)
no_taken (x ∷ items) (i ∷ order) p e =
    let n = length (x ∷ items) in
    let numbers = and_parts (list_all (λ k. nat_lt k n) (i ∷ order) && list_all (λ k. among nat_eq k (i ∷ order)) (numbers_below n)) (is_distinct nat_eq (i ∷ order)) p in
    let within = and_parts (list_all (λ k. nat_lt k n) (i ∷ order)) (list_all (λ k. among nat_eq k (i ∷ order)) (numbers_below n)) numbers.0 in
    elim (slice_get_cases (x ∷ items) i).1 as (λ _. x ∷ items ≡ []) [
      | inl at ↦ cc (rw at.2 at e)
      | inr out ↦ absurd (outside (and_parts (nat_lt i n) (list_all (λ k. nat_lt k n) order) within.0).0 out.0)
    ]
  where
    outside : nat_lt i (length (x ∷ items)) ≡ true → length (x ∷ items) ≤ i → ⊥
    outside t out = let less : i < length (x ∷ items) = ltb-true i (length (x ∷ items)) t in omega arith

no_ordered : (order : Option (List ℕ)) (ds : List Dispatch) → fits_order order (length ds) ≡ true → in_order order ds ≡ [] → ds ≡ []
no_ordered None ds f e = e
no_ordered (Some order) ds f e = no_taken ds order f e

-- ---- a call whose parts are sent one after another

module _ (strategy : Option Strategy) (client : Client) (picks : List Address) (call : Call) (task : Task) (is : task_of call ≡ task)
    (unparted : (parts : List Part) → call_parts client call ≡ Ok parts → result_then (dispatches client picks parts) (λ ds. Ok (in_order (order_of task) ds)) ≡ Ok [] → parts ≡ [])
    (goes : (ds : List Dispatch) → AreMade client task ds [] → PartByPart client ds []) where
  no_picks : (s : Option Strategy) → plan client picks call ≡ Ok [] → ArePicks s client call picks → picks ≡ []
  no_picks None p are = are
  no_picks (Some admits) p are = by (call_parts client call) refl p are
    where
      by : (r : Result (List Part) Refusal) → call_parts client call ≡ r → result_then r (λ parts. result_then (dispatches client picks parts) (λ ds. Ok (in_order (order_of (task_of call)) ds))) ≡ Ok [] → ArePicksOf admits client r picks → picks ≡ []
      by (Err refusal) e k h = cc
      by (Ok parts) e k h =
          let none = unparted parts e (subst (λ t. result_then (dispatches client picks parts) (λ ds. Ok (in_order (order_of t) ds)) ≡ Ok []) is k) in
          subst (λ ps. ArePicksOf admits client (Ok ps) picks) none h

  unsent_unpicked : (faults : Address → LinkFault) (a : Answer) → IsLegalCall client picks call [] → Ok a ≡ answer_of client picks faults call [] → ArePicks strategy client call picks → picks ≡ []
  unsent_unpicked faults a legal answered are = by (plan client picks call) refl legal answered
    where
      told : List Dispatch → Result Answer Refusal
      told ds = unless (sent_refusal client faults (task_of call) []) (or_bad_reply (call_answer faults call []))

      made : (ds : List Dispatch) → PartByPart client ds [] → ds ≡ []
      made [] h = refl
      made (d ∷ ds) h = absurd h

      by : (r : Result (List Dispatch) Refusal) → plan client picks call ≡ r → MatchResult r (λ ds. AreMade client (task_of call) ds []) (λ refusal. no_exchanges ≡ []) → Ok a ≡ result_then r told → picks ≡ []
      by (Err refusal) p h k = cc
      by (Ok ds) p h k = no_picks strategy (p ∙ ap (λ es. Ok es) (made ds (goes ds (subst (λ t. AreMade client t ds []) is h)))) are

-- one that was answered without a request shows no picks
pub parts_unpicked : (strategy : Option Strategy) (old new : World) (call : Call) (task : Task) → task_of call ≡ task → is_positions task ≡ false
    → ((parts : List Part) → call_parts (client_of old) call ≡ Ok parts → result_then (dispatches (client_of old) new.picked parts) (λ ds. Ok (in_order (order_of task) ds)) ≡ Ok [] → parts ≡ []) → ((ds : List Dispatch) → AreMade (client_of old) task ds [] → PartByPart (client_of old) ds [])
    → (a : Answer) → CallMade strategy old new call (Ok a) → new.log ≡ [] → new.picked ≡ []
parts_unpicked strategy old new call task is plain unparted goes a m none =
    let p = plain_played strategy old new call (Ok a) (by_task call task is plain) m (λ k. cc k) in
    unsent_unpicked strategy (client_of old) new.picked call task is unparted goes p.faults a
    (subst (λ qs. IsLegalCall (client_of old) new.picked call (log_with_replies (taken_of m.happened.events) qs)) none p.legal)
    (subst (λ qs. Ok a ≡ answer_of (client_of old) new.picked p.faults call (log_with_replies (taken_of m.happened.events) qs)) none p.answered)
    (m.answered (λ k. cc k)).picks

-- ---- a command

module _ (client : Client) (picks : List Address) (call : Call) (command : Command) (number : ℕ) (order : Option (List ℕ)) (task : task_of call ≡ one_command command number order) where
  fits : (parts : List Part) → call_parts client call ≡ Ok parts → fits_order order (length parts) ≡ true
  fits parts e = by_early (early_refusal call) (subst (λ t. unless (early_refusal call) (task_parts client.settings.read_only client.entries t) ≡ Ok parts) task e)
    where
      by_fit : (q : List Part) (b : Bool) → fits_order order (length q) ≡ b → cond {A = Result (List Part) Refusal} b (Ok q) (Err (by_cause BadOrder)) ≡ Ok parts → fits_order order (length parts) ≡ true
      by_fit q true f k = let same : q ≡ parts = cc in subst (λ ps. fits_order order (length ps) ≡ true) same f
      by_fit q false f k = cc

      by_parts : (r : Result (List Part) Refusal) → result_then r (if_ordered order) ≡ Ok parts → fits_order order (length parts) ≡ true
      by_parts (Ok q) k = by_fit q (fits_order order (length q)) refl k
      by_parts (Err refusal) k = cc

      by_early : (o : Option Refusal) → unless o (result_then (parts_of client.settings.read_only command number) (if_ordered order)) ≡ Ok parts → fits_order order (length parts) ≡ true
      by_early None k = by_parts (parts_of client.settings.read_only command number) k
      by_early (Some refusal) k = cc

  unparted : (parts : List Part) → call_parts client call ≡ Ok parts → (r : Result (List Dispatch) Refusal) → dispatches client picks parts ≡ r → result_then r (λ ds. Ok (in_order order ds)) ≡ Ok [] → parts ≡ []
  unparted parts e (Err refusal) d k = cc
  unparted parts e (Ok ds) d k =
      let sent : in_order order ds ≡ [] = cc in
      let none = no_ordered order ds (subst (λ n. fits_order order n ≡ true) (pair_length IsFor parts ds (dispatches_for client parts picks ds d)) (fits parts e)) sent in
      no_parts client picks parts (d ∙ ap (λ es. Ok es) none)

-- a command that was answered without a request shows no picks
pub answered_unpicked : (strategy : Option Strategy) (old new : World) (call : Call) (command : Command) (number : ℕ) (order : Option (List ℕ)) → task_of call ≡ one_command command number order → (a : Answer)
    → CallMade strategy old new call (Ok a) → new.log ≡ [] → new.picked ≡ []
answered_unpicked strategy old new call command number order task =
    parts_unpicked strategy old new call (one_command command number order) task refl
    (λ parts e. unparted (client_of old) new.picked call command number order task parts e (dispatches (client_of old) new.picked parts) refl) (λ ds h. h)
