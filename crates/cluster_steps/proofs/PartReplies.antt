-- The reply to a command from those of its parts, where its plan is there.
use Rattle.std.specs.List.{AllByRecursion, list_all, list_any}
use Rattle.std.specs.Prelude.{filter_map, slice_get, nat_lt, IfSome}
use Rattle.std.proofs.lemmas.Bool.Decides.{nat_tests}
use Rattle.std.proofs.lemmas.List.{length-map}
use Rattle.std.proofs.Common.{◌≡◌, ℕ, zero, suc, Bool, true, false, cond, List, [], ◌∷◌, map, length, Option, Some, None, option_map, refl, sym, ap, ◌∙◌, subst, Result, Ok, Err, nat_eq, arith}
use Rattle.resp_core.specs.Trees.{Tree}
use Rattle.resp_core.specs.View.{view}
use Rattle.resp_core.specs.declared.value.Value.{Value}
use Rattle.resp_core.specs.Errors.{Refusal, by_cause}
use Rattle.resp_core.specs.declared.errors.redis_error.Cause.TheVariants.{NoResponse, CursorInSplit, BadOrder}
use Rattle.resp_args.specs.Command.{Command}
use Rattle.resp_args.specs.Packed.{sent}
use Rattle.cluster_routing.specs.Address.{Address}
use Rattle.cluster_routing.specs.Choice.{Strategy}
use Rattle.cluster_routing.specs.Info.{shown_part, shown_split}
use Rattle.cluster_routing.specs.Combine.{IsCutInto, combine, part_replies, slots_by}
use Rattle.cluster_routing.specs.Lists.{Pairwise, among, is_distinct, is_permutation, numbers_below}
use Rattle.cluster_routing.specs.Parts.{argument_slots, places_from, tuple_slot}
use Rattle.cluster_routing.specs.Policies.{or_bad_reply, tree_or_refusal}
use Rattle.cluster_routing.specs.Routing.{Destination, destination, name_of, route_to}
use Rattle.cluster_routing.specs.declared.route.Route.{Route}
use Rattle.cluster_routing.specs.declared.split.SplitParts.{SplitParts}
use Rattle.cluster_routing.specs.declared.route.SlotAddr.{SlotAddr}
use Rattle.cluster_routing.specs.Split.{Split, Splitting, PartsByPlace, split_of, has_split_word, part_places, part_slots, split_by_place, parts_by_place}
use Rattle.cluster_routing.proofs.Marks.{below_front}
use Rattle.cluster_calls.specs.Calls.Task.{one_command}
use Rattle.cluster_calls.specs.Calls.Parts.{Part, fits_order, if_ordered, is_gap, parts_of, only_part, result_then, role_by, split_parts}
use Rattle.cluster_calls.specs.Calls.Plan.{Client, Dispatch, in_order, plan}
use Rattle.cluster_calls.specs.Calls.Replies.{args_slot, reply_by_split, reply_of_parts}
use Rattle.cluster_steps.specs.Dispatches.{AreDispatched}
use Rattle.cluster_calls.specs.Links.World.{tree_result}
use Rattle.cluster_calls.specs.Links.Orders.{command_call, routes_in_order}
use Rattle.cluster_calls.specs.Links.PartRuns.{replies_with_slots}
use Rattle.cluster_steps.proofs.Dispatched.{command_task}
use Rattle.cluster_calls.proofs.LinkLaws.Ordering.{made_in_order, one_in_order}
use Rattle.cluster_routing.proofs.DirectionViews.{unsplit}
use Rattle.cluster_steps.proofs.SplitCommands.{cut_bytes}
use Rattle.cluster_calls.proofs.LogLaws.Planned.{Planned, planned}
use Rattle.cluster_calls.proofs.LogLaws.Plans.{IsFor, dispatches_for, firsts_among, not_split, part_slots_are, role, split_parts_are, whole_part_is}
use Rattle.cluster_calls.proofs.LogLaws.SentOnce.{pair_length}

-- a command with parts is cut as its arguments on the wire are
pub cut_so : (read_only : List (List ℕ)) (command : Command) (number : ℕ) (parts : List Part) → parts_of read_only command number ≡ Ok parts → parts_by_place command.args read_only ≡ option_map (split_by_place read_only) (split_of (sent command))
cut_so read_only command number parts e = by command.no_response (has_split_word command.args) refl (list_any is_gap command.args) refl e
  where
    Goal : Type 0
    Goal = parts_by_place command.args read_only ≡ option_map (split_by_place read_only) (split_of (sent command))

    routed : has_split_word command.args ≡ false → (o : Option Destination) → destination command.args read_only ≡ o → only_part (sent command) number o ≡ Ok parts → Goal
    routed w None r f = cc
    routed w (Some d) r f = sym (unsplit read_only command.args w) ∙ ap (option_map (split_by_place read_only)) (sym (not_split command.args _ read_only d w r))

    by : (a b : Bool) → has_split_word command.args ≡ b → (c : Bool) → list_any is_gap command.args ≡ c
        → cond a (Err (by_cause NoResponse)) (cond b (cond c (Err (by_cause CursorInSplit)) (split_parts (role_by (name_of command.args) read_only) (split_of (sent command)))) (only_part (sent command) number (destination command.args read_only))) ≡ Ok parts → Goal
    by true b w c g f = cc
    by false true w true g f = cc
    by false true w false g f = cut_bytes read_only command g
    by false false w c g f = routed w (destination command.args read_only) refl f

-- ---- a command that is its own part

alone : (ds : List Dispatch) (trees : List Tree) → length ds ≡ 1 → length trees ≡ 1 → (d : Dispatch) × (tree : Tree) × (ds ≡ d ∷ []) × (trees ≡ tree ∷ [])
alone (d ∷ []) (tree ∷ []) e f = (d, tree, refl, refl)
alone [] trees e f = cc
alone (d ∷ d' ∷ ds) trees e f = cc
alone (d ∷ []) [] e f = cc
alone (d ∷ []) (t ∷ t' ∷ trees) e f = cc

one_tree : (args : List (List ℕ)) (ds : List Dispatch) (trees : List Tree) (d : Dispatch) (tree : Tree) → split_of args ≡ None → ds ≡ d ∷ [] → trees ≡ tree ∷ []
    → or_bad_reply (slice_get trees 0) ≡ or_bad_reply (reply_of_parts args (replies_with_slots ds trees))
one_tree args ds trees d tree s e f = rw (s, e, f) refl

-- ---- all numbers in order

later : {A : Type 0} (x : A) (xs : List A) (ns : List ℕ) → filter_map (slice_get (x ∷ xs)) (map (λ i. suc i) ns) ≡ filter_map (slice_get xs) ns
later x xs [] = refl
later x xs (n ∷ ns) = rw (later x xs ns) refl

every_place : {A : Type 0} (xs : List A) → filter_map (slice_get xs) (numbers_below (length xs)) ≡ xs
every_place [] = refl
every_place (x ∷ xs) = rw (below_front (length xs), later x xs (numbers_below (length xs)), every_place xs) refl

same_suc : (p q : ℕ) → nat_eq (suc q) (suc p) ≡ nat_eq q p
same_suc p q = grind (arith, nat_tests)

none_first : (p : ℕ) → nat_eq 0 (suc p) ≡ false
none_first p = grind (arith, nat_tests)

not_first : (p : ℕ) → nat_eq (suc p) 0 ≡ false
not_first p = grind (arith, nat_tests)

less_suc : (p n : ℕ) → nat_lt (suc p) (suc n) ≡ nat_lt p n
less_suc p n = grind (arith, nat_tests)

first_less : (n : ℕ) → nat_lt 0 (suc n) ≡ true
first_less n = grind (arith, nat_tests)

no_front : (ns : List ℕ) → among nat_eq 0 (map (λ i. suc i) ns) ≡ false
no_front [] = refl
no_front (n ∷ ns) = rw (none_first n) (no_front ns)

among_next : (n : ℕ) (ns : List ℕ) → among nat_eq (suc n) (map (λ i. suc i) ns) ≡ among nat_eq n ns
among_next n [] = refl
among_next n (m ∷ ns) = rw (same_suc m n, among_next n ns) refl

distinct_next : (ns : List ℕ) → is_distinct nat_eq (map (λ i. suc i) ns) ≡ is_distinct nat_eq ns
distinct_next [] = refl
distinct_next (n ∷ ns) = rw (among_next n ns, distinct_next ns) refl

below_distinct : (n : ℕ) → is_distinct nat_eq (numbers_below n) ≡ true
below_distinct zero = refl
below_distinct (suc n) = rw (below_front n, no_front (numbers_below n), distinct_next (numbers_below n)) (below_distinct n)

small_next : (n : ℕ) (ns : List ℕ) → list_all (λ i. nat_lt i (suc n)) (map (λ i. suc i) ns) ≡ list_all (λ i. nat_lt i n) ns
small_next n [] = refl
small_next n (m ∷ ns) = rw (less_suc m n, small_next n ns) refl

below_small : (n : ℕ) → list_all (λ i. nat_lt i n) (numbers_below n) ≡ true
below_small zero = refl
below_small (suc n) = rw (below_front n, first_less n) (small_next n (numbers_below n) ∙ below_small n)

there_next : (ms ns : List ℕ) → list_all (λ i. among nat_eq i (0 ∷ map (λ k. suc k) ms)) (map (λ i. suc i) ns) ≡ list_all (λ i. among nat_eq i ms) ns
there_next ms [] = refl
there_next ms (n ∷ ns) = rw (not_first n, among_next n ms, there_next ms ns) refl

below_there : (n : ℕ) → list_all (λ i. among nat_eq i (numbers_below n)) (numbers_below n) ≡ true
below_there zero = refl
below_there (suc n) = rw (below_front n) (there_next (numbers_below n) (numbers_below n) ∙ below_there n)

all_in_order : (n : ℕ) → is_permutation n (numbers_below n) ≡ true
all_in_order n = rw (below_small n, below_there n, below_distinct n) refl

-- ---- replies with the slots of their parts

same_replies : (ds : List Dispatch) (slots : List ℕ) (trees : List Tree) → map (λ (d : Dispatch). args_slot d.args) ds ≡ slots → replies_with_slots ds trees ≡ part_replies slots trees
same_replies [] slots trees e = rw (← e) refl
same_replies (d ∷ ds) slots [] e = rw (← e) refl
same_replies (d ∷ ds) slots (tree ∷ trees) e = rw (← e) (ap (λ rs. record { slot = args_slot d.args; tree = tree } ∷ rs) (same_replies ds _ trees refl))

places_of : (addr : SlotAddr) (split : Split) (slots : List ℕ) → map (λ (r : Route × List ℕ). r.1) (map (λ slot. (route_to addr slot, part_places slot split.tuples)) slots) ≡ map (λ slot. places_from slot 0 (argument_slots split.tuples)) slots
places_of addr split [] = refl
places_of addr split (slot ∷ slots) = ap (λ ps. part_places slot split.tuples ∷ ps) (places_of addr split slots)

abbrev made_parts : List Part → Result (List Part) Refusal
made_parts parts = Ok parts

-- a call has the parts of its command, and its order fits them
if_fit : (order : Option (List ℕ)) (r : Result (List Part) Refusal) (parts : List Part) → result_then r (if_ordered order) ≡ Ok parts → (r ≡ Ok parts) × (fits_order order (length parts) ≡ true)
if_fit order (Err refusal) parts e = cc
if_fit order (Ok q) parts e = by (fits_order order (length q)) refl e
  where
    by : (b : Bool) → fits_order order (length q) ≡ b → cond b (made_parts q) (Err (by_cause BadOrder)) ≡ Ok parts → (made_parts q ≡ Ok parts) × (fits_order order (length parts) ≡ true)
    by true f k = let same : q ≡ parts = cc in (k, subst (λ ps. fits_order order (length ps) ≡ true) same f)
    by false f k = cc

firsts_among_slots : (split : Split) → AllByRecursion (λ s. among nat_eq s (map tuple_slot split.tuples) ≡ true) (part_slots split.tuples)
firsts_among_slots split = firsts_among (map tuple_slot split.tuples)

-- ---- the parts' numbers in the order of sending

abbrev pub numbers_of : Option (List ℕ) → ℕ → List ℕ
numbers_of None n = numbers_below n
numbers_of (Some order) n = order

numbers_fit : (order : Option (List ℕ)) (n : ℕ) → fits_order order n ≡ true → is_permutation n (numbers_of order n) ≡ true
numbers_fit None n e = all_in_order n
numbers_fit (Some order) n e = e

by_numbers : {A : Type 0} (order : Option (List ℕ)) (xs : List A) → in_order order xs ≡ filter_map (slice_get xs) (numbers_of order (length xs))
by_numbers None xs = sym (every_place xs)
by_numbers (Some order) xs = refl

-- ---- the reply, by the plan of a command's call

single : {A : Type 0} (xs : List A) → length xs ≡ 1 → (x : A) × (xs ≡ x ∷ [])
single (x ∷ []) e = (x, refl)
single [] e = cc
single (x ∷ x' ∷ xs) e = cc

module _ (client : Client) (picks : List Address) (command : Command) (order : Option (List ℕ)) (number : ℕ) (ds : List Dispatch) (is_plan : plan client picks (command_call command order number) ≡ Ok ds) where
  abbrev p : Planned client picks (one_command command number order) ds
  p = subst (λ task. Planned client picks task ds) (command_task command order number) (planned client picks (command_call command order number) ds is_plan)

  abbrev ro : List (List ℕ)
  ro = client.settings.read_only

  checked : (parts_of ro command number ≡ Ok p.parts) × (fits_order order (length p.parts) ≡ true)
  checked = if_fit order (parts_of ro command number) p.parts p.parts_are

  fors : Pairwise IsFor p.parts p.found
  fors = dispatches_for client p.parts picks p.found p.found_are

  -- of a command that is not split
  pub whole_reply : None ≡ option_map (routes_in_order order) (parts_by_place command.args ro) → (trees : List Tree) → length trees ≡ length ds
      → or_bad_reply (slice_get trees 0) ≡ or_bad_reply (reply_of_parts (sent command) (replies_with_slots ds trees))
  whole_reply none trees count = by (split_of (sent command)) refl (none ∙ ap (option_map (routes_in_order order)) (cut_so ro command number p.parts checked.0))
    where
      by : (o : Option Split) → split_of (sent command) ≡ o → None ≡ option_map (routes_in_order order) (option_map (split_by_place ro) o)
          → or_bad_reply (slice_get trees 0) ≡ or_bad_reply (reply_of_parts (sent command) (replies_with_slots ds trees))
      by None s k =
          let w = whole_part_is ro command number p.parts s checked.0 in
          let found = single p.found (sym (pair_length IsFor p.parts p.found fors) ∙ ap length w.1) in
          let fits : fits_order order 1 ≡ true = subst (λ ps. fits_order order (length ps) ≡ true) w.1 checked.1 in
          let one : length ds ≡ 1 = ap length (sym p.ordered ∙ ap (in_order order) found.1 ∙ one_in_order order found.0 fits) in
          let a = alone ds trees one (count ∙ one) in
          one_tree (sent command) ds trees a.0 a.1 s a.2 a.3
      by (Some split) s k = cc

  -- of a split command
  pub record Joins (made : PartsByPlace) (trees : List Tree) : Type 0 where
    pub split : Split
    pub cut_into : IsCutInto (sent command) split (numbers_of order (length (part_slots split.tuples))) made.splitting (map (λ (r : Route × List ℕ). r.1) made.routes) (length trees)
    pub same : reply_of_parts (sent command) (replies_with_slots ds trees) ≡ combine split (part_replies (slots_by (numbers_of order (length (part_slots split.tuples))) split) trees)

  pub joined_reply : (made : PartsByPlace) → Some made ≡ option_map (routes_in_order order) (parts_by_place command.args ro) → (trees : List Tree) → length trees ≡ length ds → Joins made trees
  joined_reply made some trees count = by (split_of (sent command)) refl (some ∙ ap (option_map (routes_in_order order)) (cut_so ro command number p.parts checked.0))
    where
      by : (o : Option Split) → split_of (sent command) ≡ o → Some made ≡ option_map (routes_in_order order) (option_map (split_by_place ro) o) → Joins made trees
      by None s k = cc
      by (Some split) s k =
          let is : made ≡ routes_in_order order (split_by_place ro split) = cc in
          let parts = split_parts_are ro command number p.parts split s checked.0 in
          let found = part_slots_are (sent command) split s (role ro command number p.parts) (part_slots split.tuples) p.found (firsts_among_slots split) (subst (λ ps. Pairwise IsFor ps p.found) parts fors) in
          let slot_of : Dispatch → ℕ = λ d. args_slot d.args in
          let slots : map slot_of ds ≡ slots_by (numbers_of order (length (part_slots split.tuples))) split =
          ap (map slot_of) (sym p.ordered) ∙ made_in_order slot_of order p.found ∙ ap (in_order order) found ∙ by_numbers order (part_slots split.tuples) in
          let places_at : ℕ → List ℕ = λ slot. places_from slot 0 (argument_slots split.tuples) in
          record {
            split = split;
            cut_into = record {
              is_split = s;
              is_made = sym (ap (λ (m : PartsByPlace). m.splitting) is);
              is_order = numbers_fit order (length (part_slots split.tuples)) (subst (λ n. fits_order order n ≡ true) (ap length parts ∙ length-map _ _) checked.1);
              are_places = ap (λ (m : PartsByPlace). map (λ (r : Route × List ℕ). r.1) m.routes) is
                  ∙ made_in_order (λ (r : Route × List ℕ). r.1) order (split_by_place ro split).routes
                  ∙ ap (in_order order) (places_of _ split (part_slots split.tuples))
                  ∙ sym (made_in_order places_at order (part_slots split.tuples))
                  ∙ ap (map places_at) (by_numbers order (part_slots split.tuples));
              are_counted = count ∙ sym (length-map ds slot_of) ∙ ap length slots;
            };
            same = ap (λ o. reply_by_split o (replies_with_slots ds trees)) s ∙ ap (combine split) (same_replies ds _ trees slots);
          }

-- ---- as many routes and dispatches as parts

routes_of_parts : (read_only : List (List ℕ)) (command : Command) (number : ℕ) (parts : List Part) (made : PartsByPlace) → parts_of read_only command number ≡ Ok parts → Some made ≡ parts_by_place command.args read_only → length parts ≡ length made.routes
routes_of_parts read_only command number parts made e some = by (split_of (sent command)) refl (some ∙ cut_so read_only command number parts e)
  where
    by : (o : Option Split) → split_of (sent command) ≡ o → Some made ≡ option_map (split_by_place read_only) o → length parts ≡ length made.routes
    by None s k = cc
    by (Some split) s k =
        let is : made ≡ split_by_place read_only split = cc in
        ap length (split_parts_are read_only command number parts split s e) ∙ length-map _ _ ∙ sym (length-map _ _) ∙ ap (λ (m : PartsByPlace). length m.routes) (sym is)

-- an order that fits the parts fits the routes of a split command
pub routes_fit : (order : Option (List ℕ)) (read_only : List (List ℕ)) (command : Command) (number : ℕ) (parts : List Part) (split : Option SplitParts) → parts_of read_only command number ≡ Ok parts
    → option_map shown_split split ≡ parts_by_place command.args read_only → fits_order order (length parts) ≡ true → IfSome split (λ (s : SplitParts). fits_order order (length s.routes.items) ≡ true)
routes_fit order read_only command number parts None e is f = tt
routes_fit order read_only command number parts (Some s) e is f =
    subst (λ n. fits_order order n ≡ true) (routes_of_parts read_only command number parts (shown_split s) e is ∙ length-map s.routes.items shown_part) f

-- and the dispatches
pub dispatches_fit : (order : Option (List ℕ)) (strategy : Option Strategy) (client : Client) (parts : List Part) (picks : List Address) (ds : List Dispatch) → AreDispatched strategy client parts picks (Ok ds)
    → fits_order order (length parts) ≡ true → fits_order order (length ds) ≡ true
dispatches_fit order strategy client parts picks ds d f =
    subst (λ n. fits_order order n ≡ true) (pair_length IsFor parts ds (dispatches_for client parts picks ds (sym d.planned))) f

-- the same of equal positions and an equal count
pub recut : (args : List (List ℕ)) (split : Split) (order : List ℕ) (splitting : Splitting) (ps qs : List (List ℕ)) (n m : ℕ) → IsCutInto args split order splitting ps n → ps ≡ qs → n ≡ m → IsCutInto args split order splitting qs m
recut args split order splitting ps qs n m c e f = record {
  is_split = c.is_split;
  is_made = c.is_made;
  is_order = c.is_order;
  are_places = sym e ∙ c.are_places;
  are_counted = sym f ∙ c.are_counted;
}

-- a split command whose parts stand in order is cut into them
pub cut_whole : (args : List (List ℕ)) (split : Split) (made : PartsByPlace) (read_only : List (List ℕ)) (n : ℕ) → split_of args ≡ Some split → made ≡ split_by_place read_only split → n ≡ length (part_slots split.tuples)
    → IsCutInto args split (numbers_below (length (part_slots split.tuples))) made.splitting (map (λ (r : Route × List ℕ). r.1) made.routes) n
cut_whole args split made read_only n s same count =
    let slots = every_place (part_slots split.tuples) in
    record {
      is_split = s;
      is_made = sym (ap (λ (m : PartsByPlace). m.splitting) same);
      is_order = all_in_order (length (part_slots split.tuples));
      are_places = ap (λ (m : PartsByPlace). map (λ (r : Route × List ℕ). r.1) m.routes) same ∙ places_of _ split (part_slots split.tuples)
          ∙ ap (map (λ slot. places_from slot 0 (argument_slots split.tuples))) (sym slots);
      are_counted = count ∙ ap length (sym slots);
    }

-- and its slots are all in order
pub all_slots : (split : Split) → slots_by (numbers_below (length (part_slots split.tuples))) split ≡ part_slots split.tuples
all_slots split = every_place (part_slots split.tuples)

pub same_tree : (r : Result Value Refusal) → tree_result view r ≡ tree_or_refusal r
same_tree (Ok value) = refl
same_tree (Err refusal) = refl
