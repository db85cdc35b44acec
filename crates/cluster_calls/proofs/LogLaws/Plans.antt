-- What a plan sends.
use Rattle.std.proofs.Common.{◌≡◌, ℕ, Bool, true, false, cond, ◌==◌, nat_eq, ◌||◌, List, [], ◌∷◌, map, Option, Some, None, Result, Ok, Err, is_some, refl, sym, ap, ◌∙◌, subst, eqb-true, eq-eqb}
use Rattle.std.specs.Prelude.{option_and_then, unwrap_or}
use Rattle.std.specs.List.{AllByRecursion, list_any}
use Rattle.std.proofs.lemmas.Bool.{false≢true}
use Rattle.resp_core.specs.Errors.{Refusal, by_cause}
use Rattle.resp_core.specs.declared.errors.redis_error.Cause.TheVariants.{NoLink, NoResponse, CursorInSplit}
use Rattle.resp_args.specs.Command.{Command}
use Rattle.resp_args.specs.Packed.{sent, wire}
use Rattle.resp_args.specs.declared.cmd.Arg.TheVariants.{Simple, Cursor}
use Rattle.cluster_routing.specs.Address.{Address}
use Rattle.cluster_routing.specs.Command.{Args}
use Rattle.cluster_routing.specs.Lists.{Pairwise, among, firsts, IsDistinct}
use Rattle.cluster_routing.specs.Parts.{Tuple, tuple_slot}
use Rattle.cluster_routing.specs.Routing.{Destination, to_any_node, to_any_primary, to_route, to_address, to_all_nodes, to_all_primaries, to_parts, name_of, destination}
use Rattle.cluster_routing.specs.Split.{Split, Splitting, splitting_of, split_of, with_tuples, shared_by, cut, has_split_word, part_slots, part_tuples, join_split, sub}
use Rattle.cluster_routing.specs.declared.route.Route.{Route}
use Rattle.cluster_routing.specs.declared.route.SlotAddr.{SlotAddr}
use Rattle.cluster_calls.specs.Links.World.{is_linked}
use Rattle.cluster_calls.specs.Calls.Parts.{Target, at_slot, at_number, Part, part_to, is_gap, role_by, slot_part, split_parts, only_part, parts_of}
use Rattle.cluster_calls.specs.Calls.Plan.{Client, Dispatch, First, first_of, with_first, dispatch_one, dispatches}
use Rattle.cluster_calls.specs.Calls.Replies.{slot_by, args_slot}
use Rattle.cluster_routing.proofs.Recut.{all-filter, split_of_some}
use Rattle.cluster_calls.proofs.ServerLaws.Distinct.{firsts_distinct, among-firsts}
use Rattle.cluster_calls.proofs.ServerLaws.Splits.{filter-head}
use Rattle.cluster_calls.proofs.ServerLaws.SplitCall.{IsDispatchOf}

-- the dispatch is for the part
abbrev pub IsFor : Part → Dispatch → Type 0
IsFor part d = d.args ≡ part.args

pub dispatches_for : (client : Client) (parts : List Part) (picks : List Address) (ds : List Dispatch) → dispatches client picks parts ≡ Ok ds → Pairwise IsFor parts ds
dispatches_for client [] picks ds e = let n : [] ≡ ds = cc in subst (Pairwise IsFor []) n tt
dispatches_for client (part ∷ parts) picks ds e = at_first (first_of client.entries picks part.target) e (λ left ds' g. dispatches_for client parts left ds' g)
  where
    at_rest : (node : Address) (left : List Address) (o : Result (List Dispatch) Refusal) → dispatches client left parts ≡ o → with_first (record { node = node; args = part.args }) o ≡ Ok ds
        → ((ds' : List Dispatch) → dispatches client left parts ≡ Ok ds' → Pairwise IsFor parts ds') → Pairwise IsFor (part ∷ parts) ds
    at_rest node left (Ok ds') h f ih =
        let n : record { node = node; args = part.args } ∷ ds' ≡ ds = cc in
        subst (Pairwise IsFor (part ∷ parts)) n (refl, ih ds' h)
    at_rest node left (Err r) h f ih = cc

    at_link : (b : Bool) (node : Address) (left : List Address) → cond b (with_first (record { node = node; args = part.args }) (dispatches client left parts)) (Err (by_cause NoLink)) ≡ Ok ds
        → ((ds' : List Dispatch) → dispatches client left parts ≡ Ok ds' → Pairwise IsFor parts ds') → Pairwise IsFor (part ∷ parts) ds
    at_link true node left f ih = at_rest node left (dispatches client left parts) refl f ih
    at_link false node left f ih = cc

    at_first : (o : Option First) → dispatch_one client.links part o (λ left. dispatches client left parts) ≡ Ok ds
        → ((left : List Address) (ds' : List Dispatch) → dispatches client left parts ≡ Ok ds' → Pairwise IsFor parts ds') → Pairwise IsFor (part ∷ parts) ds
    at_first None f ih = cc
    at_first (Some first) f ih = at_link (is_linked client.links first.node) first.node first.picks f (ih first.picks)

-- the parts of a split command
pub record SendsParts (split : Split) (ds : List Dispatch) : Type 0 where
  pub each : AllByRecursion (IsDispatchOf split) ds
  pub distinct : IsDistinct nat_eq (map (λ (d : Dispatch). args_slot d.args) ds)
  pub whole : AllByRecursion (λ t. among nat_eq (tuple_slot t) (map (λ (d : Dispatch). args_slot d.args) ds) ≡ true) split.tuples

pub or_right : (b : Bool) {c : Bool} → c ≡ true → (b || c) ≡ true
or_right true e = refl
or_right false e = e

-- a slot among those of the tuples has a tuple
pub has_tuple : (s : ℕ) (tuples : List Tuple) → among nat_eq s (map tuple_slot tuples) ≡ true → (t : Tuple) × (ts : List Tuple) × (part_tuples s tuples ≡ t ∷ ts)
has_tuple s [] e = absurd (false≢true e)
has_tuple s (t ∷ tuples) e = by (s == tuple_slot t) e (λ f. has_tuple s tuples f)
  where
    by : (b : Bool) → (b || among nat_eq s (map tuple_slot tuples)) ≡ true → (among nat_eq s (map tuple_slot tuples) ≡ true → (u : Tuple) × (us : List Tuple) × (part_tuples s tuples ≡ u ∷ us)) → (u : Tuple) × (us : List Tuple) × (cond b (t ∷ part_tuples s tuples) (part_tuples s tuples) ≡ u ∷ us)
    by true e ih = (t, part_tuples s tuples, refl)
    by false e ih = ih e

pub all-weaker : {X : Type 0} (P Q : X → Type 0) → ((x : X) → P x → Q x) → (xs : List X) → AllByRecursion P xs → AllByRecursion Q xs
all-weaker P Q w [] h = tt
all-weaker P Q w (x ∷ xs) h = (w x h.0, all-weaker P Q w xs h.1)

pub firsts_among : (ks : List ℕ) → AllByRecursion (λ s. among nat_eq s ks ≡ true) (firsts nat_eq ks)
firsts_among [] = tt
firsts_among (k ∷ ks) = (
  ap (λ b. b || among nat_eq k ks) (eq-eqb k k refl),
  all-filter (λ s. among nat_eq s (k ∷ ks) ≡ true) _ (firsts nat_eq ks)
      (all-weaker (λ s. among nat_eq s ks ≡ true) (λ s. among nat_eq s (k ∷ ks) ≡ true) (λ s h. or_right (nat_eq s k) h) (firsts nat_eq ks) (firsts_among ks)),
)

pub tuples_among : (tuples : List Tuple) → AllByRecursion (λ t. among nat_eq (tuple_slot t) (map tuple_slot tuples) ≡ true) tuples
tuples_among [] = tt
tuples_among (t ∷ tuples) = (
  ap (λ b. b || among nat_eq (tuple_slot t) (map tuple_slot tuples)) (eq-eqb (tuple_slot t) (tuple_slot t) refl),
  all-weaker _ _ (λ u h. or_right (nat_eq (tuple_slot u) (tuple_slot t)) h) tuples (tuples_among tuples),
)

-- dispatches for the parts of a split command send its parts
module _ (args : List (List ℕ)) (split : Split) (is_split : split_of args ≡ Some split) (role : SlotAddr) where
  -- a part's command has the part's slot
  sub_slot : (k : ℕ) → among nat_eq k (map tuple_slot split.tuples) ≡ true → args_slot (sub split k) ≡ k
  sub_slot k e =
      let w = has_tuple k split.tuples e in
      ap (λ us. args_slot (join_split split.word split.shared us)) w.2
      ∙ ap (slot_by (join_split split.word split.shared (w.0 ∷ w.1))) (split_of_some args split is_split (λ t. k == tuple_slot t) w.0 w.1 w.2)
      ∙ sym (eqb-true k (tuple_slot w.0) (filter-head (λ t. k == tuple_slot t) split.tuples w.0 w.1 w.2))

  pub part_slots_are : (ks : List ℕ) (ds : List Dispatch) → AllByRecursion (λ s. among nat_eq s (map tuple_slot split.tuples) ≡ true) ks → Pairwise IsFor (map (slot_part role split) ks) ds → map (λ (d : Dispatch). args_slot d.args) ds ≡ ks
  part_slots_are [] [] a h = refl
  part_slots_are [] (d ∷ ds) a h = absurd h
  part_slots_are (k ∷ ks) [] a h = absurd h
  part_slots_are (k ∷ ks) (d ∷ ds) a h = ap (λ n. n ∷ map (λ (e : Dispatch). args_slot e.args) ds) (ap args_slot h.0 ∙ sub_slot k a.0) ∙ ap (λ ns. k ∷ ns) (part_slots_are ks ds a.1 h.1)

  each_part : (ks : List ℕ) (ds : List Dispatch) → AllByRecursion (λ s. among nat_eq s (map tuple_slot split.tuples) ≡ true) ks → Pairwise IsFor (map (slot_part role split) ks) ds → AllByRecursion (IsDispatchOf split) ds
  each_part [] [] a h = tt
  each_part [] (d ∷ ds) a h = absurd h
  each_part (k ∷ ks) [] a h = absurd h
  each_part (k ∷ ks) (d ∷ ds) a h =
      let same : args_slot d.args ≡ k = ap args_slot h.0 ∙ sub_slot k a.0 in (
        record { args = h.0 ∙ ap (sub split) (sym same); some = has_tuple (args_slot d.args) split.tuples (ap (λ s. among nat_eq s (map tuple_slot split.tuples)) same ∙ a.0) },
        each_part ks ds a.1 h.1,
      )

  pub sends_parts : (ds : List Dispatch) → Pairwise IsFor (map (slot_part role split) (part_slots split.tuples)) ds → SendsParts split ds
  sends_parts ds h =
      let all = firsts_among (map tuple_slot split.tuples) in
      let slots = part_slots_are (part_slots split.tuples) ds all h in
      record {
        each = each_part (part_slots split.tuples) ds all h;
        distinct = subst (IsDistinct nat_eq) (sym slots) (firsts_distinct nat_eq (map tuple_slot split.tuples));
        whole = subst (λ q. AllByRecursion (λ t. among nat_eq (tuple_slot t) q ≡ true) split.tuples) (sym slots)
            (all-weaker _ _ (λ t g. among-firsts nat_eq eqb-true (tuple_slot t) (map tuple_slot split.tuples) g) split.tuples (tuples_among split.tuples));
      }

-- ---- the parts of a command

pub not_split : (args : Args) (cursor : ℕ) (read_only : List (List ℕ)) (d : Destination) → has_split_word args ≡ false → destination args read_only ≡ Some d → split_of (wire cursor args) ≡ None
unfolding destination
not_split [] cursor read_only d e r = refl
not_split (Cursor ∷ args) cursor read_only d e r = cc
not_split (Simple word ∷ args) cursor read_only d e r = at_word (splitting_of word) e
  where
    at_word : (o : Option Splitting) → is_some o ≡ false → option_and_then (λ (p : Splitting). with_tuples word p (shared_by p.pattern (wire cursor args)) (cut p.pattern (wire cursor args))) o ≡ None
    at_word None e = refl
    at_word (Some p) e = cc

module _ (read_only : List (List ℕ)) (command : Command) (number : ℕ) (parts : List Part) where
  abbrev pub role : SlotAddr
  role = role_by (name_of command.args) read_only

  abbrev by_checks : Bool → Bool → Bool → Result (List Part) Refusal
  by_checks a b c = cond a (Err (by_cause NoResponse)) (cond b (cond c (Err (by_cause CursorInSplit)) (split_parts role (split_of (sent command)))) (only_part (sent command) number (destination command.args read_only)))

  pub split_parts_are : (split : Split) → split_of (sent command) ≡ Some split → parts_of read_only command number ≡ Ok parts → parts ≡ map (slot_part role split) (part_slots split.tuples)
  split_parts_are split s e = by command.no_response (has_split_word command.args) refl (list_any is_gap command.args) e
    where
      none : (d : Destination) → has_split_word command.args ≡ false → destination command.args read_only ≡ Some d → parts ≡ map (slot_part role split) (part_slots split.tuples)
      none d w r = let n = not_split command.args (unwrap_or command.cursor 0) read_only d w r in cc

      routed : has_split_word command.args ≡ false → (o : Option Destination) → destination command.args read_only ≡ o → only_part (sent command) number o ≡ Ok parts → parts ≡ map (slot_part role split) (part_slots split.tuples)
      routed w None r e = cc
      routed w (Some d) r e = none d w r

      by : (a b : Bool) → has_split_word command.args ≡ b → (c : Bool) → by_checks a b c ≡ Ok parts → parts ≡ map (slot_part role split) (part_slots split.tuples)
      by true b w c e = cc
      by false true w true e = cc
      by false true w false e = let f : split_parts role (Some split) ≡ Ok parts = ap (split_parts role) (sym s) ∙ e in cc
      by false false w c e = routed w (destination command.args read_only) refl e

  pub whole_part_is : split_of (sent command) ≡ None → parts_of read_only command number ≡ Ok parts → (p : Part) × (parts ≡ p ∷ []) × (p.args ≡ sent command)
  whole_part_is s e = by command.no_response (has_split_word command.args) (list_any is_gap command.args) e
    where
      routed : (o : Option Destination) → only_part (sent command) number o ≡ Ok parts → (p : Part) × (parts ≡ p ∷ []) × (p.args ≡ sent command)
      routed None e = cc
      routed (Some (to_route route)) e = (part_to (sent command) (at_slot route), cc, refl)
      routed (Some to_any_node) e = (part_to (sent command) (at_number number), cc, refl)
      routed (Some to_any_primary) e = cc
      routed (Some (to_address a)) e = cc
      routed (Some (to_all_nodes p)) e = cc
      routed (Some (to_all_primaries p)) e = cc
      routed (Some (to_parts ps pattern p)) e = cc

      by : (a b c : Bool) → by_checks a b c ≡ Ok parts → (p : Part) × (parts ≡ p ∷ []) × (p.args ≡ sent command)
      by true b c e = cc
      by false true true e = cc
      by false true false e = let f : split_parts role None ≡ Ok parts = ap (split_parts role) (sym s) ∙ e in cc
      by false false c e = routed (destination command.args read_only) e

  -- a command that is its own part goes where it is routed
  pub whole_route : split_of (sent command) ≡ None → parts_of read_only command number ≡ Ok parts → (p : Part) → parts ≡ p ∷ [] → (route : Route) → p.target ≡ at_slot route → destination command.args read_only ≡ Some (to_route route)
  whole_route s e p one route t = by command.no_response (has_split_word command.args) (list_any is_gap command.args) e
    where
      Goal : Type 0
      Goal = destination command.args read_only ≡ Some (to_route route)

      alone : (target : Target) → part_to (sent command) target ∷ [] ≡ parts → target ≡ at_slot route
      alone target f = let g : part_to (sent command) target ∷ [] ≡ p ∷ [] = f ∙ one in let h : part_to (sent command) target ≡ p = cc in ap (λ (q : Part). q.target) h ∙ t

      routed : (o : Option Destination) → destination command.args read_only ≡ o → only_part (sent command) number o ≡ Ok parts → Goal
      routed None r e = cc
      routed (Some (to_route other)) r e = r ∙ ap (λ q. Some (to_route q)) (let n : part_to (sent command) (at_slot other) ∷ [] ≡ parts = cc in let a = alone (at_slot other) n in let b : other ≡ route = cc in b)
      routed (Some to_any_node) r e = let n : part_to (sent command) (at_number number) ∷ [] ≡ parts = cc in let a = alone (at_number number) n in cc
      routed (Some to_any_primary) r e = cc
      routed (Some (to_address a)) r e = cc
      routed (Some (to_all_nodes q)) r e = cc
      routed (Some (to_all_primaries q)) r e = cc
      routed (Some (to_parts ps pattern q)) r e = cc

      by : (a b c : Bool) → by_checks a b c ≡ Ok parts → Goal
      by true b c e = cc
      by false true true e = cc
      by false true false e = let f : split_parts role None ≡ Ok parts = ap (split_parts role) (sym s) ∙ e in cc
      by false false c e = routed (destination command.args read_only) refl e
