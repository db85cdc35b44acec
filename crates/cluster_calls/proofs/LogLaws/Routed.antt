-- A split command's parts are those of its destination, and each part routes to its slot.
use Rattle.std.proofs.Common.{◌≡◌, ℕ, ◌==◌, nat_eq, Bool, true, false, cond, List, [], ◌∷◌, map, Option, Some, option_map, refl, sym, ap, ◌∙◌, subst, eqb-true}
use Rattle.std.specs.Prelude.{option_and_then, slice_get}
use Rattle.std.specs.List.{AllByRecursion}
use Rattle.resp_args.specs.declared.cmd.Arg.TheVariants.{Simple}
use Rattle.cluster_routing.specs.Command.{Args, all_bytes, bytes_of, name_by}
use Rattle.cluster_routing.specs.CombineLaws.{slots_in, PartsAreRouted, SubsRouteToTheirSlot}
use Rattle.cluster_routing.specs.Lists.{among, firsts}
use Rattle.cluster_routing.specs.Parts.{Tuple, tuple_slot, argument_slots, group, groups}
use Rattle.cluster_routing.specs.Routing.{part_to, to_some_parts, to_tuples, to_split, destination_by, role_of, destination}
use Rattle.cluster_routing.specs.Split.{Split, Splitting, splitting_of, split_of, cut, join_split, part_tuples}
use Rattle.cluster_routing.specs.Table.{rule_of}
use Rattle.cluster_routing.specs.declared.policy.MultiSlotArgPattern.{MultiSlotArgPattern}
use Rattle.cluster_routing.specs.declared.policy.ResponsePolicy.{ResponsePolicy}
use Rattle.cluster_routing.specs.declared.route.SlotAddr.{SlotAddr}
use Rattle.cluster_routing.proofs.Places.{parts_share}
use Rattle.cluster_routing.proofs.SplitWords.{firsts_twice, rule_is, split_firsts}
use Rattle.cluster_routing.proofs.Recut.{cut_of, split_of_some}
use Rattle.cluster_calls.proofs.LogLaws.Plans.{has_tuple}

-- ---- the destination of a split command

pub all_simple : (args : List (List ℕ)) → all_bytes (map (λ bytes. Simple bytes) args) ≡ Some args
all_simple [] = refl
all_simple (a ∷ args) = ap (option_map (λ rest. a ∷ rest)) (all_simple args)

routed : (word : List ℕ) (behind : List (List ℕ)) (read_only : List (List ℕ)) (p : Splitting) → splitting_of word ≡ Some p
    → destination (map (λ bytes. Simple bytes) (word ∷ behind)) read_only ≡ to_tuples (role_of word read_only) p.pattern p.policy (cut p.pattern behind)
unfolding destination
routed word behind read_only p e =
    let args : Args = map (λ bytes. Simple bytes) (word ∷ behind) in
    let second : Option (List ℕ) = bytes_of (slice_get args 1) in
    let r = rule_is word p e in
    ap (λ b. destination_by (role_of (name_by word b second) read_only) args (rule_of (name_by word b second) b)) r.0
    ∙ ap (λ rule. destination_by (role_of word read_only) args rule) r.1
    ∙ ap (λ o. option_and_then (to_split (role_of word read_only) p.pattern p.policy) o) (all_simple (word ∷ behind))

split_routed : (args : List (List ℕ)) (read_only : List (List ℕ)) (s : Split) → split_of args ≡ Some s
    → destination (map (λ bytes. Simple bytes) args) read_only ≡ to_some_parts s.splitting.pattern s.splitting.policy (map (part_to (role_of s.word read_only)) (groups (argument_slots s.tuples)))
split_routed args read_only s e =
    let c = cut_of args s e in
    ap (λ a. destination (map (λ bytes. Simple bytes) a) read_only) c.whole ∙ routed s.word c.behind read_only s.splitting c.splitting
    ∙ ap (to_tuples (role_of s.word read_only) s.splitting.pattern s.splitting.policy) c.tuples

-- ---- its slots

named : (role : SlotAddr) (pattern : MultiSlotArgPattern) (policy : ResponsePolicy) (slots ks : List ℕ) → slots_in (to_some_parts pattern policy (map (part_to role) (map (group slots) ks))) ≡ ks
named role pattern policy slots [] = refl
named role pattern policy slots (k ∷ []) = refl
named role pattern policy slots (k ∷ l ∷ ks) = ap (λ z. k ∷ l ∷ z) (each ks)
  where
    each : (ks : List ℕ) → map (λ (p : _). p.0.slot) (map (part_to role) (map (group slots) ks)) ≡ ks
    each [] = refl
    each (k ∷ ks) = ap (λ z. k ∷ z) (each ks)

pub parts_are_routed : PartsAreRouted
parts_are_routed args read_only s e =
    ap slots_in (split_routed args read_only s e)
    ∙ named (role_of s.word read_only) s.splitting.pattern s.splitting.policy (argument_slots s.tuples) (firsts nat_eq (argument_slots s.tuples)) ∙ split_firsts args s e

-- ---- one part

pub one_first : (s : ℕ) (ks : List ℕ) → AllByRecursion (λ k. k ≡ s) ks → firsts nat_eq (s ∷ ks) ≡ s ∷ []
one_first s [] h = refl
one_first s (k ∷ ks) h = ap (λ z. firsts nat_eq (s ∷ z ∷ ks)) h.0 ∙ firsts_twice s ks ∙ one_first s ks h.1

pub on_slot : (s : ℕ) (tuples : List Tuple) → AllByRecursion (λ k. k ≡ s) (map tuple_slot (part_tuples s tuples))
on_slot s [] = tt
on_slot s (t ∷ tuples) = by (s == tuple_slot t) refl (on_slot s tuples)
  where
    by : (b : Bool) → (s == tuple_slot t) ≡ b → AllByRecursion (λ k. k ≡ s) (map tuple_slot (part_tuples s tuples)) → AllByRecursion (λ k. k ≡ s) (map tuple_slot (cond b (t ∷ part_tuples s tuples) (part_tuples s tuples)))
    by true e r = (sym (eqb-true s (tuple_slot t) e), r)
    by false e r = r

-- the slots of groups
group_slots : (slots ks : List ℕ) → map (λ g. g.0) (map (group slots) ks) ≡ ks
group_slots slots [] = refl
group_slots slots (k ∷ ks) = ap (λ z. k ∷ z) (group_slots slots ks)

pub subs_route_to_their_slot : SubsRouteToTheirSlot
subs_route_to_their_slot args read_only s slot e some =
    let w = has_tuple slot s.tuples (sym (parts_share.each (map tuple_slot s.tuples) slot) ∙ ap (λ ks. among nat_eq slot ks) (group_slots (map tuple_slot s.tuples) (firsts nat_eq (map tuple_slot s.tuples))) ∙ some) in
    let part : Split = record { word = s.word; splitting = s.splitting; tuples = w.0 ∷ w.1; shared = s.shared } in
    let again : split_of (join_split s.word s.shared (w.0 ∷ w.1)) ≡ Some part = split_of_some args s e (λ t. slot == tuple_slot t) w.0 w.1 w.2 in
    let on = subst (λ (us : List Tuple). AllByRecursion (λ k. k ≡ slot) (map tuple_slot us)) w.2 (on_slot slot s.tuples) in
    let one : firsts nat_eq (argument_slots (w.0 ∷ w.1)) ≡ slot ∷ [] =
    split_firsts (join_split s.word s.shared (w.0 ∷ w.1)) part again ∙ ap (λ k. firsts nat_eq (k ∷ map tuple_slot w.1)) on.0 ∙ one_first slot (map tuple_slot w.1) on.1 in
    ap (λ us. destination (map (λ bytes. Simple bytes) (join_split s.word s.shared us)) read_only) w.2
    ∙ split_routed (join_split s.word s.shared (w.0 ∷ w.1)) read_only part again
    ∙ ap (λ ks. to_some_parts s.splitting.pattern s.splitting.policy (map (part_to (role_of s.word read_only)) (map (group (argument_slots (w.0 ∷ w.1))) ks))) one
