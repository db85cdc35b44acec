-- What stands in a pipeline for a split command: its parts, each of which goes out whole.
use Rattle.std.specs.Prelude.{◌&&◌, ◌||◌, is_some}
use Rattle.std.specs.List.{list_any, AllByRecursion}
use Rattle.std.specs.Str.{str_eq_ignore_ascii_case, str_to_ascii_lowercase, bytes_eq}
use Rattle.std.proofs.Common.{◌≡◌, ℕ, suc, Bool, true, false, cond, nat_eq, List, [], ◌∷◌, ◌++◌, map, drop, length, take-append-drop, arith, codes, Option, Some, None, Result, Ok, Err, refl, sym, ap, ◌∙◌, subst}
use Rattle.std.proofs.lemmas.Bool.{false≢true}
use Rattle.std.proofs.lemmas.Slice.Eq.{bytes_eq-Decides}
use Rattle.resp_core.specs.Trees.{Tree}
use Rattle.resp_core.specs.Errors.{Refusal, at_position}
use Rattle.resp_args.specs.Command.{Command}
use Rattle.resp_args.specs.Packed.{sent, wire}
use Rattle.resp_args.specs.declared.cmd.Arg.TheVariants.{Simple}
use Rattle.cluster_routing.specs.Command.{is_one_of, place_of}
use Rattle.cluster_routing.specs.Lists.{among, firsts}
use Rattle.cluster_routing.specs.Parts.{Tuple, tuple_slot}
use Rattle.cluster_routing.specs.Routing.{name_of, route_to}
use Rattle.cluster_routing.specs.Split.{Split, Splitting, splitting_by, splitting_of, split_of, has_split_word, join_split, part_slots, part_tuples, sub}
use Rattle.cluster_routing.specs.Table.{Row, Rule, table, is_family, families, other_rule, rule_in, rule_of}
use Rattle.cluster_routing.specs.declared.route.SlotAddr.TheVariants.{Master}
use Rattle.cluster_routing.proofs.Recut.{cut_of, split_of_some}
use Rattle.cluster_routing.proofs.SplitWords.{split_words_are_names}
use Rattle.stream_commands.specs.Commands.{plain_command}
use Rattle.cluster_calls.specs.Calls.Call.{Entry}
use Rattle.cluster_calls.specs.Calls.EachInParts.{AreOutcomesOf}
use Rattle.cluster_calls.specs.Calls.InParts.{if_several, split_at, part_entry, entries_by, in_parts, goes_to_slots, first_unplaced, splits_in}
use Rattle.cluster_calls.specs.Calls.Parts.{Part, part_to, at_slot, is_gap, if_one_slot, have_several_slots, is_read_name, keys_behind, parts_of, pipeline_parts, reads_several_slots, role_by, slot_part, split_parts, whole_part, with_whole}
use Rattle.cluster_calls.specs.OneServer.Fates.{PartsGoWhole, WholesStayWhole}
use Rattle.cluster_calls.proofs.LogLaws.Plans.{firsts_among, has_tuple}
use Rattle.cluster_calls.proofs.LogLaws.Routed.{all_simple, on_slot, one_first}

-- ---- a split word reads no streams

same_row : (rows : List Row) (v w : List ℕ) (other : Rule) → str_to_ascii_lowercase v ≡ str_to_ascii_lowercase w → rule_in rows w other ≡ rule_in rows v other
same_row [] v w other e = refl
same_row (r ∷ rows) v w other e =
    ap (λ l. cond (list_any (λ word. bytes_eq (str_to_ascii_lowercase word) l) r.names) r.rule (rule_in rows w other)) (sym e)
    ∙ ap (λ k. cond (is_one_of r.names v) r.rule k) (same_row rows v w other e)

reads_are_whole : splitting_by (rule_in table (codes "XREAD") (other_rule (is_family (codes "XREAD")))) ≡ None
unfolding table
reads_are_whole = refl

no_read : (w : List ℕ) (p : Splitting) → splitting_of w ≡ Some p → is_one_of (codes "XREAD" ∷ []) w ≡ false
unfolding splitting_of rule_of
no_read w p e = by (str_eq_ignore_ascii_case (codes "XREAD") w) refl
  where
    by : (b : Bool) → str_eq_ignore_ascii_case (codes "XREAD") w ≡ b → (b || false) ≡ false
    by false h = refl
    by true h =
        let same : str_to_ascii_lowercase (codes "XREAD") ≡ str_to_ascii_lowercase w = (bytes_eq-Decides (str_to_ascii_lowercase (codes "XREAD")) (str_to_ascii_lowercase w)).0 h in
        let family : is_family w ≡ is_family (codes "XREAD") = ap (λ l. list_any (λ word. bytes_eq (str_to_ascii_lowercase word) l) families) (sym same) in
        let bad : None ≡ Some p =
        sym reads_are_whole ∙ ap (λ b. splitting_by (rule_in table (codes "XREAD") (other_rule b))) (sym family)
        ∙ ap splitting_by (sym (same_row table (codes "XREAD") w (other_rule (is_family w)) same)) ∙ e in
        cc

-- ---- arguments without a gap

pub sent_as_they_are : (n : ℕ) (args : List (List ℕ)) → wire n (map Simple args) ≡ args
sent_as_they_are n [] = refl
sent_as_they_are n (a ∷ args) = ap (λ rest. a ∷ rest) (sent_as_they_are n args)

no_gap : (args : List (List ℕ)) → list_any is_gap (map Simple args) ≡ false
no_gap [] = refl
no_gap (a ∷ args) = no_gap args

-- ---- one part

-- what goes out for a command whole
abbrev pub entry_part : Entry → Option Part
entry_part e = if_one_slot (reads_several_slots e.command.args) (whole_part (sent e.command) (parts_of [] e.command 0))

abbrev pub HasPart : Entry → Type 0
HasPart e = (part : Part) × (entry_part e ≡ Some part)

module _ (args : List (List ℕ)) (s : Split) (is_split : split_of args ≡ Some s) (slot : ℕ) (some : among nat_eq slot (map tuple_slot s.tuples) ≡ true) where
  abbrev own : (t : Tuple) × (ts : List Tuple) × (part_tuples slot s.tuples ≡ t ∷ ts)
  own = has_tuple slot s.tuples some

  abbrev part : Split
  part = record { word = s.word; splitting = s.splitting; tuples = own.0 ∷ own.1; shared = s.shared }

  again : split_of (sub s slot) ≡ Some part
  again = ap (λ us. split_of (join_split s.word s.shared us)) own.2 ∙ split_of_some args s is_split (λ t. nat_eq slot (tuple_slot t)) own.0 own.1 own.2

  one : part_slots part.tuples ≡ slot ∷ []
  one =
      let on = subst (λ (us : List Tuple). AllByRecursion (λ k. k ≡ slot) (map tuple_slot us)) own.2 (on_slot slot s.tuples) in
      ap (λ k. firsts nat_eq (k ∷ map tuple_slot own.1)) on.0 ∙ one_first slot (map tuple_slot own.1) on.1

  abbrev its : Command
  its = plain_command (sub s slot)

  is_named : is_read_name (name_of its.args) ≡ false
  is_named = ap is_read_name (split_words_are_names its.args (sub s slot) part (all_simple (sub s slot)) again) ∙ no_read s.word s.splitting (cut_of args s is_split).splitting

  has_word : has_split_word its.args ≡ true
  has_word = ap is_some (cut_of args s is_split).splitting

  its_parts : parts_of [] its 0 ≡ Ok (slot_part (role_by (name_of its.args) []) part slot ∷ [])
  its_parts =
      let role = role_by (name_of its.args) [] in
      rw (has_word, no_gap (sub s slot))
      (ap (split_parts role) (ap split_of (sent_as_they_are 0 (sub s slot)) ∙ again) ∙ ap (λ ks. Ok (map (slot_part role part) ks)) one)

  pub part_goes : entry_part (part_entry s slot) ≡ Some (part_to (sent its) (at_slot (route_to Master slot)))
  part_goes =
      ap (λ b. if_one_slot (b && have_several_slots (keys_behind its.args (place_of (codes "STREAMS") its.args))) (whole_part (sent its) (parts_of [] its 0))) is_named
      ∙ ap (whole_part (sent its)) its_parts

  pub part_whole : HasPart (part_entry s slot)
  part_whole = (part_to (sent its) (at_slot (route_to Master slot)), part_goes)

parts_whole : (args : List (List ℕ)) (s : Split) → split_of args ≡ Some s → (ks : List ℕ) → AllByRecursion (λ k. among nat_eq k (map tuple_slot s.tuples) ≡ true) ks → AllByRecursion HasPart (map (part_entry s) ks)
parts_whole args s e [] h = tt
parts_whole args s e (k ∷ ks) h = (part_whole args s e k h.0, parts_whole args s e ks h.1)

-- ---- a command that goes to slots

-- a command that is split at its position is a split command
pub split_is : (r : Result (List Part) Refusal) (o : Option Split) (s : Split) → if_several r o ≡ Some s → o ≡ Some s
split_is (Err refusal) o s e = cc
split_is (Ok []) o s e = cc
split_is (Ok (part ∷ [])) o s e = cc
split_is (Ok (part ∷ another ∷ parts)) o s e = e

some_of : {A : Type 0} (o : Option A) → is_some o ≡ true → (a : A) × (o ≡ Some a)
some_of None e = absurd (false≢true e)
some_of (Some a) e = (a, refl)

placed_whole : (e : Entry) → goes_to_slots e ≡ true → AllByRecursion HasPart (entries_by e (split_at e))
placed_whole e h = by (split_at e) refl h
  where
    by : (o : Option Split) → split_at e ≡ o → (is_some o || is_some (entry_part e)) ≡ true → AllByRecursion HasPart (entries_by e o)
    by None s k = (some_of (entry_part e) k, tt)
    by (Some s) is k = parts_whole (sent e.command) s (split_is (parts_of [] e.command 0) (split_of (sent e.command)) s is) (part_slots s.tuples) (firsts_among (map tuple_slot s.tuples))

-- the part of a slot, as it goes out for a pipeline
abbrev pub part_to_slot : Split → ℕ → Part
part_to_slot s slot = part_to (sent (plain_command (sub s slot))) (at_slot (route_to Master slot))

parts_go : (args : List (List ℕ)) (s : Split) → split_of args ≡ Some s → (ks : List ℕ) → AllByRecursion (λ k. among nat_eq k (map tuple_slot s.tuples) ≡ true) ks
    → (position : ℕ) → pipeline_parts position (map (part_entry s) ks) ≡ Ok (map (part_to_slot s) ks)
parts_go args s e [] h position = refl
parts_go args s e (k ∷ ks) h position =
    ap (λ o. with_whole position o (pipeline_parts (suc position) (map (part_entry s) ks))) (part_goes args s e k h.0)
    ∙ ap (with_whole position (Some (part_to_slot s k))) (parts_go args s e ks h.1 (suc position))

-- the parts of a split command
pub split_parts_go : (e : Entry) (s : Split) → split_at e ≡ Some s → (position : ℕ) → pipeline_parts position (map (part_entry s) (part_slots s.tuples)) ≡ Ok (map (part_to_slot s) (part_slots s.tuples))
split_parts_go e s is position =
    parts_go (sent e.command) s (split_is (parts_of [] e.command 0) (split_of (sent e.command)) s is) (part_slots s.tuples) (firsts_among (map tuple_slot s.tuples)) position

all-joined : {A : Type 0} (P : A → Type 0) (xs ys : List A) → AllByRecursion P xs → AllByRecursion P ys → AllByRecursion P (xs ++ ys)
all-joined P [] ys h k = k
all-joined P (x ∷ xs) ys h k = (h.0, all-joined P xs ys h.1 k)

all_placed : (entries : List Entry) (position : ℕ) → first_unplaced position entries ≡ None → AllByRecursion HasPart (in_parts entries)
all_placed [] position h = tt
all_placed (e ∷ es) position h = by (goes_to_slots e) refl h (λ k. all_placed es (suc position) k)
  where
    by : (b : Bool) → goes_to_slots e ≡ b → cond b (first_unplaced (suc position) es) (Some (at_position position)) ≡ None → (first_unplaced (suc position) es ≡ None → AllByRecursion HasPart (in_parts es)) → AllByRecursion HasPart (in_parts (e ∷ es))
    by true g k ih = all-joined HasPart (entries_by e (split_at e)) (in_parts es) (placed_whole e g) (ih k)
    by false g k ih = cc

pub parts_found : (entries : List Entry) (position : ℕ) → AllByRecursion HasPart entries → (parts : List Part) × (pipeline_parts position entries ≡ Ok parts)
parts_found [] position h = ([], refl)
parts_found (e ∷ es) position h =
    let later = parts_found es (suc position) h.1 in
    (h.0.0 ∷ later.0, ap (λ o. with_whole position o (pipeline_parts (suc position) es)) h.0.1 ∙ ap (with_whole position (Some h.0.0)) later.1)

pub parts_go_whole : PartsGoWhole
parts_go_whole entries h = parts_found (in_parts entries) 0 (all_placed entries 0 h)

-- ---- where no command is split

-- a command that has a part goes whole
pub is_whole : (e : Entry) (part : Part) → entry_part e ≡ Some part → split_at e ≡ None
is_whole e part h = by (reads_several_slots e.command.args) (parts_of [] e.command 0) h
  where
    by : (b : Bool) (r : Result (List Part) Refusal) → if_one_slot b (whole_part (sent e.command) r) ≡ Some part → if_several r (split_of (sent e.command)) ≡ None
    by true r k = cc
    by false (Err refusal) k = cc
    by false (Ok []) k = cc
    by false (Ok (p ∷ [])) k = refl
    by false (Ok (p ∷ q ∷ ps)) k = cc

-- all commands of a pipeline have a part
pub have_parts : (entries : List Entry) (position : ℕ) (parts : List Part) → pipeline_parts position entries ≡ Ok parts → AllByRecursion HasPart entries
have_parts [] position parts h = tt
have_parts (e ∷ es) position parts h = by (entry_part e) refl (pipeline_parts (suc position) es) refl h (λ q k. have_parts es (suc position) q k)
  where
    by : (o : Option Part) → entry_part e ≡ o → (r : Result (List Part) Refusal) → pipeline_parts (suc position) es ≡ r → with_whole position o r ≡ Ok parts → ((q : List Part) → pipeline_parts (suc position) es ≡ Ok q → AllByRecursion HasPart es) → AllByRecursion HasPart (e ∷ es)
    by None p r q k ih = cc
    by (Some part) p (Err refusal) q k ih = cc
    by (Some part) p (Ok later) q k ih = ((part, p), ih later q)

whole_in_parts : (entries : List Entry) → AllByRecursion HasPart entries → in_parts entries ≡ entries
whole_in_parts [] h = refl
whole_in_parts (e ∷ es) h = ap (λ o. entries_by e o ++ in_parts es) (is_whole e h.0.0 h.0.1) ∙ ap (λ rest. e ∷ rest) (whole_in_parts es h.1)

whole_placed : (entries : List Entry) (position : ℕ) → AllByRecursion HasPart entries → first_unplaced position entries ≡ None
whole_placed [] position h = refl
whole_placed (e ∷ es) position h =
    ap (λ o. cond (is_some (split_at e) || is_some o) (first_unplaced (suc position) es) (Some (at_position position))) h.0.1
    ∙ ap (λ o. cond (is_some o || true) (first_unplaced (suc position) es) (Some (at_position position))) (is_whole e h.0.0 h.0.1)
    ∙ whole_placed es (suc position) h.1

whole_told : (entries : List Entry) → AllByRecursion HasPart entries → (told outcomes : List (Result Tree Refusal)) → AreOutcomesOf (splits_in entries) told outcomes → told ≡ outcomes
whole_told [] h told [] a = a
whole_told [] h told (o ∷ os) a = absurd a
whole_told (e ∷ es) h told [] a = absurd a
whole_told (e ∷ es) h told (o ∷ os) a =
    let b = subst (λ s. AreOutcomesOf (s ∷ splits_in es) told (o ∷ os)) (is_whole e h.0.0 h.0.1) a in
    sym (take-append-drop 1 told) ∙ ap (λ front. front ++ drop 1 told) b.0 ∙ ap (λ rest. o ∷ rest) (whole_told es h.1 (drop 1 told) os b.1)

-- outcomes of as many positions are those of their parts
whole_outcomes : (entries : List Entry) → AllByRecursion HasPart entries → (told : List (Result Tree Refusal)) → length told ≡ length entries → AreOutcomesOf (splits_in entries) told told
whole_outcomes [] h [] e = refl
whole_outcomes [] h (o ∷ os) e = cc
whole_outcomes (x ∷ es) h [] e = cc
whole_outcomes (x ∷ es) h (o ∷ os) e =
    subst (λ s. AreOutcomesOf (s ∷ splits_in es) (o ∷ os) (o ∷ os)) (sym (is_whole x h.0.0 h.0.1))
    (refl, whole_outcomes es h.1 os (let k : length os ≡ length es = omega (arith, e) in k))

pub whole_told_so : (entries : List Entry) (parts : List Part) → pipeline_parts 0 entries ≡ Ok parts → (told : List (Result Tree Refusal)) → length told ≡ length entries → AreOutcomesOf (splits_in entries) told told
whole_told_so entries parts h told e = whole_outcomes entries (have_parts entries 0 parts h) told e

pub wholes_stay_whole : WholesStayWhole
wholes_stay_whole entries parts h =
    let have = have_parts entries 0 parts h in
    (whole_in_parts entries have, whole_placed entries 0 have, λ told outcomes a. whole_told entries have told outcomes a)
