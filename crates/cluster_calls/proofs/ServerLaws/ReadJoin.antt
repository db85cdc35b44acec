-- The join of what a read's steps tell on each slot is what they tell in the call's order.
use Rattle.std.proofs.Common.{◌≡◌, ℕ, suc, Bool, true, false, cond, ◌||◌, ◌&&◌, ◌==◌, nat_eq, List, [], ◌∷◌, ◌++◌, map, Some, None, option_map, refl, sym, ap, ◌∙◌, subst, append-nil, eqb-true}
use Rattle.std.specs.Prelude.{bytes_eq, not, option_and_then, slice_index_or}
use Rattle.std.specs.List.{AllByRecursion, list_any}
use Rattle.std.proofs.lemmas.Bool.{false≢true, and_parts, not-true}
use Rattle.std.proofs.lemmas.List.Elements.{filter-append}
use Rattle.std.proofs.lemmas.List.Folds.{list_all-append}
use Rattle.std.proofs.lemmas.Slice.Eq.{bytes_eq-Decides}
use Rattle.resp_args.specs.Convert.{traverse}
use Rattle.cluster_routing.specs.HashSlot.{hash_slot}
use Rattle.cluster_routing.specs.Lists.{among, IsDistinct, is_distinct, Pairwise}
use Rattle.cluster_routing.specs.Parts.{places_from}
use Rattle.cluster_routing.proofs.Recut.{all-filter}
use Rattle.stream_commands.specs.Join.{keys_at, name_only, name_own_keys, rows_of, is_one_at_most, name_none_twice, all_rows, in_key_order, join}
use Rattle.stream_commands.specs.ReadReply.{Row}
use Rattle.stream_commands.specs.Settings.{ReadSettings}
use Rattle.cluster_calls.proofs.Lists.{all-append}
use Rattle.cluster_calls.specs.Calls.Call.{Stream}
use Rattle.cluster_calls.specs.Calls.Reads.{stream_slots, streams_at, key_places}
use Rattle.cluster_calls.specs.Calls.Task.{stream_keys}
use Rattle.cluster_calls.specs.OneServer.Keyspace.{Step, on_slot}
use Rattle.cluster_calls.specs.OneServer.Laws.{JoinIsTheWhole}
use Rattle.cluster_calls.specs.OneServer.Meaning.{DoesRead, IsRowOf, rows_of_steps}
use Rattle.cluster_calls.specs.OneServer.Operations.{Response, Reply, Rows}
use Rattle.cluster_calls.proofs.LogLaws.Plans.{or_right, all-weaker}
use Rattle.cluster_calls.proofs.ServerLaws.Distinct.{firsts_distinct}
use Rattle.cluster_calls.proofs.ServerLaws.Grouping.{pairwise-filter}
use Rattle.cluster_calls.proofs.ServerLaws.ReadParts.{streams_whole}
use Rattle.cluster_calls.proofs.ServerLaws.ReadRows.{Fits, told_rows, all_told, rows_are, fits_from, names, no_rows_of, other_slot, rows_on_slot, same_order, own_rows, no_such_key, in_order_stays}

-- ---- the keys at a slot's places

pub one_on : (slot n : ℕ) (ss : List ℕ) → places_from slot (suc n) ss ≡ map suc (places_from slot n ss)
one_on slot n [] = refl
one_on slot n (s ∷ ss) = by (slot == s) (one_on slot (suc n) ss)
  where
    by : (b : Bool) → places_from slot (suc (suc n)) ss ≡ map suc (places_from slot (suc n) ss) → cond b (suc n ∷ places_from slot (suc (suc n)) ss) (places_from slot (suc (suc n)) ss) ≡ map suc (cond b (n ∷ places_from slot (suc n) ss) (places_from slot (suc n) ss))
    by true h = ap (λ q. suc n ∷ q) h
    by false h = h

behind_first : (k : List ℕ) (keys : List (List ℕ)) (places : List ℕ) → keys_at (k ∷ keys) (map suc places) ≡ keys_at keys places
behind_first k keys [] = refl
behind_first k keys (p ∷ places) = ap (λ q. slice_index_or keys p [] ∷ q) (behind_first k keys places)

keys_there : (slot : ℕ) (streams : List Stream) → keys_at (stream_keys streams) (key_places slot streams) ≡ stream_keys (streams_at slot streams)
keys_there slot [] = refl
keys_there slot (s ∷ streams) =
    by (slot == hash_slot s.key)
    (ap (keys_at (s.key ∷ stream_keys streams)) (one_on slot 0 (map hash_slot (stream_keys streams))) ∙ behind_first s.key (stream_keys streams) (key_places slot streams) ∙ keys_there slot streams)
  where
    by : (b : Bool) → keys_at (s.key ∷ stream_keys streams) (places_from slot 1 (map hash_slot (stream_keys streams))) ≡ stream_keys (streams_at slot streams)
        → keys_at (s.key ∷ stream_keys streams) (cond b (0 ∷ places_from slot 1 (map hash_slot (stream_keys streams))) (places_from slot 1 (map hash_slot (stream_keys streams)))) ≡ stream_keys (cond b (s ∷ streams_at slot streams) (streams_at slot streams))
    by true h = ap (λ q. s.key ∷ q) h
    by false h = h

-- ---- what steps of some streams tell

-- rows of these keys alone
names_only : (options : ReadSettings) (ss : List Stream) (xs : List Step) → Pairwise (DoesRead options) ss xs → name_only (stream_keys ss) (all_told xs) ≡ true
names_only options [] [] h = refl
names_only options [] (x ∷ xs) h = absurd h
names_only options (s ∷ ss) [] h = absurd h
names_only options (s ∷ ss) (x ∷ xs) h =
    list_all-append (λ (r : Row). bytes_eq r.key s.key || list_any (bytes_eq r.key) (stream_keys ss)) (told_rows x.response) (all_told xs)
    ∙ ap (λ b. b && name_only (s.key ∷ stream_keys ss) (all_told xs)) (own (told_rows x.response) (own_rows s.key x.response h.0.response))
    ∙ later (all_told xs) (names_only options ss xs h.1)
  where
    own : (rs : List Row) → AllByRecursion (λ (r : Row). r.key ≡ s.key) rs → name_only (s.key ∷ stream_keys ss) rs ≡ true
    own [] a = refl
    own (r ∷ rs) a = ap (λ b. (b || list_any (bytes_eq r.key) (stream_keys ss)) && name_only (s.key ∷ stream_keys ss) rs) ((bytes_eq-Decides r.key s.key).1 a.0) ∙ own rs a.1

    later : (rs : List Row) → name_only (stream_keys ss) rs ≡ true → name_only (s.key ∷ stream_keys ss) rs ≡ true
    later [] e = refl
    later (r ∷ rs) e =
        let p = and_parts (list_any (bytes_eq r.key) (stream_keys ss)) (name_only (stream_keys ss) rs) e in
        ap (λ b. b && name_only (s.key ∷ stream_keys ss) rs) (or_right (bytes_eq r.key s.key) p.0) ∙ later rs p.1

-- a step one row at most
few : (key k : List ℕ) (t : Response) → IsRowOf k t → is_one_at_most (rows_of (told_rows t) key) ≡ true
few key k (Reply tree) h = refl
few key k (Rows None) h = refl
few key k (Rows (Some [])) h = refl
few key k (Rows (Some (r ∷ []))) h = by (bytes_eq key r.key)
  where
    by : (b : Bool) → is_one_at_most (cond b (r ∷ []) []) ≡ true
    by true = refl
    by false = refl
few key k (Rows (Some (r ∷ r2 ∷ rs))) h = absurd h

-- of each key one row at most, where they differ
one_each : (options : ReadSettings) (key : List ℕ) (ss : List Stream) (xs : List Step) → is_distinct bytes_eq (stream_keys ss) ≡ true → Pairwise (DoesRead options) ss xs → is_one_at_most (rows_of (all_told xs) key) ≡ true
one_each options key [] [] d h = refl
one_each options key [] (x ∷ xs) d h = absurd h
one_each options key (s ∷ ss) [] d h = absurd h
one_each options key (s ∷ ss) (x ∷ xs) d h =
    ap is_one_at_most (filter-append (λ (r : Row). bytes_eq key r.key) (told_rows x.response) (all_told xs)) ∙ by (bytes_eq key s.key) refl (one_each options key ss xs p.1 h.1)
  where
    p : (not (among bytes_eq s.key (stream_keys ss)) ≡ true) × (is_distinct bytes_eq (stream_keys ss) ≡ true)
    p = and_parts (not (among bytes_eq s.key (stream_keys ss))) (is_distinct bytes_eq (stream_keys ss)) d

    others : bytes_eq key s.key ≡ false → (rs : List Row) → AllByRecursion (λ (r : Row). r.key ≡ s.key) rs → AllByRecursion (λ (r : Row). bytes_eq key r.key ≡ false) rs
    others e [] a = tt
    others e (r ∷ rs) a = (ap (bytes_eq key) a.0 ∙ e, others e rs a.1)

    by : (b : Bool) → bytes_eq key s.key ≡ b → is_one_at_most (rows_of (all_told xs) key) ≡ true → is_one_at_most (rows_of (told_rows x.response) key ++ rows_of (all_told xs) key) ≡ true
    by true e ih =
        let none = no_such_key options key ss xs (ap (λ k. among bytes_eq k (stream_keys ss)) ((bytes_eq-Decides key s.key).0 e) ∙ not-true (among bytes_eq s.key (stream_keys ss)) p.0) h.1 in
        ap (λ q. is_one_at_most (rows_of (told_rows x.response) key ++ q)) none ∙ ap is_one_at_most (append-nil (rows_of (told_rows x.response) key)) ∙ few key s.key x.response h.0.response
    by false e ih = ap (λ q. is_one_at_most (q ++ rows_of (all_told xs) key)) (no_rows_of key (told_rows x.response) (others e (told_rows x.response) (own_rows s.key x.response h.0.response))) ∙ ih

-- ---- slot by slot

slots_here : (k : ℕ) (xs : List Step) → AllByRecursion (λ (x : Step). x.slot ≡ k) (on_slot k xs)
slots_here k [] = tt
slots_here k (x ∷ xs) = by (k == x.slot) refl (slots_here k xs)
  where
    by : (b : Bool) → k == x.slot ≡ b → AllByRecursion (λ (x : Step). x.slot ≡ k) (on_slot k xs) → AllByRecursion (λ (x : Step). x.slot ≡ k) (cond b (x ∷ on_slot k xs) (on_slot k xs))
    by true e r = (sym (eqb-true k x.slot e), r)
    by false e r = r

told_slots : (k : ℕ) (xs : List Step) → AllByRecursion Fits xs → AllByRecursion (λ (x : Step). x.slot ≡ k) xs → AllByRecursion (λ (r : Row). hash_slot r.key ≡ k) (all_told xs)
told_slots k [] f s = tt
told_slots k (x ∷ xs) f s =
    all-append (λ (r : Row). hash_slot r.key ≡ k) (told_rows x.response) (all_told xs)
    (subst (λ t. AllByRecursion (λ (r : Row). hash_slot r.key ≡ k) (told_rows t)) (sym f.0.told) (all-weaker _ _ (λ (r : Row) e. e ∙ s.0) f.0.rows f.0.slots)) (told_slots k xs f.1 s.1)

abbrev told_on : List Step → ℕ → List Row
told_on steps slot = all_told (on_slot slot steps)

rows_at : (key : List ℕ) (steps : List Step) → AllByRecursion Fits steps → (slots : List ℕ) → IsDistinct nat_eq slots
    → rows_of (all_rows (map (told_on steps) slots)) key ≡ cond (among nat_eq (hash_slot key) slots) (rows_of (told_on steps (hash_slot key)) key) []
rows_at key steps fit [] d = refl
rows_at key steps fit (k ∷ ks) d =
    filter-append (λ (r : Row). bytes_eq key r.key) (told_on steps k) (all_rows (map (told_on steps) ks)) ∙ by (nat_eq (hash_slot key) k) refl (rows_at key steps fit ks d.1)
  where
    by : (b : Bool) → nat_eq (hash_slot key) k ≡ b → rows_of (all_rows (map (told_on steps) ks)) key ≡ cond (among nat_eq (hash_slot key) ks) (rows_of (told_on steps (hash_slot key)) key) []
        → rows_of (told_on steps k) key ++ rows_of (all_rows (map (told_on steps) ks)) key ≡ cond (b || among nat_eq (hash_slot key) ks) (rows_of (told_on steps (hash_slot key)) key) []
    by true e ih =
        let here = eqb-true (hash_slot key) k e in
        ap (λ q. rows_of (told_on steps k) key ++ q) (ih ∙ ap (λ b. cond b (rows_of (told_on steps (hash_slot key)) key) []) (ap (λ n. among nat_eq n ks) here ∙ d.0))
        ∙ append-nil (rows_of (told_on steps k) key) ∙ ap (λ n. rows_of (told_on steps n) key) (sym here)
    by false e ih =
        ap (λ q. q ++ rows_of (all_rows (map (told_on steps) ks)) key)
        (no_rows_of key (told_on steps k) (other_slot key k (told_on steps k) e (told_slots k (on_slot k steps) (all-filter Fits (λ (x : Step). k == x.slot) steps fit) (slots_here k steps)))) ∙ ih

-- where a slot is not among those of the streams no step is on it
none_there : (options : ReadSettings) (slots : List ℕ) (n : ℕ) → among nat_eq n slots ≡ false → (ss : List Stream) (xs : List Step) → AllByRecursion (λ (s : Stream). among nat_eq (hash_slot s.key) slots ≡ true) ss
    → Pairwise (DoesRead options) ss xs → on_slot n xs ≡ []
none_there options slots n e [] [] a h = refl
none_there options slots n e [] (x ∷ xs) a h = absurd h
none_there options slots n e (s ∷ ss) [] a h = absurd h
none_there options slots n e (s ∷ ss) (x ∷ xs) a h = by (n == x.slot) refl (none_there options slots n e ss xs a.1 h.1)
  where
    by : (b : Bool) → n == x.slot ≡ b → on_slot n xs ≡ [] → cond b (x ∷ on_slot n xs) (on_slot n xs) ≡ []
    by true f ih = absurd (false≢true (sym e ∙ ap (λ k. among nat_eq k slots) (eqb-true n x.slot f ∙ h.0.slot) ∙ a.0))
    by false f ih = ih

module _ (options : ReadSettings) (streams : List Stream) (steps : List Step) (distinct : is_distinct bytes_eq (stream_keys streams) ≡ true) (does : Pairwise (DoesRead options) streams steps) (fit : AllByRecursion Fits steps) where
  traversed : (slots : List ℕ) → traverse (λ slot. rows_of_steps (on_slot slot steps)) slots ≡ Some (map (told_on steps) slots)
  traversed [] = refl
  traversed (k ∷ ks) =
      ap (option_and_then (λ y. option_map (λ ys. y ∷ ys) (traverse (λ slot. rows_of_steps (on_slot slot steps)) ks))) (rows_are (on_slot k steps) (all-filter Fits (λ (x : Step). k == x.slot) steps fit))
      ∙ ap (option_map (λ ys. told_on steps k ∷ ys)) (traversed ks)

  owns : (slots : List ℕ) → name_own_keys (stream_keys streams) (map (λ slot. key_places slot streams) slots) (map (told_on steps) slots) ≡ true
  owns [] = refl
  owns (k ∷ ks) =
      ap (λ b. b && name_own_keys (stream_keys streams) (map (λ slot. key_places slot streams) ks) (map (told_on steps) ks))
      (ap (λ q. name_only q (told_on steps k)) (keys_there k streams)
      ∙ names_only options (streams_at k streams) (on_slot k steps)
      (pairwise-filter (DoesRead options) (λ (s : Stream). k == hash_slot s.key) (λ (x : Step). k == x.slot) (λ s x d. ap (λ n. k == n) (sym d.slot)) streams steps does))
      ∙ owns ks

  same_rows : (key : List ℕ) → rows_of (all_rows (map (told_on steps) (stream_slots streams))) key ≡ rows_of (all_told steps) key
  same_rows key =
      rows_at key steps fit (stream_slots streams) (firsts_distinct nat_eq (map (λ (s : Stream). hash_slot s.key) streams))
      ∙ by (among nat_eq (hash_slot key) (stream_slots streams)) refl ∙ sym (rows_on_slot key steps fit)
    where
      by : (b : Bool) → among nat_eq (hash_slot key) (stream_slots streams) ≡ b → cond b (rows_of (told_on steps (hash_slot key)) key) [] ≡ rows_of (told_on steps (hash_slot key)) key
      by true e = refl
      by false e = sym (ap (λ q. rows_of (all_told q) key) (none_there options (stream_slots streams) (hash_slot key) e streams steps (streams_whole options streams) does))

  none_twice : (keys : List (List ℕ)) → name_none_twice keys (all_rows (map (told_on steps) (stream_slots streams))) ≡ true
  none_twice [] = refl
  none_twice (key ∷ keys) =
      ap (λ b. b && name_none_twice keys (all_rows (map (told_on steps) (stream_slots streams)))) (ap is_one_at_most (same_rows key) ∙ one_each options key streams steps distinct does) ∙ none_twice keys

pub join_is_the_whole : JoinIsTheWhole
join_is_the_whole options streams steps rows distinct does told =
    let keys = stream_keys streams in
    let slots = stream_slots streams in
    let fit = fits_from steps (names options streams steps does) rows told in
    let places = map (λ slot. key_places slot streams) slots in
    let replies = map (told_on steps) slots in
    let in_order = in_key_order keys (all_rows replies) in
    let own : Some rows ≡ Some (all_told steps) = sym told ∙ rows_are steps fit in
    let rows_is : rows ≡ all_told steps = cc in
    ap (option_and_then (join keys places)) (traversed options streams steps distinct does fit slots)
    ∙ ap (λ b. cond (b && name_none_twice keys (all_rows replies)) (Some in_order) None) (owns options streams steps distinct does fit slots)
    ∙ ap (λ b. cond b (Some in_order) None) (none_twice options streams steps distinct does fit keys)
    ∙ ap (λ q. Some q) (same_order keys (all_rows replies) (all_told steps) (same_rows options streams steps distinct does fit) ∙ in_order_stays options streams steps distinct does ∙ sym rows_is)
