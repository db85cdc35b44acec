-- The rows of the parts in the order of the call's keys are what the steps in the call's order tell.
use Rattle.std.proofs.Common.{◌≡◌, ℕ, Bool, true, false, cond, ◌||◌, ◌==◌, List, [], ◌∷◌, ◌++◌, filter, Option, Some, None, option_map, refl, sym, ap, ◌∙◌, subst, append-nil, append_assoc, eq-eqb}
use Rattle.std.specs.Prelude.{IfSome, bytes_eq, not, ◌&&◌, unwrap_or, option_and_then}
use Rattle.std.specs.List.{AllByRecursion}
use Rattle.std.proofs.lemmas.Bool.{false≢true, and_parts, not-true}
use Rattle.std.proofs.lemmas.List.Elements.{filter-append}
use Rattle.std.proofs.lemmas.Slice.Eq.{bytes_eq-Decides}
use Rattle.resp_core.specs.Trees.{Tree, nil}
use Rattle.cluster_routing.specs.HashSlot.{hash_slot}
use Rattle.cluster_routing.specs.Lists.{concat, among, Pairwise, is_distinct}
use Rattle.stream_commands.specs.Join.{name_own_keys, name_none_twice, all_rows, in_key_order, join}
use Rattle.stream_commands.specs.ReadReply.{Row, read_reply}
use Rattle.stream_commands.specs.Settings.{ReadSettings}
use Rattle.cluster_calls.proofs.Lists.{all-append}
use Rattle.cluster_calls.specs.Calls.Call.{Stream}
use Rattle.cluster_calls.specs.Calls.Reads.{readings}
use Rattle.cluster_calls.specs.Calls.Replies.{reply_or_nil}
use Rattle.cluster_calls.specs.Calls.Task.{stream_keys}
use Rattle.cluster_calls.specs.Links.Log.{Exchange, is_answered, is_data_reply}
use Rattle.cluster_calls.specs.OneServer.Keyspace.{Step, on_slot}
use Rattle.cluster_calls.specs.OneServer.Meaning.{Meaning, DoesRead, IsRowOf, rows_told, more_rows, rows_of_steps}
use Rattle.cluster_calls.specs.OneServer.Operations.{Response, Reply, Rows}
use Rattle.cluster_routing.proofs.Recut.{all-filter}
use Rattle.cluster_calls.proofs.ServerLaws.ReadParts.{IsReadDone}

-- ---- steps whose replies have their shape

-- the step tells rows whose keys have its slot
pub record Fits (x : Step) : Type 0 where
  pub rows : List Row
  pub told : x.response ≡ Rows (Some rows)
  pub slots : AllByRecursion (λ (r : Row). hash_slot r.key ≡ x.slot) rows

-- the step reads some key
pub record Named (x : Step) : Type 0 where
  pub key : List ℕ
  pub slot : x.slot ≡ hash_slot key
  pub response : IsRowOf key x.response

abbrev pub told_rows : Response → List Row
told_rows (Rows (Some rows)) = rows
told_rows _ = []

abbrev pub all_told : List Step → List Row
all_told [] = []
all_told (x ∷ xs) = told_rows x.response ++ all_told xs

pub rows_are : (xs : List Step) → AllByRecursion Fits xs → rows_of_steps xs ≡ Some (all_told xs)
rows_are [] h = refl
rows_are (x ∷ xs) h =
    ap (λ t. more_rows (rows_told t) (rows_of_steps xs)) h.0.told ∙ ap (λ o. more_rows (Some h.0.rows) o) (rows_are xs h.1)
    ∙ ap (λ t. Some (told_rows t ++ all_told xs)) (sym h.0.told)

pub fits_from : (xs : List Step) → AllByRecursion Named xs → (rows : List Row) → rows_of_steps xs ≡ Some rows → AllByRecursion Fits xs
fits_from [] n rows e = tt
fits_from (x ∷ xs) n rows e = by x.response refl n.0.response (rows_of_steps xs) refl e (λ rest f. fits_from xs n.1 rest f)
  where
    by : (t : Response) → x.response ≡ t → IsRowOf n.0.key t → (o : Option (List Row)) → rows_of_steps xs ≡ o → more_rows (rows_told t) o ≡ Some rows → ((rest : List Row) → rows_of_steps xs ≡ Some rest → AllByRecursion Fits xs) → AllByRecursion Fits (x ∷ xs)
    by (Reply tree) t r o f e ih = cc
    by (Rows None) t r o f e ih = cc
    by (Rows (Some rs)) t r None f e ih = cc
    by (Rows (Some [])) t r (Some rest) f e ih = (record { rows = []; told = t; slots = tt }, ih rest f)
    by (Rows (Some (r ∷ []))) t named (Some rest) f e ih = (record { rows = r ∷ []; told = t; slots = (ap hash_slot named ∙ sym n.0.slot, tt) }, ih rest f)
    by (Rows (Some (r ∷ r2 ∷ rs))) t named o f e ih = absurd named

pub names : (options : ReadSettings) (ss : List Stream) (st : List Step) → Pairwise (DoesRead options) ss st → AllByRecursion Named st
names options [] [] h = tt
names options [] (x ∷ st) h = absurd h
names options (s ∷ ss) [] h = absurd h
names options (s ∷ ss) (x ∷ st) h = (record { key = s.key; slot = h.0.slot; response = h.0.response }, names options ss st h.1)

names_all : (options : ReadSettings) (streams : List Stream) (meaning : Meaning) (xs : List Exchange) (sts : List (List Step)) → Pairwise (IsReadDone options streams meaning) xs sts → AllByRecursion Named (concat sts)
names_all options streams meaning [] [] h = tt
names_all options streams meaning [] (st ∷ sts) h = absurd h
names_all options streams meaning (x ∷ xs) [] h = absurd h
names_all options streams meaning (x ∷ xs) (st ∷ sts) h = all-append Named st (concat sts) (names options _ st h.0.done.0) (names_all options streams meaning xs sts h.1)

-- ---- what holds of the steps on each slot holds of all

drop_head : (P : Step → Type 0) (b : Bool) (x : Step) (ys : List Step) → AllByRecursion P (cond b (x ∷ ys) ys) → AllByRecursion P ys
drop_head P true x ys h = h.1
drop_head P false x ys h = h

pub all_by_slot : (P : Step → Type 0) (xs : List Step) → ((s : ℕ) → AllByRecursion P (on_slot s xs)) → AllByRecursion P xs
all_by_slot P [] h = tt
all_by_slot P (x ∷ xs) h = (
  (subst (λ b. AllByRecursion P (cond b (x ∷ on_slot x.slot xs) (on_slot x.slot xs))) (eq-eqb x.slot x.slot refl) (h x.slot)).0,
  all_by_slot P xs (λ s. drop_head P (s == x.slot) x (on_slot s xs) (h s)),
)

-- ---- the rows of one key

pub no_rows_of : (key : List ℕ) (rows : List Row) → AllByRecursion (λ (r : Row). bytes_eq key r.key ≡ false) rows → filter (λ (r : Row). bytes_eq key r.key) rows ≡ []
no_rows_of key [] h = refl
no_rows_of key (r ∷ rows) h = ap (λ b. cond b (r ∷ filter (λ (q : Row). bytes_eq key q.key) rows) (filter (λ (q : Row). bytes_eq key q.key) rows)) h.0 ∙ no_rows_of key rows h.1

pub other_slot : (key : List ℕ) (slot : ℕ) (rows : List Row) → hash_slot key == slot ≡ false → AllByRecursion (λ (r : Row). hash_slot r.key ≡ slot) rows → AllByRecursion (λ (r : Row). bytes_eq key r.key ≡ false) rows
other_slot key slot [] n h = tt
other_slot key slot (r ∷ rows) n h = (by (bytes_eq key r.key) refl, other_slot key slot rows n h.1)
  where
    by : (b : Bool) → bytes_eq key r.key ≡ b → b ≡ false
    by true e = absurd (false≢true (sym n ∙ eq-eqb (hash_slot key) slot (ap hash_slot ((bytes_eq-Decides key r.key).0 e) ∙ h.0)))
    by false e = refl

pub rows_on_slot : (key : List ℕ) (xs : List Step) → AllByRecursion Fits xs → filter (λ (r : Row). bytes_eq key r.key) (all_told xs) ≡ filter (λ (r : Row). bytes_eq key r.key) (all_told (on_slot (hash_slot key) xs))
rows_on_slot key [] h = refl
rows_on_slot key (x ∷ xs) h =
    filter-append (λ (r : Row). bytes_eq key r.key) (told_rows x.response) (all_told xs) ∙ by (hash_slot key == x.slot) refl (rows_on_slot key xs h.1)
  where
    by : (b : Bool) → hash_slot key == x.slot ≡ b → filter (λ (r : Row). bytes_eq key r.key) (all_told xs) ≡ filter (λ (r : Row). bytes_eq key r.key) (all_told (on_slot (hash_slot key) xs))
        → filter (λ (r : Row). bytes_eq key r.key) (told_rows x.response) ++ filter (λ (r : Row). bytes_eq key r.key) (all_told xs) ≡ filter (λ (r : Row). bytes_eq key r.key) (all_told (cond b (x ∷ on_slot (hash_slot key) xs) (on_slot (hash_slot key) xs)))
    by true e ih = ap (λ q. filter (λ (r : Row). bytes_eq key r.key) (told_rows x.response) ++ q) ih ∙ sym (filter-append (λ (r : Row). bytes_eq key r.key) (told_rows x.response) (all_told (on_slot (hash_slot key) xs)))
    by false e ih =
        ap (λ t. filter (λ (r : Row). bytes_eq key r.key) (told_rows t) ++ filter (λ (r : Row). bytes_eq key r.key) (all_told xs)) h.0.told
        ∙ ap (λ q. q ++ filter (λ (r : Row). bytes_eq key r.key) (all_told xs)) (no_rows_of key h.0.rows (other_slot key x.slot h.0.rows e h.0.slots)) ∙ ih

-- ---- rows in the order of keys

pub same_order : (keys : List (List ℕ)) (rows rows' : List Row) → ((key : List ℕ) → filter (λ (r : Row). bytes_eq key r.key) rows ≡ filter (λ (r : Row). bytes_eq key r.key) rows') → in_key_order keys rows ≡ in_key_order keys rows'
same_order [] rows rows' h = refl
same_order (key ∷ keys) rows rows' h = ap (λ q. q ++ in_key_order keys rows) (h key) ∙ ap (λ q. filter (λ (r : Row). bytes_eq key r.key) rows' ++ q) (same_order keys rows rows' h)

-- rows of a key that is not among the keys
skipped_key : (k : List ℕ) (keys : List (List ℕ)) → among bytes_eq k keys ≡ false → (rows more : List Row) → AllByRecursion (λ (r : Row). r.key ≡ k) rows → in_key_order keys (rows ++ more) ≡ in_key_order keys more
skipped_key k [] n rows more h = refl
skipped_key k (key ∷ keys) n rows more h =
    ap (λ q. q ++ in_key_order keys (rows ++ more)) (filter-append (λ (r : Row). bytes_eq key r.key) rows more ∙ ap (λ q. q ++ filter (λ (r : Row). bytes_eq key r.key) more) (no_rows_of key rows (others rows h)))
    ∙ ap (λ q. filter (λ (r : Row). bytes_eq key r.key) more ++ q) (skipped_key k keys (later (bytes_eq k key) n) rows more h)
  where
    later : (b : Bool) → (b || among bytes_eq k keys) ≡ false → among bytes_eq k keys ≡ false
    later true e = absurd (false≢true (sym e))
    later false e = e

    first : (b : Bool) → (b || among bytes_eq k keys) ≡ false → b ≡ false
    first true e = absurd (false≢true (sym e))
    first false e = refl

    others : (rs : List Row) → AllByRecursion (λ (r : Row). r.key ≡ k) rs → AllByRecursion (λ (r : Row). bytes_eq key r.key ≡ false) rs
    others [] h = tt
    others (r ∷ rs) h = (by (bytes_eq key r.key) refl, others rs h.1)
      where
        by : (b : Bool) → bytes_eq key r.key ≡ b → b ≡ false
        by true e = absurd (false≢true (sym (first (bytes_eq k key) n) ∙ (bytes_eq-Decides k key).1 (sym h.0 ∙ sym ((bytes_eq-Decides key r.key).0 e))))
        by false e = refl

pub own_rows : (key : List ℕ) (t : Response) → IsRowOf key t → AllByRecursion (λ (r : Row). r.key ≡ key) (told_rows t)
own_rows key (Reply tree) h = tt
own_rows key (Rows None) h = tt
own_rows key (Rows (Some [])) h = tt
own_rows key (Rows (Some (r ∷ []))) h = (h, tt)
own_rows key (Rows (Some (r ∷ r2 ∷ rs))) h = absurd h

all_of_key : (key : List ℕ) (rows : List Row) → AllByRecursion (λ (r : Row). r.key ≡ key) rows → filter (λ (r : Row). bytes_eq key r.key) rows ≡ rows
all_of_key key [] h = refl
all_of_key key (r ∷ rows) h =
    ap (λ b. cond b (r ∷ filter (λ (q : Row). bytes_eq key q.key) rows) (filter (λ (q : Row). bytes_eq key q.key) rows)) ((bytes_eq-Decides key r.key).1 (sym h.0)) ∙ ap (λ q. r ∷ q) (all_of_key key rows h.1)

pub no_such_key : (options : ReadSettings) (key : List ℕ) (ss : List Stream) (xs : List Step) → among bytes_eq key (stream_keys ss) ≡ false → Pairwise (DoesRead options) ss xs → filter (λ (r : Row). bytes_eq key r.key) (all_told xs) ≡ []
no_such_key options key [] [] n h = refl
no_such_key options key [] (x ∷ xs) n h = absurd h
no_such_key options key (s ∷ ss) [] n h = absurd h
no_such_key options key (s ∷ ss) (x ∷ xs) n h =
    filter-append (λ (r : Row). bytes_eq key r.key) (told_rows x.response) (all_told xs)
    ∙ ap (λ q. q ++ filter (λ (r : Row). bytes_eq key r.key) (all_told xs)) (no_rows_of key (told_rows x.response) (others (told_rows x.response) (own_rows s.key x.response h.0.response)))
    ∙ no_such_key options key ss xs (later (bytes_eq key s.key) n) h.1
  where
    later : (b : Bool) → (b || among bytes_eq key (stream_keys ss)) ≡ false → among bytes_eq key (stream_keys ss) ≡ false
    later true e = absurd (false≢true (sym e))
    later false e = e

    first : (b : Bool) → (b || among bytes_eq key (stream_keys ss)) ≡ false → b ≡ false
    first true e = absurd (false≢true (sym e))
    first false e = refl

    others : (rs : List Row) → AllByRecursion (λ (r : Row). r.key ≡ s.key) rs → AllByRecursion (λ (r : Row). bytes_eq key r.key ≡ false) rs
    others [] h = tt
    others (r ∷ rs) h = (ap (bytes_eq key) h.0 ∙ first (bytes_eq key s.key) n, others rs h.1)

-- rows that are in the order of distinct keys stay
pub in_order_stays : (options : ReadSettings) (ss : List Stream) (xs : List Step) → is_distinct bytes_eq (stream_keys ss) ≡ true → Pairwise (DoesRead options) ss xs → in_key_order (stream_keys ss) (all_told xs) ≡ all_told xs
in_order_stays options [] [] d h = refl
in_order_stays options [] (x ∷ xs) d h = absurd h
in_order_stays options (s ∷ ss) [] d h = absurd h
in_order_stays options (s ∷ ss) (x ∷ xs) d h =
    let p = and_parts (not (among bytes_eq s.key (stream_keys ss))) (is_distinct bytes_eq (stream_keys ss)) d in
    let n = not-true (among bytes_eq s.key (stream_keys ss)) p.0 in
    let own = own_rows s.key x.response h.0.response in
    ap (λ q. q ++ in_key_order (stream_keys ss) (told_rows x.response ++ all_told xs))
    (filter-append (λ (r : Row). bytes_eq s.key r.key) (told_rows x.response) (all_told xs)
    ∙ ap (λ q. q ++ filter (λ (r : Row). bytes_eq s.key r.key) (all_told xs)) (all_of_key s.key (told_rows x.response) own)
    ∙ ap (λ q. told_rows x.response ++ q) (no_such_key options s.key ss xs n h.1) ∙ append-nil (told_rows x.response))
    ∙ ap (λ q. told_rows x.response ++ q) (skipped_key s.key (stream_keys ss) n (told_rows x.response) (all_told xs) own ∙ in_order_stays options ss xs p.1 h.1)

-- ---- what the replies tell

more-append : (xs ys : List Step) → rows_of_steps (xs ++ ys) ≡ more_rows (rows_of_steps xs) (rows_of_steps ys)
more-append [] ys = by (rows_of_steps ys)
  where
    by : (o : Option (List Row)) → o ≡ more_rows (Some []) o
    by None = refl
    by (Some rows) = refl
more-append (x ∷ xs) ys = ap (λ o. more_rows (rows_told x.response) o) (more-append xs ys) ∙ by (rows_told x.response) (rows_of_steps xs) (rows_of_steps ys)
  where
    by : (a b c : Option (List Row)) → more_rows a (more_rows b c) ≡ more_rows (more_rows a b) c
    by None b c = refl
    by (Some a) None c = refl
    by (Some a) (Some b) None = refl
    by (Some a) (Some b) (Some c) = ap (λ q. Some q) (sym (append_assoc a b c))

pub rows_told_by : (options : ReadSettings) (streams : List Stream) (meaning : Meaning) (xs : List Exchange) → AllByRecursion (λ x. is_answered x ≡ true) xs
    → (sts : List (List Step)) → Pairwise (IsReadDone options streams meaning) xs sts → (replies : List (List Row)) → readings xs ≡ Some replies → rows_of_steps (concat sts) ≡ Some (all_rows replies)
rows_told_by options streams meaning [] a [] h replies e = let n : [] ≡ replies = cc in ap (λ q. Some (all_rows q)) n
rows_told_by options streams meaning [] a (st ∷ sts) h replies e = absurd h
rows_told_by options streams meaning (x ∷ xs) a [] h replies e = absurd h
rows_told_by options streams meaning (x ∷ xs) a (st ∷ sts) h replies e =
    more-append st (concat sts) ∙ at_reply (read_reply (reply_or_nil x)) (sym (rows_said x.reply a.0 h.0.reply)) e (λ rest f. rows_told_by options streams meaning xs a.1 sts h.1 rest f)
  where
    rows_said : (r : Option Tree) → is_data_reply r ≡ true → IfSome r (λ tree. Rows (read_reply tree) ≡ h.0.response) → read_reply (unwrap_or r nil) ≡ rows_of_steps st
    rows_said None a k = absurd (false≢true a)
    rows_said (Some t) a k = ap rows_told (k ∙ h.0.done.1)

    at_rest : (r : List Row) → rows_of_steps st ≡ Some r → (o : Option (List (List Row))) → readings xs ≡ o → option_map (λ ys. r ∷ ys) o ≡ Some replies
        → ((rest : List (List Row)) → readings xs ≡ Some rest → rows_of_steps (concat sts) ≡ Some (all_rows rest)) → more_rows (rows_of_steps st) (rows_of_steps (concat sts)) ≡ Some (all_rows replies)
    at_rest r s None f e ih = cc
    at_rest r s (Some rest) f e ih =
        let n : r ∷ rest ≡ replies = cc in
        ap (λ o. more_rows o (rows_of_steps (concat sts))) s ∙ ap (λ o. more_rows (Some r) o) (ih rest f) ∙ ap (λ q. Some (all_rows q)) n

    at_reply : (o : Option (List Row)) → rows_of_steps st ≡ o → option_and_then (λ y. option_map (λ ys. y ∷ ys) (readings xs)) o ≡ Some replies
        → ((rest : List (List Row)) → readings xs ≡ Some rest → rows_of_steps (concat sts) ≡ Some (all_rows rest)) → more_rows (rows_of_steps st) (rows_of_steps (concat sts)) ≡ Some (all_rows replies)
    at_reply None s e ih = cc
    at_reply (Some r) s e ih = at_rest r s (readings xs) refl e ih

-- what is joined are the rows of all replies in the order of the keys
pub join_is : (keys : List (List ℕ)) (parts : List (List ℕ)) (replies : List (List Row)) (out : List Row) → join keys parts replies ≡ Some out → out ≡ in_key_order keys (all_rows replies)
join_is keys parts replies out e = by (name_own_keys keys parts replies && name_none_twice keys (all_rows replies)) e
  where
    by : (b : Bool) → cond b (Some (in_key_order keys (all_rows replies))) None ≡ Some out → out ≡ in_key_order keys (all_rows replies)
    by true e = cc
    by false e = cc

-- the rows of steps that are on each slot the parts' steps, in the order of the call's distinct keys
pub rows_in_order : (options : ReadSettings) (streams : List Stream) (meaning : Meaning) (xs : List Exchange) (sts : List (List Step)) → Pairwise (IsReadDone options streams meaning) xs sts
    → (steps : List Step) → ((s : ℕ) → on_slot s steps ≡ on_slot s (concat sts)) → Pairwise (DoesRead options) streams steps → is_distinct bytes_eq (stream_keys streams) ≡ true
    → (rows : List Row) → rows_of_steps (concat sts) ≡ Some rows → rows_of_steps steps ≡ Some (in_key_order (stream_keys streams) rows)
rows_in_order options streams meaning xs sts h steps same does distinct rows e =
    let fit = fits_from (concat sts) (names_all options streams meaning xs sts h) rows e in
    let fit_steps = all_by_slot Fits steps (λ s. subst (AllByRecursion Fits) (sym (same s)) (all-filter Fits (λ (x : Step). s == x.slot) (concat sts) fit)) in
    let own : Some rows ≡ Some (all_told (concat sts)) = sym e ∙ rows_are (concat sts) fit in
    let rows_is : rows ≡ all_told (concat sts) = cc in
    rows_are steps fit_steps
    ∙ ap (λ q. Some q) (sym (in_order_stays options streams steps distinct does)
    ∙ same_order (stream_keys streams) (all_told steps) (all_told (concat sts))
    (λ key. rows_on_slot key steps fit_steps ∙ ap (λ q. filter (λ (r : Row). bytes_eq key r.key) (all_told q)) (same (hash_slot key)) ∙ sym (rows_on_slot key (concat sts) fit))
    ∙ ap (in_key_order (stream_keys streams)) (sym rows_is))
