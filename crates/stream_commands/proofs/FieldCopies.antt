-- Copies of fields: pairs of distinct names that are inserted in turn keep their order.
use Rattle.std.proofs.Common.{◌≡◌, ℕ, List, [], ◌∷◌, ◌++◌, false, String, Result, Ok, Err, IfOk, Global, string_eq, string_bytes, nat_eq, if◌then◌else◌, refl, ap, sym, ◌∙◌, subst, append_assoc, append-nil}
use Rattle.std.proofs.Common.{map as each}
use Rattle.std.specs.List.{IsDistinct, AllByRecursion}
use Rattle.std.specs.Map.{keys_of}
use Rattle.std.specs.Cmp.Lexicographic.{pointwise, nat_list_eq_equiv}
use Rattle.indexmap.specs.IndexMap.{insert_entry, insert_all}
use Rattle.resp_core.specs.View.{view}
use Rattle.resp_core.specs.declared.value.Value.{Value}
use Rattle.stream_commands.specs.Entries.{Fields}
use Rattle.stream_commands.specs.RecordViews.{Map, fields_view}
use Rattle.stream_commands.proofs.Made.{each-each}

abbrev Stored : Type 0
Stored = List (String Global × Value)

abbrev names : Stored → List (List ℕ)
names es = each (λ e. string_bytes e.0) es

-- the name is none of those
Apart : List ℕ → List (List ℕ) → Type 0
Apart n [] = Unit {0}
Apart n (m ∷ ms) = (pointwise nat_eq n m ≡ false) × Apart n ms

Distinct : List (List ℕ) → Type 0
Distinct [] = Unit {0}
Distinct (n ∷ ns) = Apart n ns × Distinct ns

differ_back : (n m : List ℕ) → pointwise nat_eq n m ≡ false → pointwise nat_eq m n ≡ false
differ_back n m h = nat_list_eq_equiv.symm m n ∙ h

apart_from : (n m : List ℕ) (ns ms : List (List ℕ)) → Apart n (ns ++ m ∷ ms) → pointwise nat_eq n m ≡ false
unfolding Apart
apart_from n m [] ms h = h.0
apart_from n m (k ∷ ks) ms h = apart_from n m ks ms h.1

-- a name among distinct ones is none of those before it
none_before : (ns : List (List ℕ)) (n : List ℕ) (ms : List (List ℕ)) → Distinct (ns ++ n ∷ ms) → Apart n ns
unfolding Apart Distinct
none_before [] n ms d = tt
none_before (k ∷ ks) n ms d = (differ_back k n (apart_from k n ks ms d.0), none_before ks n ms d.1)

insert_new : (es : Stored) (k : String Global) (v : Value) → Apart (string_bytes k) (names es) → insert_entry string_eq es k v ≡ es ++ (k, v) ∷ []
unfolding Apart
insert_new [] k v h = refl
insert_new (e ∷ es) k v h = ap (λ b. if b then (e.0, v) ∷ es else e ∷ insert_entry string_eq es k v) h.0 ∙ ap (λ l. e ∷ l) (insert_new es k v h.1)

names-append : (es : Stored) (e : String Global × Value) (xs : Stored) → names (es ++ e ∷ []) ++ names xs ≡ names es ++ names (e ∷ xs)
names-append [] e xs = refl
names-append (f ∷ fs) e xs = ap (λ l. string_bytes f.0 ∷ l) (names-append fs e xs)

insert_all_new : (es xs : Stored) → Distinct (names es ++ names xs) → insert_all string_eq es xs ≡ es ++ xs
insert_all_new es [] d = sym (append-nil es)
insert_all_new es (x ∷ xs) d =
    let one : insert_entry string_eq es x.0 x.1 ≡ es ++ x ∷ [] = insert_new es x.0 x.1 (none_before (names es) (string_bytes x.0) (names xs) d) in
    let more : insert_all string_eq (es ++ x ∷ []) xs ≡ (es ++ x ∷ []) ++ xs = insert_all_new (es ++ x ∷ []) xs (subst Distinct (sym (names-append es x xs)) d) in
    ap (λ l. insert_all string_eq l xs) one ∙ more ∙ append_assoc es (x ∷ []) xs

apart-keys : (k : String Global) (es : Stored) → AllByRecursion (λ y. string_eq k y ≡ false) (keys_of es) → Apart (string_bytes k) (names es)
unfolding Apart
apart-keys k [] h = tt
apart-keys k (e ∷ es) h = (h.0, apart-keys k es h.1)

distinct-keys : (es : Stored) → IsDistinct string_eq (keys_of es) → Distinct (names es)
unfolding Distinct IsDistinct
distinct-keys [] h = tt
distinct-keys (e ∷ es) h = (apart-keys e.0 es h.0, distinct-keys es h.1)

abbrev shown : Stored → Fields
shown es = each (λ f. (string_bytes f.0, view f.1)) es

names-shown : (es : Stored) → each (λ f. f.0) (shown es) ≡ names es
names-shown es = each-each (λ f. f.0) (λ f. (string_bytes f.0, view f.1)) es

-- pairs that are shown as a map's, inserted in turn
copied : (m : Map Value) (pairs : Stored) (copy : Map Value) → IsDistinct string_eq (keys_of m.entries) → shown pairs ≡ fields_view m → copy.entries ≡ insert_all string_eq [] pairs → fields_view copy ≡ fields_view m
copied m pairs copy distinct same inserted =
    let ns : names pairs ≡ names m.entries = sym (names-shown pairs) ∙ ap (λ l. each (λ f. f.0) l) same ∙ names-shown m.entries in
    ap shown (inserted ∙ insert_all_new [] pairs (subst Distinct (sym ns) (distinct-keys m.entries distinct))) ∙ same

pub copied_where_made : {E : Type 0} (m : Map Value) (pairs : Stored) (r : Result (Map Value) E) → IsDistinct string_eq (keys_of m.entries) → shown pairs ≡ fields_view m → IfOk r (λ copy. copy.entries ≡ insert_all string_eq [] pairs) → IfOk r (λ copy. fields_view copy ≡ fields_view m)
copied_where_made m pairs (Ok copy) distinct same inserted = copied m pairs copy distinct same inserted
copied_where_made m pairs (Err e) distinct same inserted = tt
