-- Split words, and the routes of a split command's parts.
use Rattle.std.proofs.Common.{◌≡◌, ℕ, zero, ◌<◌, ◌&&◌, ◌||◌, nat_eq, Bool, true, false, cond, not, List, [], ◌∷◌, ◌++◌, map, filter, Option, Some, None, option_map, refl, sym, ap, ◌∙◌, subst, eq-eqb, arith}
use Rattle.std.specs.Prelude.{option_and_then, slice_get}
use Rattle.std.specs.List.{list_any, list_all}
use Rattle.std.specs.Str.{str_eq_ignore_ascii_case, str_to_ascii_lowercase, bytes_eq}
use Rattle.std.proofs.lemmas.Bool.{false≢true, and_parts}
use Rattle.std.proofs.lemmas.Slice.Eq.{bytes_eq-Decides}
use Rattle.resp_args.specs.declared.cmd.Arg.TheVariants.{Simple, Cursor}
use Rattle.cluster_routing.specs.Command.{Args, all_bytes, bytes_of, is_one_of, name_by}
use Rattle.cluster_routing.specs.CombineLaws.{SplitWordsAreNames}
use Rattle.cluster_routing.specs.Lists.{firsts}
use Rattle.cluster_routing.specs.Parts.{Tuple, width_of, tuple_slot, argument_slots, group, places_from}
use Rattle.cluster_routing.specs.Routing.{part_to, role_of, route_to}
use Rattle.cluster_routing.specs.Split.{PartsByPlace, Split, Splitting, splitting_by, splitting_of, split_of, cut, shared_by, with_tuples, part_slots, split_by_place, parts_by_role, parts_by_place, parts_with_routes, split_routes, tuple_routes}
use Rattle.cluster_routing.specs.Table.{Row, Rule, split, key_after_streams, counted_key_or_random, counted_key, key_at, random, all_masters, all_nodes, nowhere, table, families, is_family, rule_in, rule_of}
use Rattle.cluster_routing.specs.declared.route.Route.{Route}
use Rattle.cluster_routing.specs.declared.route.SlotAddr.{SlotAddr}
use Rattle.cluster_routing.proofs.Recut.{HaveWidth, cut_of, cut_shaped, width_positive}

-- ---- the name of a family alone goes nowhere

no_row : (rows : List Row) (w : List ℕ) (other : Rule) → list_all (λ (r : Row). not (is_one_of r.names w)) rows ≡ true → rule_in rows w other ≡ other
no_row [] w other h = refl
no_row (r ∷ rows) w other h = by (is_one_of r.names w) h (λ g. no_row rows w other g)
  where
    by : (b : Bool) → (not b && list_all (λ (r : Row). not (is_one_of r.names w)) rows) ≡ true → (list_all (λ (r : Row). not (is_one_of r.names w)) rows ≡ true → rule_in rows w other ≡ other) → cond b r.rule (rule_in rows w other) ≡ other
    by true g ih = absurd (false≢true g)
    by false g ih = ih g

family_among : (fs : List (List ℕ)) (w : List ℕ) → list_all (λ f. list_all (λ (r : Row). not (is_one_of r.names f)) table) fs ≡ true → list_any (λ f. str_eq_ignore_ascii_case f w) fs ≡ true
    → list_all (λ (r : Row). not (is_one_of r.names w)) table ≡ true
family_among [] w a h = absurd (false≢true h)
family_among (f ∷ fs) w a h = by (str_eq_ignore_ascii_case f w) refl h (λ g. family_among fs w both.1 g)
  where
    both : (list_all (λ (r : Row). not (is_one_of r.names f)) table ≡ true) × (list_all (λ g. list_all (λ (r : Row). not (is_one_of r.names g)) table) fs ≡ true)
    both = and_parts (list_all (λ (r : Row). not (is_one_of r.names f)) table) (list_all (λ g. list_all (λ (r : Row). not (is_one_of r.names g)) table) fs) a

    by : (b : Bool) → str_eq_ignore_ascii_case f w ≡ b → (b || list_any (λ g. str_eq_ignore_ascii_case g w) fs) ≡ true → (list_any (λ g. str_eq_ignore_ascii_case g w) fs ≡ true → list_all (λ (r : Row). not (is_one_of r.names w)) table ≡ true) → list_all (λ (r : Row). not (is_one_of r.names w)) table ≡ true
    by true e g ih =
        let same : str_to_ascii_lowercase f ≡ str_to_ascii_lowercase w = (bytes_eq-Decides (str_to_ascii_lowercase f) (str_to_ascii_lowercase w)).0 e in
        ap (λ l. list_all (λ (r : Row). not (list_any (λ word. bytes_eq (str_to_ascii_lowercase word) l) r.names)) table) (sym same) ∙ both.0
    by false e g ih = ih g

families_apart : list_all (λ f. list_all (λ (r : Row). not (is_one_of r.names f)) table) families ≡ true
unfolding table
families_apart = refl

pub family_nowhere : (w : List ℕ) → is_family w ≡ true → rule_of w true ≡ nowhere
unfolding rule_of
family_nowhere w h = no_row table w nowhere (family_among families w families_apart h)

-- ---- the rule of a split word

split_rule : (rule : Rule) (p : Splitting) → splitting_by rule ≡ Some p → rule ≡ split p.pattern p.policy
split_rule (split pattern policy) p e =
    let same : record { pattern = pattern; policy = policy } ≡ p = cc in ap (λ (q : Splitting). split q.pattern q.policy) same
split_rule key_after_streams p e = cc
split_rule (counted_key_or_random place) p e = cc
split_rule (counted_key place) p e = cc
split_rule (key_at place) p e = cc
split_rule random p e = cc
split_rule (all_masters policy) p e = cc
split_rule (all_nodes policy) p e = cc
split_rule nowhere p e = cc

pub rule_is : (word : List ℕ) (p : Splitting) → splitting_of word ≡ Some p → (is_family word ≡ false) × (rule_of word false ≡ split p.pattern p.policy)
unfolding splitting_of
rule_is word p e = by (is_family word) refl e
  where
    by : (b : Bool) → is_family word ≡ b → splitting_by (rule_of word b) ≡ Some p → (is_family word ≡ false) × (rule_of word false ≡ split p.pattern p.policy)
    by true f e = let bad : None ≡ Some p = sym (ap splitting_by (family_nowhere word f)) ∙ e in cc
    by false f e = (f, split_rule (rule_of word false) p e)

-- ---- a split word is its command's name

all_simple-head : (args : Args) (word : List ℕ) (behind : List (List ℕ)) → all_bytes args ≡ Some (word ∷ behind) → bytes_of (slice_get args 0) ≡ Some word
all_simple-head [] word behind e = cc
all_simple-head (Cursor ∷ args) word behind e = cc
all_simple-head (Simple x ∷ args) word behind e = by (all_bytes args) e
  where
    by : (o : Option (List (List ℕ))) → option_map (λ rest. x ∷ rest) o ≡ Some (word ∷ behind) → Some x ≡ Some word
    by None f = cc
    by (Some rest) f = cc

pub split_words_are_names : SplitWordsAreNames
split_words_are_names args texts s a e =
    let c = cut_of texts s e in
    let w = all_simple-head args s.word c.behind (a ∙ ap Some c.whole) in
    let second : Option (List ℕ) = bytes_of (slice_get args 1) in
    ap (option_map (λ word. name_by word (is_family word) second)) w ∙ ap (λ b. Some (name_by s.word b second)) (rule_is s.word s.splitting c.splitting).0

-- ---- slots of tuples and of arguments

-- a filter whose test is c wherever the other test passes
pub filter-const : {X : Type 0} (p q : X → Bool) (c : Bool) → ((x : X) → p x ≡ true → q x ≡ c) → (xs : List X) → filter p (filter q xs) ≡ cond c (filter p xs) []
filter-const {X} p q c h [] = by c
  where
    by : (b : Bool) → filter p [] ≡ cond b (filter p []) []
    by true = refl
    by false = refl
filter-const {X} p q c h (x ∷ xs) = by (p x) refl (q x) refl c refl (filter-const p q c h xs)
  where
    by : (b : Bool) → p x ≡ b → (d : Bool) → q x ≡ d → (e : Bool) → c ≡ e → filter p (filter q xs) ≡ cond e (filter p xs) [] → filter p (cond d (x ∷ filter q xs) (filter q xs)) ≡ cond e (cond b (x ∷ filter p xs) (filter p xs)) []
    by true f true g true k ih = ap (λ b. cond b (x ∷ filter p (filter q xs)) (filter p (filter q xs))) f ∙ ap (λ zs. x ∷ zs) ih
    by true f true g false k ih = absurd (false≢true (sym k ∙ sym (h x f) ∙ g))
    by true f false g true k ih = absurd (false≢true (sym g ∙ h x f ∙ k))
    by true f false g false k ih = ih
    by false f true g e k ih = ap (λ b. cond b (x ∷ filter p (filter q xs)) (filter p (filter q xs))) f ∙ ih
    by false f false g e k ih = ih

-- the same number twice counts once
pub firsts_twice : (s : ℕ) (ks : List ℕ) → firsts nat_eq (s ∷ s ∷ ks) ≡ firsts nat_eq (s ∷ ks)
firsts_twice s ks =
    ap (λ b. s ∷ cond (not b) (s ∷ filter (λ y. not (nat_eq s y)) others) (filter (λ y. not (nat_eq s y)) others)) (eq-eqb s s refl)
    ∙ ap (λ l. s ∷ l) (filter-const (λ y. not (nat_eq s y)) (λ y. not (nat_eq s y)) true (λ y h. h) (firsts nat_eq ks))
  where
    others : List ℕ
    others = filter (λ y. not (nat_eq s y)) (firsts nat_eq ks)

firsts_again : {A : Type 0} (s : ℕ) (xs : List A) (ks : List ℕ) → firsts nat_eq (s ∷ (map (λ _. s) xs ++ ks)) ≡ firsts nat_eq (s ∷ ks)
firsts_again s [] ks = refl
firsts_again s (x ∷ xs) ks = firsts_twice s (map (λ _. s) xs ++ ks) ∙ firsts_again s xs ks

pub argument_firsts : (w : ℕ) → zero < w → (tuples : List Tuple) → HaveWidth w tuples → firsts nat_eq (argument_slots tuples) ≡ firsts nat_eq (map tuple_slot tuples)
argument_firsts w some [] h = refl
argument_firsts w some ([] ∷ tuples) h = absurd (let e : 0 ≡ w = h.0 in omega (arith, e, some))
argument_firsts w some ((key ∷ more) ∷ tuples) h =
    firsts_again (tuple_slot (key ∷ more)) more (argument_slots tuples)
    ∙ ap (λ l. tuple_slot (key ∷ more) ∷ filter (λ y. not (nat_eq (tuple_slot (key ∷ more)) y)) l) (argument_firsts w some tuples h.1)

pub split_firsts : (args : List (List ℕ)) (s : Split) → split_of args ≡ Some s → firsts nat_eq (argument_slots s.tuples) ≡ part_slots s.tuples
split_firsts args s e =
    let c = cut_of args s e in
    let p = s.splitting.pattern in
    let w = cut_shaped p c.behind c.some.0 c.some.1 (c.tuples ∙ ap Some c.some.2) in
    argument_firsts (width_of p) (width_positive p) s.tuples (subst (HaveWidth (width_of p)) (sym c.some.2) w.0)

-- ---- the routes of the parts

each_route : (role : SlotAddr) (slots ks : List ℕ) → map (part_to role) (map (group slots) ks) ≡ map (λ slot. (route_to role slot, places_from slot 0 slots)) ks
each_route role slots [] = refl
each_route role slots (k ∷ ks) = ap (λ (ps : List (Route × List ℕ)). (route_to role k, places_from k 0 slots) ∷ ps) (each_route role slots ks)

tuple_routes_are : (role : SlotAddr) (w : ℕ) → zero < w → (s : Split) → HaveWidth w s.tuples → tuple_routes role s.tuples ≡ split_routes role s
tuple_routes_are role w some s h =
    each_route role (argument_slots s.tuples) (firsts nat_eq (argument_slots s.tuples))
    ∙ ap (map (λ slot. (route_to role slot, places_from slot 0 (argument_slots s.tuples)))) (argument_firsts w some s.tuples h)

-- of the arguments behind a split word
parts_behind : (read_only : List (List ℕ)) (word : List ℕ) (p : Splitting) (behind : List (List ℕ))
    → parts_by_role (role_of word read_only) p (word ∷ behind) ≡ option_map (split_by_place read_only) (with_tuples word p (shared_by p.pattern behind) (cut p.pattern behind))
parts_behind read_only word p behind = by (cut p.pattern behind) refl
  where
    role : SlotAddr
    role = role_of word read_only

    by : (o : Option (List Tuple)) → cut p.pattern behind ≡ o → option_and_then (λ tuples. parts_with_routes p (tuple_routes role tuples)) o ≡ option_map (split_by_place read_only) (with_tuples word p (shared_by p.pattern behind) o)
    by None k = refl
    by (Some []) k = refl
    by (Some (t ∷ ts)) k =
        let s : Split = record { word = word; splitting = p; tuples = t ∷ ts; shared = shared_by p.pattern behind } in
        ap (parts_with_routes p) (tuple_routes_are role (width_of p.pattern) (width_positive p.pattern) s (cut_shaped p.pattern behind t ts k).0)

pub parts_of_word : (args : Args) (read_only : List (List ℕ)) (word : List ℕ) → Some word ≡ bytes_of (slice_get args 0)
    → option_and_then (λ p. option_and_then (parts_by_role (role_of word read_only) p) (all_bytes args)) (splitting_of word) ≡ parts_by_place args read_only
parts_of_word [] read_only word h = cc
parts_of_word (Cursor ∷ args) read_only word h = cc
parts_of_word (Simple x ∷ args) read_only word h =
    let same : x ≡ word = cc in
    subst (λ (w : List ℕ). option_and_then (λ p. option_and_then (parts_by_role (role_of w read_only) p) (all_bytes (Simple x ∷ args))) (splitting_of w) ≡ parts_by_place (Simple x ∷ args) read_only) same (by (all_bytes args))
  where
    of_word : (behind : List (List ℕ)) (q : Option Splitting) → option_and_then (λ p. parts_by_role (role_of x read_only) p (x ∷ behind)) q ≡ option_map (split_by_place read_only) (option_and_then (λ (p : Splitting). with_tuples x p (shared_by p.pattern behind) (cut p.pattern behind)) q)
    of_word behind None = refl
    of_word behind (Some p) = parts_behind read_only x p behind

    of_gap : (q : Option Splitting) → option_and_then (λ (p : Splitting). None) q ≡ (let none : Option PartsByPlace = None in none)
    of_gap None = refl
    of_gap (Some p) = refl

    by : (o : Option (List (List ℕ))) → option_and_then (λ p. option_and_then (parts_by_role (role_of x read_only) p) (option_map (λ rest. x ∷ rest) o)) (splitting_of x) ≡ option_map (split_by_place read_only) (option_and_then split_of (option_map (λ rest. x ∷ rest) o))
    by None = of_gap (splitting_of x)
    by (Some behind) = of_word behind (splitting_of x)

pub parts_nowhere : (args : Args) (read_only : List (List ℕ)) → None ≡ bytes_of (slice_get args 0) → None ≡ parts_by_place args read_only
parts_nowhere [] read_only h = refl
parts_nowhere (Cursor ∷ args) read_only h = refl
parts_nowhere (Simple x ∷ args) read_only h = cc
