-- Proofs of the laws.
use Rattle.std.proofs.Common.{◌≡◌, ℕ, zero, suc, ◌<◌, ◌≤◌, Bool, true, false, nat_lt, nat_le, if◌then◌else◌, List, [], ◌∷◌, ◌++◌, map, flat_map, drop, length, replicate, refl, sym, ap, ◌∙◌, Option, Some, None, option_map, option_and_then, arith, add-one}
use Rattle.std.specs.Bool.{⊤}
use Rattle.std.specs.Prelude.{slice_get, codes, position}
use Rattle.std.specs.List.{list_any}
use Rattle.std.specs.Char.{to_ascii_lowercase}
use Rattle.std.specs.Str.{str_to_ascii_lowercase, bytes_eq}
use Rattle.std.proofs.lemmas.Bool.Decides.{nat_tests}
use Rattle.std.proofs.lemmas.List.{map-append}
use Rattle.resp_args.specs.declared.cmd.Arg.TheVariants.{Simple}
use Rattle.cluster_routing.specs.declared.route.SlotAddr.{SlotAddr}
use Rattle.cluster_routing.specs.declared.route.SlotAddr.TheVariants.{Master, ReplicaOptional}
use Rattle.cluster_routing.specs.declared.policy.ResponsePolicy.{ResponsePolicy}
use Rattle.cluster_routing.specs.declared.policy.MultiSlotArgPattern.{MultiSlotArgPattern}
use Rattle.cluster_routing.specs.declared.policy.MultiSlotArgPattern.TheVariants.{KeysOnly, KeyValuePairs, KeysAndLastArg, KeyWithTwoArgTriples}
use Rattle.cluster_routing.specs.declared.policy.ResponsePolicy.TheVariants.{AllSucceeded, Aggregate, CombineArrays}
use Rattle.cluster_routing.specs.declared.policy.AggregateOp.TheVariants.{Sum}
use Rattle.cluster_routing.specs.HashSlot.{hash_slot, tag_or, byte_bits, bits_value, remainder}
use Rattle.cluster_routing.specs.Ranges.{Entry, first_from, value_at, value_if_begun}
use Rattle.cluster_routing.specs.Command.{Args, is_one_of, is_word, if_counted, all_bytes, name_by, bytes_of}
use Rattle.cluster_routing.specs.Table.{Row, Rule, split, key_after_streams, table, families, is_family, rule_in, rule_of, other_rule}
use Rattle.cluster_routing.specs.Routing.{destination, destination_by, role_of, to_key_behind, to_split}
use Rattle.cluster_routing.specs.Laws.{EqualTags, CaseOfTheWord, AreApart, BeginsBehind, OneRange}
use Rattle.cluster_routing.proofs.Tags.{position-cons}

pub equal_tags : EqualTags
unfolding hash_slot
equal_tags key other b bs t u =
    ap (λ (text : List ℕ). let bits = flat_map byte_bits text in bits_value (drop 2 (remainder (length bits) (bits ++ replicate 16 false)))) (ap (tag_or key) t ∙ sym (ap (tag_or other) u))

-- what goes by a name goes by its letters in lower case
is_one_of-lower : (words : List (List ℕ)) (a b : List ℕ) → str_to_ascii_lowercase a ≡ str_to_ascii_lowercase b → is_one_of words a ≡ is_one_of words b
is_one_of-lower words a b h = ap (λ l. list_any (λ word. bytes_eq (str_to_ascii_lowercase word) l) words) h

pub rule_in-lower : (rows : List Row) (a b : List ℕ) (other : Rule) → str_to_ascii_lowercase a ≡ str_to_ascii_lowercase b → rule_in rows a other ≡ rule_in rows b other
rule_in-lower [] a b other h = refl
rule_in-lower (r ∷ rs) a b other h = ap (λ x. if x then r.rule else rule_in rs a other) (is_one_of-lower r.names a b h) ∙ ap (λ y. if is_one_of r.names b then r.rule else y) (rule_in-lower rs a b other h)

name_by-lower : (a b : List ℕ) (family : Bool) (second : Option (List ℕ)) → str_to_ascii_lowercase a ≡ str_to_ascii_lowercase b → str_to_ascii_lowercase (name_by a family second) ≡ str_to_ascii_lowercase (name_by b family second)
name_by-lower a b true (Some second) h = map-append to_ascii_lowercase a (32 ∷ second) ∙ ap (λ l. l ++ map to_ascii_lowercase (32 ∷ second)) h ∙ sym (map-append to_ascii_lowercase b (32 ∷ second))
name_by-lower a b true None h = h
name_by-lower a b false second h = h

-- the word itself is no key, no number and no value
abbrev SameBy : List ℕ → List ℕ → Args → SlotAddr → Rule → Type 0
SameBy a b args role rule = destination_by role (Simple a ∷ args) rule ≡ destination_by role (Simple b ∷ args) rule

by_split : (a b : List ℕ) (args : Args) (role : SlotAddr) (pattern : MultiSlotArgPattern) (policy : ResponsePolicy) → SameBy a b args role (split pattern policy)
by_split a b args role pattern policy = by (all_bytes args)
  where
    by : (o : Option (List (List ℕ))) → option_and_then (to_split role pattern policy) (option_map (λ rest. a ∷ rest) o) ≡ option_and_then (to_split role pattern policy) (option_map (λ rest. b ∷ rest) o)
    by None = refl
    by (Some rest) = refl

by_streams : (a b : List ℕ) (args : Args) (role : SlotAddr) → str_to_ascii_lowercase a ≡ str_to_ascii_lowercase b → SameBy a b args role key_after_streams
by_streams a b args role h = behind (option_and_then if_counted (position (is_word (codes "STREAMS")) (Simple a ∷ args))) ∙ ap (λ o. to_key_behind role (Simple b ∷ args) (option_and_then if_counted o)) place
  where
    behind : (o : Option ℕ) → to_key_behind role (Simple a ∷ args) o ≡ to_key_behind role (Simple b ∷ args) o
    behind None = refl
    behind (Some n) = rw add-one refl

    place : position (is_word (codes "STREAMS")) (Simple a ∷ args) ≡ position (is_word (codes "STREAMS")) (Simple b ∷ args)
    place =
        position-cons (is_word (codes "STREAMS")) (Simple a) args
        ∙ ap (λ x. if x then Some 0 else option_map (λ n. suc n) (position (is_word (codes "STREAMS")) args)) (ap (bytes_eq (str_to_ascii_lowercase (codes "STREAMS"))) h)
        ∙ sym (position-cons (is_word (codes "STREAMS")) (Simple b) args)

-- what holds of each row holds of the rule for a name
abbrev AllRules : (Rule → Type 0) → List Row → Type 0
AllRules P [] = ⊤
AllRules P (r ∷ rs) = P r.rule × AllRules P rs

rule_in-holds : (P : Rule → Type 0) (rows : List Row) (name : List ℕ) (other : Rule) → AllRules P rows → P other → P (rule_in rows name other)
rule_in-holds P [] name other h o = o
rule_in-holds P (r ∷ rs) name other h o = by (is_one_of r.names name) (rule_in-holds P rs name other h.1 o)
  where
    by : (b : Bool) → P (rule_in rs name other) → P (if b then r.rule else rule_in rs name other)
    by true later = h.0
    by false later = later

by_rule : (a b : List ℕ) (args : Args) (role : SlotAddr) (name : List ℕ) (family : Bool) → str_to_ascii_lowercase a ≡ str_to_ascii_lowercase b → SameBy a b args role (rule_of name family)
unfolding rule_of table
by_rule a b args role name family h =
    rule_in-holds (SameBy a b args role) table name (other_rule family) (
      by_split a b args role KeysOnly CombineArrays,
      (
        by_split a b args role KeysOnly (Aggregate Sum),
        (
          by_split a b args role KeysOnly AllSucceeded,
          (
            by_split a b args role KeyValuePairs AllSucceeded,
            (
              by_split a b args role KeysAndLastArg CombineArrays,
              (
                by_split a b args role KeyWithTwoArgTriples AllSucceeded,
                (
                  by_streams a b args role h,
                  (refl, (refl, (refl, (refl, (refl, (refl, (refl, (refl, (refl, (refl, (refl, (refl, (refl, (refl, (refl, (refl, tt)))))))))))))))),
                ),
              ),
            ),
          ),
        ),
      ),
    )
    (other family)
  where
    other : (f : Bool) → SameBy a b args role (other_rule f)
    other true = refl
    other false = refl

role_of-lower : (a b : List ℕ) (read_only : List (List ℕ)) → str_to_ascii_lowercase a ≡ str_to_ascii_lowercase b → role_of a read_only ≡ role_of b read_only
role_of-lower a b read_only h = ap (λ x. if x then ReplicaOptional else Master) (is_one_of-lower read_only a b h)

pub case_of_the_word : CaseOfTheWord
unfolding destination rule_of
case_of_the_word word other args read_only h =
    let second : Option (List ℕ) = bytes_of (slice_get args 0) in
    let f : is_family word ≡ is_family other = is_one_of-lower families word other h in
    let n : str_to_ascii_lowercase (name_by word (is_family other) second) ≡ str_to_ascii_lowercase (name_by other (is_family other) second) = name_by-lower word other (is_family other) second h in
    ap (λ x. destination_by (role_of (name_by word x second) read_only) (Simple word ∷ args) (rule_of (name_by word x second) x)) f
    ∙ ap (λ r. destination_by r (Simple word ∷ args) (rule_of (name_by word (is_family other) second) (is_family other))) (role_of-lower _ _ read_only n)
    ∙ ap (λ r. destination_by (role_of (name_by other (is_family other) second) read_only) (Simple word ∷ args) r) (rule_in-lower table _ _ (other_rule (is_family other)) n)
    ∙ by_rule word other args (role_of (name_by other (is_family other) second) read_only) (name_by other (is_family other) second) (is_family other) h

-- ranges that are apart
behind : {V : Type 0} (n : ℕ) (es : List (Entry V)) (i : ℕ) (e : Entry V) → BeginsBehind n es → AreApart es → slice_get es i ≡ Some e → n < e.1.0
behind n [] i e b h k = cc
behind {V} n (q ∷ qs) zero e b h k =
    let same : q ≡ e = cc in
    let start : q.1.0 ≡ e.1.0 = ap (λ (y : Entry V). y.1.0) same in
    omega (arith, b, start)
behind n (q ∷ qs) (suc i) e b h k = let l : q.0 < e.1.0 = behind q.0 qs i e h.1 h.2 k in omega (arith, b, h.0, l)

begun : {V : Type 0} (slot : ℕ) (q : Entry V) → q.1.0 ≤ slot → value_if_begun slot q ≡ Some q.1.1
begun slot q l = let t : nat_le q.1.0 slot ≡ true = grind (arith, nat_tests, l) in ap (λ b. if b then Some q.1.1 else None) t

not_begun : {V : Type 0} (slot : ℕ) (q : Entry V) → slot < q.1.0 → value_if_begun slot q ≡ None
not_begun slot q l = let t : nat_le q.1.0 slot ≡ false = grind (arith, nat_tests, l) in ap (λ b. if b then Some q.1.1 else None) t

here : {V : Type 0} (slot : ℕ) (q : Entry V) (qs : List (Entry V)) → slot ≤ q.0 → value_at slot (q ∷ qs) ≡ value_if_begun slot q
here slot q qs l = let t : nat_lt q.0 slot ≡ false = grind (arith, nat_tests, l) in ap (λ b. option_and_then (value_if_begun slot) (if b then first_from slot qs else Some q)) t

later : {V : Type 0} (slot : ℕ) (q : Entry V) (qs : List (Entry V)) → q.0 < slot → value_at slot (q ∷ qs) ≡ value_at slot qs
later slot q qs l = let t : nat_lt q.0 slot ≡ true = grind (arith, nat_tests, l) in ap (λ b. option_and_then (value_if_begun slot) (if b then first_from slot qs else Some q)) t

held : {V : Type 0} (entries : List (Entry V)) (i : ℕ) (e : Entry V) (slot : ℕ) → AreApart entries → slice_get entries i ≡ Some e → e.1.0 ≤ slot → slot ≤ e.0 → value_at slot entries ≡ Some e.1.1
held [] i e slot h k s l = cc
held {V} (q ∷ qs) zero e slot h k s l =
    let same : q ≡ e = cc in
    let end : q.0 ≡ e.0 = ap (λ (y : Entry V). y.0) same in
    let start : q.1.0 ≡ e.1.0 = ap (λ (y : Entry V). y.1.0) same in
    here slot q qs (omega (arith, end, l)) ∙ begun slot q (omega (arith, start, s)) ∙ ap (λ (y : Entry V). Some y.1.1) same
held (q ∷ qs) (suc i) e slot h k s l = let b : q.0 < e.1.0 = behind q.0 qs i e h.1 h.2 k in later slot q qs (omega (arith, b, s)) ∙ held qs i e slot h.2 k s l

free : {V : Type 0} (entries : List (Entry V)) (slot : ℕ) → AreApart entries → ((i : ℕ) (e : Entry V) → slice_get entries i ≡ Some e → e.1.0 ≤ slot → e.0 < slot) → value_at slot entries ≡ None
free [] slot h n = refl
free (q ∷ qs) slot h n = elim (nat_lt q.0 slot) as (λ b. b ≡ nat_lt q.0 slot → value_at slot (q ∷ qs) ≡ None) [
  | true ↦ λ t. let l : q.0 < slot = grind (arith, nat_tests, t) in later slot q qs l ∙ free qs slot h.2 (λ i e k. n (suc i) e k)
  | false ↦ λ t. let l : slot ≤ q.0 = grind (arith, nat_tests, t) in here slot q qs l ∙ begins (nat_le q.1.0 slot) refl l
] refl
  where
    begins : (b : Bool) → b ≡ nat_le q.1.0 slot → slot ≤ q.0 → value_if_begun slot q ≡ None
    begins true t l = let s : q.1.0 ≤ slot = grind (arith, nat_tests, t) in let x : q.0 < slot = n 0 q refl s in absurd (omega (arith, x, l))
    begins false t l = not_begun slot q (grind (arith, nat_tests, t))

pub one_range : {V : Type 0} → OneRange V
one_range = record { held = held; free = free }
