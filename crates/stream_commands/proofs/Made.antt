-- Lists of lists that are read and made into records.
use Rattle.std.proofs.Common.{◌≡◌, List, [], ◌∷◌, Option, Some, Result, Ok, Err, Vec, Global, option_map, refl, ap, sym, ◌∙◌}
use Rattle.std.proofs.Common.{map as each}
use Rattle.std.specs.List.{flat_map}
use Rattle.std.specs.Result.{MatchResult}
use Rattle.resp_core.specs.Errors.{Unreadable, refused, no_memory}
use Rattle.std.proofs.lemmas.List.{length-map}
use Rattle.resp_args.specs.Convert.{Answers, traverse}
use Rattle.stream_commands.specs.PendingCount.{pending_row, pending_count_reply}
use Rattle.resp_args.proofs.Trees.{items-trees_of, pair_list-pairs_of, view-Array}
use Rattle.resp_core.specs.Trees.{array}
use Rattle.resp_core.specs.View.{view, trees_of}
use Rattle.resp_core.specs.declared.value.Value.{Value, Array}
use Rattle.stream_commands.specs.AutoClaim.{first_no_null, entries_by_first, claimed_from, claimed}
use Rattle.stream_commands.specs.Shapes.{◌and◌}

pub each-each : {P Q R : Type 0} (f : Q → R) (g : P → Q) (ps : List P) → each f (each g ps) ≡ each (λ p. f (g p)) ps
each-each f g [] = refl
each-each f g (p ∷ ps) = ap (λ l. f (g p) ∷ l) (each-each f g ps)

pub flat_map-each : {X P Q R : Type 0} (f : Q → R) (g : P → Q) (h : X → List P) (xs : List X) → flat_map (each f) (each (λ m. each g (h m)) xs) ≡ flat_map (λ m. each (λ p. f (g p)) (h m)) xs
flat_map-each f g h [] = refl
flat_map-each f g h (x ∷ xs) = rw (each-each f g (h x), flat_map-each f g h xs) refl

-- a record made of what was read, where only memory may be refused
pub answers_with : {X M S : Type 0} (meaning : S → M) (f : X → M) (o : Option X) (x : X) (made : M) (r : Result S Unreadable) → o ≡ Some x → f x ≡ made → MatchResult r (λ v. meaning v ≡ made) (λ e. e ≡ no_memory) → Answers meaning (option_map f o) r
answers_with meaning f o x made (Ok v) h k m = ap (option_map f) h ∙ ap Some (k ∙ sym m)
answers_with meaning f o x made (Err (refused t)) h k m = cc
answers_with meaning f o x made (Err no_memory) h k m = tt

pub ruleset making = (items-trees_of, pair_list-pairs_of, length-map)

-- seven parts that are all there
pub and-seven : {A B C D E F G R : Type 0} (make : A → B → C → D → E → F → G → R) {oa : Option A} {ob : Option B} {oc : Option C} {od : Option D} {oe : Option E} {of : Option F} {og : Option G} (a : A) (b : B) (c : C) (d : D) (e : E) (f : F) (g : G)
    → oa ≡ Some a → ob ≡ Some b → oc ≡ Some c → od ≡ Some d → oe ≡ Some e → of ≡ Some f → og ≡ Some g → (Some make and oa and ob and oc and od and oe and of and og) ≡ Some (make a b c d e f g)
and-seven make a b c d e f g ha hb hc hd he hf hg = rw (ha, hb, hc, hd, he, hf, hg) refl

-- arrays as values

pub claimed-array : (t : Value) (v : Vec Value Global) → t ≡ Array v → claimed (view t) ≡ option_map (claimed_from (each view v.items)) (entries_by_first (first_no_null (each view v.items)) (array (trees_of (each view v.items))))
claimed-array t v e = ap (λ x. claimed (view x)) e ∙ rw (view-Array v, items-trees_of (each view v.items)) refl

pub pending_count-array : (t : Value) (v : Vec Value Global) → t ≡ Array v → pending_count_reply (view t) ≡ traverse pending_row (each view v.items)
pending_count-array t v e = ap (λ x. pending_count_reply (view x)) e ∙ rw (view-Array v, items-trees_of (each view v.items)) refl
