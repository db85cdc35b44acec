-- Replies of which the first entry tells the form.
use Rattle.std.proofs.Common.{rules, ◌≡◌, ℕ, List, [], ◌∷◌, Option, Some, None, IfSome, true, not, nat_eq, Vec, Global, length, get_or, arith, refl, ap, sym, ◌∙◌}
use Rattle.std.proofs.Common.{map as each}
use Rattle.std.specs.Option.{option_and_then}
use Rattle.resp_core.specs.Trees.{Tree, array, bulk}
use Rattle.resp_core.specs.View.{view, trees_of}
use Rattle.resp_core.specs.declared.value.Value.{Value, BulkString, the_lemmas}
use Rattle.resp_args.specs.Convert.{both, quadruple_of}
use Rattle.stream_commands.specs.Shapes.{a_text, a_count, perhaps}
use Rattle.stream_commands.specs.Entries.{some_fields, ids_with_fields}

both-none : {M N : Type 0} (o : Option M) → both {N = N} o None ≡ None
both-none None = refl
both-none (Some m) = refl

none : {B C : Type 0} (o : Option B) → option_and_then {T = B} {U = C} (λ z. None) o ≡ None
none None = refl
none (Some z) = refl

-- an entry of another length than four
pub not-four : (ts : List Tree) → not (nat_eq (length ts) 4) ≡ true → quadruple_of a_text some_fields (perhaps a_count) (perhaps a_count) ts ≡ None
not-four [] h = refl
not-four (a ∷ []) h = refl
not-four (a ∷ b ∷ []) h = refl
not-four (a ∷ b ∷ c ∷ []) h = refl
not-four (a ∷ b ∷ c ∷ d ∷ []) h = cc
not-four (a ∷ b ∷ c ∷ d ∷ e ∷ ts) h = refl

-- a number where fields would stand
pub number-refused : (a b c d : Tree) → some_fields d ≡ None → ids_with_fields (array (trees_of (a ∷ b ∷ c ∷ d ∷ []))) ≡ None
number-refused a b c d h = rw (h, both-none (a_text c), none (both (a_text a) (some_fields b))) refl

pub last-refused : (vs : List Value) (d : Value) → length vs ≡ 4 → d ≡ get_or vs 3 d → some_fields (view d) ≡ None → ids_with_fields (array (trees_of (each view vs))) ≡ None
last-refused (a ∷ b ∷ c ∷ e ∷ []) d l hd h = number-refused (view a) (view b) (view c) (view e) (ap (λ v. some_fields (view v)) (sym hd) ∙ h)
last-refused [] d l hd h = cc
last-refused (a ∷ []) d l hd h = cc
last-refused (a ∷ b ∷ []) d l hd h = cc
last-refused (a ∷ b ∷ c ∷ []) d l hd h = cc
last-refused (a ∷ b ∷ c ∷ e ∷ f ∷ more) d l hd h = grind arith

pub view-BulkString : (v : Vec ℕ Global) → view (BulkString v) ≡ bulk v.items
view-BulkString v = search (rules, the_lemmas)

pub if_some-weaker : {A : Type 0} {P Q : A → Type 0} (o : Option A) → IfSome o P → ((a : A) → P a → Q a) → IfSome o Q
if_some-weaker (Some a) h f = f a h
if_some-weaker None h f = tt
