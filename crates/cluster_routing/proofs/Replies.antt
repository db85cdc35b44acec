-- Replies level by level.
use Rattle.std.proofs.Common.{◌≡◌, ℕ, zero, suc, ◌+◌, ◌<◌, ◌^◌, Bool, true, false, nat_lt, if◌then◌else◌, List, [], ◌∷◌, map, refl, sym, ap, ◌∙◌, Vec, Global, rules, length, Option, Some, None, option_map, option_and_then, arith}
use Rattle.std.specs.Prelude.{slice_get, position}
use Rattle.std.specs.Option.{IfSome, option_copied}
use Rattle.std.specs.Slice.{IsItemAt}
use Rattle.std.specs.Borrow.{Bor}
use Rattle.std.proofs.lemmas.Option.{slice_get_past, slice_get_read}
use Rattle.std.proofs.lemmas.Bool.Decides.{nat_tests}
use Rattle.resp_core.specs.Trees.{Tree, array, bulk}
use Rattle.resp_core.specs.View.{view, trees_of, trees_view}
use Rattle.resp_core.specs.declared.value.Value.{Value, Array, BulkString, the_lemmas}
use Rattle.cluster_routing.specs.SlotsReply.{items, array_items}
use Rattle.cluster_routing.specs.Command.{arg_in, bytes_of, is_word, if_counted, place_of}
use Rattle.cluster_routing.proofs.Tags.{position-cons}

items-trees_of : (ts : List Tree) → items (trees_of ts) ≡ ts
items-trees_of [] = refl
items-trees_of (t ∷ ts) = ap (λ us. t ∷ us) (items-trees_of ts)

view-Array : (v : Vec Value Global) → view (Array v) ≡ array (trees_view v.items)
view-Array v = search (rules, the_lemmas)

pub view-BulkString : (v : Vec ℕ Global) → view (BulkString v) ≡ bulk v.items
view-BulkString v = search (rules, the_lemmas)

pub items-Array : (v : Vec Value Global) → array_items (view (Array v)) ≡ Some (map view v.items)
items-Array v = ap array_items (view-Array v) ∙ ap (λ us. Some us) (items-trees_of (map view v.items))

pub got : {X : Type 0} (xs : List X) (i : ℕ) (r : Option (Bor X)) → IsItemAt xs i r → option_copied r ≡ slice_get xs i
got xs i None h = sym (slice_get_past xs i h.3)
got xs i (Some x) h = sym (slice_get_read xs (length xs) i x.now refl h.3.0 h.1)

-- the argument at a place
pub item_of : (vs : List Value) (idx : ℕ) (r : Option (Bor Value)) → IsItemAt vs idx r → bytes_of (option_map (λ v. arg_in (view v)) (option_copied r)) ≡ bytes_of (slice_get (map arg_in (map view vs)) idx)
item_of vs idx r h = ap (λ p. bytes_of (option_map (λ v. arg_in (view v)) p)) (got vs idx r h) ∙ ap bytes_of (at vs idx)
  where
    at : (us : List Value) (i : ℕ) → option_map (λ v. arg_in (view v)) (slice_get us i) ≡ slice_get (map arg_in (map view us)) i
    at [] i = refl
    at (u ∷ us) zero = refl
    at (u ∷ us) (suc i) = at us i

-- the place of a word
position-map : {A B : Type 0} (f : A → B) (p : B → Bool) (xs : List A) → position p (map f xs) ≡ position (λ x. p (f x)) xs
position-map f p [] = refl
position-map f p (x ∷ xs) = position-cons p (f x) (map f xs) ∙ ap (λ o. if p (f x) then Some 0 else option_map (λ n. suc n) o) (position-map f p xs) ∙ sym (position-cons (λ y. p (f y)) x xs)

counted : (o : Option ℕ) → IfSome o (λ place. place + 1 < 2 ^ 64) → o ≡ option_and_then if_counted o
counted None h = refl
counted (Some n) h = let e : nat_lt (n + 1) (2 ^ 64) ≡ true = grind (arith, nat_tests, h) in ap (λ b. if b then Some n else None) (sym e)

pub place_in_items : (word : List ℕ) (vs : List Value) (o : Option ℕ) → o ≡ position (λ v. is_word word (arg_in (view v))) vs → IfSome o (λ place. place + 1 < 2 ^ 64) → o ≡ place_of word (map arg_in (map view vs))
place_in_items word vs o e h =
    counted o h ∙ ap (option_and_then if_counted) (e ∙ sym (position-map view (λ t. is_word word (arg_in t)) vs) ∙ sym (position-map arg_in (is_word word) (map view vs)))

pub is_counted : (o : Option ℕ) (place : ℕ) → Some place ≡ option_and_then if_counted o → place + 1 < 2 ^ 64
is_counted None place h = cc
is_counted (Some n) place h = elim (nat_lt (n + 1) (2 ^ 64)) as (λ b. b ≡ nat_lt (n + 1) (2 ^ 64) → Some place ≡ (if b then Some n else None) → place + 1 < 2 ^ 64) [
  | true ↦ λ t e. let same : place ≡ n = cc in grind (arith, nat_tests, t, same)
  | false ↦ λ t e. cc
] refl h
