-- What a map of values holds under a name, as a tree.
use Rattle.std.proofs.Common.{◌≡◌, ℕ, List, [], ◌∷◌, Bool, true, false, cond, Option, Some, None, is_some, option_map, string_bytes, String, Global, Result, Err, refl, sym, ap, ◌∙◌, subst}
use Rattle.std.proofs.Common.{map as each}
use Rattle.std.specs.Str.{bytes_eq}
use Rattle.std.specs.Map.{lookup}
use Rattle.resp_core.specs.Errors.{Unreadable, refused, no_memory, is_memory}
use Rattle.resp_core.specs.Trees.{Tree}
use Rattle.resp_core.specs.View.{view}
use Rattle.resp_core.specs.declared.value.Value.{Value}
use Rattle.resp_args.specs.Convert.{Answers}
use Rattle.stream_commands.specs.RecordViews.{Map, fields_view}
use Rattle.stream_commands.specs.UnderNames.{under, read_or}

either : (b : Bool) (v : Value) (o : Option Value) (u : Option Tree) → option_map view o ≡ u → option_map view (cond b (Some v) o) ≡ cond b (Some (view v)) u
either true v o u e = refl
either false v o u e = e

looked_up : (name : List ℕ) (es : List (String Global × Value)) → option_map view (lookup (λ k. bytes_eq name (string_bytes k)) es) ≡ under name (each (λ f. (string_bytes f.0, view f.1)) es)
looked_up name [] = refl
looked_up name (e ∷ es) = either (bytes_eq name (string_bytes e.0)) e.1 _ _ (looked_up name es)

-- what a look-up found, and so what stands under the name
pub under-found : (name : List ℕ) (m : Map Value) (o : Option Value) → o ≡ lookup (λ k. bytes_eq name (string_bytes k)) m.entries → under name (fields_view m) ≡ option_map view o
under-found name m o e = sym (looked_up name m.entries) ∙ ap (option_map view) (sym e)

is_some-map : {A B : Type 0} (f : A → B) (o : Option A) → is_some (option_map f o) ≡ is_some o
is_some-map f None = refl
is_some-map f (Some a) = refl

pub under-is_some : (name : List ℕ) (m : Map Value) (b : Bool) → b ≡ is_some (lookup (λ k. bytes_eq name (string_bytes k)) m.entries) → b ≡ is_some (under name (fields_view m))
under-is_some name m b e = e ∙ sym (is_some-map view (lookup (λ k. bytes_eq name (string_bytes k)) m.entries)) ∙ ap is_some (looked_up name m.entries)

-- another way to say the value that stands for a missing one
pub read_or-missing : {M S : Type 0} (meaning : S → M) (read : Tree → Option M) (x y : M) (o : Option Tree) (r : Result S Unreadable) → x ≡ y → Answers meaning (read_or read x o) r → Answers meaning (read_or read y o) r
read_or-missing meaning read x y o r e h = subst (λ z. Answers meaning (read_or read z o) r) e h

-- a conversion that is refused for no want of memory has nothing to give
pub refused-is_none : {M S : Type 0} (meaning : S → M) (wanted : Option M) (e : Unreadable) → is_memory e ≡ false → Answers {S = S} meaning wanted (Err e) → wanted ≡ None
refused-is_none meaning wanted (refused text) k h = h
refused-is_none meaning wanted no_memory k h = cc
