-- Fields of maps.
use Rattle.std.proofs.Common.{◌≡◌, List, [], ◌∷◌, ◌++◌, Bool, true, false, if◌then◌else◌, Option, Some, Result, Ok, Err, refl, ◌∙◌}
use Rattle.std.proofs.Common.{map as each}
use Rattle.std.specs.Result.{MatchResult}
use Rattle.indexmap.specs.IndexMap.{insert_entry, insert_all}
use Rattle.resp_core.specs.Errors.{Unreadable, refused, no_memory}
use Rattle.resp_core.specs.Trees.{Tree}
use Rattle.resp_args.specs.Convert.{Answers, traverse, fields_of, part_by_part}

-- what a pair of values means
abbrev pub parts : {K V M N : Type 0} → (K → M) → (V → N) → K × V → M × N
parts name meaning e = (name e.0, meaning e.1)

choice : {A B : Type 0} (f : A → B) (b : Bool) (x y : List A) → each f (if b then x else y) ≡ (if b then each f x else each f y)
choice f true x y = refl
choice f false x y = refl

module _ {K V M N : Type 0} (eq : K → K → Bool) (same : M → M → Bool) (name : K → M) (meaning : V → N) where
  pub each-insert_entry : ((a b : K) → eq a b ≡ same (name a) (name b)) → (es : List (K × V)) (k : K) (v : V) → each (parts name meaning) (insert_entry eq es k v) ≡ insert_entry same (each (parts name meaning) es) (name k) (meaning v)
  each-insert_entry agrees [] k v = refl
  each-insert_entry agrees (e ∷ es) k v = choice (parts name meaning) (eq k e.0) ((e.0, v) ∷ es) (e ∷ insert_entry eq es k v) ∙ rw (agrees k e.0, each-insert_entry agrees es k v) refl

  pub each-insert_all : ((a b : K) → eq a b ≡ same (name a) (name b)) → (es xs : List (K × V)) → each (parts name meaning) (insert_all eq es xs) ≡ insert_all same (each (parts name meaning) es) (each (parts name meaning) xs)
  each-insert_all agrees es [] = refl
  each-insert_all agrees es (x ∷ xs) = each-insert_all agrees (insert_entry eq es x.0 x.1) xs ∙ rw (each-insert_entry agrees es x.0 x.1) refl

  pub Answers-collect : {S : Type 0} (f : Tree → Option M) (g : Tree → Option N) (entries : S → List (K × V)) → ((a b : K) → eq a b ≡ same (name a) (name b)) → (ps : List (Tree × Tree)) (read : List (K × V)) (r : Result S Unreadable)
      → traverse (part_by_part f g) ps ≡ Some (each (parts name meaning) read) → MatchResult r (λ m. entries m ≡ insert_all eq [] read) (λ e. e ≡ no_memory) → Answers (λ m. each (parts name meaning) (entries m)) (fields_of f g same ps) r
  Answers-collect f g entries agrees ps read (Ok m) h k = rw (h, k, each-insert_all agrees [] read) refl
  Answers-collect f g entries agrees ps read (Err (refused text)) h k = cc
  Answers-collect f g entries agrees ps read (Err no_memory) h k = tt

pub insert_all-push : {K V : Type 0} (eq : K → K → Bool) (es xs : List (K × V)) (x : K × V) → insert_all eq es (xs ++ x ∷ []) ≡ insert_entry eq (insert_all eq es xs) x.0 x.1
insert_all-push eq es [] x = refl
insert_all-push eq es (y ∷ ys) x = insert_all-push eq (insert_entry eq es y.0 y.1) ys x
