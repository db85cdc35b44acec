-- Answers that are passed on.
use Rattle.std.proofs.Common.{suc, get_or, add-one, ◌≡◌, ℕ, ◌+◌, ◌<◌, List, [], ◌∷◌, ◌++◌, Option, Some, None, option_map, Err, Vec, Global, length, take, drop, refl, ap, ◌∙◌}
use Rattle.std.proofs.Math.Seq.{split_at, take-suc}
use Rattle.std.proofs.Common.{map as each}
use Rattle.std.specs.Option.{option_and_then}
use Rattle.std.proofs.lemmas.List.{map-append as each-append}
use Rattle.resp_core.specs.Errors.{Unreadable, refused, no_memory}
use Rattle.resp_args.proofs.Trees.{items-trees_of, pair_list-pairs_of}
use Rattle.resp_args.specs.Convert.{Answers, traverse}

join : {B : Type 0} (o : Option B) (r s : Option (List B)) → option_and_then (λ y. option_map (λ zs. y ∷ zs) (option_and_then (λ a. option_map (λ b. a ++ b) s) r)) o ≡ option_and_then (λ a. option_map (λ b. a ++ b) s) (option_and_then (λ y. option_map (λ zs. y ∷ zs) r) o)
join None r s = refl
join (Some y) None s = refl
join (Some y) (Some zs) None = refl
join (Some y) (Some zs) (Some b) = refl

same : {B : Type 0} (s : Option (List B)) → s ≡ option_map (λ b. [] ++ b) s
same None = refl
same (Some b) = refl

pub traverse-append : {A B : Type 0} (f : A → Option B) (xs ys : List A) → traverse f (xs ++ ys) ≡ option_and_then (λ a. option_map (λ b. a ++ b) (traverse f ys)) (traverse f xs)
traverse-append f [] ys = same (traverse f ys)
traverse-append f (x ∷ xs) ys = rw (traverse-append f xs ys) (join (f x) (traverse f xs) (traverse f ys))

pub traverse-push : {A B : Type 0} (f : A → Option B) (xs : List A) (x : A) (ys : List B) (y : B) → traverse f xs ≡ Some ys → f x ≡ Some y → traverse f (xs ++ x ∷ []) ≡ Some (ys ++ y ∷ [])
traverse-push f xs x ys y h k = rw (traverse-append f xs (x ∷ []), h, k) refl

none : {B C : Type 0} (o : Option B) → option_and_then {T = B} {U = C} (λ z. None) o ≡ None
none None = refl
none (Some z) = refl

-- one that is refused
pub traverse-refused : {A B : Type 0} (f : A → Option B) (xs : List A) (x : A) (more : List A) → f x ≡ None → traverse f (xs ++ x ∷ more) ≡ None
traverse-refused f xs x more h = rw (traverse-append f xs (x ∷ more), h) (none (traverse f xs))

-- one more of a lent list is read
pub traverse-next : {V A B S : Type 0} (f : A → Option B) (view : V → A) (meaning : S → B) (xs : List V) (i : ℕ) (x : V) (list : List S) (y : S) (more : List S)
    → i < length xs → x ≡ get_or xs i x → traverse f (each view (take i xs)) ≡ Some (each meaning list) → f (view x) ≡ Some (meaning y) → more ≡ list ++ y ∷ [] → traverse f (each view (take (i + 1) xs)) ≡ Some (each meaning more)
traverse-next f view meaning xs i x list y more lt at h k is = rw (add-one, take-suc xs i x lt, ← at, is, each-append view (take i xs) (x ∷ []), each-append meaning list (y ∷ [])) (traverse-push f (each view (take i xs)) (view x) (each meaning list) (meaning y) h k)

-- or refused, and so is the whole
pub traverse-stopped : {V A B S : Type 0} (f : A → Option B) (view : V → A) (meaning : S → B) (xs : List V) (i : ℕ) (x : V) (e : Unreadable)
    → i < length xs → x ≡ get_or xs i x → Answers meaning (f (view x)) (Err e) → Answers {S = Vec S Global} (λ v. each meaning v.items) (traverse f (each view xs)) (Err e)
traverse-stopped f view meaning xs i x (refused text) lt at k = ap (λ l. traverse f (each view l)) (split_at xs i x lt) ∙ rw (← at, each-append view (take i xs) (x ∷ drop (suc i) xs)) (traverse-refused f (each view (take i xs)) (view x) (each view (drop (suc i) xs)) k)
traverse-stopped f view meaning xs i x no_memory lt at k = tt

pub ruleset answering = (items-trees_of, pair_list-pairs_of)
