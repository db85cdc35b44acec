-- Loops that pack arguments.
use Rattle.std.proofs.Common.{◌≡◌, ℕ, ◌+◌, ◌<◌, Vec, Global, length, get_or, take, add-one, List, [], ◌∷◌, ◌++◌, refl, sym, ◌∙◌, append_assoc, Bor, Result, Ok, Err}
use Rattle.std.proofs.Math.Seq.{take-suc}
use Rattle.std.specs.Result.{MatchResult}
use Rattle.std.proofs.Common.{map}
use Rattle.std.proofs.lemmas.List.{map-append, append-nil}
use Rattle.resp_args.specs.declared.cmd.Arg.{Arg}
use Rattle.resp_args.specs.Packed.{packed_arg, packed_args, wire_arg, wire}
use Rattle.resp_args.specs.Left.{shown}

pub record Packing (cursor : ℕ) (all : List (Arg (List ℕ))) (done : List (Arg (Bor (List ℕ)))) (left : List (Arg (List ℕ))) (old new : List ℕ) : Type 0 where
  pub all_are : all ≡ map shown done ++ left
  pub packed_are : new ≡ old ++ packed_args (wire cursor (map shown done))

packed_args-append : (xs ys : List (List ℕ)) → packed_args (xs ++ ys) ≡ packed_args xs ++ packed_args ys
packed_args-append [] ys = refl
packed_args-append (x ∷ xs) ys = rw (packed_args-append xs ys) (sym (append_assoc (packed_arg x) (packed_args xs) (packed_args ys)))

pub Packing-next : {cursor : ℕ} {all : List (Arg (List ℕ))} {done : List (Arg (Bor (List ℕ)))} {left : List (Arg (List ℕ))} {old new : List ℕ} (x : Arg (Bor (List ℕ))) (rest : List (Arg (List ℕ))) (bytes after : List ℕ)
    → Packing cursor all done left old new → left ≡ shown x ∷ rest → wire_arg cursor (shown x) ≡ bytes → after ≡ new ++ packed_arg bytes → Packing cursor all (done ++ x ∷ []) rest old after
Packing-next {cursor = cursor} {done = done} {old = old} x rest bytes after h step is more = record {
  all_are = h.all_are ∙ rw (step, map-append shown done (x ∷ [])) (sym (append_assoc (map shown done) (shown x ∷ []) rest));
  packed_are = rw (more, h.packed_are, map-append shown done (x ∷ []), map-append (wire_arg cursor) (map shown done) (shown x ∷ []), packed_args-append (wire cursor (map shown done)) (wire_arg cursor (shown x) ∷ []), is, append-nil (packed_arg bytes)) (append_assoc old (packed_args (wire cursor (map shown done))) (packed_arg bytes));
}

-- a write behind another, which went well
pub Appends-then : {X E : Type 0} (r : Result X E) (old mid new head tail : List ℕ) → mid ≡ old ++ head → MatchResult r (λ _. new ≡ mid ++ tail) (λ _. (more : List ℕ) × (new ≡ mid ++ more)) → MatchResult r (λ _. new ≡ old ++ (head ++ tail)) (λ _. (more : List ℕ) × (new ≡ old ++ more))
Appends-then (Ok x) old mid new head tail h k = k ∙ rw h (append_assoc old head tail)
Appends-then (Err e) old mid new head tail h k = (head ++ k.0, k.1 ∙ rw h (append_assoc old head k.0))

abbrev bytes_of : List (Vec ℕ Global) → List (List ℕ)
bytes_of xs = map (λ a. a.items) xs

-- one more of a list of owned arguments is packed
pub packed_each-next : (xs : List (Vec ℕ Global)) (i : ℕ) (x : Vec ℕ Global) (bytes old mid new : List ℕ) → i < length xs → x ≡ get_or xs i x → mid ≡ old ++ packed_args (map (λ a. a.items) (take i xs)) → bytes ≡ x.items → new ≡ mid ++ packed_arg bytes → new ≡ old ++ packed_args (map (λ a. a.items) (take (i + 1) xs))
packed_each-next xs i x bytes old mid new lt is sofar same more = more ∙ rw (same, sofar, add-one, take-suc xs i x lt, ← is, map-append (λ (a : Vec ℕ Global). a.items) (take i xs) (x ∷ []), packed_args-append (bytes_of (take i xs)) (x.items ∷ []), append-nil (packed_arg x.items)) (append_assoc old (packed_args (bytes_of (take i xs))) (packed_arg x.items))
