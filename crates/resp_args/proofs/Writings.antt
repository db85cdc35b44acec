-- Writes that follow one another.
use Rattle.std.proofs.Common.{suc, Vec, Global, get_or, ◌≡◌, ℕ, ◌<◌, List, [], ◌∷◌, ◌++◌, Result, Ok, Err, length, map, take, drop, refl, ap, sym, ◌∙◌, append_assoc, is_ok, if◌then◌else◌}
use Rattle.std.specs.List.{flat_map}
use Rattle.std.proofs.lemmas.Grind.{flat_map-append}
use Rattle.std.proofs.Math.Seq.{split_at}
use Rattle.std.proofs.lemmas.List.{append-nil}
use Rattle.resp_args.specs.declared.cmd.Arg.{Arg}
use Rattle.resp_args.specs.declared.cmd.Arg.TheVariants.{Simple}
use Rattle.resp_args.specs.Writing.{Grows, GrowsPart, Writes}

Args : Type 0
Args = List (Arg (List ℕ))

pub map-injective : (xs ys : List (List ℕ)) → map {A = List ℕ} {B = Arg (List ℕ)} Simple xs ≡ map Simple ys → xs ≡ ys
map-injective [] [] h = refl
map-injective [] (y ∷ ys) h = cc
map-injective (x ∷ xs) [] h = cc
map-injective (x ∷ xs) (y ∷ ys) h = let t : map {A = List ℕ} {B = Arg (List ℕ)} Simple xs ≡ map Simple ys = cc in let e : xs ≡ ys = map-injective xs ys t in cc

pub map-append : (xs ys : List (List ℕ)) → map {A = List ℕ} {B = Arg (List ℕ)} Simple (xs ++ ys) ≡ map Simple xs ++ map Simple ys
map-append [] ys = refl
map-append (x ∷ xs) ys = rw (map-append xs ys) refl

pub Grows-none : (old : List (Arg (List ℕ))) → Grows old [] old
Grows-none old = record { grown = sym (append-nil old) }

pub Grows-then : {a b c : List (Arg (List ℕ))} {xs ys : List (List ℕ)} → Grows a xs b → Grows b ys c → Grows a (xs ++ ys) c
Grows-then {a = a} {b = b} {c = c} {xs = xs} {ys = ys} h k = record { grown = k.grown ∙ ap (λ (l : List (Arg (List ℕ))). l ++ map Simple ys) h.grown ∙ append_assoc a (map Simple xs) (map Simple ys) ∙ ap (λ (l : List (Arg (List ℕ))). a ++ l) (sym (map-append xs ys)) }

GrowsPart-then : {a b c : List (Arg (List ℕ))} {xs ys : List (List ℕ)} → Grows a xs b → GrowsPart b ys c → GrowsPart a (xs ++ ys) c
GrowsPart-then {xs = xs} h k = record {
  done = xs ++ k.done;
  left = k.left;
  split = ap (λ (l : List (List ℕ)). xs ++ l) k.split ∙ sym (append_assoc xs k.done k.left);
  grown = (Grows-then h (record { grown = k.grown })).grown;
}

-- a write after one that went well
pub Writes-then : {X E : Type 0} {a b : List (Arg (List ℕ))} {xs : List (List ℕ)} (c : List (Arg (List ℕ))) (ys : List (List ℕ)) (r : Result X E) → Grows a xs b → Writes r b ys c → Writes r a (xs ++ ys) c
Writes-then c ys (Ok x) h k = Grows-then h k
Writes-then c ys (Err e) h k = GrowsPart-then h k

-- nothing is written after a refused write
pub GrowsPart-more : {a b : List (Arg (List ℕ))} {xs : List (List ℕ)} (ys : List (List ℕ)) → GrowsPart a xs b → GrowsPart a (xs ++ ys) b
GrowsPart-more ys k = record { done = k.done; left = k.left ++ ys; split = ap (λ (l : List (List ℕ)). l ++ ys) k.split ∙ append_assoc k.done k.left ys; grown = k.grown }

-- one write is all or nothing
pub Writes-one : {X E : Type 0} (a b : List (Arg (List ℕ))) (x : List ℕ) (r : Result X E) → b ≡ (if is_ok r then a ++ Simple x ∷ [] else a) → Writes r a (x ∷ []) b
Writes-one a b x (Ok y) h = record { grown = h }
Writes-one a b x (Err e) h = record { done = []; left = x ∷ []; split = refl; grown = h ∙ sym (append-nil a) }

-- a list of byte lists that began empty holds what was written
pub Writes-vec : (old new : List (Vec ℕ Global)) (args : List (List ℕ)) → old ≡ [] → Grows (map (λ a. Simple a.items) old) args (map (λ a. Simple a.items) new) → map (λ a. a.items) new ≡ args
Writes-vec old new args h k = map-injective (map (λ a. a.items) new) args (sym (map-simple new) ∙ rw h at k.grown)
  where
    map-simple : (v : List (Vec ℕ Global)) → map (λ a. Simple a.items) v ≡ map {A = List ℕ} {B = Arg (List ℕ)} Simple (map (λ a. a.items) v)
    map-simple [] = refl
    map-simple (x ∷ xs) = rw (map-simple xs) refl

flat_map-split : {T : Type 0} (f : T → List (List ℕ)) (xs : List T) (x : T) (i : ℕ) → i < length xs → x ≡ get_or xs i x → flat_map f xs ≡ (flat_map f (take i xs) ++ f x) ++ flat_map f (drop (suc i) xs)
flat_map-split f xs x i lt is =
    ap (flat_map f) (split_at xs i x lt) ∙ flat_map-append f (take i xs) (get_or xs i x ∷ drop (suc i) xs) ∙ rw (← is) (sym (append_assoc (flat_map f (take i xs)) (f x) (flat_map f (drop (suc i) xs))))

-- an item was refused after all that stand before it were written
pub Writes-each-refused : {T : Type 0} {a b c : List (Arg (List ℕ))} (f : T → List (List ℕ)) (xs : List T) (x : T) (i : ℕ) → i < length xs → x ≡ get_or xs i x → Grows a (flat_map f (take i xs)) b → GrowsPart b (f x) c → GrowsPart a (flat_map f xs) c
Writes-each-refused f xs x i lt is h k =
    let split : flat_map f xs ≡ (flat_map f (take i xs) ++ f x) ++ flat_map f (drop (suc i) xs) = flat_map-split f xs x i lt is in
    rw split (GrowsPart-more _ (GrowsPart-then h k))

pub ruleset writing = (GrowsPart-more, Writes-then)

-- a loop has written the items before those that are left
pub record Writing {A : Type 0} (f : A → List (List ℕ)) (all left : List A) (old new : List (Arg (List ℕ))) : Type 0 where
  pub done : List A
  pub all_are : all ≡ done ++ left
  pub grown : Grows old (flat_map f done) new

pub Writing-start : {A : Type 0} (f : A → List (List ℕ)) (all left : List A) (old : List (Arg (List ℕ))) → all ≡ left → Writing f all left old old
Writing-start f all left old e = record { done = []; all_are = e; grown = Grows-none old }

single : {A : Type 0} (f : A → List (List ℕ)) (x : A) → flat_map f (x ∷ []) ≡ f x
single f x = append-nil (f x)

pub Writing-next : {A : Type 0} {f : A → List (List ℕ)} {all left : List A} {old new after : List (Arg (List ℕ))} (x : A) (rest : List A) → Writing f all left old new → left ≡ x ∷ rest → Grows new (f x) after → Writing f all rest old after
Writing-next {f = f} {old = old} {after = after} x rest h step k = record {
  done = h.done ++ x ∷ [];
  all_are = h.all_are ∙ rw step (sym (append_assoc h.done (x ∷ []) rest));
  grown = rw (flat_map-append f h.done (x ∷ []), single f x) (Grows-then h.grown k);
}

pub Writing-refused : {A : Type 0} {f : A → List (List ℕ)} {all left : List A} {old new after : List (Arg (List ℕ))} (x : A) (rest : List A) → Writing f all left old new → left ≡ x ∷ rest → GrowsPart new (f x) after → GrowsPart old (flat_map f all) after
Writing-refused {f = f} x rest h step k = rw (h.all_are, step, flat_map-append f h.done (x ∷ rest)) (GrowsPart-then h.grown (GrowsPart-more (flat_map f rest) k))

pub Writing-done : {A : Type 0} {f : A → List (List ℕ)} {all left : List A} {old new : List (Arg (List ℕ))} → Writing f all left old new → left ≡ [] → Grows old (flat_map f all) new
Writing-done h none = rw (h.all_are, none, append-nil h.done) h.grown
