-- Lists by slot: filters, pairs, and what is draw.
use Rattle.std.proofs.Common.{◌≡◌, ℕ, suc, Bool, true, false, cond, ◌==◌, List, [], ◌∷◌, ◌++◌, map, filter, length, refl, sym, ap, ◌∙◌, eqb-true}
use Rattle.std.specs.List.{AllByRecursion}
use Rattle.std.proofs.lemmas.Bool.{false≢true}
use Rattle.cluster_routing.specs.Lists.{Pairwise, draw, without_front_of, front, rest}
use Rattle.cluster_calls.proofs.ServerLaws.Draw.{drawn_same}

pub filter-same : {X : Type 0} (p q : X → Bool) (xs : List X) → AllByRecursion (λ x. p x ≡ q x) xs → filter p xs ≡ filter q xs
filter-same p q [] h = refl
filter-same p q (x ∷ xs) h = ap (λ b. cond b (x ∷ filter p xs) (filter p xs)) h.0 ∙ ap (λ zs. cond (q x) (x ∷ zs) zs) (filter-same p q xs h.1)

pub filter-map : {X Y : Type 0} (m : X → Y) (p : Y → Bool) (xs : List X) → map m (filter (λ x. p (m x)) xs) ≡ filter p (map m xs)
filter-map m p [] = refl
filter-map m p (x ∷ xs) = by (p (m x)) (filter-map m p xs)
  where
    by : (b : Bool) → map m (filter (λ x. p (m x)) xs) ≡ filter p (map m xs) → map m (cond b (x ∷ filter (λ x. p (m x)) xs) (filter (λ x. p (m x)) xs)) ≡ cond b (m x ∷ filter p (map m xs)) (filter p (map m xs))
    by true h = ap (λ zs. m x ∷ zs) h
    by false h = h

pub pairwise-filter : {T X : Type 0} (R : T → X → Type 0) (p : T → Bool) (q : X → Bool) → ((t : T) (x : X) → R t x → p t ≡ q x) → (ts : List T) (xs : List X) → Pairwise R ts xs → Pairwise R (filter p ts) (filter q xs)
pairwise-filter R p q same [] [] h = tt
pairwise-filter R p q same [] (x ∷ xs) h = absurd h
pairwise-filter R p q same (t ∷ ts) [] h = absurd h
pairwise-filter R p q same (t ∷ ts) (x ∷ xs) h = by (p t) (q x) (same t x h.0) (pairwise-filter R p q same ts xs h.1)
  where
    by : (b c : Bool) → b ≡ c → Pairwise R (filter p ts) (filter q xs) → Pairwise R (cond b (t ∷ filter p ts) (filter p ts)) (cond c (x ∷ filter q xs) (filter q xs))
    by true true e r = (h.0, r)
    by true false e r = absurd (false≢true (sym e))
    by false true e r = absurd (false≢true e)
    by false false e r = r

pub pairwise-join : {T X : Type 0} (R : T → X → Type 0) (ts us : List T) (xs ys : List X) → Pairwise R ts xs → Pairwise R us ys → Pairwise R (ts ++ us) (xs ++ ys)
pairwise-join R [] us [] ys h k = k
pairwise-join R [] us (x ∷ xs) ys h k = absurd h
pairwise-join R (t ∷ ts) us [] ys h k = absurd h
pairwise-join R (t ∷ ts) us (x ∷ xs) ys h k = (h.0, pairwise-join R ts us xs ys h.1 k)

pub pairwise-length : {T X : Type 0} (R : T → X → Type 0) (ts : List T) (xs : List X) → Pairwise R ts xs → length ts ≡ length xs
pairwise-length R [] [] h = refl
pairwise-length R [] (x ∷ xs) h = absurd h
pairwise-length R (t ∷ ts) [] h = absurd h
pairwise-length R (t ∷ ts) (x ∷ xs) h = ap suc (pairwise-length R ts xs h.1)

pub pairwise-split : {A X : Type 0} (R : A → X → Type 0) (as' bs : List A) (xs : List X) → Pairwise R (as' ++ bs) xs → (us : List X) × (vs : List X) × (xs ≡ us ++ vs) × Pairwise R as' us × Pairwise R bs vs
pairwise-split R [] bs xs h = ([], xs, refl, tt, h)
pairwise-split R (a ∷ as') bs [] h = absurd h
pairwise-split R (a ∷ as') bs (x ∷ xs) h = let r = pairwise-split R as' bs xs h.1 in (x ∷ r.0, r.1, ap (λ q. x ∷ q) r.2, (h.0, r.3), r.4)

pub all-halves : {X : Type 0} (P : X → Type 0) (xs ys : List X) → AllByRecursion P (xs ++ ys) → AllByRecursion P xs × AllByRecursion P ys
all-halves P [] ys h = (tt, h)
all-halves P (x ∷ xs) ys h = let r = all-halves P xs ys h.1 in ((h.0, r.0), r.1)

-- elements whose queue is empty draw nothing
pub drawn_skip : {X D : Type 0} (slot : D → ℕ) (q : D → Bool) (ds : List D) (f : ℕ → List X) → ((d : D) → q d ≡ false → f (slot d) ≡ []) → draw (map slot ds) f ≡ draw (map slot (filter q ds)) f
drawn_skip slot q [] f h = refl
drawn_skip {X} slot q (d ∷ ds) f h = by (q d) refl (drawn_skip slot q ds (without_front_of (slot d) f) (λ e g. still e (slot e == slot d) (h e g))) (drawn_skip slot q ds f h)
  where
    still : (e : _) (b : Bool) → f (slot e) ≡ [] → cond b (rest (f (slot e))) (f (slot e)) ≡ []
    still e true g = ap rest g
    still e false g = g

    empty : (s : ℕ) (b : Bool) → s == slot d ≡ b → f (slot d) ≡ [] → cond b (rest (f s)) (f s) ≡ f s
    empty s true e g = let k : f s ≡ [] = ap f (eqb-true s (slot d) e) ∙ g in ap rest k ∙ sym k
    empty s false e g = refl

    by : (b : Bool) → q d ≡ b → draw (map slot ds) (without_front_of (slot d) f) ≡ draw (map slot (filter q ds)) (without_front_of (slot d) f) → draw (map slot ds) f ≡ draw (map slot (filter q ds)) f
        → front (f (slot d)) ++ draw (map slot ds) (without_front_of (slot d) f) ≡ draw (map slot (cond b (d ∷ filter q ds) (filter q ds))) f
    by true e ih same = ap (λ r. front (f (slot d)) ++ r) ih
    by false e ih same =
        let k = h d e in
        ap (λ r. front r ++ draw (map slot ds) (without_front_of (slot d) f)) k ∙ drawn_same (map slot ds) (without_front_of (slot d) f) f (λ s. empty s (s == slot d) refl k) ∙ same
