-- Lines, byte by byte.
use Rattle.std.proofs.Common.{◌≡◌, ℕ, zero, suc, ◌+◌, ◌-◌, ◌<◌, ◌≤◌, ◌==◌, ◌&&◌, Bool, true, false, if◌then◌else◌, List, [], ◌∷◌, ◌++◌, length, get_or, take, drop, Option, Some, None, Result, Ok, Err, refl, sym, ap, subst, ◌∙◌, append-nil, arith, add-one, drop-cons}
use Rattle.std.proofs.lemmas.Bool.Decides.{nat_tests}
use Rattle.std.proofs.lemmas.List.{take_rest, drop_all}
use Rattle.resp_requests.specs.declared.fault.Fault.{Fault}
use Rattle.resp_requests.specs.declared.fault.Fault.TheVariants.{ZeroByte}
use Rattle.resp_requests.specs.Gaps.{Gap, short, fault, Read, ◌>>=◌}
use Rattle.resp_requests.specs.Lines.{line_at}
use Rattle.resp_requests.specs.Searches.{Unended}

-- these bytes in front of a line
abbrev pub line_behind : List ℕ → Read (List ℕ) → Read (List ℕ)
line_behind front (Ok x) = Ok (front ++ x.0, x.1)
line_behind front (Err e) = Err e

-- the line at the front, read up to a place
abbrev pub LineSoFar : ℕ → ℕ → Fault → List ℕ → ℕ → Type 0
LineSoFar end most long bs i = line_at end most long bs ≡ line_behind (take i bs) (line_at end (most - i) long (drop i bs))

ended_here : (end most : ℕ) (long : Fault) (front : List ℕ) (b : ℕ) (bs : List ℕ) → (b == end) ≡ true → line_behind front (line_at end most long (b ∷ bs)) ≡ Ok (front, bs)
unfolding line_at
ended_here end most long front b bs e = rw e (ap (λ (l : List ℕ). Ok (l, bs)) (append-nil front))

zero_here : (end most : ℕ) (long : Fault) (front : List ℕ) (b : ℕ) (bs : List ℕ) → (b == end) ≡ false → (b == 0) ≡ true → line_behind front (line_at end most long (b ∷ bs)) ≡ Err (fault ZeroByte)
unfolding line_at
zero_here end most long front b bs p q = rw (p, q) refl

long_here : (end most : ℕ) (long : Fault) (front : List ℕ) (b : ℕ) (bs : List ℕ) → (b == end) ≡ false → (b == 0) ≡ false → (most == 0) ≡ true → line_behind front (line_at end most long (b ∷ bs)) ≡ Err (fault long)
unfolding line_at
long_here end most long front b bs p q r = rw (p, q, r) refl

at_place : (bs : List ℕ) (i : ℕ) → i < length bs → drop i bs ≡ get_or bs i 0 ∷ drop (i + 1) bs
at_place bs i h = rw (add-one, drop-cons bs i 0) refl

pub line_ends : (end most : ℕ) (long : Fault) (bs : List ℕ) (i : ℕ) → i < length bs → (get_or bs i 0 == end) ≡ true
    → LineSoFar end most long bs i → line_at end most long bs ≡ Ok (take i bs, drop (i + 1) bs)
line_ends end most long bs i h e so_far =
    so_far ∙ ap (λ (l : List ℕ). line_behind (take i bs) (line_at end (most - i) long l)) (at_place bs i h)
    ∙ ended_here end (most - i) long (take i bs) (get_or bs i 0) (drop (i + 1) bs) e

pub line_has_zero : (end most : ℕ) (long : Fault) (bs : List ℕ) (i : ℕ) → i < length bs → (get_or bs i 0 == end) ≡ false → (get_or bs i 0 == 0) ≡ true
    → LineSoFar end most long bs i → line_at end most long bs ≡ Err (fault ZeroByte)
line_has_zero end most long bs i h p q so_far =
    so_far ∙ ap (λ (l : List ℕ). line_behind (take i bs) (line_at end (most - i) long l)) (at_place bs i h)
    ∙ zero_here end (most - i) long (take i bs) (get_or bs i 0) (drop (i + 1) bs) p q

pub line_is_long : (end most : ℕ) (long : Fault) (bs : List ℕ) (i : ℕ) → i < length bs → (get_or bs i 0 == end) ≡ false → (get_or bs i 0 == 0) ≡ false → most ≤ i
    → LineSoFar end most long bs i → line_at end most long bs ≡ Err (fault long)
line_is_long end most long bs i h p q large so_far =
    let none : (most - i == 0) ≡ true = grind (arith, nat_tests) in
    so_far ∙ ap (λ (l : List ℕ). line_behind (take i bs) (line_at end (most - i) long l)) (at_place bs i h)
    ∙ long_here end (most - i) long (take i bs) (get_or bs i 0) (drop (i + 1) bs) p q none

pub line_is_short : (end most : ℕ) (long : Fault) (bs : List ℕ) (i : ℕ) → i ≡ length bs → LineSoFar end most long bs i → line_at end most long bs ≡ Err short
unfolding line_at
line_is_short end most long bs i e so_far =
    let none : drop i bs ≡ [] = drop_all i bs (omega arith) in
    so_far ∙ ap (λ (l : List ℕ). line_behind (take i bs) (line_at end (most - i) long l)) none

-- nothing was searched yet
pub nothing_searched : (end most : ℕ) (long : Fault) → line_at end most long [] ≡ Err short
unfolding line_at
nothing_searched end most long = refl

abbrev put_first : ℕ → Read (List ℕ) → Read (List ℕ)
put_first b r = r >>= λ x. Ok (b ∷ x.0, x.1)

abbrev step_of : ℕ → Fault → Bool → Bool → Bool → List ℕ → Read (List ℕ) → Read (List ℕ)
step_of b long ends none full bs r = if ends then Ok ([], bs) else if none then Err (fault ZeroByte) else if full then Err (fault long) else put_first b r

step_is_short : (b : ℕ) (long : Fault) (ends none full : Bool) (bs : List ℕ) (r : Read (List ℕ)) → step_of b long ends none full bs r ≡ Err short
    → (ends ≡ false) × (none ≡ false) × (full ≡ false) × (r ≡ Err short)
step_is_short b long true none full bs r e = absurd cc
step_is_short b long false true full bs r e = absurd cc
step_is_short b long false false true bs r e = absurd cc
step_is_short b long false false false bs (Ok x) e = absurd cc
step_is_short b long false false false bs (Err g) e = (refl, refl, refl, e)

-- of a line without its end each byte goes on
goes_short : (end most : ℕ) (long : Fault) (b : ℕ) (bs : List ℕ) → line_at end most long (b ∷ bs) ≡ Err short
    → ((b == end) ≡ false) × ((b == 0) ≡ false) × ((most == 0) ≡ false) × (line_at end (most - 1) long bs ≡ Err short)
unfolding line_at
goes_short end most long b bs e = step_is_short b long (b == end) (b == 0) (most == 0) bs (line_at end (most - 1) long bs) e

goes_one : (end most : ℕ) (long : Fault) (b : ℕ) (bs : List ℕ) → (b == end) ≡ false → (b == 0) ≡ false → (most == 0) ≡ false
    → line_at end most long (b ∷ bs) ≡ put_first b (line_at end (most - 1) long bs)
unfolding line_at
goes_one end most long b bs p q r = rw (p, q, r) refl

one_before : (b : ℕ) (front : List ℕ) (r : Read (List ℕ)) → put_first b (line_behind front r) ≡ line_behind (b ∷ front) r
one_before b front (Ok x) = refl
one_before b front (Err g) = refl

none_before : (r : Read (List ℕ)) → r ≡ line_behind [] r
none_before (Ok x) = refl
none_before (Err g) = refl

-- what holds no end was read so far
short_so_far : (end most : ℕ) (long : Fault) (s : ℕ) (bs : List ℕ) → s ≤ length bs → line_at end most long (take s bs) ≡ Err short
    → LineSoFar end most long bs s
short_so_far end most long zero bs within e =
    let all : most ≡ most - 0 = omega arith in
    none_before (line_at end most long bs) ∙ ap (λ (n : ℕ). line_behind [] (line_at end n long bs)) all
short_so_far end most long (suc s) [] within e = absurd (omega arith)
short_so_far end most long (suc s) (b ∷ bs) within e =
    let p = goes_short end most long b (take s bs) e in
    let fewer : most - 1 - s ≡ most - suc s = omega arith in
    let others : line_at end most long (b ∷ bs) ≡ put_first b (line_at end (most - 1) long bs) = goes_one end most long b bs p.0 p.1 p.2 in
    let on : put_first b (line_at end (most - 1) long bs) ≡ put_first b (line_behind (take s bs) (line_at end (most - 1 - s) long (drop s bs))) =
    ap (put_first b) (short_so_far end (most - 1) long s bs (omega arith) p.3) in
    others ∙ on ∙ one_before b (take s bs) (line_at end (most - 1 - s) long (drop s bs))
    ∙ ap (λ (n : ℕ). line_behind (b ∷ take s bs) (line_at end n long (drop s bs))) fewer

-- one byte more holds no end
short_on : (end most : ℕ) (long : Fault) (bs : List ℕ) (s : ℕ) → s < length bs → (get_or bs s 0 == end) ≡ false → (get_or bs s 0 == 0) ≡ false → s < most
    → line_at end most long (take s bs) ≡ Err short → line_at end most long (take (suc s) bs) ≡ Err short
short_on end most long [] s lt p q small e = absurd (omega arith)
short_on end most long (b ∷ bs) zero lt p q small e =
    goes_one end most long b [] p q (grind (arith, nat_tests)) ∙ ap (put_first b) (nothing_searched end (most - 1) long)
short_on end most long (b ∷ bs) (suc s) lt p q small e =
    let h = goes_short end most long b (take s bs) e in
    goes_one end most long b (take (suc s) bs) h.0 h.1 h.2 ∙ ap (put_first b) (short_on end (most - 1) long bs s (omega arith) p q (omega arith) h.3)

pub unended_so_far : (end most : ℕ) (long : Fault) (bs : List ℕ) (s : ℕ) → Unended end most bs s → LineSoFar end most long bs s
unended_so_far end most long bs s u = short_so_far end most long s bs u.within (u.goes_on long)

pub unended_on : (end most : ℕ) (bs : List ℕ) (s : ℕ) → s < length bs → (get_or bs s 0 == end) ≡ false → (get_or bs s 0 == 0) ≡ false → s < most
    → Unended end most bs s → Unended end most bs (s + 1)
unended_on end most bs s lt p q small u =
    let next : suc s ≡ s + 1 = omega arith in
    record {
      within = omega arith;
      goes_on = λ long. subst (λ (n : ℕ). line_at end most long (take n bs) ≡ Err short) next (short_on end most long bs s lt p q small (u.goes_on long));
    }
