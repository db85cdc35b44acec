-- The pieces of a text: one without a separator is alone, and one before a separator is the first.
use Rattle.std.proofs.Common.{◌≡◌, ◌≢◌, ◌==◌, ℕ, suc, ◌+◌, ◌<◌, ◌≤◌, Bool, false, if◌then◌else◌, List, [], ◌∷◌, ◌++◌, length, get_or, take, drop, Option, Some, None, IfSome, MatchOption, refl, ap, ap₂, sym, ◌∙◌, add-one, drop-cons, length-take, arith}
use Rattle.std.specs.Borrow.{Bor}
use Rattle.std.specs.List.{position, position_or_len}
use Rattle.std.proofs.lemmas.Grind.{common_steps}
use Rattle.std.proofs.lemmas.List.{length-append, get_or-take, take-append-drop}
use Rattle.std.proofs.lemmas.List.Quantifiers.{position-Some}
use Rattle.std.proofs.lemmas.List.Sums.{fails_before_first}
use Rattle.std.proofs.lemmas.Bool.{eq-eqb, eqb-true, ne_eqb}
use Rattle.cluster_session.specs.Lines.{pieces, before_piece}

abbrev pub Lacks : ℕ → List ℕ → Type 0
Lacks c bs = (i : ℕ) → i < length bs → get_or bs i 0 ≢ c

other : (c b : ℕ) (bs : List ℕ) → b ≢ c → pieces c (b ∷ bs) ≡ before_piece b (pieces c bs)
other c b bs ne = ap (λ t. if t then [] ∷ pieces c bs else before_piece b (pieces c bs)) (ne_eqb b c ne)

pub piece_alone : (c : ℕ) (bs : List ℕ) → Lacks c bs → pieces c bs ≡ bs ∷ []
piece_alone c [] lacks = refl
piece_alone c (b ∷ bs) lacks =
    other c b bs (lacks 0 (omega arith)) ∙ ap (before_piece b) (piece_alone c bs (λ i below. lacks (suc i) (omega (arith, below))))

pub piece_before : (c : ℕ) (bs later : List ℕ) → Lacks c bs → pieces c (bs ++ c ∷ later) ≡ bs ∷ pieces c later
piece_before c [] later lacks = ap (λ t. if t then [] ∷ pieces c later else before_piece c (pieces c later)) (eq-eqb c c refl)
piece_before c (b ∷ bs) later lacks =
    other c b (bs ++ c ∷ later) (lacks 0 (omega arith)) ∙ ap (before_piece b) (piece_before c bs later (λ i below. lacks (suc i) (omega (arith, below))))

-- a text that was cut at its first separator, or has none
abbrev pub IsCut : ℕ → List ℕ → Option (Bor (List ℕ) × Bor (List ℕ)) → Type 0
IsCut c bs r = MatchOption r (Lacks c bs) (λ x. (bs ≡ x.0.now ++ (c ∷ x.1.now)) × Lacks c x.0.now)

pub cut_pieces : (c : ℕ) (bs : List ℕ) (r : Option (Bor (List ℕ) × Bor (List ℕ))) → IsCut c bs r → MatchOption r (pieces c bs ≡ bs ∷ []) (λ x. pieces c bs ≡ x.0.now ∷ pieces c x.1.now)
cut_pieces c bs None lacks = piece_alone c bs lacks
cut_pieces c bs (Some x) (whole, lacks) = ap (pieces c) whole ∙ piece_before c x.0.now x.1.now lacks

pub cut_shorter : (c : ℕ) (bs : List ℕ) (r : Option (Bor (List ℕ) × Bor (List ℕ))) → IsCut c bs r → IfSome r (λ x. length x.1.now < length bs)
cut_shorter c bs None lacks = tt
cut_shorter c bs (Some x) (whole, lacks) =
    let both : length bs ≡ length x.0.now + suc (length x.1.now) = ap length whole ∙ length-append x.0.now (c ∷ x.1.now) in
    omega (arith, both)

-- ---- a text by the place of its first separator

abbrev is_byte : ℕ → ℕ → Bool
is_byte c b = b == c

differs : (c b : ℕ) → is_byte c b ≡ false → b ≢ c
differs c b is_not e = absurd (cc (is_not, eq-eqb b c e))

pub piece_without : (c : ℕ) (bs : List ℕ) → position (λ b. b == c) bs ≡ None → pieces c bs ≡ bs ∷ []
piece_without c bs none =
    let all : length bs ≤ position_or_len (λ b. b == c) bs = grind (arith, common_steps) in
    piece_alone c bs (λ i below. differs c (get_or bs i 0) (fails_before_first (λ b. b == c) bs i 0 (omega (arith, all, below))))

pub piece_up_to : (c : ℕ) (bs : List ℕ) (i : ℕ) → position (λ b. b == c) bs ≡ Some i → pieces c bs ≡ take i bs ∷ pieces c (drop (i + 1) bs)
piece_up_to c bs i some =
    let found = position-Some (λ b. b == c) bs i 0 some in
    let is : get_or bs i 0 ≡ c = eqb-true (get_or bs i 0) c found.1 in
    let left : drop i bs ≡ c ∷ drop (i + 1) bs = drop-cons bs i 0 found.0 ∙ ap₂ (λ b (k : ℕ). b ∷ drop k bs) is (sym (add-one i)) in
    let whole : bs ≡ take i bs ++ (c ∷ drop (i + 1) bs) = sym (take-append-drop i bs) ∙ ap (λ l. take i bs ++ l) left in
    let lacks : Lacks c (take i bs) = λ k below. let lt : k < i = omega (arith, below, length-take i bs) in
    differs c (get_or (take i bs) k 0) (ap (is_byte c) (get_or-take i bs k 0 lt) ∙ found.2 k lt) in
    ap (pieces c) whole ∙ piece_before c (take i bs) (drop (i + 1) bs) lacks
