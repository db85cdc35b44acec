-- What is read of bytes, and of more behind them.
use Rattle.std.proofs.Common.{◌≡◌, ℕ, zero, suc, ◌+◌, ◌<◌, ◌≤◌, List, [], ◌∷◌, ◌++◌, length, Result, Ok, Err, refl, sym, ap, ◌∙◌, append_assoc, append-nil, length-append, arith}
use Rattle.resp_requests.specs.declared.fault.Fault.{Fault}
use Rattle.resp_requests.specs.declared.limits.Limits.{Limits}
use Rattle.resp_requests.specs.Gaps.{Gap, short, fault, Read}
use Rattle.resp_requests.specs.Requests.{Command, Ending, unfinished, faulty, Requests, following, as_command, from_first, request_at, requests_by, requests}
use Rattle.resp_requests.specs.Laws.{read_on, OneAfterAnother, read_pieces, joined, AnyPieces}
use Rattle.resp_requests.proofs.Readings.{Extends, Behind, Took}
use Rattle.resp_requests.proofs.Parts.{request_extends, request_took}

pub fewer : (a b : List ℕ) → Behind a b → length b < length a
fewer a b p = omega (arith, p.some, ap length p.parts, length-append p.used b)

same_first : (bytes : List ℕ) (f g : List ℕ → Requests) (r : Read Command) → Took bytes r
    → ((rest : List ℕ) → length rest < length bytes → f rest ≡ g rest) → from_first bytes f r ≡ from_first bytes g r
same_first bytes f g (Ok x) p same = ap (following (as_command x.0)) (same x.1 (fewer bytes x.1 p))
same_first bytes f g (Err short) p same = refl
same_first bytes f g (Err (fault h)) p same = refl

-- so many requests are enough
enough : (n m : ℕ) (l : Limits) (bytes : List ℕ) → length bytes ≤ n → length bytes ≤ m → requests_by n l bytes ≡ requests_by m l bytes
unfolding requests_by request_at
enough zero zero l bytes p q = refl
enough zero (suc m) l [] p q = refl
enough zero (suc m) l (b ∷ bs) p q = absurd (omega arith)
enough (suc n) zero l [] p q = refl
enough (suc n) zero l (b ∷ bs) p q = absurd (omega arith)
enough (suc n) (suc m) l bytes p q =
    same_first bytes (requests_by n l) (requests_by m l) (request_at l bytes) (request_took l bytes)
    (λ rest h. enough n m l rest (omega arith) (omega arith))

one_step : (n : ℕ) (l : Limits) (bytes : List ℕ) → requests_by (suc n) l bytes ≡ from_first bytes (requests_by n l) (request_at l bytes)
unfolding requests_by
one_step n l bytes = refl

-- all requests, by the first one
pub by_first : (l : Limits) (bytes : List ℕ) → requests l bytes ≡ from_first bytes (requests l) (request_at l bytes)
unfolding requests
by_first l bytes =
    enough (length bytes) (suc (length bytes)) l bytes (omega arith) (omega arith)
    ∙ one_step (length bytes) l bytes
    ∙ same_first bytes (requests_by (length bytes) l) (λ rest. requests_by (length rest) l rest) (request_at l bytes) (request_took l bytes)
    (λ rest h. enough (length bytes) (length rest) l rest (omega arith) (omega arith))

abbrev ending_in : List Command → Ending → Requests
ending_in c e = record { commands = c; ending = e }

pub following_both : (a b : List Command) (r : Requests) → following a (following b r) ≡ following (a ++ b) r
following_both a b r = ap (λ (c : List Command). ending_in c r.ending) (sym (append_assoc a b r.commands))

read_on_behind : (l : Limits) (a b : List Command) (e : Ending) (more : List ℕ) → following a (read_on l b e more) ≡ read_on l (a ++ b) e more
read_on_behind l a b (unfinished rest) more = following_both a b (requests l (rest ++ more))
read_on_behind l a b (faulty f) more = refl

abbrev OneMore : Limits → List ℕ → List ℕ → Type 0
OneMore l a b = requests l (a ++ b) ≡ read_on l (requests l a).commands (requests l a).ending b

-- by what the first request of the one is
more_by : (l : Limits) (a b : List ℕ) (r s : Read Command) → request_at l a ≡ r → request_at l (a ++ b) ≡ s → Took a r → Extends r b s
    → ((rest : List ℕ) → length rest < length a → OneMore l rest b) → OneMore l a b
more_by l a b (Ok x) s p q took extends shorter =
    let first : requests l a ≡ following (as_command x.0) (requests l x.1) = by_first l a ∙ ap (from_first a (requests l)) p in
    let both : requests l (a ++ b) ≡ following (as_command x.0) (requests l (x.1 ++ b)) = by_first l (a ++ b) ∙ ap (from_first (a ++ b) (requests l)) (q ∙ extends) in
    both ∙ ap (following (as_command x.0)) (shorter x.1 (fewer a x.1 took))
    ∙ read_on_behind l (as_command x.0) (requests l x.1).commands (requests l x.1).ending b
    ∙ ap (λ (r : Requests). read_on l r.commands r.ending b) (sym first)
more_by l a b (Err short) s p q took extends shorter =
    let first : requests l a ≡ record { commands = []; ending = unfinished a } = by_first l a ∙ ap (from_first a (requests l)) p in
    ap (λ (r : Requests). read_on l r.commands r.ending b) (sym first)
more_by l a b (Err (fault f)) s p q took extends shorter =
    let first : requests l a ≡ record { commands = []; ending = faulty f } = by_first l a ∙ ap (from_first a (requests l)) p in
    let both : requests l (a ++ b) ≡ record { commands = []; ending = faulty f } = by_first l (a ++ b) ∙ ap (from_first (a ++ b) (requests l)) (q ∙ extends) in
    both ∙ ap (λ (r : Requests). read_on l r.commands r.ending b) (sym first)

more_in : (n : ℕ) (l : Limits) (a b : List ℕ) → length a < n → OneMore l a b
more_in zero l a b h = absurd (omega arith)
more_in (suc n) l a b h =
    more_by l a b (request_at l a) (request_at l (a ++ b)) refl refl (request_took l a) (request_extends l a b) (λ rest k. more_in n l rest b (omega arith))

pub one_after_another : OneAfterAnother
one_after_another l a b = more_in (suc (length a)) l a b (omega arith)

pieces_behind : (l : Limits) (a : List ℕ) (pieces : List (List ℕ)) → read_pieces l (requests l a) pieces ≡ requests l (a ++ joined pieces)
pieces_behind l a [] = ap (requests l) (sym (append-nil a))
pieces_behind l a (piece ∷ pieces) =
    ap (λ (r : Requests). read_pieces l r pieces) (sym (one_after_another l a piece))
    ∙ pieces_behind l (a ++ piece) pieces ∙ ap (requests l) (append_assoc a piece (joined pieces))

pub any_pieces : AnyPieces
any_pieces l pieces = pieces_behind l [] pieces
