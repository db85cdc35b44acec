-- What a reader reads next, behind a count or an argument that it took.
use Rattle.std.proofs.Common.{◌≡◌, ℕ, zero, suc, ◌+◌, ◌-◌, ◌<◌, ◌≤◌, ◌==◌, false, List, [], ◌∷◌, ◌++◌, length, drop, Ok, Err, refl, sym, ap, ◌∙◌, append_assoc, append-nil, length-append, arith, length-drop}
use Rattle.std.proofs.lemmas.List.{drop_at, drop-drop}
use Rattle.std.specs.Vec.{vec_len}
use Rattle.resp_requests.specs.declared.fault.Fault.{Fault}
use Rattle.resp_requests.specs.declared.limits.Limits.{Limits}
use Rattle.resp_requests.specs.declared.reader.RequestReader.{RequestReader}
use Rattle.resp_requests.specs.Gaps.{Gap, fault, Read, ◌>>=◌}
use Rattle.resp_requests.specs.Arrays.{count_at, argument_at, arguments_at, array_at}
use Rattle.resp_requests.specs.Requests.{Command, inline_at, request_at}
use Rattle.resp_requests.specs.Standing.{waiting, open_at}
use Rattle.resp_requests.proofs.Readings.{Extends, Behind, Took, took_is}
use Rattle.resp_requests.proofs.Parts.{count_extends, argument_extends, inline_extends}

abbrev pub onto_taken : List (List ℕ) → List (List ℕ) × List ℕ → Read Command
onto_taken taken others = Ok (taken ++ others.0, others.1)

star_reads : (l : Limits) (bs : List ℕ) → request_at l (42 ∷ bs) ≡ array_at l (42 ∷ bs)
unfolding request_at
star_reads l bs = refl

array_reads : (l : Limits) (bs rest : List ℕ) (n : ℕ) → count_at l bs ≡ Ok (n, rest) → array_at l bs ≡ arguments_at l n rest
unfolding array_at
array_reads l bs rest n e = ap (λ (r : Read ℕ). r >>= λ count. arguments_at l count.0 count.1) e

array_fails : (l : Limits) (bs : List ℕ) (g : Gap) → count_at l bs ≡ Err g → array_at l bs ≡ Err g
unfolding array_at
array_fails l bs g e = ap (λ (r : Read ℕ). r >>= λ count. arguments_at l count.0 count.1) e

extended : {A : Type 0} (r : Read A) (x : A) (rest more : List ℕ) (s : Read A) → r ≡ Ok (x, rest) → Extends r more s → s ≡ Ok (x, rest ++ more)
extended r x rest more s e h = rw e at h

extended_fault : {A : Type 0} (r : Read A) (f : Fault) (more : List ℕ) (s : Read A) → r ≡ Err (fault f) → Extends r more s → s ≡ Err (fault f)
extended_fault r f more s e h = rw e at h

-- where a star waits, the count is read
pub array_opens : (l : Limits) (waits behind rest : List ℕ) (n : ℕ) → waits ≡ 42 ∷ behind → count_at l waits ≡ Ok (n, rest)
    → (more : List ℕ) → request_at l (waits ++ more) ≡ arguments_at l n (rest ++ more)
array_opens l waits behind rest n star e more =
    let first : waits ++ more ≡ 42 ∷ (behind ++ more) = ap (λ (x : List ℕ). x ++ more) star in
    ap (request_at l) first ∙ star_reads l (behind ++ more) ∙ ap (array_at l) (sym first)
    ∙ array_reads l (waits ++ more) (rest ++ more) n (extended (count_at l waits) n rest more (count_at l (waits ++ more)) e (count_extends l waits more))

pub array_is_bad : (l : Limits) (waits behind : List ℕ) (g : Gap) → waits ≡ 42 ∷ behind → count_at l waits ≡ Err g → request_at l (waits ++ []) ≡ Err g
array_is_bad l waits behind g star e =
    ap (request_at l) (append-nil waits ∙ star) ∙ star_reads l behind ∙ ap (array_at l) (sym star) ∙ array_fails l waits g e

no_arguments : (l : Limits) (bs : List ℕ) → arguments_at l zero bs ≡ Ok ([], bs)
unfolding arguments_at
no_arguments l bs = refl

-- an array without arguments
pub array_is_empty : (l : Limits) (waits behind rest : List ℕ) (n : ℕ) → waits ≡ 42 ∷ behind → count_at l waits ≡ Ok (n, rest) → n ≡ 0
    → (more : List ℕ) → request_at l (waits ++ more) ≡ Ok ([], rest ++ more)
array_is_empty l waits behind rest n star e none more =
    array_opens l waits behind rest n star e more ∙ ap (λ (k : ℕ). arguments_at l k (rest ++ more)) none ∙ no_arguments l (rest ++ more)

in_front_of_none : (r : Read Command) → r ≡ (r >>= onto_taken [])
in_front_of_none (Ok x) = refl
in_front_of_none (Err g) = refl

-- so many arguments of it are missing
pub array_goes : (l : Limits) (waits behind rest : List ℕ) (n : ℕ) → waits ≡ 42 ∷ behind → count_at l waits ≡ Ok (n, rest) → 0 < n
    → (more : List ℕ) → request_at l (waits ++ more) ≡ open_at l [] n (rest ++ more)
array_goes l waits behind rest zero star e some more = absurd (omega arith)
array_goes l waits behind rest (suc n) star e some more =
    array_opens l waits behind rest (suc n) star e more ∙ in_front_of_none (arguments_at l (suc n) (rest ++ more))

one_argument : (l : Limits) (n : ℕ) (bs rest a : List ℕ) → argument_at l bs ≡ Ok (a, rest)
    → arguments_at l (suc n) bs ≡ (arguments_at l n rest >>= λ others. Ok (a ∷ others.0, others.1))
unfolding arguments_at
one_argument l n bs rest a e =
    ap (λ (r : Read (List ℕ)). r >>= λ x. arguments_at l n x.1 >>= λ others. Ok (x.0 ∷ others.0, others.1)) e

no_argument : (l : Limits) (n : ℕ) (bs : List ℕ) (g : Gap) → argument_at l bs ≡ Err g → arguments_at l (suc n) bs ≡ Err g
unfolding arguments_at
no_argument l n bs g e =
    ap (λ (r : Read (List ℕ)). r >>= λ x. arguments_at l n x.1 >>= λ others. Ok (x.0 ∷ others.0, others.1)) e

taken_more : (taken : List (List ℕ)) (a : List ℕ) (r : Read (List (List ℕ)))
    → ((r >>= λ others. Ok (a ∷ others.0, others.1)) >>= onto_taken taken) ≡ (r >>= onto_taken (taken ++ a ∷ []))
taken_more taken a (Ok x) = ap (λ (c : Command). done c x.1) (sym (append_assoc taken (a ∷ []) x.0))
  where
    done : Command → List ℕ → Read Command
    done c rest = Ok (c, rest)
taken_more taken a (Err g) = refl

took_one : (l : Limits) (taken : List (List ℕ)) (n : ℕ) (bs rest a : List ℕ) → argument_at l bs ≡ Ok (a, rest)
    → open_at l taken (suc n) bs ≡ (arguments_at l n rest >>= onto_taken (taken ++ a ∷ []))
took_one l taken n bs rest a e =
    ap (λ (r : Read Command). r >>= onto_taken taken) (one_argument l n bs rest a e) ∙ taken_more taken a (arguments_at l n rest)

waits_for_more : (l : Limits) (waits rest a : List ℕ) → argument_at l waits ≡ Ok (a, rest) → (more : List ℕ) → argument_at l (waits ++ more) ≡ Ok (a, rest ++ more)
waits_for_more l waits rest a e more = extended (argument_at l waits) a rest more (argument_at l (waits ++ more)) e (argument_extends l waits more)

-- the argument is taken, and others are missing
pub argument_goes : (l : Limits) (taken : List (List ℕ)) (missing : ℕ) (waits rest a : List ℕ) → argument_at l waits ≡ Ok (a, rest) → 1 < missing
    → (more : List ℕ) → open_at l taken missing (waits ++ more) ≡ open_at l (taken ++ a ∷ []) (missing - 1) (rest ++ more)
argument_goes l taken zero waits rest a e some more = absurd (omega arith)
argument_goes l taken (suc zero) waits rest a e some more = absurd (omega arith)
argument_goes l taken (suc (suc n)) waits rest a e some more =
    took_one l taken (suc n) (waits ++ more) (rest ++ more) a (waits_for_more l waits rest a e more)
    ∙ ap (λ (k : ℕ). open_at l (taken ++ a ∷ []) k (rest ++ more)) (less n)
  where
    less : (n : ℕ) → suc n ≡ suc (suc n) - 1
    less n = omega arith

-- the last argument is taken
pub argument_ends : (l : Limits) (taken : List (List ℕ)) (missing : ℕ) (waits rest a : List ℕ) → argument_at l waits ≡ Ok (a, rest) → missing ≡ 1
    → (more : List ℕ) → open_at l taken missing (waits ++ more) ≡ Ok (taken ++ a ∷ [], rest ++ more)
argument_ends l taken missing waits rest a e one more =
    ap (λ (k : ℕ). open_at l taken k (waits ++ more)) one
    ∙ took_one l taken zero (waits ++ more) (rest ++ more) a (waits_for_more l waits rest a e more)
    ∙ ap (λ (r : Read Command). r >>= onto_taken (taken ++ a ∷ [])) (no_arguments l (rest ++ more))
    ∙ ap (λ (c : Command). done c (rest ++ more)) (append-nil (taken ++ a ∷ []))
  where
    done : Command → List ℕ → Read Command
    done c rest = Ok (c, rest)

pub argument_is_bad : (l : Limits) (taken : List (List ℕ)) (missing : ℕ) (waits : List ℕ) (g : Gap) → 0 < missing → argument_at l waits ≡ Err g
    → open_at l taken missing (waits ++ []) ≡ Err g
argument_is_bad l taken zero waits g some e = absurd (omega arith)
argument_is_bad l taken (suc n) waits g some e =
    ap (λ (r : Read Command). r >>= onto_taken taken) (no_argument l n (waits ++ []) g (ap (argument_at l) (append-nil waits) ∙ e))

other_reads : (l : Limits) (b : ℕ) (bs : List ℕ) → (b == 42) ≡ false → request_at l (b ∷ bs) ≡ inline_at l (b ∷ bs)
unfolding request_at
other_reads l b bs e = rw e refl

-- where another byte waits, a line is read
pub line_reads : (l : Limits) (waits : List ℕ) (b : ℕ) (behind rest : List ℕ) (c : Command) → waits ≡ b ∷ behind → (b == 42) ≡ false → inline_at l waits ≡ Ok (c, rest)
    → (more : List ℕ) → request_at l (waits ++ more) ≡ Ok (c, rest ++ more)
line_reads l waits b behind rest c first other e more =
    let all : waits ++ more ≡ b ∷ (behind ++ more) = ap (λ (x : List ℕ). x ++ more) first in
    ap (request_at l) all ∙ other_reads l b (behind ++ more) other ∙ ap (inline_at l) (sym all)
    ∙ extended (inline_at l waits) c rest more (inline_at l (waits ++ more)) e (inline_extends l waits more)

pub line_is_bad : (l : Limits) (waits : List ℕ) (b : ℕ) (behind : List ℕ) (g : Gap) → waits ≡ b ∷ behind → (b == 42) ≡ false → inline_at l waits ≡ Err g → request_at l (waits ++ []) ≡ Err g
line_is_bad l waits b behind g first other e =
    ap (request_at l) (append-nil waits ∙ first) ∙ other_reads l b behind other ∙ ap (inline_at l) (sym first) ∙ e

-- what waits once so many bytes less are behind the front
left_behind : (items : List ℕ) (front : ℕ) (rest : List ℕ) → front ≤ length items → Behind (drop front items) rest
    → (drop (length items - length rest) items ≡ rest) × (front < length items - length rest) × (length items - length rest ≤ length items) × (length rest ≤ length items)
left_behind items front rest within p =
    let total : length items - front ≡ length p.used + length rest = sym (length-drop front items) ∙ ap length p.parts ∙ length-append p.used rest in
    let place : length items - length rest ≡ front + length p.used = omega (arith, total, within, p.some) in
    let behind : drop (front + length p.used) items ≡ rest = sym (drop-drop (length p.used) front items) ∙ ap (drop (length p.used)) p.parts ∙ drop_at p.used rest (length p.used) refl in
    (ap (λ (n : ℕ). drop n items) place ∙ behind, omega (arith, place, p.some), omega arith, omega (arith, total))

-- what was read of the bytes that wait, and the place behind it, where so many bytes are in the buffer
pub record ReadOf {A : Type 0} (r : RequestReader) (part : Read A) (x : A) (rest : List ℕ) (all : ℕ) : Type 0 where
  pub is : part ≡ Ok (x, rest)
  pub waits : drop (all - length rest) r.buffer.items ≡ rest
  pub moves : r.front < all - length rest
  pub within : all - length rest ≤ vec_len r.buffer
  pub enough : length rest ≤ all

pub read_of : {A : Type 0} (r : RequestReader) (part : List ℕ → Read A) (x : A) (rest bytes : List ℕ) (all : ℕ) → ((bs : List ℕ) → Took bs (part bs))
    → bytes ≡ waiting r → all ≡ length r.buffer.items → part bytes ≡ Ok (x, rest) → ReadOf r (part (waiting r)) x rest all
read_of r part x rest bytes all took same total e =
    let read : part (waiting r) ≡ Ok (x, rest) = ap part (sym same) ∙ e in
    let left = left_behind r.buffer.items r.front rest (omega (arith, r.front_within, r.buffer.ok.0)) (took_is (waiting r) (part (waiting r)) x rest read (took (waiting r))) in
    record {
      is = read;
      waits = ap (λ (n : ℕ). drop (n - length rest) r.buffer.items) total ∙ left.0;
      moves = omega (arith, left.1, total);
      within = omega (arith, left.2, total, r.buffer.ok.0);
      enough = omega (arith, left.3, total);
    }
