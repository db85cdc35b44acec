-- Each part of a request reads the same where more bytes follow, and takes bytes.
use Rattle.std.proofs.Common.{◌≡◌, ℕ, zero, suc, ◌+◌, ◌-◌, ◌<◌, ◌≤◌, ◌==◌, nat_lt, Bool, true, false, if◌then◌else◌, List, [], ◌∷◌, ◌++◌, length, take, drop, Option, Some, None, Result, Ok, Err, refl, sym, ap, subst, ◌∙◌, append_assoc, length-append, arith, length-drop}
use Rattle.std.proofs.lemmas.List.{take-append-le, drop-append-le, take-append-drop}
use Rattle.std.proofs.lemmas.Bool.Decides.{nat_tests}
use Rattle.resp_requests.specs.declared.fault.Fault.{Fault}
use Rattle.resp_requests.specs.declared.fault.Fault.TheVariants.{ZeroByte, LongInline, LongCount, LongLength, OpenQuote}
use Rattle.resp_requests.specs.declared.limits.Limits.{Limits}
use Rattle.resp_requests.specs.Gaps.{Gap, short, fault, Read, ◌>>=◌}
use Rattle.resp_requests.specs.Lines.{line_at, behind_byte, head_at}
use Rattle.resp_requests.specs.Words.{words_in}
use Rattle.resp_requests.specs.Arrays.{count_in, length_in, count_at, text_at, argument_at, arguments_at, array_at}
use Rattle.resp_requests.specs.Requests.{Command, closed_words, inline_at, request_at}
use Rattle.resp_requests.proofs.Readings.{Extends, extends_if, extends_then, extends_test, extends_along, Behind, Took, took_if, took_then, took_test, took_some, took_all, TookOrNot, behind_more}

abbrev onto_line : ℕ → List ℕ × List ℕ → Read (List ℕ)
onto_line b x = Ok (b ∷ x.0, x.1)

pub line_extends : (end most : ℕ) (long : Fault) (bs more : List ℕ) → Extends (line_at end most long bs) more (line_at end most long (bs ++ more))
unfolding line_at
line_extends end most long [] more = tt
line_extends end most long (b ∷ bs) more =
    extends_if (b == end) _ _ more _ _ refl
    (extends_if (b == 0) _ _ more _ _ refl
    (extends_if (most == 0) _ _ more _ _ refl
    (extends_then _ more _ (onto_line b) (line_extends end (most - 1) long bs more) (λ x rest. refl))))

pub behind_extends : (x bs more : List ℕ) → Extends (behind_byte bs >>= λ rest. Ok (x, rest)) more (behind_byte (bs ++ more) >>= λ rest. Ok (x, rest))
unfolding behind_byte
behind_extends x [] more = tt
behind_extends x (b ∷ bs) more = refl

pub head_extends : (most : ℕ) (long : Fault) (bs more : List ℕ) → Extends (head_at most long bs) more (head_at most long (bs ++ more))
unfolding head_at
head_extends most long bs more =
    extends_then (line_at 13 most long bs) more (line_at 13 most long (bs ++ more)) (λ x. behind_byte x.1 >>= λ rest. Ok (x.0, rest))
    (line_extends 13 most long bs more) (λ x rest. behind_extends x rest more)

pub count_extends : (l : Limits) (bs more : List ℕ) → Extends (count_at l bs) more (count_at l (bs ++ more))
unfolding count_at
count_extends l bs more =
    extends_then (head_at l.longest_line LongCount bs) more (head_at l.longest_line LongCount (bs ++ more))
    (λ head. count_in (drop 1 head.0) l.most_arguments >>= λ n. Ok (n, head.1))
    (head_extends l.longest_line LongCount bs more)
    (λ x rest. extends_test (count_in (drop 1 x) l.most_arguments) more (λ n. Ok (n, rest)) (λ n. Ok (n, rest ++ more)) (λ n. refl))

text_cases : (c : Bool) (n : ℕ) (bs more : List ℕ) → c ≡ nat_lt (length bs) (n + 2)
    → Extends (if c then Err short else Ok (take n bs, drop (n + 2) bs)) more (text_at n (bs ++ more))
unfolding text_at
text_cases true n bs more e = tt
text_cases false n bs more e =
    let long : n + 2 ≤ length bs = grind (arith, nat_tests, e) in
    let small : n ≤ length bs = omega arith in
    let room : nat_lt (length (bs ++ more)) (n + 2) ≡ false = grind (arith, nat_tests, length-append bs more) in
    rw (room, take-append-le n bs more small, drop-append-le (n + 2) bs more long) refl

pub text_extends : (n : ℕ) (bs more : List ℕ) → Extends (text_at n bs) more (text_at n (bs ++ more))
unfolding text_at
text_extends n bs more = text_cases (nat_lt (length bs) (n + 2)) n bs more refl

pub argument_extends : (l : Limits) (bs more : List ℕ) → Extends (argument_at l bs) more (argument_at l (bs ++ more))
unfolding argument_at
argument_extends l bs more =
    extends_then (head_at l.longest_line LongLength bs) more (head_at l.longest_line LongLength (bs ++ more))
    (λ head. length_in head.0 l.longest_argument >>= λ n. text_at n head.1)
    (head_extends l.longest_line LongLength bs more)
    (λ x rest. extends_test (length_in x l.longest_argument) more (λ n. text_at n rest) (λ n. text_at n (rest ++ more)) (λ n. text_extends n rest more))

abbrev pub onto_arguments : List ℕ → List (List ℕ) × List ℕ → Read (List (List ℕ))
onto_arguments a others = Ok (a ∷ others.0, others.1)

pub arguments_extend : (l : Limits) (n : ℕ) (bs more : List ℕ) → Extends (arguments_at l n bs) more (arguments_at l n (bs ++ more))
unfolding arguments_at
arguments_extend l zero bs more = refl
arguments_extend l (suc n) bs more =
    extends_then (argument_at l bs) more (argument_at l (bs ++ more)) (λ a. arguments_at l n a.1 >>= onto_arguments a.0)
    (argument_extends l bs more)
    (λ x rest. extends_then (arguments_at l n rest) more (arguments_at l n (rest ++ more)) (onto_arguments x)
    (arguments_extend l n rest more) (λ y behind. refl))

pub array_extends : (l : Limits) (bs more : List ℕ) → Extends (array_at l bs) more (array_at l (bs ++ more))
unfolding array_at
array_extends l bs more =
    extends_then (count_at l bs) more (count_at l (bs ++ more)) (λ count. arguments_at l count.0 count.1)
    (count_extends l bs more) (λ x rest. arguments_extend l x rest more)

pub inline_extends : (l : Limits) (bs more : List ℕ) → Extends (inline_at l bs) more (inline_at l (bs ++ more))
unfolding inline_at
inline_extends l bs more =
    extends_then (line_at 10 l.longest_line LongInline bs) more (line_at 10 l.longest_line LongInline (bs ++ more))
    (λ line. closed_words (words_in line.0) >>= λ words. Ok (words, line.1))
    (line_extends 10 l.longest_line LongInline bs more)
    (λ x rest. extends_test (closed_words (words_in x)) more (λ words. Ok (words, rest)) (λ words. Ok (words, rest ++ more)) (λ words. refl))

pub request_extends : (l : Limits) (bs more : List ℕ) → Extends (request_at l bs) more (request_at l (bs ++ more))
unfolding request_at
request_extends l [] more = tt
request_extends l (b ∷ bs) more =
    extends_if (b == 42) _ _ more _ _ (array_extends l (b ∷ bs) more) (inline_extends l (b ∷ bs) more)

-- a byte and what was taken behind it
one_more : {A : Type 0} (b : ℕ) (bs : List ℕ) (r : Read A) → Took bs r → Took (b ∷ bs) r
one_more b bs (Ok x) p = record { used = b ∷ p.used; some = omega (arith, p.some); parts = ap (λ (l : List ℕ). b ∷ l) p.parts }
one_more b bs (Err e) p = tt

took_onto : (b : ℕ) (bs : List ℕ) (r : Read (List ℕ)) → Took bs r → Took (b ∷ bs) (r >>= onto_line b)
took_onto b bs (Ok x) p = one_more b bs (Ok x) p
took_onto b bs (Err e) p = tt

pub line_took : (end most : ℕ) (long : Fault) (bs : List ℕ) → Took bs (line_at end most long bs)
unfolding line_at
line_took end most long [] = tt
line_took end most long (b ∷ bs) =
    took_if (b == end) (b ∷ bs) _ _ (record { used = b ∷ []; some = omega arith; parts = refl })
    (took_if (b == 0) (b ∷ bs) _ _ tt
    (took_if (most == 0) (b ∷ bs) _ _ tt (took_onto b bs _ (line_took end (most - 1) long bs))))

behind_took : (x bs : List ℕ) → TookOrNot bs (behind_byte bs >>= λ rest. Ok (x, rest))
unfolding behind_byte
behind_took x [] = tt
behind_took x (b ∷ bs) = (b ∷ [], refl)

pub head_took : (most : ℕ) (long : Fault) (bs : List ℕ) → Took bs (head_at most long bs)
unfolding head_at
head_took most long bs = took_then bs (line_at 13 most long bs) (λ x. behind_byte x.1 >>= λ rest. Ok (x.0, rest)) (line_took 13 most long bs) behind_took

pub count_took : (l : Limits) (bs : List ℕ) → Took bs (count_at l bs)
unfolding count_at
count_took l bs = took_then bs (head_at l.longest_line LongCount bs) (λ head. count_in (drop 1 head.0) l.most_arguments >>= λ n. Ok (n, head.1))
    (head_took l.longest_line LongCount bs)
    (λ x rest. took_test (count_in (drop 1 x) l.most_arguments) rest (λ n. Ok (n, rest)) (λ n. ([], refl)))

text_parts : (c : Bool) (n : ℕ) (bs : List ℕ) → TookOrNot bs (if c then Err short else Ok (take n bs, drop (n + 2) bs))
text_parts true n bs = tt
text_parts false n bs = (take (n + 2) bs, sym (take-append-drop (n + 2) bs))

text_took : (n : ℕ) (bs : List ℕ) → TookOrNot bs (text_at n bs)
unfolding text_at
text_took n bs = text_parts (nat_lt (length bs) (n + 2)) n bs

pub argument_took : (l : Limits) (bs : List ℕ) → Took bs (argument_at l bs)
unfolding argument_at
argument_took l bs = took_then bs (head_at l.longest_line LongLength bs) (λ head. length_in head.0 l.longest_argument >>= λ n. text_at n head.1)
    (head_took l.longest_line LongLength bs)
    (λ x rest. took_test (length_in x l.longest_argument) rest (λ n. text_at n rest) (λ n. text_took n rest))

arguments_took : (l : Limits) (n : ℕ) (bs : List ℕ) → TookOrNot bs (arguments_at l n bs)
unfolding arguments_at
arguments_took l zero bs = ([], refl)
arguments_took l (suc n) bs =
    took_all bs (argument_at l bs) (λ a. arguments_at l n a.1 >>= onto_arguments a.0) (took_some bs (argument_at l bs) (argument_took l bs))
    (λ x rest. took_all rest (arguments_at l n rest) (onto_arguments x) (arguments_took l n rest) (λ y behind. ([], refl)))

pub array_took : (l : Limits) (bs : List ℕ) → Took bs (array_at l bs)
unfolding array_at
array_took l bs = took_then bs (count_at l bs) (λ count. arguments_at l count.0 count.1) (count_took l bs) (λ x rest. arguments_took l x rest)

pub inline_took : (l : Limits) (bs : List ℕ) → Took bs (inline_at l bs)
unfolding inline_at
inline_took l bs = took_then bs (line_at 10 l.longest_line LongInline bs) (λ line. closed_words (words_in line.0) >>= λ words. Ok (words, line.1))
    (line_took 10 l.longest_line LongInline bs)
    (λ x rest. took_test (closed_words (words_in x)) rest (λ words. Ok (words, rest)) (λ words. ([], refl)))

pub request_took : (l : Limits) (bs : List ℕ) → Took bs (request_at l bs)
unfolding request_at
request_took l [] = tt
request_took l (b ∷ bs) = took_if (b == 42) (b ∷ bs) _ _ (array_took l (b ∷ bs)) (inline_took l (b ∷ bs))
