-- How a reader stands once it took a part of a request, or stopped.
use Rattle.std.proofs.Common.{◌≡◌, ℕ, zero, suc, ◌-◌, ◌<◌, ◌≤◌, true, is_ok, OnOk, List, [], ◌∷◌, ◌++◌, length, take, drop, Option, Some, None, Result, Ok, Err, Vec, refl, sym, ap, subst, ◌∙◌, append-nil, append_assoc, arith}
use Rattle.std.proofs.lemmas.List.{take_rest}
use Rattle.std.specs.Global.{Global}
use Rattle.resp_requests.specs.declared.fault.Fault.{Fault}
use Rattle.resp_requests.specs.declared.limits.Limits.{Limits}
use Rattle.resp_requests.specs.declared.stop.Stop.{Stop}
use Rattle.resp_requests.specs.declared.stop.Stop.TheVariants as stops
use Rattle.resp_requests.specs.declared.reader.RequestReader.{RequestReader}
use Rattle.resp_requests.specs.Gaps.{Gap, short, fault, Read}
use Rattle.resp_requests.specs.Given.{Fails, texts}
use Rattle.resp_requests.specs.Arrays.{count_at, argument_at}
use Rattle.resp_requests.specs.Lines.{head_at, line_at}
use Rattle.resp_requests.specs.Requests.{Command, as_command, inline_at, request_at}
use Rattle.resp_requests.specs.Standing.{waiting, open_at, going, GoesOn, StandsIn, Stands, IsNext, AreAll, AreBeforeFault}
use Rattle.resp_requests.specs.Advancing.{SameNext, Ends, Halts, Stops, SameStanding, StarWaits, OtherWaits}
use Rattle.resp_requests.proofs.Goings.{goes_same, goes_behind, goes_fed, are_all, are_before, is_next, begins, fault_stays}
use Rattle.resp_requests.proofs.ReaderSteps.{array_is_empty, array_goes, array_is_bad, argument_goes, argument_ends, argument_is_bad, line_reads, line_is_bad}

abbrev read_of : Command → List ℕ → Read Command
read_of c rest = Ok (c, rest)

same_open : (l l2 : Limits) (taken taken2 : List (List ℕ)) (n n2 : ℕ) (w w2 : List ℕ) → l ≡ l2 → taken ≡ taken2 → n ≡ n2 → w ≡ w2 → open_at l taken n w ≡ open_at l2 taken2 n2 w2
same_open l l2 taken taken2 n n2 w w2 a b c d =
    ap (λ (x : Limits). open_at x taken n w) a ∙ ap (λ (x : List (List ℕ)). open_at l2 x n w) b
    ∙ ap (λ (x : ℕ). open_at l2 taken2 x w) c ∙ ap (open_at l2 taken2 n2) d

-- a reader between requests
between_reads : (r : RequestReader) → r.missing ≡ 0 → (more : List ℕ) → going r more ≡ request_at r.limits (waiting r ++ more)
between_reads r none more = ap (λ (k : ℕ). open_at r.limits (texts r.arguments.items) k (waiting r ++ more)) none

pub begun_empty : (r s : RequestReader) (rest : List ℕ) (n : ℕ) (c : Command) → r.missing ≡ 0 → StarWaits r → count_at r.limits (waiting r) ≡ Ok (n, rest) → n ≡ 0
    → c ≡ [] → s.missing ≡ 0 → waiting s ≡ rest → Ends r s c
begun_empty r s rest n c none star e empty nothing after waits = record {
  whole = λ more. between_reads r none more ∙ array_is_empty r.limits (waiting r) star.0 rest n star.1 e empty more
      ∙ ap (λ (w : List ℕ). read_of [] (w ++ more)) (sym waits)
      ∙ ap (λ (x : Command). read_of x (waiting s ++ more)) (sym nothing);
  between = after;
}

pub begun : (r s : RequestReader) (rest : List ℕ) (n : ℕ) → r.missing ≡ 0 → StarWaits r → count_at r.limits (waiting r) ≡ Ok (n, rest) → 0 < n
    → s.limits ≡ r.limits → s.arguments.items ≡ [] → s.missing ≡ n → waiting s ≡ rest → SameNext r s
begun r s rest n none star e some limits empty missing waits more =
    between_reads r none more ∙ array_goes r.limits (waiting r) star.0 rest n star.1 e some more
    ∙ same_open r.limits s.limits [] (texts s.arguments.items) n s.missing (rest ++ more) (waiting s ++ more) (sym limits) (ap texts (sym empty)) (sym missing) (ap (λ (w : List ℕ). w ++ more) (sym waits))

pub taken_on : (r s : RequestReader) (rest a : List ℕ) → argument_at r.limits (waiting r) ≡ Ok (a, rest) → 1 < r.missing
    → s.limits ≡ r.limits → texts s.arguments.items ≡ texts r.arguments.items ++ a ∷ [] → s.missing ≡ r.missing - 1 → waiting s ≡ rest → SameNext r s
taken_on r s rest a e some limits args missing waits more =
    argument_goes r.limits (texts r.arguments.items) r.missing (waiting r) rest a e some more
    ∙ same_open r.limits s.limits (texts r.arguments.items ++ a ∷ []) (texts s.arguments.items) (r.missing - 1) s.missing (rest ++ more) (waiting s ++ more)
    (sym limits) (sym args) (sym missing) (ap (λ (w : List ℕ). w ++ more) (sym waits))

pub taken_last : (r s : RequestReader) (rest a : List ℕ) (c : Command) → argument_at r.limits (waiting r) ≡ Ok (a, rest) → r.missing ≡ 1
    → c ≡ texts r.arguments.items ++ a ∷ [] → s.missing ≡ 0 → waiting s ≡ rest → Ends r s c
taken_last r s rest a c e one all after waits = record {
  whole = λ more. argument_ends r.limits (texts r.arguments.items) r.missing (waiting r) rest a e one more
      ∙ ap (λ (w : List ℕ). read_of (texts r.arguments.items ++ a ∷ []) (w ++ more)) (sym waits)
      ∙ ap (λ (x : Command). read_of x (waiting s ++ more)) (sym all);
  between = after;
}

pub line_taken : (r s : RequestReader) (rest : List ℕ) (c : Command) → r.missing ≡ 0 → OtherWaits r → inline_at r.limits (waiting r) ≡ Ok (c, rest)
    → s.missing ≡ 0 → waiting s ≡ rest → Ends r s c
line_taken r s rest c none other e after waits = record {
  whole = λ more. between_reads r none more ∙ line_reads r.limits (waiting r) other.0 other.1 rest c other.3 other.2 e more
      ∙ ap (λ (w : List ℕ). read_of c (w ++ more)) (sym waits);
  between = after;
}

-- the parts that are read are the same
pub same_parts : (r s : RequestReader) → s.limits ≡ r.limits → texts s.arguments.items ≡ texts r.arguments.items → s.missing ≡ r.missing → waiting s ≡ waiting r → SameNext r s
same_parts r s limits args missing waits more =
    same_open r.limits s.limits (texts r.arguments.items) (texts s.arguments.items) r.missing s.missing (waiting r ++ more) (waiting s ++ more)
    (sym limits) (sym args) (sym missing) (ap (λ (w : List ℕ). w ++ more) (sym waits))

stops_by : (e : Stop) (r : RequestReader) → Fails e (going r []) → Stops e r r
stops_by stops.Short r h = record { unfinished = h; same = λ more. refl }
stops_by (stops.Fault f) r h = h
stops_by stops.Memory r h = λ more. refl

-- only what was searched is another
stops_as : (e : Stop) (r s : RequestReader) → SameNext r s → Stops e r r → Stops e r s
stops_as stops.Short r s same h = record { unfinished = h.unfinished; same = same }
stops_as (stops.Fault f) r s same h = h
stops_as stops.Memory r s same h = same

fails_as : {A : Type 0} (e : Stop) (part : Read A) (all : Read Command) → ((g : Gap) → part ≡ Err g → all ≡ Err g) → Fails e part → Fails e all
fails_as stops.Short part all same h = same short h
fails_as (stops.Fault f) part all same h = same (fault f) h
fails_as stops.Memory part all same h = tt

-- a reader of parts was handed what waits
fails_there : {A : Type 0} (e : Stop) (part : List ℕ → Read A) (bytes waits : List ℕ) → bytes ≡ waits → Fails e (part bytes) → Fails e (part waits)
fails_there e part bytes waits same h = subst (λ (bs : List ℕ). Fails e (part bs)) same h

-- so is what such a reader stops for
pub stops_there : {A : Type 0} (e : Stop) (r s : RequestReader) (part : List ℕ → Read A) (bytes : List ℕ) → bytes ≡ waiting r → SameNext r s
    → (Fails e (part (waiting r)) → Stops e r r) → Fails e (part bytes) → Stops e r s
stops_there e r s part bytes handed same stops fails = stops_as e r s same (stops (fails_there e part bytes (waiting r) handed fails))

pub array_stops : (e : Stop) (r : RequestReader) → r.missing ≡ 0 → StarWaits r → Fails e (count_at r.limits (waiting r)) → Stops e r r
array_stops e r none star h =
    stops_by e r (fails_as e (count_at r.limits (waiting r)) (going r [])
    (λ g bad. between_reads r none [] ∙ array_is_bad r.limits (waiting r) star.0 g star.1 bad) h)

pub argument_stops : (e : Stop) (r : RequestReader) → 0 < r.missing → Fails e (argument_at r.limits (waiting r)) → Stops e r r
argument_stops e r some h =
    stops_by e r (fails_as e (argument_at r.limits (waiting r)) (going r [])
    (λ g bad. argument_is_bad r.limits (texts r.arguments.items) r.missing (waiting r) g some bad) h)

pub line_stops : (e : Stop) (r : RequestReader) → r.missing ≡ 0 → OtherWaits r → Fails e (inline_at r.limits (waiting r)) → Stops e r r
line_stops e r none other h =
    stops_by e r (fails_as e (inline_at r.limits (waiting r)) (going r [])
    (λ g bad. between_reads r none [] ∙ line_is_bad r.limits (waiting r) other.0 other.1 g other.3 other.2 bad) h)

nothing_read : (l : Limits) → request_at l [] ≡ Err short
unfolding request_at
nothing_read l = refl

no_argument : (l : Limits) → argument_at l [] ≡ Err short
unfolding argument_at head_at line_at
no_argument l = refl

-- whether an array is open or not, nothing is read of no bytes
nothing_open : (r : RequestReader) (n : ℕ) → r.missing ≡ n → waiting r ≡ [] → Stops stops.Short r r
nothing_open r zero none empty =
    stops_by stops.Short r (between_reads r none [] ∙ ap (λ (w : List ℕ). request_at r.limits (w ++ [])) empty ∙ nothing_read r.limits)
nothing_open r (suc n) some empty =
    argument_stops stops.Short r (omega (arith, some)) (ap (argument_at r.limits) empty ∙ no_argument r.limits)

pub nothing_stops : (r : RequestReader) → waiting r ≡ [] → Stops stops.Short r r
nothing_stops r empty = nothing_open r r.missing refl empty

-- between a standing and what goes on
to_going : (r : RequestReader) (cs : List Command) (bytes : List ℕ) → r.fault ≡ None → Stands r cs bytes → GoesOn r.limits (going r) cs bytes
to_going r cs bytes e h = subst (λ (o : Option Fault). StandsIn o r cs bytes) e h

from_going : (r s : RequestReader) (cs : List Command) (bytes : List ℕ) → s.fault ≡ None → s.limits ≡ r.limits → GoesOn r.limits (going s) cs bytes → Stands s cs bytes
from_going r s cs bytes e limits h =
    subst (λ (o : Option Fault). StandsIn o s cs bytes) (sym e) (subst (λ (l : Limits). GoesOn l (going s) cs bytes) (sym limits) h)

pub stands_same : (r s : RequestReader) → r.fault ≡ None → s.fault ≡ r.fault → s.limits ≡ r.limits → SameNext r s → SameStanding r s
stands_same r s e f limits same cs bytes h =
    from_going r s cs bytes (f ∙ e) limits (goes_same r.limits (going r) (going s) cs bytes same (to_going r cs bytes e h))

ends_goes : (r s : RequestReader) (c : Command) → s.limits ≡ r.limits → Ends r s c → (more : List ℕ) → request_at r.limits (waiting s ++ more) ≡ going s more
ends_goes r s c limits ends more =
    ap (λ (l : Limits). request_at l (waiting s ++ more)) (sym limits) ∙ sym (between_reads s ends.between more)

stands_ended : (r s : RequestReader) (c : Command) (cs all : List Command) (bytes : List ℕ) → r.fault ≡ None → s.fault ≡ r.fault → s.limits ≡ r.limits → Ends r s c
    → all ≡ cs ++ as_command c → Stands r cs bytes → Stands s all bytes
stands_ended r s c cs all bytes e f limits ends is h =
    let on = goes_behind r.limits (going r) c (waiting s) cs bytes ends.whole (to_going r cs bytes e h) in
    let further = goes_same r.limits (λ more. request_at r.limits (waiting s ++ more)) (going s) (cs ++ as_command c) bytes (ends_goes r s c limits ends) on in
    subst (λ (x : List Command). Stands s x bytes) (sym is) (from_going r s (cs ++ as_command c) bytes (f ∙ e) limits further)

-- a request without words
pub stands_skipped : (r s : RequestReader) (c : Command) → r.fault ≡ None → s.fault ≡ r.fault → s.limits ≡ r.limits → Ends r s c → length c ≡ 0 → SameStanding r s
stands_skipped r s [] e f limits ends none cs bytes h = stands_ended r s [] cs cs bytes e f limits ends (sym (append-nil cs)) h
stands_skipped r s (name ∷ args) e f limits ends none cs bytes h = absurd (omega arith)

-- a command
pub stands_behind : (r s : RequestReader) (c : Command) → r.fault ≡ None → s.fault ≡ r.fault → s.limits ≡ r.limits → Ends r s c → 0 < length c
    → (cs : List Command) (bytes : List ℕ) → Stands r cs bytes → Stands s (cs ++ c ∷ []) bytes
stands_behind r s [] e f limits ends some cs bytes h = absurd (omega arith)
stands_behind r s (name ∷ args) e f limits ends some cs bytes h = stands_ended r s (name ∷ args) cs (cs ++ (name ∷ args) ∷ []) bytes e f limits ends refl h

-- nothing more is read by a reader that stood so before
pub stands_all : (q r s : RequestReader) → r.limits ≡ q.limits → SameStanding q r → r.fault ≡ None → s.fault ≡ r.fault → s.limits ≡ r.limits → Halts r s
    → (cs : List Command) (bytes : List ℕ) → Stands q cs bytes → AreAll q.limits bytes cs × Stands s cs bytes
stands_all q r s before same e f limits h cs bytes stands =
    let there = same cs bytes stands in
    (subst (λ (l : Limits). AreAll l bytes cs) before (are_all r.limits (going r) cs bytes h.unfinished (to_going r cs bytes e there)), stands_same r s e f limits h.same cs bytes there)

-- and where a fault is read
pub stands_before : (q r : RequestReader) (g : Fault) → r.limits ≡ q.limits → SameStanding q r → r.fault ≡ None → going r [] ≡ Err (fault g)
    → (cs : List Command) (bytes : List ℕ) → Stands q cs bytes → AreBeforeFault q.limits bytes cs g
stands_before q r g before same e bad cs bytes stands =
    subst (λ (l : Limits). AreBeforeFault l bytes cs g) before (are_before r.limits (going r) cs bytes g bad (to_going r cs bytes e (same cs bytes stands)))

-- a command that was handed out is the next one
pub stands_next : (s : RequestReader) (cs : List Command) (c : Command) (bytes : List ℕ) → s.fault ≡ None → Stands s (cs ++ c ∷ []) bytes → IsNext s.limits bytes cs c
stands_next s cs c bytes e h = is_next s.limits (going s) cs c bytes (to_going s (cs ++ c ∷ []) bytes e h)

-- a reader that was fed nothing
pub stands_empty : (r : RequestReader) → r.fault ≡ None → r.missing ≡ 0 → waiting r ≡ [] → Stands r [] []
stands_empty r e none empty =
    from_going r r [] [] e refl (goes_same r.limits (request_at r.limits) (going r) [] []
    (λ more. ap (λ (w : List ℕ). request_at r.limits (w ++ more)) (sym empty) ∙ sym (between_reads r none more)) (begins r.limits))

fed_in : (o : Option Fault) (r s : RequestReader) (piece : List ℕ) → r.fault ≡ o → s.fault ≡ r.fault → s.limits ≡ r.limits
    → ((more : List ℕ) → going r (piece ++ more) ≡ going s more) → (cs : List Command) (bytes : List ℕ) → StandsIn o r cs bytes → StandsIn o s cs (bytes ++ piece)
fed_in None r s piece e f limits same cs bytes h =
    subst (λ (l : Limits). GoesOn l (going s) cs (bytes ++ piece)) (sym limits) (goes_fed r.limits (going r) (going s) cs bytes piece same h)
fed_in (Some g) r s piece e f limits same cs bytes h =
    subst (λ (l : Limits). AreBeforeFault l (bytes ++ piece) cs g) (sym limits) (fault_stays r.limits cs bytes piece g h)

-- more bytes wait
pub stands_fed : (r s : RequestReader) (piece : List ℕ) → s.fault ≡ r.fault → s.limits ≡ r.limits → s.arguments ≡ r.arguments → s.missing ≡ r.missing → waiting s ≡ waiting r ++ piece
    → (cs : List Command) (bytes : List ℕ) → Stands r cs bytes → Stands s cs (bytes ++ piece)
stands_fed r s piece f limits args missing waits cs bytes h =
    let same = λ (more : List ℕ). same_open r.limits s.limits (texts r.arguments.items) (texts s.arguments.items) r.missing s.missing (waiting r ++ (piece ++ more)) (waiting s ++ more)
    (sym limits) (ap (λ (v : Vec (Vec ℕ Global) Global). texts v.items) (sym args)) (sym missing) (sym (append_assoc (waiting r) piece more) ∙ ap (λ (w : List ℕ). w ++ more) (sym waits)) in
    subst (λ (o : Option Fault). StandsIn o s cs (bytes ++ piece)) (sym f) (fed_in r.fault r s piece refl f limits same cs bytes h)

-- nothing more waits
pub stands_unfed : (r s : RequestReader) → s.fault ≡ r.fault → s.limits ≡ r.limits → s.arguments ≡ r.arguments → s.missing ≡ r.missing → waiting s ≡ waiting r
    → (cs : List Command) (bytes : List ℕ) → Stands r cs bytes → Stands s cs bytes
stands_unfed r s f limits args missing waits cs bytes h =
    subst (λ (b : List ℕ). Stands s cs b) (append-nil bytes)
    (stands_fed r s [] f limits args missing (waits ∙ sym (append-nil (waiting r))) cs bytes h)

pub on_ok_from : {T E : Type 0} (r : Result T E) (P : Type 0) → (is_ok r ≡ true → P) → OnOk r P
on_ok_from (Ok x) P h = h refl
on_ok_from (Err e) P h = tt

-- one argument more
pub texts_more : (words : List (Vec ℕ Global)) (word : Vec ℕ Global) → texts (words ++ word ∷ []) ≡ texts words ++ word.items ∷ []
texts_more [] word = refl
texts_more (w ∷ words) word = ap (λ (c : Command). w.items ∷ c) (texts_more words word)

-- the bytes that the code hands to a reader of parts
pub handed : (r : RequestReader) (bytes : List ℕ) → bytes ≡ r.buffer.items → take (length bytes - r.front) (drop r.front bytes) ≡ waiting r
handed r bytes same = take_rest bytes r.front ∙ ap (drop r.front) same

pub is_between : (r : RequestReader) → r.missing ≤ 0 → r.missing ≡ 0
is_between r h = omega arith

pub texts_length : (words : List (Vec ℕ Global)) → length (texts words) ≡ length words
texts_length [] = refl
texts_length (w ∷ words) = omega (arith, texts_length words)
