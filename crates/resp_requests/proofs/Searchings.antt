-- How far the line that waits was searched.
use Rattle.std.proofs.Common.{◌≡◌, ℕ, zero, suc, ◌<◌, ◌≤◌, ◌==◌, Bool, true, false, if◌then◌else◌, List, [], ◌∷◌, ◌++◌, length, drop, refl, sym, ap, subst, ◌∙◌, arith, length-append}
use Rattle.std.proofs.lemmas.List.{take-append-le, drop-append-le}
use Rattle.resp_requests.specs.declared.fault.Fault.{Fault}
use Rattle.resp_requests.specs.declared.limits.Limits.{Limits}
use Rattle.resp_requests.specs.declared.reader.RequestReader.{RequestReader}
use Rattle.resp_requests.specs.Lines.{line_at}
use Rattle.resp_requests.specs.Standing.{waiting}
use Rattle.resp_requests.specs.Advancing.{StarWaits, OtherWaits}
use Rattle.resp_requests.specs.Searches.{Unended, line_end, Searched}
use Rattle.resp_requests.proofs.LineRuns.{nothing_searched}

-- nothing was searched yet
pub none_searched : (end most : ℕ) (bs : List ℕ) → Unended end most bs 0
none_searched end most bs = record { within = omega arith; goes_on = λ long. nothing_searched end most long }

more_behind : (end most : ℕ) (bs more : List ℕ) (n : ℕ) → Unended end most bs n → Unended end most (bs ++ more) n
more_behind end most bs more n u = record {
  within = omega (arith, u.within, length-append bs more);
  goes_on = λ (long : Fault). ap (line_at end most long) (take-append-le n bs more u.within) ∙ u.goes_on long;
}

-- more bytes wait
searched_before : (l : Limits) (missing : ℕ) (waits more : List ℕ) (n : ℕ) → Searched l missing waits n → Searched l missing (waits ++ more) n
searched_before l zero [] more n u =
    let none : 0 ≡ n = omega (arith, u.within) in
    subst (λ (k : ℕ). Searched l zero more k) none (none_searched _ _ more)
searched_before l zero (b ∷ bs) more n u = more_behind _ l.longest_line (b ∷ bs) more n u
searched_before l (suc missing) waits more n u = more_behind 13 l.longest_line waits more n u

-- where a piece was fed, or memory for it was refused
pub searched_fed : (l : Limits) (missing front : ℕ) (items piece fed : List ℕ) (ok : Bool) (n : ℕ) → front ≤ length items → fed ≡ (if ok then items ++ piece else items)
    → Searched l missing (drop front items) n → Searched l missing (drop front fed) n
searched_fed l missing front items piece fed true n within e u =
    subst (λ (w : List ℕ). Searched l missing w n) (sym (ap (drop front) e ∙ drop-append-le front items piece within))
    (searched_before l missing (drop front items) piece n u)
searched_fed l missing front items piece fed false n within e u = subst (λ (x : List ℕ). Searched l missing (drop front x) n) (sym e) u

-- how far the search is that a reader begins, and leaves
pub ends_as : (r : RequestReader) (end : ℕ) → line_end r.missing (waiting r) ≡ end → (bs : List ℕ) → bs ≡ waiting r → Unended end r.limits.longest_line bs r.searched
ends_as r end e bs same =
    subst (λ (x : List ℕ). Unended end r.limits.longest_line x r.searched) (sym same)
    (subst (λ (x : ℕ). Unended x r.limits.longest_line (waiting r) r.searched) e r.searches)

pub ends_back : (r : RequestReader) (end : ℕ) → line_end r.missing (waiting r) ≡ end → (bs : List ℕ) → bs ≡ waiting r → (n : ℕ) → Unended end r.limits.longest_line bs n
    → Searched r.limits r.missing (waiting r) n
ends_back r end e bs same n u =
    subst (λ (x : ℕ). Unended x r.limits.longest_line (waiting r) n) (sym e)
    (subst (λ (x : List ℕ). Unended end r.limits.longest_line x n) same u)

-- what ends the line that waits
pub star_end : (r : RequestReader) → r.missing ≡ 0 → StarWaits r → line_end r.missing (waiting r) ≡ 13
star_end r none star = ap (λ (k : ℕ). line_end k (waiting r)) none ∙ ap (line_end 0) star.1

other_end : (b : ℕ) (bs : List ℕ) → (b == 42) ≡ false → line_end 0 (b ∷ bs) ≡ 10
other_end b bs e = rw e refl

pub inline_end : (r : RequestReader) → r.missing ≡ 0 → OtherWaits r → line_end r.missing (waiting r) ≡ 10
inline_end r none other = ap (λ (k : ℕ). line_end k (waiting r)) none ∙ ap (line_end 0) other.3 ∙ other_end other.0 other.1 other.2

length_ends : (missing : ℕ) (waits : List ℕ) → 0 < missing → line_end missing waits ≡ 13
length_ends zero waits some = absurd (omega arith)
length_ends (suc n) waits some = refl

pub length_end : (r : RequestReader) → 0 < r.missing → line_end r.missing (waiting r) ≡ 13
length_end r some = length_ends r.missing (waiting r) some
