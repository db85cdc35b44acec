-- How a reader that goes on stands, once it read a request, stopped, or was fed.
use Rattle.std.proofs.Common.{◌≡◌, ℕ, List, [], ◌∷◌, ◌++◌, Result, Ok, Err, refl, sym, ap, ◌∙◌, append_assoc, append-nil}
use Rattle.resp_requests.specs.declared.fault.Fault.{Fault}
use Rattle.resp_requests.specs.declared.limits.Limits.{Limits}
use Rattle.resp_requests.specs.Gaps.{Gap, short, fault, Read}
use Rattle.resp_requests.specs.Requests.{Command, Ending, unfinished, faulty, Requests, following, as_command, from_first, request_at, requests}
use Rattle.resp_requests.specs.Laws.{read_on}
use Rattle.resp_requests.specs.Standing.{GoesOn, IsNext, AreAll, AreBeforeFault}
use Rattle.resp_requests.proofs.LawProofs.{by_first, following_both, one_after_another}

pub begins : (l : Limits) → GoesOn l (request_at l) [] []
begins l = record { rest = []; behind = λ more. refl; next = λ more. refl }

pub goes_same : (l : Limits) (f g : List ℕ → Read Command) (cs : List Command) (bytes : List ℕ) → ((more : List ℕ) → f more ≡ g more)
    → GoesOn l f cs bytes → GoesOn l g cs bytes
goes_same l f g cs bytes same on = record { rest = on.rest; behind = on.behind; next = λ more. on.next more ∙ same more }

pub goes_fed : (l : Limits) (f g : List ℕ → Read Command) (cs : List Command) (bytes piece : List ℕ) → ((more : List ℕ) → f (piece ++ more) ≡ g more)
    → GoesOn l f cs bytes → GoesOn l g cs (bytes ++ piece)
goes_fed l f g cs bytes piece same on = record {
  rest = on.rest ++ piece;
  behind = λ more. ap (requests l) (append_assoc bytes piece more) ∙ on.behind (piece ++ more)
      ∙ ap (λ (x : List ℕ). following cs (requests l x)) (sym (append_assoc on.rest piece more));
  next = λ more. ap (request_at l) (append_assoc on.rest piece more) ∙ on.next (piece ++ more) ∙ same more;
}

-- a request was read
pub goes_behind : (l : Limits) (f : List ℕ → Read Command) (c : Command) (waits : List ℕ) (cs : List Command) (bytes : List ℕ)
    → ((more : List ℕ) → f more ≡ Ok (c, waits ++ more)) → GoesOn l f cs bytes
    → GoesOn l (λ more. request_at l (waits ++ more)) (cs ++ as_command c) bytes
goes_behind l f c waits cs bytes whole on = record {
  rest = waits;
  behind = λ more.
      let first : requests l (on.rest ++ more) ≡ following (as_command c) (requests l (waits ++ more)) =
      by_first l (on.rest ++ more) ∙ ap (from_first (on.rest ++ more) (requests l)) (on.next more ∙ whole more) in
      on.behind more ∙ ap (following cs) first ∙ following_both cs (as_command c) (requests l (waits ++ more));
  next = λ more. refl;
}

abbrev ending_in : List Command → Ending → Requests
ending_in c e = record { commands = c; ending = e }

all_of : (l : Limits) (f : List ℕ → Read Command) (cs : List Command) (bytes : List ℕ) (r : Read Command) → f [] ≡ r → (on : GoesOn l f cs bytes)
    → requests l bytes ≡ following cs (from_first (on.rest ++ []) (requests l) r)
all_of l f cs bytes r e on =
    ap (requests l) (sym (append-nil bytes)) ∙ on.behind []
    ∙ ap (following cs) (by_first l (on.rest ++ []) ∙ ap (from_first (on.rest ++ []) (requests l)) (on.next [] ∙ e))

pub are_all : (l : Limits) (f : List ℕ → Read Command) (cs : List Command) (bytes : List ℕ) → f [] ≡ Err short → GoesOn l f cs bytes → AreAll l bytes cs
are_all l f cs bytes e on =
    (on.rest ++ [], all_of l f cs bytes (Err short) e on ∙ ap (λ (c : List Command). ending_in c (unfinished (on.rest ++ []))) (append-nil cs))

pub are_before : (l : Limits) (f : List ℕ → Read Command) (cs : List Command) (bytes : List ℕ) (g : Fault) → f [] ≡ Err (fault g) → GoesOn l f cs bytes
    → AreBeforeFault l bytes cs g
are_before l f cs bytes g e on =
    all_of l f cs bytes (Err (fault g)) e on ∙ ap (λ (c : List Command). ending_in c (faulty g)) (append-nil cs)

pub is_next : (l : Limits) (f : List ℕ → Read Command) (cs : List Command) (c : Command) (bytes : List ℕ) → GoesOn l f (cs ++ c ∷ []) bytes → IsNext l bytes cs c
is_next l f cs c bytes on = (
  (requests l (on.rest ++ [])).commands,
  ap (λ (r : Requests). r.commands) (ap (requests l) (sym (append-nil bytes)) ∙ on.behind []) ∙ append_assoc cs (c ∷ []) (requests l (on.rest ++ [])).commands,
)

-- a fault stays where more bytes follow
pub fault_stays : (l : Limits) (cs : List Command) (bytes piece : List ℕ) (g : Fault) → AreBeforeFault l bytes cs g → AreBeforeFault l (bytes ++ piece) cs g
fault_stays l cs bytes piece g e = one_after_another l bytes piece ∙ ap (λ (r : Requests). read_on l r.commands r.ending piece) e
