-- Attempts at a transaction in a log, one behind another: how they follow, and what follows from that.
use Rattle.std.proofs.Common.{◌≡◌, ℕ, zero, suc, ◌+◌, ◌-◌, ◌*◌, ◌<◌, ◌≤◌, Bool, true, false, List, [], ◌∷◌, ◌++◌, map, length, take, drop, Option, None, Result, Ok, Err, refl, sym, ap, ◌∙◌, subst, length-append, arith}
use Rattle.std.proofs.lemmas.List.{drop-drop, length-map, take-append-drop}
use Rattle.std.specs.Prelude.{MatchResult}
use Rattle.resp_core.specs.Trees.{Tree}
use Rattle.resp_core.specs.Errors.{Refusal}
use Rattle.resp_args.specs.Command.{Command}
use Rattle.cluster_routing.specs.Address.{Address}
use Rattle.cluster_calls.specs.Links.Log.{Exchange, requests}
use Rattle.cluster_calls.specs.Links.Request.{exec}
use Rattle.cluster_calls.specs.Calls.Plan.{Client, Dispatch, plan}
use Rattle.cluster_calls.specs.Calls.Redirects.{Hop, Next, Stays, Lost, Goes, is_going, MatchNext, next_of}
use Rattle.cluster_calls.specs.Calls.Transactions.{Fate, done, not_done, may_be_done, fate, fate_by, if_not_done, multi_reply, exec_reply, is_okay, redirect_in, next_attempt, replies_in, attempt, size, without_asking, FollowsAttempts}
use Rattle.cluster_calls.specs.OneServer.TransactionLaws.{width, attempt_at, OnlyNotDoneIsSentAgain, AttemptsAreBounded}
use Rattle.cluster_calls.specs.Calls.OneSlot.{args_of}
use Rattle.cluster_calls.specs.Calls.Call.{Transaction}
use Rattle.cluster_calls.specs.Calls.Legal.{AttemptAfterAttempt, first_hop}
use Rattle.cluster_calls.proofs.LogLaws.Sizes.{take_all, drop_all}

-- ---- how long an attempt is

pub size_of : (hop : Hop) (commands : List (List (List ℕ))) → length (attempt hop commands) ≡ size commands
size_of hop commands =
    let m : length (map (without_asking hop.node) (commands ++ exec ∷ [])) ≡ length (commands ++ exec ∷ []) = length-map _ _ in
    let l : length (commands ++ exec ∷ []) ≡ length commands + 1 = length-append commands (exec ∷ []) in
    omega (arith, m, l)

pub requests_length : (xs : List Exchange) → length (requests xs) ≡ length xs
requests_length [] = refl
requests_length (x ∷ xs) = ap suc (requests_length xs)

pub attempt_length : (hop : Hop) (commands : List (List (List ℕ))) (xs : List Exchange) → requests xs ≡ attempt hop commands → length xs ≡ size commands
attempt_length hop commands xs e = sym (requests_length xs) ∙ ap length e ∙ size_of hop commands

-- ---- no way on without budget, or where something may have been done

pub no_budget : (links : List Address) (f : Fate) (reply : Option Tree) → if_not_done f (next_of links 0 reply) ≡ Stays
no_budget links done reply = refl
no_budget links not_done reply = refl
no_budget links may_be_done reply = refl

pub goes_by : (f : Fate) (n : Next) (h : Hop) → if_not_done f n ≡ Goes h → f ≡ not_done
goes_by done n h e = cc
goes_by not_done n h e = refl
goes_by may_be_done n h e = cc

pub no_exec : (begun : Bool) → fate_by begun None ≡ may_be_done
no_exec true = refl
no_exec false = refl

-- an attempt whose EXEC has no reply leads nowhere
pub lost_stays : (links : List Address) (redirects : ℕ) (replies : List (Option Tree)) → exec_reply replies ≡ None → next_attempt links redirects replies ≡ Stays
lost_stays links redirects replies e =
    ap (λ f. if_not_done f (next_of links redirects (redirect_in replies))) (ap (fate_by (is_okay (multi_reply replies))) e ∙ no_exec (is_okay (multi_reply replies)))

-- ---- the last attempt, and one that is followed

abbrev no_exchanges : List Exchange
no_exchanges = []

stops_at : (n : Next) → is_going n ≡ false → (F : Hop → Type 0) (xs : List Exchange) → xs ≡ [] → MatchNext n (xs ≡ []) F
stops_at Stays h F xs e = e
stops_at Lost h F xs e = e
stops_at (Goes hop) h F xs e = cc

take_whole : (n : ℕ) (xs : List Exchange) → length xs ≡ n → take n xs ≡ xs
take_whole zero [] e = refl
take_whole zero (x ∷ xs) e = absurd (omega arith)
take_whole (suc n) [] e = absurd (omega arith)
take_whole (suc n) (x ∷ xs) e = ap (λ zs. x ∷ zs) (take_whole n xs (omega arith))

drop_whole : (n : ℕ) (xs : List Exchange) → length xs ≡ n → drop n xs ≡ []
drop_whole zero [] e = refl
drop_whole zero (x ∷ xs) e = absurd (omega arith)
drop_whole (suc n) [] e = absurd (omega arith)
drop_whole (suc n) (x ∷ xs) e = drop_whole n xs (omega arith)

pub attempt_ends : (links : List Address) (redirects : ℕ) (hop : Hop) (commands : List (List (List ℕ))) (xs : List Exchange) → requests xs ≡ attempt hop commands
    → is_going (next_attempt links redirects (replies_in xs)) ≡ false → FollowsAttempts links redirects hop commands xs
attempt_ends links zero hop commands xs e stays = e
attempt_ends links (suc redirects) hop commands xs e stays =
    let whole : take (size commands) xs ≡ xs = take_whole (size commands) xs (attempt_length hop commands xs e) in
    (ap requests whole ∙ e, stops_at (next_attempt links (suc redirects) (replies_in (take (size commands) xs))) (ap (λ ys. is_going (next_attempt links (suc redirects) (replies_in ys))) whole ∙ stays) (λ next. FollowsAttempts links redirects next commands (drop (size commands) xs)) (drop (size commands) xs) (drop_whole (size commands) xs (attempt_length hop commands xs e)))

goes_on : (n : Next) (h : Hop) → n ≡ Goes h → (S : Type 0) (F : Hop → Type 0) → F h → MatchNext n S F
goes_on Stays h e S F f = cc
goes_on Lost h e S F f = cc
goes_on (Goes k) h e S F f = subst F (sym (same k h e)) f
  where
    hop_in : Next → Hop
    hop_in (Goes j) = j
    hop_in _ = h

    same : (k h : Hop) → Goes k ≡ Goes h → k ≡ h
    same k h e = cc

pub attempt_goes : (links : List Address) (redirects : ℕ) (hop next : Hop) (commands : List (List (List ℕ))) (xs more : List Exchange) → requests xs ≡ attempt hop commands
    → next_attempt links redirects (replies_in xs) ≡ Goes next → FollowsAttempts links (redirects - 1) next commands more → FollowsAttempts links redirects hop commands (xs ++ more)
attempt_goes links zero hop next commands xs more e go h =
    let none : next_attempt links 0 (replies_in xs) ≡ Stays = no_budget links (fate (replies_in xs)) (redirect_in (replies_in xs)) in
    cc
attempt_goes links (suc redirects) hop next commands xs more e go h =
    let long : length xs ≡ size commands = attempt_length hop commands xs e in
    let first : take (size commands) (xs ++ more) ≡ xs = take_all (size commands) xs more long in
    let rest : drop (size commands) (xs ++ more) ≡ more = drop_all (size commands) xs more long in
    let less : suc redirects - 1 ≡ redirects = omega arith in (
      ap requests first ∙ e,
      goes_on (next_attempt links (suc redirects) (replies_in (take (size commands) (xs ++ more)))) next (ap (λ ys. next_attempt links (suc redirects) (replies_in ys)) first ∙ go) (drop (size commands) (xs ++ more) ≡ []) (λ k. FollowsAttempts links redirects k commands (drop (size commands) (xs ++ more)))
          (subst (λ ys. FollowsAttempts links redirects next commands ys) (sym rest) (subst (λ m. FollowsAttempts links m next commands more) less h)),
    )

-- ---- how many attempts there are

abbrev Counted : ℕ → ℕ → List Exchange → Type 0
Counted n redirects xs = (count : ℕ) × (length xs ≡ count * n) × (count ≤ suc redirects)

counted_one : (n redirects : ℕ) (xs : List Exchange) → length xs ≡ n → Counted n redirects xs
counted_one n redirects xs e = (1, e ∙ omega arith, omega arith)

-- the first attempt of a log, and the rest
pub front_length : (hop : Hop) (commands : List (List (List ℕ))) (xs : List Exchange) → requests (take (size commands) xs) ≡ attempt hop commands → length xs ≡ size commands + length (drop (size commands) xs)
front_length hop commands xs e =
    let whole : length (take (size commands) xs ++ drop (size commands) xs) ≡ length xs = ap length (take-append-drop (size commands) xs) in
    let parts : length (take (size commands) xs ++ drop (size commands) xs) ≡ length (take (size commands) xs) + length (drop (size commands) xs) = length-append (take (size commands) xs) (drop (size commands) xs) in
    let first : length (take (size commands) xs) ≡ size commands = attempt_length hop commands (take (size commands) xs) e in
    omega (arith, whole, parts, first)

counted_last : (n redirects : ℕ) (xs rest : List Exchange) → length xs ≡ n + length rest → rest ≡ [] → Counted n (suc redirects) xs
counted_last n redirects xs rest e none = let l : length rest ≡ 0 = ap length none in counted_one n (suc redirects) xs (omega (arith, e, l))

counted_more : (n redirects : ℕ) (xs rest : List Exchange) → length xs ≡ n + length rest → Counted n redirects rest → Counted n (suc redirects) xs
counted_more n redirects xs rest e c =
    let more : suc c.0 * n ≡ n + c.0 * n = omega arith in
    let l = c.1 in
    let b = c.2 in
    (suc c.0, omega (arith, e, l, more), omega (arith, b))

counted_next : (next : Next) (n redirects : ℕ) (xs rest : List Exchange) (F : Hop → Type 0) → length xs ≡ n + length rest → ((h : Hop) → F h → Counted n redirects rest) → MatchNext next (rest ≡ []) F → Counted n (suc redirects) xs
counted_next Stays n redirects xs rest F e by m = counted_last n redirects xs rest e m
counted_next Lost n redirects xs rest F e by m = counted_last n redirects xs rest e m
counted_next (Goes hop) n redirects xs rest F e by m = counted_more n redirects xs rest e (by hop m)

pub counted : (links : List Address) (redirects : ℕ) (hop : Hop) (commands : List (List (List ℕ))) (xs : List Exchange) → FollowsAttempts links redirects hop commands xs → Counted (size commands) redirects xs
counted links zero hop commands xs h = counted_one (size commands) zero xs (attempt_length hop commands xs h)
counted links (suc redirects) hop commands xs h =
    counted_next (next_attempt links (suc redirects) (replies_in (take (size commands) xs))) (size commands) redirects xs (drop (size commands) xs) (λ next. FollowsAttempts links redirects next commands (drop (size commands) xs)) (front_length hop commands xs h.0)
    (λ next k. counted links redirects next commands (drop (size commands) xs) k) h.1

abbrev pub Legal : Client → List Command → Result (List Dispatch) Refusal → List Exchange → Type 0
Legal client commands o xs = MatchResult o (λ ds. AttemptAfterAttempt client (args_of commands) ds xs) (λ refusal. xs ≡ [])

bounded_by : (client : Client) (commands : List Command) (xs : List Exchange) (o : Result (List Dispatch) Refusal) → Legal client commands o xs → (count : ℕ) × (length xs ≡ count * width commands) × (count ≤ suc client.settings.budget)
bounded_by client commands xs (Err refusal) none = (0, ap length none ∙ omega arith, omega arith)
bounded_by client commands xs (Ok []) none = (0, ap length none ∙ omega arith, omega arith)
bounded_by client commands xs (Ok (d ∷ ds)) follows = counted client.links client.settings.budget (first_hop d) (args_of commands) xs follows

pub attempts_are_bounded : AttemptsAreBounded
attempts_are_bounded client picks commands xs legal = bounded_by client commands xs (plan client picks (Transaction commands)) legal

-- ---- which attempts are followed by another

abbrev AtAttempt : ℕ → ℕ → List Exchange → Type 0
AtAttempt n number xs = fate (replies_in (take n (drop (number * n) xs))) ≡ not_done

more_than_one : (n number size' : ℕ) → suc number * n < size' → size' ≡ n → ⊥
more_than_one n number size' less e =
    let more : suc number * n ≡ n + number * n = omega arith in
    omega (arith, less, e, more)

followed_by : (n redirects number : ℕ) (xs rest : List Exchange) (replies : List (Option Tree)) (links : List Address) (F : Hop → Type 0) → length xs ≡ n + length rest → rest ≡ drop n xs → replies ≡ replies_in (take n xs)
    → suc number * n < length xs → ((h : Hop) (m : ℕ) → F h → suc m * n < length rest → AtAttempt n m rest)
    → (next : Next) → next_attempt links (suc redirects) replies ≡ next → MatchNext next (rest ≡ []) F → AtAttempt n number xs
followed_by n redirects number xs rest replies links F e is own less by Stays go m = absurd (let l : length rest ≡ 0 = ap length m in more_than_one n number (length xs) less (omega (arith, e, l)))
followed_by n redirects number xs rest replies links F e is own less by Lost go m = absurd (let l : length rest ≡ 0 = ap length m in more_than_one n number (length xs) less (omega (arith, e, l)))
followed_by n redirects zero xs rest replies links F e is own less by (Goes hop) go m =
    let none : zero * n ≡ 0 = omega arith in
    ap (λ k. fate (replies_in (take n (drop k xs)))) none ∙ sym (ap fate own) ∙ goes_by (fate replies) (next_of links (suc redirects) (redirect_in replies)) hop go
followed_by n redirects (suc number) xs rest replies links F e is own less by (Goes hop) go m =
    let more : suc (suc number) * n ≡ n + suc number * n = omega arith in
    let one : suc number * n ≡ n + number * n = omega arith in
    let later : AtAttempt n number rest = by hop number m (omega (arith, less, more, e)) in
    ap (λ k. fate (replies_in (take n (drop k xs)))) one ∙ ap (λ ys. fate (replies_in (take n ys))) (sym (drop-drop (number * n) n xs)) ∙ ap (λ ys. fate (replies_in (take n (drop (number * n) ys)))) (sym is) ∙ later

followed : (links : List Address) (redirects : ℕ) (hop : Hop) (commands : List (List (List ℕ))) (xs : List Exchange) (number : ℕ) → FollowsAttempts links redirects hop commands xs → suc number * size commands < length xs → AtAttempt (size commands) number xs
followed links zero hop commands xs number h less = absurd (more_than_one (size commands) number (length xs) less (attempt_length hop commands xs h))
followed links (suc redirects) hop commands xs number h less =
    followed_by (size commands) redirects number xs (drop (size commands) xs) (replies_in (take (size commands) xs)) links (λ next. FollowsAttempts links redirects next commands (drop (size commands) xs)) (front_length hop commands xs h.0) refl refl less
    (λ next m k l. followed links redirects next commands (drop (size commands) xs) m k l) (next_attempt links (suc redirects) (replies_in (take (size commands) xs))) refl h.1

none_left : (n number : ℕ) (xs : List Exchange) → xs ≡ [] → suc number * n < length xs → ⊥
none_left n number xs none less = let l : length xs ≡ 0 = ap length none in omega (arith, less, l)

sent_again_by : (client : Client) (commands : List Command) (xs : List Exchange) (number : ℕ) (o : Result (List Dispatch) Refusal) → Legal client commands o xs → suc number * width commands < length xs
    → fate (replies_in (attempt_at commands number xs)) ≡ not_done
sent_again_by client commands xs number (Err refusal) none less = absurd (none_left (width commands) number xs none less)
sent_again_by client commands xs number (Ok []) none less = absurd (none_left (width commands) number xs none less)
sent_again_by client commands xs number (Ok (d ∷ ds)) follows less = followed client.links client.settings.budget (first_hop d) (args_of commands) xs number follows less

pub only_not_done_is_sent_again : OnlyNotDoneIsSentAgain
only_not_done_is_sent_again client picks commands xs number legal less = sent_again_by client commands xs number (plan client picks (Transaction commands)) legal less
