use Rattle.std.proofs.Common.{◌≡◌, ◌<◌, ◌∙◌, ℕ, ◌+◌, List, [], ◌∷◌, map, drop, drop-cons, get_or, length, add-one, arith, ap, ap₂, sym}
use Rattle.std.proofs.lemmas.List.{drop_all, map-append}
use Rattle.std.proofs.lemmas.Result.{err_from_is_err_and}
use Rattle.cluster_client.specs.Shown.{call_in}
use Rattle.cluster_calls.proofs.LinkLaws.PlayLoop.{play_start, play_more, play_done}
use Rattle.cluster_client.proofs.client.play.play.Goals as goal

-- what is left from an index on
first_left : {A : Type 0} (xs : List A) (i : ℕ) (x : A) → i < length xs → x ≡ get_or xs i x → drop i xs ≡ x ∷ drop (i + 1) xs
first_left xs i x lt is = drop-cons xs i x lt ∙ ap₂ (λ y (k : ℕ). y ∷ drop k xs) (sym is) (sym (add-one i))

pub calls-init : goal.calls-init
calls-init g c = play_start _ _ _ _

pub returns-in_err-reserve : goal.returns-in_err-reserve
returns-in_err-reserve g c =
    let p = err_from_is_err_and c.from_residual.result c.from_residual.ensures.1 in
    let next : drop c.calls.call-index c.args.calls.now ≡ c.call-item.result ∷ drop (c.calls.call-index + 1) c.args.calls.now = first_left c.args.calls.now c.calls.call-index c.call-item.result c.calls-test.true c.call-item.is in
    rw (p.1, c.in_err-reserve.ensures.items) (play_done _ _ _ _ _ _ _ _ c.calls.invariant (λ k. absurd (cc k)) (λ k none. let there = ap (map call_in) next in cc))

pub calls-preserved : goal.calls-preserved
calls-preserved g c =
    let next : drop c.calls.call-index c.args.calls.now ≡ c.call-item.result ∷ drop (c.calls.call-index + 1) c.args.calls.now = first_left c.args.calls.now c.calls.call-index c.call-item.result c.calls-test.true c.call-item.is in
    let loop = rw next at c.calls.invariant in
    rw (c.push.ensures.items, c.unwrap.ensures, c.in_ok-reserve.ensures.items, map-append) (play_more _ _ _ _ _ _ _ _ _ _ loop c.play_one-one.ensures)

pub returns : goal.returns
returns g c =
    let none : drop c.calls.call-index c.args.calls.now ≡ [] = drop_all c.calls.call-index c.args.calls.now (omega arith) in
    play_done _ _ _ _ _ _ _ _ c.calls.invariant (λ k. ap (map call_in) none) (λ k. absurd (cc k))
