use Rattle.std.proofs.Common.{◌≡◌, ℕ, List, ◌++◌, drop, Bool, if◌then◌else◌, ap, ◌∙◌, arith}
use Rattle.std.proofs.lemmas.List.{drop-append-le}
use Rattle.resp_requests.proofs.Standings.{on_ok_from, stands_fed}
use Rattle.resp_requests.proofs.Searchings.{searched_fed}
use Rattle.resp_requests.proofs.reader.RequestReader.feed.Goals as goal

pub returns-clause-ok : goal.returns-clause-ok
returns-clause-ok c =
    let p = c.args.self.now in
    let q = c.drop_front.new.self in
    let piece = c.args.piece.now in
    let kept = c.drop_front.ensures in
    on_ok_from c.extend_from_slice.result _ (λ ok cs bytes stands.
    let items : c.extend_from_slice.new.self.items ≡ q.buffer.items ++ piece = c.extend_from_slice.ensures.items ∙ ap (λ (b : Bool). if b then q.buffer.items ++ piece else q.buffer.items) ok in
    let waits : drop q.front c.extend_from_slice.new.self.items ≡ drop p.front p.buffer.items ++ piece =
    ap (drop q.front) items ∙ drop-append-le q.front q.buffer.items piece (omega arith) ∙ ap (λ (l : List ℕ). l ++ piece) kept.waiting in
    stands_fed p _ piece kept.told kept.limits kept.arguments kept.missing waits cs bytes stands)

pub invariant_of-self-clause-searches : goal.invariant_of-self-clause-searches
invariant_of-self-clause-searches c =
    let q = c.drop_front.new.self in
    searched_fed q.limits q.missing q.front q.buffer.items c.args.piece.now _ _ q.searched (omega arith) c.extend_from_slice.ensures.items q.searches
