use Rattle.std.proofs.Common.{◌≡◌, ℕ, List, ◌++◌, length, drop, Bool, if◌then◌else◌, ap, ◌∙◌, arith}
use Rattle.std.proofs.lemmas.List.{drop-append-le}
use Rattle.resp_core.proofs.Machine.{fed_part, fed_sees, fed_return, going_fed, going_kept}
use Rattle.resp_core.proofs.Standings.{on_ok_from, on_err_from, stands_fed, stands_kept, stands_within}
use Rattle.resp_core.proofs.parser.Parser.feed.Goals as goal

pub invariant_of-self-clause-line_goes_on : goal.invariant_of-self-clause-line_goes_on
invariant_of-self-clause-line_goes_on c h =
    let p = c.drop_front.new.self in
    rw (c.extend_from_slice.ensures.items, fed_part _ p.buffer.items c.args.piece.now p.front p.scanned p.front_first (omega arith)) (p.line_goes_on h)

pub invariant_of-self-clause-returned : goal.invariant_of-self-clause-returned
invariant_of-self-clause-returned c h =
    let p = c.drop_front.new.self in
    rw (c.extend_from_slice.ensures.items, fed_return _ p.buffer.items c.args.piece.now p.front p.scanned p.front_first (omega arith)) (p.returned h)

pub invariant_of-self-clause-return_seen : goal.invariant_of-self-clause-return_seen
invariant_of-self-clause-return_seen c =
    let p = c.drop_front.new.self in
    rw (c.extend_from_slice.ensures.items, fed_sees _ p.head p.buffer.items c.args.piece.now p.front p.scanned p.front_first (omega arith)) p.return_seen

pub returns-clause-ok : goal.returns-clause-ok
returns-clause-ok c =
    let p = c.args.self.now in
    let q = c.drop_front.new.self in
    let kept = c.drop_front.ensures.keeps in
    let piece = c.args.piece.now in
    on_ok_from c.extend_from_slice.result _ (λ ok bytes stands.
    let items : c.extend_from_slice.new.self.items ≡ q.buffer.items ++ piece = c.extend_from_slice.ensures.items ∙ ap (λ (b : Bool). if b then q.buffer.items ++ piece else q.buffer.items) ok in
    let waits : drop q.front c.extend_from_slice.new.self.items ≡ drop p.front p.buffer.items ++ piece =
    ap (drop q.front) items ∙ drop-append-le q.front q.buffer.items piece (omega arith) ∙ ap (λ (l : List ℕ). l ++ piece) kept.bytes in
    stands_within _ p.limit _ (bytes ++ piece) kept.limit (stands_fed p.limit p _ piece bytes kept.condition (λ more. going_fed p.limit p.frames.items q.frames.items p.head q.head (drop p.front p.buffer.items) (drop q.front c.extend_from_slice.new.self.items) piece more kept.rows kept.head waits) stands))

pub returns-clause-err : goal.returns-clause-err
returns-clause-err c =
    let p = c.args.self.now in
    let q = c.drop_front.new.self in
    let kept = c.drop_front.ensures.keeps in
    let piece = c.args.piece.now in
    on_err_from c.extend_from_slice.result _ (λ err bytes stands.
    let items : c.extend_from_slice.new.self.items ≡ q.buffer.items = c.extend_from_slice.ensures.items ∙ ap (λ (b : Bool). if b then q.buffer.items ++ piece else q.buffer.items) err in
    let waits : drop q.front c.extend_from_slice.new.self.items ≡ drop p.front p.buffer.items = ap (drop q.front) items ∙ kept.bytes in
    stands_within _ p.limit _ bytes kept.limit (stands_kept p.limit p _ bytes kept.condition (λ more. going_kept p.limit p.frames.items q.frames.items p.head q.head (drop p.front p.buffer.items) (drop q.front c.extend_from_slice.new.self.items) more kept.rows kept.head waits) stands))
