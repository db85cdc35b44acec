use Rattle.std.specs.Prelude.{bytes_eq}
use Rattle.std.proofs.Common.{◌≡◌, ◌∙◌, true, false, [], Bor, List, ℕ, refl, sym, ap}
use Rattle.std.proofs.lemmas.List.{nil_from_length}
use Rattle.cluster_routing.specs.Info.{lent}
use Rattle.cluster_steps.proofs.DistinctKeys.{are_new, key_seen, key_unseen, none_seen, turned_bytes}
use Rattle.cluster_steps.proofs.read_checks.are_distinct.Goals as goal

abbrev text : Bor (List ℕ) → List ℕ
text key = key.now

pub keys-init : goal.keys-init
keys-init c =
    let none : c.in_ok-seen.seen.keys ≡ [] = nil_from_length c.in_ok-seen.seen.keys c.in_ok-seen.ensures.len in
    none_seen bytes_eq turned_bytes (lent c.args.keys.now) ∙ ap (λ ks. are_new bytes_eq (lent ks) (lent c.args.keys.now)) (sym none)

pub returns-then-not-branch : goal.returns-then-not-branch
returns-then-not-branch c =
    let old : c.in_ok-insert.field-0 ≡ false = cc in
    key_seen bytes_eq text text c.keys.seen.keys _ c.in_ok-insert.field-0 c.in_ok-insert.ensures.added old c.args.keys.now c.keys.key-index _ c.keys-test.true refl c.keys.invariant

pub keys-preserved : goal.keys-preserved
keys-preserved c =
    let new : c.in_ok-insert.field-0 ≡ true = cc in
    key_unseen bytes_eq text text c.keys.seen.keys _ c.in_ok-insert.field-0 c.insert.new.self.keys c.in_ok-insert.ensures.added new c.in_ok-insert.ensures.keys c.args.keys.now c.keys.key-index _ c.keys-test.true refl c.keys.invariant
