use Rattle.std.specs.List.{list_all}
use Rattle.std.proofs.Common.{◌≡◌, ◌∙◌, ℕ, nat_eq, List, Bor, sym, ap}
use Rattle.cluster_routing.specs.HashSlot.{hash_slot}
use Rattle.cluster_steps.proofs.OneSlot.{told_by_first}
use Rattle.cluster_steps.proofs.read_checks.have_one_slot.Goals as goal

pub returns-in-Some : goal.returns-in-Some
returns-in-Some c =
    let told = told_by_first (λ (k : Bor (List ℕ)). k.now) c.args.keys.now c.in-Some.first.now c.in-Some.ensures.value in
    let slot : c.number.result ≡ hash_slot c.in-Some.first.now.now = cc in
    c.have_slot.ensures ∙ ap (λ n. list_all (λ (k : Bor (List ℕ)). nat_eq n (hash_slot k.now)) c.args.keys.now) slot ∙ sym told
