use Rattle.std.proofs.Common.{◌≡◌, ◌∙◌, ◌+◌, ℕ, None, Some, drop, sym, ap, not}
use Rattle.std.proofs.lemmas.List.{drop-map, take_rest}
use Rattle.cluster_routing.specs.Command.{texts_in}
use Rattle.cluster_routing.specs.Info.{lent, lent_texts}
use Rattle.cluster_calls.specs.Calls.Task.{are_of_one_slot}
use Rattle.cluster_steps.specs.Reads.{each_or_none}
use Rattle.cluster_steps.proofs.PipelineReads.{keys_by_texts}
use Rattle.cluster_steps.proofs.pipeline_reads.have_several_slots.Goals as goal

pub returns-in_default : goal.returns-in_default
returns-in_default c =
    let k : ℕ = c.args.place + 1 in
    let behind : lent_texts (drop k c.deref.result.now) ≡ drop k (texts_in c.args.command.now.args) = sym (drop-map _ k c.deref.result.now) ∙ ap (drop k) (ap lent_texts c.deref.ensures.value ∙ c.in_ok-args.ensures) in
    let texts = rw c.in_default.is at c.in_ok-behind.ensures in
    keys_by_texts c.args.command.now.args c.args.place _ None behind (texts ∙ ap (λ ts. each_or_none (lent_texts ts)) (take_rest c.deref.result.now k))

pub returns : goal.returns
returns c =
    let k : ℕ = c.args.place + 1 in
    let behind : lent_texts (drop k c.deref.result.now) ≡ drop k (texts_in c.args.command.now.args) = sym (drop-map _ k c.deref.result.now) ∙ ap (drop k) (ap lent_texts c.deref.ensures.value ∙ c.in_ok-args.ensures) in
    let texts = rw c.in-Some.is at c.in_ok-behind.ensures in
    let half = rw c.deref-2.ensures.value at c.first_half.ensures in
    ap not (c.have_one_slot.ensures ∙ ap are_of_one_slot half) ∙ keys_by_texts c.args.command.now.args c.args.place _ (Some (lent c.in-Some.behind.items)) behind (texts ∙ ap (λ ts. each_or_none (lent_texts ts)) (take_rest c.deref.result.now k))
