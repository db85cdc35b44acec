use Rattle.std.specs.Prelude.{is_some}
use Rattle.std.specs.List.{list_all}
use Rattle.std.proofs.Common.{◌∙◌, ap, sym, Some}
use Rattle.resp_core.specs.View.{view}
use Rattle.cluster_routing.specs.Combine.{array_of}
use Rattle.cluster_routing.specs.SlotsReply.{array_items}
use Rattle.cluster_routing.proofs.Joined.{all_arrays, no_array}
use Rattle.cluster_routing.proofs.combine.arrays.items_of_all.Goals as goal

pub returns-then-not-are_arrays : goal.returns-then-not-are_arrays
returns-then-not-are_arrays c = no_array c.args.values.items (ap (list_all (λ v. is_some (array_items (view v)))) (sym c.deref.ensures.value) ∙ sym c.are_arrays.ensures ∙ c.if-not-are_arrays.true)

pub returns : goal.returns
returns c = ap (λ ts. Some (array_of ts)) c.in_ok-items_in.ensures ∙ all_arrays c.args.values.items (ap (list_all (λ v. is_some (array_items (view v)))) (sym c.deref.ensures.value) ∙ sym c.are_arrays.ensures ∙ c.if-not-are_arrays.false)
