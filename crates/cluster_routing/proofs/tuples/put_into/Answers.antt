use Rattle.std.specs.Prelude.{nat_eq, slice_index_or, slice_set}
use Rattle.std.proofs.Common.{◌≡◌, ◌≤◌, ◌++◌, ◌∷◌, [], ◌∙◌, ap, sym, map, length, true, false, arith, length-append}
use Rattle.cluster_routing.specs.Info.{shown_part}
use Rattle.cluster_routing.specs.Lists.{among}
use Rattle.cluster_routing.specs.Routing.{part_slots}
use Rattle.cluster_routing.proofs.Gathered.{among_before, among_within, part_within, put_added, put_at}
use Rattle.cluster_routing.proofs.tuples.put_into.Goals as goal
use Rattle.cluster_routing.proofs.tuples.put_into.Goals.{then-part-len+in_ok-push, else-part-len}

pub index_mut-requires : goal.index_mut-requires
index_mut-requires c =
    let within = part_within c.args.parts.now.items c.args.route.slot in
    elim c.if-part-len.branch [
      | then-part-len+in_ok-push w ↦
          let more : length c.if-part-len.parts.items ≡ length (c.args.parts.now.items ++ (c.args.route, w.new.result) ∷ []) = ap (λ v. length v.items) w.parts-is ∙ ap length w.in_ok-push.ensures.items in
          omega (arith, within, c.requires, more, length-append c.args.parts.now.items ((c.args.route, w.new.result) ∷ []), c.if-part-len.parts.ok.0)
      | else-part-len w ↦
          let same : length c.if-part-len.parts.items ≡ length c.args.parts.now.items = ap (λ v. length v.items) w.parts-is in
          omega (arith, within, c.requires, same, w.if-part-len.false, c.len.ensures, c.if-part-len.parts.ok.0, c.args.parts.now.ok.0)
    ]

pub returns : goal.returns
returns c = elim c.if-part-len.branch [
  | then-part-len+in_ok-push w ↦
      let k : c.if-part-len.parts.items ≡ c.args.parts.now.items ++ (c.args.route, w.new.result) ∷ [] = ap (λ v. v.items) w.parts-is ∙ w.in_ok-push.ensures.items in
      let new : among nat_eq c.args.route.slot (part_slots (map shown_part c.args.parts.now.items)) ≡ false = among_within c.args.parts.now.items c.args.route.slot (omega (arith, c.requires, w.if-part-len.true, c.len.ensures, c.args.parts.now.ok.0)) in
      ap (λ ys. map shown_part (slice_set ys c.args.part (c.index_mut.result.now.0, c.push-2.new.self))) k
      ∙ put_added c.args.parts.now.items c.args.route c.args.place c.args.part w.new.result c.index_mut.result.now c.push-2.new.self c.requires new w.new.ensures.items (c.index_mut.ensures.value ∙ ap (λ ys. slice_index_or ys c.args.part c.index_mut.result.now) k) c.in_ok-push-2.ensures.items
  | else-part-len w ↦
      let k : c.if-part-len.parts.items ≡ c.args.parts.now.items = ap (λ v. v.items) w.parts-is in
      let known : among nat_eq c.args.route.slot (part_slots (map shown_part c.args.parts.now.items)) ≡ true = among_before c.args.parts.now.items c.args.route.slot (omega (arith, part_within c.args.parts.now.items c.args.route.slot, c.requires, w.if-part-len.false, c.len.ensures, c.args.parts.now.ok.0)) in
      ap (λ ys. map shown_part (slice_set ys c.args.part (c.index_mut.result.now.0, c.push-2.new.self))) k
      ∙ put_at c.args.parts.now.items c.args.route c.args.place c.args.part c.index_mut.result.now c.push-2.new.self c.requires known (c.index_mut.ensures.value ∙ ap (λ ys. slice_index_or ys c.args.part c.index_mut.result.now) k) c.in_ok-push-2.ensures.items
]
