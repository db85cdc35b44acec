use Rattle.std.specs.Prelude.{nat_eq}
use Rattle.std.proofs.Common.{◌≡◌, ◌∙◌, ap, sym, length, arith}
use Rattle.resp_core.specs.View.{view}
use Rattle.cluster_routing.specs.Combine.{is_list_of}
use Rattle.cluster_routing.proofs.Placed.{array_list}
use Rattle.cluster_routing.proofs.combine.places.is_list_of.Goals as goal

pub returns-in-Array : goal.returns-in-Array
returns-in-Array c =
    let same : c.len.result ≡ length c.in-Array.items.items = omega (arith, c.len.ensures, c.in-Array.items.ok.0) in
    ap (λ n. nat_eq n c.args.len) same ∙ sym (array_list c.args.len c.in-Array.items) ∙ ap (λ v. is_list_of c.args.len (view v)) (sym c.in-Array.is)
