use Rattle.std.proofs.Common.{◌≡◌, ◌∙◌, List, Option, ℕ, sym, ap}
use Rattle.cluster_routing.specs.Info.{lent_texts, shown_split}
use Rattle.cluster_routing.specs.Split.{shared_in, shared_with}
use Rattle.cluster_routing.specs.Command.{texts_in}
use Rattle.cluster_routing.proofs.DirectionViews.{shared_by_own}
use Rattle.cluster_routing.proofs.split.SplitParts.own_routed_args.Goals as goal

pub routed_args_at-requires : goal.routed_args_at-requires
routed_args_at-requires g c =
    let args = g.R.Routable.args c.args.original.now in
    let lent : lent_texts c.deref.result.now ≡ texts_in args = ap lent_texts c.deref.ensures.value ∙ c.in_ok-args.ensures in
    let second : lent_texts c.deref-2.result.now ≡ texts_in args = ap lent_texts c.deref-2.ensures.value ∙ c.in_ok-args.ensures in
    c.shared_by.ensures ∙ ap (shared_with c.args.self.now.pattern) second ∙ shared_by_own args (shown_split c.args.self.now).splitting c.requires ∙ sym (ap shared_in lent)
