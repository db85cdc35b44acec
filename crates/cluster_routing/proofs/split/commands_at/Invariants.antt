use Rattle.std.proofs.Common.{◌≡◌, ◌++◌, map, drop}
use Rattle.resp_args.specs.Command.{new_command}
use Rattle.cluster_routing.specs.Info.{lent_texts, shown_parts}
use Rattle.cluster_routing.specs.Split.{sub_of, with_texts}
use Rattle.cluster_routing.proofs.split.commands_at.Given as goal

abbrev pub invariant-routes : goal.invariant-routes
invariant-routes l = map (λ p. with_texts new_command (sub_of (lent_texts l.args) p.1)) (shown_parts l.fn.routes) ≡ l.commands.items ++ map (λ p. with_texts new_command (sub_of (lent_texts l.args) p.1)) (shown_parts (drop l.part-index l.fn.routes))
