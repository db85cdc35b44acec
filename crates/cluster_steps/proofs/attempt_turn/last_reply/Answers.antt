use Rattle.std.specs.Prelude.{option_to_list}
use Rattle.std.proofs.Common.{◌∙◌, ◌++◌, sym, ap}
use Rattle.cluster_routing.specs.Policies.{or_bad_reply}
use Rattle.cluster_steps.proofs.AttemptReplies.{last_is}
use Rattle.cluster_steps.proofs.attempt_turn.last_reply.Goals as goal

pub returns-in-Some : goal.returns-in-Some
returns-in-Some c = sym (ap or_bad_reply (last_is _ c.pop.new.self.items c.in-Some.exec (c.pop.ensures.items ∙ ap (λ o. c.pop.new.self.items ++ option_to_list o) c.in-Some.is)))
