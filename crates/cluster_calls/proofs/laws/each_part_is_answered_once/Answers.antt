use Rattle.std.proofs.Common.{◌≡◌, MatchResult, [], subst, sym, ◌∙◌}
use Rattle.cluster_calls.specs.Calls.Task.{task_of}
use Rattle.cluster_calls.specs.Calls.Legal.{AreMade}
use Rattle.cluster_calls.proofs.LogLaws.AnsweredOnce.{answered_once, refused_in_parts}
use Rattle.cluster_calls.proofs.LogLaws.Repeats.{made_in_parts}
use Rattle.cluster_calls.proofs.laws.each_part_is_answered_once.Goals as goal

pub returns : goal.returns
returns c = λ client picks faults call ds xs p e legal none.
    answered_once client faults ds xs (made_in_parts client (task_of call) ds xs p (subst (λ o. MatchResult o (λ ds. AreMade client (task_of call) ds xs) (λ refusal. xs ≡ [])) e legal))
    (sym (refused_in_parts client faults (task_of call) xs p) ∙ none)
