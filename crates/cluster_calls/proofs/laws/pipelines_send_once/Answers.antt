use Rattle.std.proofs.Common.{◌≡◌, MatchResult, [], subst, sym, ap, ◌∙◌}
use Rattle.cluster_calls.specs.Calls.Task.{task_of}
use Rattle.cluster_calls.specs.Calls.Legal.{node_groups, AreMade}
use Rattle.cluster_calls.specs.Calls.Refusals.{sent_refusal}
use Rattle.cluster_calls.proofs.LogLaws.PipesOnce.{asked_first, none_unanswered}
use Rattle.cluster_calls.proofs.laws.pipelines_send_once.Goals as goal

pub returns : goal.returns
returns c = λ client picks faults call entries ds xs t e legal.
    let made = subst (λ q. AreMade client q ds xs) t (subst (λ o. MatchResult o (λ ds. AreMade client (task_of call) ds xs) (λ refusal. xs ≡ [])) e legal) in
    let r = asked_first (node_groups ds) xs made in
    (r.0, r.1, r.2, r.3, r.4, λ none. r.4 (none_unanswered faults xs _ (ap (λ q. sent_refusal client faults q xs) (sym t) ∙ none)))
