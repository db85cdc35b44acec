use Rattle.std.proofs.Common.{◌≡◌, ◌≢◌, ◌∙◌, None, refl, ap, sym}
use Rattle.cluster_routing.specs.Rows.{shown_rule}
use Rattle.cluster_routing.specs.Split.{splitting_by, splitting_of}
use Rattle.cluster_routing.specs.Table.{rule_of}
use Rattle.cluster_routing.specs.declared.policy.MultiSlotArgPattern.{MultiSlotArgPattern}
use Rattle.cluster_routing.specs.declared.policy.ResponsePolicy.{ResponsePolicy}
use Rattle.cluster_routing.specs.declared.table.Rule.{Rule}
use Rattle.cluster_routing.specs.declared.table.Rule.TheVariants.{Split, KeyAfterStreams, CountedKeyOrRandom, CountedKey, Key, Random, AllMasters, AllNodes, Nowhere}
use Rattle.cluster_routing.proofs.split.splitting_of.Goals as goal

pub returns-in-Split : goal.returns-in-Split
unfolding splitting_of
returns-in-Split c =
    sym (ap (λ r. splitting_by (shown_rule r)) c.in-Split.is)
    ∙ ap splitting_by c.rule_for.ensures ∙ ap (λ b. splitting_by (rule_of c.args.word.now b)) c.is_family.ensures

-- any other rule splits nothing
no_splitting : (r : Rule) → ((p : MultiSlotArgPattern) (q : ResponsePolicy) → r ≢ Split p q) → None ≡ splitting_by (shown_rule r)
no_splitting (Split p q) h = absurd (h p q refl)
no_splitting KeyAfterStreams h = refl
no_splitting (CountedKeyOrRandom place) h = refl
no_splitting (CountedKey place) h = refl
no_splitting (Key place) h = refl
no_splitting Random h = refl
no_splitting (AllMasters policy) h = refl
no_splitting (AllNodes policy) h = refl
no_splitting Nowhere h = refl

pub returns-in_default : goal.returns-in_default
unfolding splitting_of
returns-in_default c =
    no_splitting c.rule_for.result c.in_default.not-Split ∙ ap splitting_by c.rule_for.ensures ∙ ap (λ b. splitting_by (rule_of c.args.word.now b)) c.is_family.ensures
