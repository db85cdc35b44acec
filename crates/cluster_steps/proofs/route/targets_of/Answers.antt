use Rattle.std.specs.Prelude.{IfOk, option_map, is_some}
use Rattle.std.proofs.Common.{◌≡◌, ◌∙◌, ℕ, List, Result, Ok, Err, sym, ap}
use Rattle.resp_core.specs.Errors.{Refusal}
use Rattle.cluster_routing.specs.Command.{Args}
use Rattle.cluster_routing.specs.Directions.{Direction, direction, parts_in, shown_direction}
use Rattle.cluster_routing.specs.Info.{shown_split}
use Rattle.cluster_routing.specs.Split.{has_split_word}
use Rattle.cluster_routing.proofs.DirectionViews.{parts_of_direction}
use Rattle.cluster_steps.specs.CodeParts.{split_in, targets_by, targets_in_direction}
use Rattle.cluster_steps.specs.declared.route.Targets.{Targets as CodeTargets}
use Rattle.cluster_steps.proofs.Directions.{split_by_way, split_told, targets_are}
use Rattle.cluster_steps.proofs.route.targets_of.Goals as goal

pub returns-clause-targets : goal.returns-clause-targets
returns-clause-targets c read_only goes =
    c.targets_by.ensures.targets ∙ ap (targets_in_direction c.args.number) goes
    ∙ targets_are c.args.cmd.now read_only c.args.number (sym c.is_no_response.ensures ∙ c.if-is_no_response.false)

pub returns-clause-split : goal.returns-clause-split
returns-clause-split c read_only goes = rw (goes, parts_of_direction c.args.cmd.now.args read_only) at c.targets_by.ensures.split

-- a command with targets goes in parts where its word is split
word_by : (args : Args) (read_only : List (List ℕ)) (number : ℕ) (d : Direction) (r : Result CodeTargets Refusal) → d ≡ direction args read_only → targets_by r ≡ targets_in_direction number d → IfOk r (λ t. option_map shown_split (split_in t) ≡ parts_in d)
    → IfOk r (λ t. is_some (split_in t) ≡ has_split_word args)
word_by args read_only number d (Err e) goes told split = tt
word_by args read_only number d (Ok t) goes told split =
    split_told d (split_in t) split ∙ split_by_way args read_only d (λ cause k. let e = told ∙ ap (targets_in_direction number) k in cc) goes

pub returns-clause-word : goal.returns-clause-word
returns-clause-word c read_only goes = word_by c.args.cmd.now.args read_only c.args.number (shown_direction c.args.direction) c.targets_by.result goes c.targets_by.ensures.targets c.targets_by.ensures.split
