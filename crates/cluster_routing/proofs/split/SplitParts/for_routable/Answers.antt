use Rattle.std.proofs.Common.{◌≡◌, ◌≢◌, ◌∙◌, None, refl, sym, ap}
use Rattle.cluster_routing.specs.Directions.{parts_in, shown_direction}
use Rattle.cluster_routing.specs.Info.{texts}
use Rattle.cluster_routing.specs.declared.direction.Direction.{Direction}
use Rattle.cluster_routing.specs.declared.direction.Direction.TheVariants.{AllNodes, AllPrimaries, AnyNode, Nowhere, Parts, Slot}
use Rattle.cluster_routing.specs.declared.split.SplitParts.{SplitParts}
use Rattle.cluster_routing.proofs.DirectionViews.{parts_of_direction}
use Rattle.cluster_routing.proofs.split.SplitParts.for_routable.Goals as goal

-- any other direction has no parts
no_parts : (d : Direction) → ((parts : SplitParts) → d ≢ Parts parts) → None ≡ parts_in (shown_direction d)
no_parts (Slot route) h = refl
no_parts AnyNode h = refl
no_parts (AllNodes policy) h = refl
no_parts (AllPrimaries policy) h = refl
no_parts (Parts parts) h = absurd (h parts refl)
no_parts (Nowhere cause) h = refl

pub returns-in_default : goal.returns-in_default
returns-in_default g c =
    no_parts c.in_ok-parts.field-0 c.in_default.not-Parts ∙ ap parts_in c.in_ok-parts.ensures ∙ parts_of_direction (g.R.Routable.args c.args.r.now) (texts c.args.read_only.now)
