use Rattle.std.specs.Prelude.{not, option_map}
use Rattle.std.proofs.Common.{◌≡◌, ℕ, Bool, true, false, List, [], ◌∷◌, Bor, ◌∙◌, refl, sym, ap}
use Rattle.std.proofs.lemmas.List.{length-map}
use Rattle.resp_core.specs.View.{view}
use Rattle.cluster_routing.specs.Split.{has_split_word, parts_by_place}
use Rattle.cluster_calls.specs.Links.Happened.{client_of}
use Rattle.cluster_calls.specs.Links.Orders.{command_call, routes_in_order}
use Rattle.cluster_calls.specs.Links.World.{World, tree_result}
use Rattle.cluster_calls.proofs.LinkLaws.ManyParts.{as_many_replies}
use Rattle.cluster_calls.proofs.LinkLaws.OneCommand.{relogged_untouched}
use Rattle.cluster_calls.proofs.LinkLaws.PartLoop.{from_place, parts_start}
use Rattle.cluster_steps.specs.Dispatches.{dispatch_of}
use Rattle.cluster_steps.proofs.Dispatched.{command_plain, command_task, command_value}
use Rattle.cluster_client.specs.Whole.{whole}
use Rattle.cluster_client.proofs.Ending.{command_ended, split_missing, unpicked_made, unsent_ended, whole_missing}
use Rattle.cluster_client.proofs.WholeRun.{whole_answer, whole_made}
use Rattle.cluster_client.proofs.client.ClusterClient.reply_to.Goals.{in-Ok-Whole, in-Ok-InParts+in-Ok, in-Ok-InParts+in-Err-follow_all, in-Err}
use Rattle.cluster_client.proofs.client.ClusterClient.reply_to.Goals as goal

not_whole : (b : Bool) → false ≡ not b → b ≡ true
not_whole true e = refl
not_whole false e = cc

pub returns : goal.returns
returns g c =
    let seen = g.L.ConnectionLike.seen in
    let old = whole seen c.args.self.now in
    let command = c.args.call.now.command.now in
    let number = c.args.call.now.number in
    let order = option_map (λ (o : Bor (List ℕ)). o.now) c.args.call.now.order in
    let call = command_call command order number in
    let task = command_task command order number in
    let value = command_value command order number in
    let plain = command_plain command order number in
    let routes = option_map (routes_in_order order) in
    unpicked_made _ old (whole seen c.match-prepare.self) _ call c.match-prepare.reply plain
    (elim c.match-prepare.branch [
      | in-Ok-Whole w ↦
          let told = w.in-Ok-Whole.ensures in
          let mid = whole seen c.prepare.new.self in
          let placed = rw w.in-Ok-Whole.field-0-is at told.placed in
          let d = dispatch_of w.in-Ok-Whole.request.dispatch in
          let reply = tree_result view w.follow-reply.result in
          let planned = rw w.in-Ok-Whole.field-0-is at (told.planned (λ k. cc k)) in
          let made = rw told.stays at (whole_made mid mid (whole seen w.follow-reply.new.self) d reply (parts_start mid (d ∷ [])) (from_place _ _ d _ _ placed.0.direct w.follow-reply.ensures.made)) in
          let split = rw w.in-Ok-Whole.field-0-is at told.split ∙ ap (λ names. routes (parts_by_place command.args names)) (ap (λ (world : World). world.settings.read_only) told.stays) in
          rw (w.self-is, w.reply-is) (command_ended _ _ _ call command number order task value plain _ _ _ _ planned.planned planned.picked made
          (whole_answer (client_of old) _ command order number _ planned.planned split reply) (whole_missing call command number order task _ _ _ reply made))
      | in-Ok-InParts+in-Ok w ↦
          let told = w.in-Ok-InParts.ensures in
          let word : has_split_word command.args ≡ true = not_whole (has_split_word command.args) (rw w.in-Ok-InParts.field-0-is at told.whole) in
          let planned = rw w.in-Ok-InParts.field-0-is at (told.planned (λ k. cc k)) in
          let made = rw told.stays at w.in-Ok.ensures in
          let split = rw w.in-Ok-InParts.field-0-is at told.split ∙ ap (λ names. routes (parts_by_place command.args names)) (ap (λ (world : World). world.settings.read_only) told.stays) in
          let count = sym (length-map _ _) ∙ as_many_replies _ _ _ _ made in
          rw (w.self-is, w.reply-is) (command_ended _ _ _ call command number order task value plain _ _ _ _ planned.planned planned.picked made
          (w.reply_of_parts.ensures (client_of old) _ command order number _ planned.planned split count) (λ lacks place. split_missing call command number order task word _))
      | in-Ok-InParts+in-Err-follow_all w ↦
          let told = w.in-Ok-InParts.ensures in
          let word : has_split_word command.args ≡ true = not_whole (has_split_word command.args) (rw w.in-Ok-InParts.field-0-is at told.whole) in
          let planned = rw w.in-Ok-InParts.field-0-is at (told.planned (λ k. cc k)) in
          let made = rw told.stays at w.in-Err-follow_all.ensures in
          rw (w.self-is, w.reply-is) (command_ended _ _ _ call command number order task value plain _ _ _ _ planned.planned planned.picked made refl (λ lacks place. split_missing call command number order task word _))
      | in-Err w ↦
          let told = w.in-Err.ensures in
          rw (w.self-is, w.reply-is) (unsent_ended _ _ _ _ _ plain (relogged_untouched _ _ _ told.stays) (λ m. let planned = told.planned (λ k. m (cc k)) in (planned.planned, planned.picked)))
    ])
    c.unpick.ensures.stays c.unpick.ensures.forgotten c.unpick.ensures.kept
