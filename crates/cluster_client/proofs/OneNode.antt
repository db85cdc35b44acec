-- A command to one node: from what the code says of its dispatch and of its reply to the whole call.
use Rattle.std.specs.Prelude.{◌||◌, ◌⊎◌}
use Rattle.std.proofs.Common.{◌≡◌, false, None, List, [], ◌∷◌, Option, inl, inr, Ok, Err, Result, refl, sym, ap, ◌∙◌, subst}
use Rattle.resp_core.specs.Trees.{Tree}
use Rattle.resp_core.specs.Errors.{Refusal, by_cause}
use Rattle.resp_core.specs.View.{view}
use Rattle.resp_core.specs.declared.value.Value.{Value}
use Rattle.resp_core.specs.declared.errors.redis_error.Cause.TheVariants.{Memory}
use Rattle.resp_args.specs.Command.{Command}
use Rattle.resp_args.specs.Packed.{sent}
use Rattle.cluster_routing.specs.Address.{Address}
use Rattle.cluster_routing.specs.Choice.{Strategy}
use Rattle.cluster_routing.specs.Info.{texts}
use Rattle.cluster_routing.specs.Seen.{address}
use Rattle.cluster_routing.specs.Policies.{tree_or_refusal}
use Rattle.cluster_calls.specs.Calls.Answer.{Answer, tree_in}
use Rattle.cluster_calls.specs.Links.Log.{is_data_reply, is_moved_reply}
use Rattle.cluster_calls.specs.Calls.Call.{At}
use Rattle.cluster_calls.specs.Calls.Parts.{at_node}
use Rattle.cluster_calls.specs.Calls.Plan.{first_of}
use Rattle.cluster_calls.specs.Links.Converted.{ReplyMade}
use Rattle.cluster_calls.specs.Links.Exchanges.{Exchanges}
use Rattle.cluster_calls.specs.Links.Happened.{CallMade, client_of}
use Rattle.cluster_calls.specs.Links.Places.{IsOpenAt}
use Rattle.cluster_calls.specs.Links.Request.{Request, skipped}
use Rattle.cluster_calls.specs.Links.World.{World, open_links, one_reply, tree_result}
use Rattle.cluster_steps.specs.Requests.{CodeDispatch}
use Rattle.cluster_steps.specs.Dispatches.{IsPlaced}
use Rattle.cluster_steps.specs.FirstPlaces.{node_with_link}
use Rattle.cluster_steps.specs.Groups.{request_in}
use Rattle.cluster_calls.proofs.LinkLaws.OneNode.{Ends, at_made, placed_node, told, unpicked}
use Rattle.cluster_calls.proofs.LinkLaws.AnyStrategy.{with_strategy}
use Rattle.cluster_client.specs.NodeRuns.{outcome_in}
use Rattle.cluster_client.proofs.NodeLoop.{same_reply}

same_told : (result : Result Tree Refusal) → outcome_in result ≡ told result
same_told (Ok tree) = refl
same_told (Err refusal) = refl

same_shown : (reply : Result Value Refusal) → tree_result view reply ≡ tree_or_refusal reply
same_shown (Ok value) = refl
same_shown (Err refusal) = refl

-- the outcome of the node is the reply as the call tells it
told_by : (reply : Result Value Refusal) (result : Result Tree Refusal) → tree_or_refusal reply ≡ outcome_in result → tree_result view reply ≡ told result
told_by reply result e = same_shown reply ∙ e ∙ same_told result

request_is : (d : CodeDispatch) (node : Address) (command : Command) → address d.to.node ≡ node → texts d.args.items ≡ sent command → d.to.asking ≡ false
    → request_in d ≡ record { node = node; args = sent command; asking = false }
request_is d node command there args direct = λ i. record { node = there i; args = args i; asking = direct i }

abbrev lost : Result Value Refusal
lost = Err (by_cause Memory)

abbrev found : Address → Result Address Refusal
found node = Ok node

-- the whole call, from the dispatch that was made ready and from its exchange
module _ (strategy : Option Strategy) (old new : World) (node : Address) (command : Command) (waits : command.no_response ≡ false) (d : CodeDispatch) (placed : IsPlaced old.nodes d)
    (named : found (address d.to.node) ≡ node_with_link (open_links old.nodes) (first_of [] [] (at_node node))) (args : texts d.args.items ≡ sent command) (ready : CodeDispatch) (same : ready ≡ d)
    (entries : new.entries ≡ old.entries) (settings : new.settings ≡ old.settings) (none : new.picked ≡ []) (before : List Request) (empty : before ≡ []) (result : Result Tree Refusal)
    (flag : new.needs_refresh ≡ (old.needs_refresh || is_moved_reply (tree_in result)))
    (exchange : Exchanges old.nodes new.nodes ready.to.link before new.log (request_in ready ∷ []) (skipped ready.to.asking) 1 (one_reply result)) where
  there : address d.to.node ≡ node
  there = placed_node (open_links old.nodes) node (address d.to.node) named

  at : IsOpenAt old.nodes node d.to.link
  at = subst (λ a. IsOpenAt old.nodes a d.to.link) there placed.place

  -- memory was refused for the error that the reply holds, or the reply is told
  abbrev Ended : Result Value Refusal → Type 0
  Ended reply = ((reply ≡ lost) × (is_data_reply (tree_in result) ≡ false)) ⊎ (tree_or_refusal reply ≡ outcome_in result)

  pub sent_there : (reply : Result Value Refusal) → Ended reply → ReplyMade strategy old new (At node command) (tree_result view reply)
  sent_there reply ends =
      at_made strategy old new node command waits at.linked entries settings none result (flag ∙ ap (λ r. old.needs_refresh || is_moved_reply r) (sym (same_reply result)))
      ready.to.link (subst (λ (k : CodeDispatch). IsOpenAt old.nodes node k.to.link) (sym same) at) before empty (request_in ready)
      (ap request_in same ∙ request_is d node command there args placed.direct) exchange (tree_result view reply) (by ends)
    where
      by : Ended reply → Ends result (tree_result view reply)
      by (inl none) = inl (ap (tree_result view) none.0, ap is_data_reply (same_reply result) ∙ none.1)
      by (inr is) = inr (told_by reply result is)

-- no strategy is asked, so the call is made for every one
pub at_for_every : (strategy : Option Strategy) (old new : World) (node : Address) (command : Command) (answer : Result Answer Refusal) → new.picked ≡ [] → CallMade None old new (At node command) answer → CallMade strategy old new (At node command) answer
at_for_every strategy old new node command answer none m = with_strategy None strategy old new (At node command) answer (λ k. unpicked strategy (client_of old) node command new.picked none) m
