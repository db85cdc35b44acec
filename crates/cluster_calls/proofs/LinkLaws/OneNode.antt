-- A command to a node that the caller names, from its one link call.
use Rattle.std.specs.Prelude.{◌||◌, ◌⊎◌, option_and_then}
use Rattle.std.proofs.Common.{◌≡◌, ◌≢◌, ℕ, Bool, true, false, cond, List, [], ◌∷◌, ◌++◌, inl, inr, Option, Some, None, refl, sym, ap, ◌∙◌, subst, Result, Ok, Err}
use Rattle.std.proofs.lemmas.Bool.{false≢true}
use Rattle.resp_core.specs.Parts.{first_error}
use Rattle.resp_core.specs.Trees.{ErrorText, Tree}
use Rattle.resp_core.specs.Errors.{Refusal, by_cause, by_server}
use Rattle.resp_core.specs.declared.errors.redis_error.Cause.TheVariants.{Memory, NoLink, NoResponse}
use Rattle.resp_args.specs.Command.{Command}
use Rattle.resp_args.specs.Packed.{sent}
use Rattle.cluster_routing.specs.Address.{Address}
use Rattle.cluster_routing.specs.Choice.{Strategy}
use Rattle.cluster_calls.specs.Links.Request.{Request, skipped}
use Rattle.cluster_calls.specs.Links.World.{World, open_links, is_linked, one_reply}
use Rattle.cluster_calls.specs.Links.Converted.{ReplyMade, value_answer}
use Rattle.cluster_calls.specs.Links.Events.{lack_memory}
use Rattle.cluster_calls.specs.Links.Exchanges.{Exchanges}
use Rattle.cluster_calls.specs.Links.Happened.{client_of, Answered, Happened, CallMade}
use Rattle.cluster_calls.specs.Links.Log.{is_data_reply}
use Rattle.cluster_calls.specs.Links.Places.{IsOpenAt}
use Rattle.cluster_calls.specs.Calls.Answer.{Value}
use Rattle.cluster_calls.specs.Calls.Call.{At}
use Rattle.cluster_calls.specs.Calls.Legal.{direct}
use Rattle.cluster_calls.specs.Calls.Picks.{ArePicks}
use Rattle.cluster_calls.specs.Calls.Parts.{unless}
use Rattle.cluster_calls.specs.Calls.Plan.{Client, Dispatch, plan}
use Rattle.cluster_calls.specs.Calls.Replies.{unless_error, reply_error}
use Rattle.cluster_calls.specs.Calls.Task.{one_node}
use Rattle.cluster_calls.proofs.LinkLaws.LinkCalls.{link_calls_made}
use Rattle.cluster_calls.proofs.LinkLaws.MovedLaws.{answered_plain}
use Rattle.cluster_calls.proofs.LinkLaws.OneCommand.{Untouched, refused_by, reply_not_begun, reply_not_sent}
use Rattle.cluster_calls.proofs.LinkLaws.OneRequest.{exchanged_one, reply_in, single, OneMade, one_reply_is, one_had_memory, one_fault, one_moved, single_moved}
use Rattle.cluster_calls.proofs.LinkLaws.Played.{call_made}
use Rattle.cluster_calls.proofs.Lists.{or_none}

abbrev there : Address → Command → Dispatch
there node command = record { node = node; args = sent command }

-- ---- no strategy is asked

no_picks : (strategy : Option Strategy) (client : Client) (node : Address) (command : Command) → ArePicks strategy client (At node command) []
no_picks None client node command = refl
no_picks (Some admits) client node command = by command.no_response refl (is_linked client.links node) refl
  where
    by : (b : Bool) → command.no_response ≡ b → (l : Bool) → is_linked client.links node ≡ l → ArePicks (Some admits) client (At node command) []
    by true e l k = rw e refl
    by false e true k = rw (e, k) (tt, refl)
    by false e false k = rw (e, k) (tt, refl)

pub unpicked : (strategy : Option Strategy) (client : Client) (node : Address) (command : Command) (picks : List Address) → picks ≡ [] → ArePicks strategy client (At node command) picks
unpicked strategy client node command picks none = subst (ArePicks strategy client (At node command)) (sym none) (no_picks strategy client node command)

-- ---- nothing was sent

abbrev not_found : Refusal → Result Address Refusal
not_found e = Err e

abbrev found_at : Address → Result Address Refusal
found_at node = Ok node

pub silent : (strategy : Option Strategy) (old new : World) (node : Address) (command : Command) → command.no_response ≡ true → Untouched old new → new.picked ≡ [] → ReplyMade strategy old new (At node command) (Err (by_cause NoResponse))
silent strategy old new node command waits u none =
    reply_not_sent strategy old new (At node command) (by_cause NoResponse) refl u none (λ m. (rw waits refl, unpicked strategy (client_of old) node command new.picked none))

-- no open link leads to the node, or memory was refused before it was found
pub not_placed : (strategy : Option Strategy) (old new : World) (node : Address) (command : Command) → command.no_response ≡ false → Untouched old new → new.picked ≡ [] → (e : Refusal)
    → (refused_by e ≢ Err (by_cause Memory) → not_found e ≡ cond (is_linked (open_links old.nodes) node) (Ok node) (Err (by_cause NoLink))) → ReplyMade strategy old new (At node command) (Err e)
not_placed strategy old new node command waits u none e why =
    reply_not_sent strategy old new (At node command) e refl u none (λ m. (by (is_linked (open_links old.nodes) node) refl (why m), unpicked strategy (client_of old) node command new.picked none))
  where
    by : (l : Bool) → is_linked (open_links old.nodes) node ≡ l → not_found e ≡ cond l (Ok node) (Err (by_cause NoLink)) → plan (client_of old) new.picked (At node command) ≡ Err e
    by true k h = cc h
    by false k h = let same : e ≡ by_cause NoLink = cc in rw (waits, k) (ap (λ r. Err r) (sym same))

-- a node that was found is the one that was named
pub placed_node : (links : List Address) (node found : Address) → found_at found ≡ cond (is_linked links node) (Ok node) (Err (by_cause NoLink)) → found ≡ node
placed_node links node found h = by (is_linked links node) h
  where
    by : (l : Bool) → found_at found ≡ cond l (Ok node) (Err (by_cause NoLink)) → found ≡ node
    by true k = cc
    by false k = cc

-- ---- one link call

-- the reply as the call tells it
abbrev pub told : Result Tree Refusal → Result Tree Refusal
told (Ok tree) = unless_error tree (reply_error tree)
told (Err refusal) = Err refusal

abbrev pub lacks : Result Tree Refusal
lacks = Err (by_cause Memory)

told_value : (tree : Tree) (o : Option Refusal) → value_answer (unless_error tree o) ≡ unless o (Ok (Value tree))
told_value tree None = refl
told_value tree (Some refusal) = refl

one_reply_lacks : (result : Result Tree Refusal) → one_reply result ≡ Err (by_cause Memory) → result ≡ lacks
one_reply_lacks (Ok tree) e = cc
one_reply_lacks (Err refusal) e = let same : refusal ≡ by_cause Memory = cc in ap (λ r. Err r) same

abbrev ok_reply : Tree → Result Tree Refusal
ok_reply tree = Ok tree

-- a reply that is told by its error is told by no want of memory
told_lacks : (tree : Tree) (o : Option ErrorText) → unless_error tree (option_and_then (λ e. Some (by_server e)) o) ≡ lacks → ⊥
told_lacks tree None e = cc
told_lacks tree (Some error) e = cc

told_missing : (result : Result Tree Refusal) → told result ≡ lacks → is_data_reply (reply_in result) ≡ false
told_missing (Ok tree) e = absurd (told_lacks tree (first_error tree) e)
told_missing (Err refusal) e = refl

-- memory was refused, in the link call or for the error that the reply holds, or the reply is told
abbrev pub Ends : Result Tree Refusal → Result Tree Refusal → Type 0
Ends result reply = ((reply ≡ lacks) × (is_data_reply (reply_in result) ≡ false)) ⊎ (reply ≡ told result)

module _ (strategy : Option Strategy) (old new : World) (node : Address) (command : Command) (waits : command.no_response ≡ false) (linked : is_linked (open_links old.nodes) node ≡ true)
    (entries : new.entries ≡ old.entries) (settings : new.settings ≡ old.settings) (none : new.picked ≡ []) where
  abbrev q : Request
  q = direct (there node command)

  picked : ArePicks strategy (client_of old) (At node command) new.picked
  picked = unpicked strategy (client_of old) node command new.picked none

  module _ (result : Result Tree Refusal) (flag : new.needs_refresh ≡ (old.needs_refresh || one_moved result)) (logged : new.log ≡ q ∷ []) (o : OneMade old.nodes new.nodes q result) where
    abbrev happened : Happened strategy old new (At node command)
    happened = record {
      events = single q o.taken result ∷ [];
      runs = (new.nodes, o.called, refl);
      stops = λ e. (λ lacks. refl, tt);
      logged = logged;
      calls = λ a. link_calls_made old.nodes new.nodes (single q o.taken result ∷ []) (one_node node command) (new.nodes, o.called, refl) ((q, refl), tt) a;
      picks = λ some. picked;
      begins = λ some place. record { later = []; legal = rw (waits, linked) refl };
      settings = settings;
      map_stays = λ n. entries;
      flag = λ n. flag ∙ ap (λ b. old.needs_refresh || b) (sym (or_none _ ∙ single_moved old.nodes new.nodes q result o));
    }

    had : result ≢ lacks → lack_memory (single q o.taken result ∷ []) ≡ false
    had m = ap (λ b. b || false) (one_had_memory old.nodes new.nodes q result m o)

  answered : (result : Result Tree Refusal) (flag : new.needs_refresh ≡ (old.needs_refresh || one_moved result)) (logged : new.log ≡ q ∷ []) (o : OneMade old.nodes new.nodes q result)
      → told result ≢ lacks → Answered strategy old new (At node command) (happened result flag logged o).events (value_answer (told result))
  answered (Ok tree) flag logged o m =
      let some : ok_reply tree ≢ lacks = λ k. cc k in
      let got = one_reply_is old.nodes new.nodes q (Ok tree) o in
      answered_plain strategy old new (At node command) (value_answer (told (Ok tree))) (happened (Ok tree) flag logged o) refl ((q, refl), tt) (λ k. had (Ok tree) flag logged o some) logged picked
      (λ place. rw (waits, linked) refl)
      (λ faults agrees place. rw (waits, linked, got) (told_value tree (reply_error tree)))
  answered (Err e) flag logged o m =
      let got = one_reply_is old.nodes new.nodes q (Err e) o in
      answered_plain strategy old new (At node command) (Err e) (happened (Err e) flag logged o) refl ((q, refl), tt) (λ k. had (Err e) flag logged o m) logged picked
      (λ place. rw (waits, linked) refl)
      (λ faults agrees place. rw (waits, linked, got) (ap refused_by (one_fault old.nodes new.nodes q e faults o agrees.0)))

  -- memory was refused, in the link call or for the answer, or the reply is told
  called : (result : Result Tree Refusal) (flag : new.needs_refresh ≡ (old.needs_refresh || one_moved result)) (logged : new.log ≡ q ∷ []) (o : OneMade old.nodes new.nodes q result)
      (reply : Result Tree Refusal) → Ends result reply → CallMade strategy old new (At node command) (value_answer reply)
  called result flag logged o reply ends =
      call_made strategy old new (At node command) (value_answer reply) (happened result flag logged o)
      (λ m. by ends m)
      (λ e n. absurd (false≢true n))
      (λ e l. none)
      (λ e some. inr (inr (λ place. rw (waits, linked) refl)))
    where
      by : Ends result reply → value_answer reply ≢ Err (by_cause Memory) → Answered strategy old new (At node command) (happened result flag logged o).events (value_answer reply)
      by (inl lost) m = absurd (m (ap value_answer lost.0))
      by (inr is) m = subst (λ r. Answered strategy old new (At node command) (happened result flag logged o).events (value_answer r)) (sym is) (answered result flag logged o (λ k. m (ap value_answer (is ∙ k))))

  called_reply : (result : Result Tree Refusal) → new.needs_refresh ≡ (old.needs_refresh || one_moved result) → new.log ≡ q ∷ [] → OneMade old.nodes new.nodes q result
      → (reply : Result Tree Refusal) → Ends result reply → ReplyMade strategy old new (At node command) reply
  unfolding called call_made
  called_reply result flag logged o reply ends = record {
    made = called result flag logged o reply ends;
    missing = λ lacked place. ap (λ r. is_data_reply r || false) (one_reply_is old.nodes new.nodes q result o) ∙ ap (λ b. b || false) (by lacked ends);
  }
    where
      by : reply ≡ lacks → Ends result reply → is_data_reply (reply_in result) ≡ false
      by lacked (inl lost) = lost.1
      by lacked (inr is) = told_missing result (sym is ∙ lacked)

  -- ---- the same from what the code says of its exchange

  pub at_made : (result : Result Tree Refusal) → new.needs_refresh ≡ (old.needs_refresh || one_moved result)
      → (link : ℕ) → IsOpenAt old.nodes node link → (before : List Request) → before ≡ [] → (p : Request) → p ≡ q → Exchanges old.nodes new.nodes link before new.log (p ∷ []) (skipped p.asking) 1 (one_reply result)
      → (reply : Result Tree Refusal) → Ends result reply → ReplyMade strategy old new (At node command) reply
  at_made result flag link at before empty p is x reply ends =
      let asked = subst (λ k. Exchanges old.nodes new.nodes link before new.log (k ∷ []) (skipped k.asking) 1 (one_reply result)) is x in
      elim (exchanged_one old.nodes new.nodes link before new.log q result at asked) as (λ _. ReplyMade strategy old new (At node command) reply) [
        | inl same ↦ unsent same.0 (same.1 ∙ empty) (one_reply_lacks result same.2) ends
        | inr made ↦ called_reply result flag (made.0 ∙ ap (λ qs. qs ++ q ∷ []) empty) made.1 reply ends
      ]
    where
      unsent : new.nodes ≡ old.nodes → new.log ≡ [] → result ≡ lacks → Ends result reply → ReplyMade strategy old new (At node command) reply
      unsent nodes log lost e =
          let same : reply ≡ lacks = by e in
          let stays = flag ∙ ap (λ r. old.needs_refresh || one_moved r) lost ∙ or_none old.needs_refresh in
          subst (λ r. ReplyMade strategy old new (At node command) r) (sym same) (reply_not_begun strategy old new (At node command) (record { nodes = nodes; log = log; entries = entries; settings = settings; flag = stays }) none)
        where
          by : Ends result reply → reply ≡ lacks
          by (inl k) = k.0
          by (inr k) = k ∙ ap told lost
