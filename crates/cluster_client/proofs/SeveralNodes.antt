-- A call to several nodes: its parts and its plan, that its nodes are apart, and the call that the run of its nodes makes.
use Rattle.std.specs.Prelude.{◌||◌, ◌+◌, ◌^◌, codes, drop, option_map, option_and_then, slice_get, zero, suc}
use Rattle.std.specs.Cmp.{IsTotalOrder, nat_cmp_total, on_total, then_total}
use Rattle.std.specs.Cmp.Lexicographic.{slice_cmp, nat_list_cmp_total}
use Rattle.std.specs.Ordering.{match_ordering, nat_cmp, ordering_then, then_cmp}
use Rattle.std.specs.declared.cmp.Ordering.{Ordering}
use Rattle.std.specs.declared.cmp.Ordering.TheVariants.{Less, Equal, Greater}
use Rattle.std.proofs.Common.{◌≡◌, ◌≢◌, ◌==◌, ℕ, Bool, true, false, List, [], ◌∷◌, ◌++◌, map, length, Option, Some, None, refl, sym, ap, ◌∙◌, subst, Result, Ok, Err, inl, inr}
use Rattle.std.proofs.lemmas.Bool.{false≢true}
use Rattle.std.proofs.lemmas.List.{map-append}
use Rattle.resp_core.specs.Trees.{Tree}
use Rattle.resp_core.specs.Errors.{Refusal, by_cause}
use Rattle.resp_core.specs.Numbers.{number_below}
use Rattle.resp_core.specs.View.{view}
use Rattle.resp_core.specs.declared.value.Value.{Value as CodeValue}
use Rattle.resp_core.specs.declared.errors.redis_error.Cause.TheVariants.{Memory, NoResponse, NoRoute, NoNode}
use Rattle.resp_args.specs.Command.{Command}
use Rattle.resp_args.specs.Packed.{sent}
use Rattle.resp_args.specs.declared.cmd.Arg.{Arg}
use Rattle.cluster_routing.specs.Address.{Address, address_cmp, same_address}
use Rattle.cluster_routing.specs.AllNodes.{all_nodes, all_primaries}
use Rattle.cluster_routing.specs.Choice.{Strategy}
use Rattle.cluster_routing.specs.Command.{Args, all_bytes, bytes_of, place_of}
use Rattle.cluster_routing.specs.HashSlot.{hash_slot}
use Rattle.cluster_routing.specs.Laws.{AddressesAscend}
use Rattle.cluster_routing.specs.Lists.{IsDistinct, among}
use Rattle.cluster_routing.specs.Parts.{Tuple, argument_slots, groups, in_tuples, tuples_of, width_of}
use Rattle.cluster_routing.specs.Policies.{Outcome, or_bad_reply, tree_or_refusal}
use Rattle.cluster_routing.specs.Routing.{Destination, to_any_node, to_any_primary, to_route, to_address, to_all_nodes, to_all_primaries, to_parts, route_to, part_to as route_part, to_key, to_key_behind, to_key_by_count, to_some_parts, to_tuples, to_split, destination_by, role_of, name_of_word, destination_of_word, destination}
use Rattle.cluster_routing.specs.SlotMap.{SlotEntries}
use Rattle.cluster_routing.specs.Table.{Rule, split, key_after_streams, counted_key_or_random, counted_key, key_at, random, all_masters, nowhere, rule_of, is_family}
use Rattle.cluster_routing.specs.Table.{all_nodes as table_nodes}
use Rattle.cluster_routing.specs.declared.policy.MultiSlotArgPattern.{MultiSlotArgPattern}
use Rattle.cluster_routing.specs.declared.policy.ResponsePolicy.{ResponsePolicy}
use Rattle.cluster_routing.specs.declared.route.Route.{Route}
use Rattle.cluster_routing.specs.declared.route.SlotAddr.{SlotAddr}
use Rattle.cluster_routing.proofs.OnceAscending.{order_agrees}
use Rattle.cluster_calls.specs.Links.Request.{Request}
use Rattle.cluster_calls.specs.Links.Log.{Exchange, requests}
use Rattle.cluster_calls.specs.Links.World.{World, tree_result}
use Rattle.cluster_calls.specs.Links.Faults.{LinkFault}
use Rattle.cluster_calls.specs.Links.Events.{log_of, exchanges_of}
use Rattle.cluster_calls.specs.Links.Happened.{client_of, Happened, CallMade}
use Rattle.cluster_calls.specs.Links.Lacking.{MayLack}
use Rattle.cluster_calls.specs.Links.Run.{with_log}
use Rattle.cluster_calls.specs.Links.Converted.{value_answer}
use Rattle.cluster_calls.specs.Calls.Call.{FanOut}
use Rattle.cluster_calls.specs.Calls.Parts.{Part, part_to, at_node, node_parts, to_nodes, unless}
use Rattle.cluster_calls.specs.Calls.Plan.{Client, Dispatch, First, first_of, call_parts, plan}
use Rattle.cluster_calls.specs.Calls.Picks.{ArePicks}
use Rattle.cluster_calls.specs.Calls.Legal.{direct, IsLegalCall}
use Rattle.cluster_calls.specs.Calls.Replies.{outcomes, policy_in, reply_by_outcomes, several_reply}
use Rattle.cluster_calls.specs.Calls.Refusals.{refusal_in}
use Rattle.cluster_calls.specs.Calls.Answer.{answer_in, tree_in}
use Rattle.cluster_calls.proofs.LinkLaws.EventLists.{exchanged}
use Rattle.cluster_calls.proofs.LinkLaws.LackingLists.{some_events, value_lacked}
use Rattle.cluster_calls.proofs.LinkLaws.MovedLaws.{answered_plain}
use Rattle.cluster_calls.proofs.LinkLaws.OneCommand.{Untouched, not_sent, refused_by, relogged}
use Rattle.cluster_calls.proofs.LinkLaws.PartedCalls.{happened_by}
use Rattle.cluster_calls.proofs.LinkLaws.Played.{call_made}
use Rattle.cluster_calls.proofs.LogLaws.SentOnce.{nodes_once_ascending}
use Rattle.cluster_steps.specs.Requests.{CodeDispatch}
use Rattle.cluster_steps.specs.Dispatches.{AreDispatched, IsPlanned, dispatch_of}
use Rattle.cluster_steps.specs.FirstPlaces.{FindsFirst, ArePicksAt, node_with_link}
use Rattle.cluster_steps.proofs.Dispatched.{plan_made, plan_refused, plan_unparted, picks_made, picks_unparted}
use Rattle.cluster_steps.proofs.Dispatching.{Loop, dispatched_as, loop_as, loop_more, loop_refused}
use Rattle.cluster_client.specs.NodeRuns.{IsMadeOfOutcomes, NodesAsked, nodes_named, parts_to_nodes}
use Rattle.cluster_client.proofs.NodeLoop.{node_of}

-- ---- the parts

-- a call without parts, by each check
pub unrouted : (entries : SlotEntries) (args : List (List ℕ)) (o : Option Destination) → nodes_named entries o ≡ None → node_parts entries args o ≡ Err (by_cause NoRoute)
unrouted entries args None e = refl
unrouted entries args (Some to_any_node) e = refl
unrouted entries args (Some to_any_primary) e = refl
unrouted entries args (Some (to_route route)) e = refl
unrouted entries args (Some (to_address a)) e = refl
unrouted entries args (Some (to_all_nodes policy)) e = cc
unrouted entries args (Some (to_all_primaries policy)) e = cc
unrouted entries args (Some (to_parts parts pattern policy)) e = refl

-- the parts are those of the nodes that are named
pub named : (entries : SlotEntries) (args : List (List ℕ)) (o : Option Destination) (nodes : List Address) → nodes_named entries o ≡ Some nodes → node_parts entries args o ≡ to_nodes args nodes
named entries args None nodes e = cc
named entries args (Some to_any_node) nodes e = cc
named entries args (Some to_any_primary) nodes e = cc
named entries args (Some (to_route route)) nodes e = cc
named entries args (Some (to_address a)) nodes e = cc
named entries args (Some (to_all_nodes policy)) nodes e = let same : all_nodes entries ≡ nodes = cc in ap (to_nodes args) same
named entries args (Some (to_all_primaries policy)) nodes e = let same : all_primaries entries ≡ nodes = cc in ap (to_nodes args) same
named entries args (Some (to_parts parts pattern policy)) nodes e = cc

pub some_nodes : (args : List (List ℕ)) (nodes : List Address) → nodes ≢ [] → to_nodes args nodes ≡ Ok (parts_to_nodes args nodes)
some_nodes args [] some = absurd (some refl)
some_nodes args (a ∷ nodes) some = refl

-- ---- several nodes

-- where a command goes to several nodes; none for any other
abbrev several_in : Option Destination → Option Destination
several_in (Some (to_all_nodes policy)) = Some (to_all_nodes policy)
several_in (Some (to_all_primaries policy)) = Some (to_all_primaries policy)
several_in _ = None

-- a command to one node has none
key_not_several : (role : SlotAddr) (key : Option (Arg (List ℕ))) → several_in (to_key role key) ≡ None
key_not_several role key = by (bytes_of key)
  where
    by : (o : Option (List ℕ)) → several_in (option_map (λ bytes. to_route (route_to role (hash_slot bytes))) o) ≡ None
    by None = refl
    by (Some bytes) = refl

behind_not_several : (role : SlotAddr) (args : Args) (place : Option ℕ) → several_in (to_key_behind role args place) ≡ None
behind_not_several role args None = refl
behind_not_several role args (Some place) = key_not_several role (slice_get args (place + 1))

counted_not_several : (role : SlotAddr) (elsewhere : Option Destination) (key : Option (Arg (List ℕ))) (count : Option ℕ) → several_in elsewhere ≡ None → several_in (to_key_by_count role elsewhere key count) ≡ None
counted_not_several role elsewhere key None e = refl
counted_not_several role elsewhere key (Some zero) e = e
counted_not_several role elsewhere key (Some (suc n)) e = key_not_several role key

some_not_several : (pattern : MultiSlotArgPattern) (policy : ResponsePolicy) (parts : List (Route × List ℕ)) → several_in (to_some_parts pattern policy parts) ≡ None
some_not_several pattern policy [] = refl
some_not_several pattern policy (p ∷ []) = refl
some_not_several pattern policy (p ∷ q ∷ ps) = refl

tuples_not_several : (role : SlotAddr) (pattern : MultiSlotArgPattern) (policy : ResponsePolicy) (tuples : Option (List Tuple)) → several_in (to_tuples role pattern policy tuples) ≡ None
tuples_not_several role pattern policy None = refl
tuples_not_several role pattern policy (Some tuples) = some_not_several pattern policy (map (route_part role) (groups (argument_slots tuples)))

split_not_several : (role : SlotAddr) (pattern : MultiSlotArgPattern) (policy : ResponsePolicy) (args : Option (List (List ℕ))) → several_in (option_and_then (to_split role pattern policy) args) ≡ None
split_not_several role pattern policy None = refl
split_not_several role pattern policy (Some args) = tuples_not_several role pattern policy (tuples_of (width_of pattern) (in_tuples pattern (drop 1 args)))

-- where a rule for several nodes leads
abbrev several_by : Rule → Option Destination
several_by (all_masters policy) = Some (to_all_primaries (Some policy))
several_by (table_nodes policy) = Some (to_all_nodes (Some policy))
several_by _ = None

rule_several : (role : SlotAddr) (args : Args) (rule : Rule) → several_in (destination_by role args rule) ≡ several_by rule
rule_several role args (split pattern policy) = split_not_several role pattern policy (all_bytes args)
rule_several role args key_after_streams = behind_not_several role args (place_of (codes "STREAMS") args)
rule_several role args (counted_key_or_random i) = counted_not_several role (Some to_any_node) (slice_get args (i + 1)) (option_and_then (number_below (2 ^ 64)) (bytes_of (slice_get args i))) refl
rule_several role args (counted_key i) = counted_not_several role None (slice_get args (i + 1)) (option_and_then (number_below (2 ^ 64)) (bytes_of (slice_get args i))) refl
rule_several role args (key_at i) = key_not_several role (slice_get args i)
rule_several role args random = refl
rule_several role args (all_masters policy) = refl
rule_several role args (table_nodes policy) = refl
rule_several role args nowhere = refl

-- they do not depend on which commands only read
same_several : (args : Args) (one other : List (List ℕ)) → several_in (destination args one) ≡ several_in (destination args other)
unfolding destination
same_several args one other = by (bytes_of (slice_get args 0))
  where
    by : (o : Option (List ℕ)) → several_in (destination_of_word o args one) ≡ several_in (destination_of_word o args other)
    by None = refl
    by (Some word) =
        rule_several (role_of (name_of_word word args) one) args (rule_of (name_of_word word args) (is_family word))
        ∙ sym (rule_several (role_of (name_of_word word args) other) args (rule_of (name_of_word word args) (is_family word)))

parts_of_several : (entries : SlotEntries) (args : List (List ℕ)) (o : Option Destination) → node_parts entries args o ≡ node_parts entries args (several_in o)
parts_of_several entries args None = refl
parts_of_several entries args (Some to_any_node) = refl
parts_of_several entries args (Some to_any_primary) = refl
parts_of_several entries args (Some (to_route route)) = refl
parts_of_several entries args (Some (to_address a)) = refl
parts_of_several entries args (Some (to_all_nodes policy)) = refl
parts_of_several entries args (Some (to_all_primaries policy)) = refl
parts_of_several entries args (Some (to_parts parts pattern policy)) = refl

-- so neither do the parts
same_parts : (entries : SlotEntries) (sentence : List (List ℕ)) (args : Args) (one other : List (List ℕ)) → node_parts entries sentence (destination args one) ≡ node_parts entries sentence (destination args other)
same_parts entries sentence args one other =
    parts_of_several entries sentence (destination args one) ∙ ap (node_parts entries sentence) (same_several args one other) ∙ sym (parts_of_several entries sentence (destination args other))

-- ---- the parts of a call

-- a call that waits for a response has the parts of its command
pub fan_parts : (client : Client) (command : Command) (r : Result (List Part) Refusal) → command.no_response ≡ false → node_parts client.entries (sent command) (destination command.args client.settings.read_only) ≡ r
    → call_parts client (FanOut command) ≡ r
fan_parts client command r n e = rw n e

-- the same, from what the code has of its slot map
pub fan_parts_by : (client : Client) (command : Command) (entries : SlotEntries) (o : Option Destination) (r : Result (List Part) Refusal) → command.no_response ≡ false
    → client.entries ≡ entries → o ≡ destination command.args [] → node_parts entries (sent command) o ≡ r → call_parts client (FanOut command) ≡ r
fan_parts_by client command entries o r n same is e =
    fan_parts client command r n
    (ap (λ es. node_parts es (sent command) (destination command.args client.settings.read_only)) same ∙ same_parts entries (sent command) command.args client.settings.read_only []
    ∙ ap (node_parts entries (sent command)) (sym is) ∙ e)

pub not_empty : {A B : Type 0} (f : A → B) (xs : List A) (n : ℕ) → n ≡ length xs → (n == 0) ≡ false → map f xs ≢ []
not_empty f [] n e h = λ k. absurd (false≢true (sym h ∙ ap (λ m. m == 0) e))
not_empty f (x ∷ xs) n e h = λ k. cc k

pub no_nodes : (args : List (List ℕ)) (nodes : List Address) → nodes ≡ [] → to_nodes args nodes ≡ Err (by_cause NoNode)
no_nodes args nodes none = ap (to_nodes args) none

pub fan_silent : (client : Client) (command : Command) → command.no_response ≡ true → call_parts client (FanOut command) ≡ Err (by_cause NoResponse)
fan_silent client command n = rw n refl

-- ---- the plan

-- a part for a node finds that node, and asks no strategy
pub finds_node : (strategy : Option Strategy) (client : Client) (node : Address) (Leads : Option First → Type 0) → Leads (first_of [] [] (at_node node)) → FindsFirst strategy client.entries (at_node node) [] [] Leads
finds_node strategy client node Leads leads = record { own = []; behind = refl; picks = none strategy; leads = leads }
  where
    none : (s : Option Strategy) → ArePicksAt s client.entries (at_node node) []
    none None = refl
    none (Some admits) = (tt, refl)

pub fan_planned : (strategy : Option Strategy) (client : Client) (command : Command) (parts : List Part) (made : Result (List Dispatch) Refusal) → call_parts client (FanOut command) ≡ Ok parts → AreDispatched strategy client parts [] made
    → IsPlanned strategy client (FanOut command) [] made
fan_planned strategy client command parts (Ok ds) e d =
    record { planned = plan_made strategy client (FanOut command) [] parts ds e d; picked = picks_made strategy client (FanOut command) [] parts (Ok ds) e d }
fan_planned strategy client command parts (Err refusal) e d =
    record { planned = plan_refused strategy client (FanOut command) [] parts refusal e d; picked = picks_made strategy client (FanOut command) [] parts (Err refusal) e d }

pub fan_unplanned : (strategy : Option Strategy) (client : Client) (command : Command) (refusal : Refusal) → call_parts client (FanOut command) ≡ Err refusal → IsPlanned strategy client (FanOut command) [] (Err refusal)
fan_unplanned strategy client command refusal e = record { planned = plan_unparted strategy client (FanOut command) [] refusal e; picked = picks_unparted strategy client (FanOut command) refusal e }

-- one more node has its open link, or has none
module _ {strategy : Option Strategy} {client : Client} (args : List (List ℕ)) (done : List Address) (node : Address) (ds : List Dispatch) (links : List Address) (same : client.links ≡ links) (l : Loop strategy client (parts_to_nodes args done) [] ds) where
  pub node_more : (d : Dispatch) → Ok d.node ≡ node_with_link links (first_of [] [] (at_node node)) → d.args ≡ args → Loop strategy client (parts_to_nodes args (done ++ node ∷ [])) [] (ds ++ d ∷ [])
  node_more d at is =
      let found = finds_node strategy client node (λ first. Ok d.node ≡ node_with_link client.links first) (at ∙ ap (λ ls. node_with_link ls (first_of [] [] (at_node node))) (sym same)) in
      loop_as (loop_more strategy client (parts_to_nodes args done) (part_to args (at_node node)) [] [] ds d.node l found)
      (sym (map-append (λ a. part_to args (at_node a)) done (node ∷ []))) (ap (λ a. ds ++ record { node = d.node; args = a } ∷ []) (sym is))

  pub node_refused : (rest all : List Address) (refusal : Refusal) → all ≡ done ++ node ∷ rest → Err refusal ≡ node_with_link links (first_of [] [] (at_node node)) → AreDispatched strategy client (parts_to_nodes args all) [] (Err refusal)
  node_refused rest all refusal whole at =
      let found = finds_node strategy client node (λ first. Err refusal ≡ node_with_link client.links first) (at ∙ ap (λ ls. node_with_link ls (first_of [] [] (at_node node))) (sym same)) in
      dispatched_as strategy client (loop_refused strategy client (parts_to_nodes args done) (part_to args (at_node node)) (parts_to_nodes args rest) [] [] ds refusal l found)
      (sym (ap (parts_to_nodes args) whole ∙ map-append (λ a. part_to args (at_node a)) done (node ∷ rest))) refl refl

-- ---- its nodes are apart

as_then : (p q : Ordering) → match_ordering p Less q Greater ≡ ordering_then p q
as_then Less q = refl
as_then Equal q = refl
as_then Greater q = refl

by_parts : IsTotalOrder (then_cmp (λ (a b : Address). slice_cmp nat_cmp a.host b.host) (λ (a b : Address). nat_cmp a.port b.port))
by_parts = then_total (on_total (λ (a : Address). a.host) nat_list_cmp_total) (on_total (λ (a : Address). a.port) nat_cmp_total)

parted : (a b : Address) → address_cmp a b ≡ then_cmp (λ (a b : Address). slice_cmp nat_cmp a.host b.host) (λ (a b : Address). nat_cmp a.port b.port) a b
parted a b = as_then (slice_cmp nat_cmp a.host b.host) (nat_cmp a.port b.port)

below : (a b c : Address) → address_cmp a b ≡ Less → address_cmp b c ≡ Less → address_cmp a c ≡ Less
below a b c e f = parted a c ∙ by_parts.trans a b c (sym (parted a b) ∙ e) (sym (parted b c) ∙ f)

-- a lower address is another one
lower_other : (a b : Address) → address_cmp a b ≡ Less → same_address a b ≡ false
lower_other a b e = by (same_address a b) refl
  where
    by : (s : Bool) → same_address a b ≡ s → s ≡ false
    by true t = let equal = (order_agrees a b).1 t in cc
    by false t = refl

lower_apart : (a b : Address) (bs : List Address) → address_cmp a b ≡ Less → AddressesAscend (b ∷ bs) → among same_address a (b ∷ bs) ≡ false
lower_apart a b [] e h = ap (λ s. s || false) (lower_other a b e)
lower_apart a b (c ∷ cs) e h = ap (λ s. s || among same_address a (c ∷ cs)) (lower_other a b e) ∙ lower_apart a c cs (below a b c e h.0) h.1

ascending_apart : (as' : List Address) → AddressesAscend as' → IsDistinct same_address as'
ascending_apart [] h = tt
ascending_apart (a ∷ []) h = (refl, tt)
ascending_apart (a ∷ b ∷ bs) h = (lower_apart a b bs h.0 h.1, ascending_apart (b ∷ bs) h.1)

abbrev unreplied : Dispatch → Exchange
unreplied d = record { request = direct d; place = 0; reply = None }

unreplied_requests : (ds : List Dispatch) → requests (map unreplied ds) ≡ map direct ds
unreplied_requests [] = refl
unreplied_requests (d ∷ ds) = ap (λ qs. direct d ∷ qs) (unreplied_requests ds)

unreplied_nodes : (ds : List Dispatch) → map (λ (x : Exchange). x.request.node) (map unreplied ds) ≡ map (λ (d : Dispatch). d.node) ds
unreplied_nodes [] = refl
unreplied_nodes (d ∷ ds) = ap (λ nodes. d.node ∷ nodes) (unreplied_nodes ds)

pub nodes_apart : (client : Client) (command : Command) (ds : List Dispatch) → plan client [] (FanOut command) ≡ Ok ds → IsDistinct same_address (map (λ (d : Dispatch). d.node) ds)
nodes_apart client command ds planned =
    let legal : IsLegalCall client [] (FanOut command) (map unreplied ds) = rw planned (unreplied_requests ds) in
    ascending_apart (map (λ (d : Dispatch). d.node) ds) (subst AddressesAscend (unreplied_nodes ds) (nodes_once_ascending client [] (FanOut command) command (map unreplied ds) refl legal))

-- ---- the call

-- a reply, or why there is none, is the answer that the definition makes of it
answer_is : (command : Command) (r : Result Tree Refusal) → value_answer r ≡ unless (refusal_in r) (or_bad_reply (option_and_then (answer_in (FanOut command)) (tree_in r)))
answer_is command (Ok tree) = refl
answer_is command (Err refusal) = refl

abbrev failed : Refusal → Result (List Outcome) Refusal
failed e = Err e

abbrev refused : Refusal → Result Tree Refusal
refused e = Err e

-- the reply that the outcomes of the nodes make
told : (command : Command) (faults : Address → LinkFault) (xs : List Exchange) (result : Result (List Outcome) Refusal) (reply : Result Tree Refusal) → IsMadeOfOutcomes command result reply → reply ≢ Err (by_cause Memory)
    → result ≡ Ok (outcomes faults xs) → reply ≡ several_reply faults command xs
told command faults xs (Ok os) reply made had is =
    let same : os ≡ outcomes faults xs = cc in
    made had ∙ ap (reply_by_outcomes (policy_in (destination command.args []))) same
told command faults xs (Err refusal) reply made had is = cc is

nodes_had : (command : Command) (result : Result (List Outcome) Refusal) (reply : Result Tree Refusal) → IsMadeOfOutcomes command result reply → reply ≢ Err (by_cause Memory) → result ≢ Err (by_cause Memory)
nodes_had command (Ok os) reply made had = λ e. cc e
nodes_had command (Err refusal) reply made had = λ e. had (made ∙ (let same : refusal ≡ by_cause Memory = cc in ap refused same))

module _ (strategy : Option Strategy) (old new : World) (command : Command) (ds : List Dispatch) (result : Result (List Outcome) Refusal) (reply : Result Tree Refusal)
    (planned : plan (client_of old) [] (FanOut command) ≡ Ok ds) (picked : ArePicks strategy (client_of old) (FanOut command) [])
    (m : NodesAsked (with_log old [] []) new ds result) (made : IsMadeOfOutcomes command result reply) where
  plans : plan (client_of old) new.picked (FanOut command) ≡ Ok ds
  plans = subst (λ ps. plan (client_of old) ps (FanOut command) ≡ Ok ds) (sym m.picked) planned

  are : ArePicks strategy (client_of old) (FanOut command) new.picked
  are = subst (λ ps. ArePicks strategy (client_of old) (FanOut command) ps) (sym m.picked) picked

  legal : (xs : List Exchange) → requests xs ≡ map direct ds → IsLegalCall (client_of old) new.picked (FanOut command) xs
  legal xs sent' = rw plans sent'

  abbrev unreplied_to : List Request → List Exchange
  unreplied_to qs = map (λ q. record { request = q; place = 0; reply = None }) qs

  same_requests : (qs : List Request) → requests (unreplied_to qs) ≡ qs
  same_requests [] = refl
  same_requests (q ∷ qs) = ap (λ rs. q ∷ rs) (same_requests qs)

  begun : (place : ℕ) → requests (exchanges_of place m.events ++ unreplied_to m.begins.0) ≡ map direct ds
  begun place =
      map-append (λ (x : Exchange). x.request) (exchanges_of place m.events) (unreplied_to m.begins.0)
      ∙ ap (λ qs. qs ++ requests (unreplied_to m.begins.0)) (exchanged m.events place) ∙ ap (λ qs. log_of m.events ++ qs) (same_requests m.begins.0) ∙ m.begins.1

  abbrev happened : Happened strategy old new (FanOut command)
  happened =
      happened_by strategy old new (FanOut command) [] m.events (record { runs = m.runs; logged = m.logged; flag = m.flag; keeps = record { entries = m.entries; settings = m.settings; picked = m.picked } }) m.stops m.single are
      (λ place. record { later = unreplied_to m.begins.0; legal = legal (exchanges_of place m.events ++ unreplied_to m.begins.0) (begun place) })

  pub several_made : CallMade strategy old new (FanOut command) (value_answer reply)
  several_made =
      call_made strategy old new (FanOut command) (value_answer reply) happened
      (λ had.
      let there : reply ≢ Err (by_cause Memory) = λ e. had (ap value_answer e) in
      let a = m.answered (nodes_had command result reply made there) in
      answered_plain strategy old new (FanOut command) (value_answer reply) happened refl m.single (λ e. a.memory) m.logged are
      (λ place. legal (exchanges_of place m.events) (exchanged m.events place ∙ a.sent))
      (λ faults agrees place.
      let is = told command faults (exchanges_of place m.events) result reply made there (a.tells faults agrees place) in
      rw plans (ap value_answer is ∙ answer_is command (several_reply faults command (exchanges_of place m.events)))))
      (λ e n. absurd (false≢true n))
      (λ e none. m.picked)
      (λ e some. by result refl made (value_lacked reply e) (some_events new.log m.events m.logged some))
    where
      by : (r : Result (List Outcome) Refusal) → result ≡ r → IsMadeOfOutcomes command r reply → reply ≡ Err (by_cause Memory) → m.events ≢ [] → MayLack (client_of old) new.picked (FanOut command) m.events
      by (Ok os) is all lacks some = inr (inr (λ place. legal (exchanges_of place m.events) (exchanged m.events place ∙ (m.answered (λ k. cc)).sent)))
      by (Err refusal) is one lacks some = let same : refusal ≡ by_cause Memory = let told = sym one ∙ lacks in cc in inl (m.room (is ∙ ap (λ k. Err k) same) some)

-- ---- the same from what the code says

-- a check before sending was not met, or memory was refused before anything was sent
pub fan_not_sent : (strategy : Option Strategy) (old new : World) (command : Command) (refusal : Refusal) → Untouched old new → new.picked ≡ []
    → (refused_by refusal ≢ Err (by_cause Memory) → IsPlanned strategy (client_of old) (FanOut command) [] (Err refusal)) → CallMade strategy old new (FanOut command) (Err refusal)
fan_not_sent strategy old new command refusal u picks why =
    not_sent strategy old new (FanOut command) refusal refl u picks
    (λ m. let p = why m in (
      subst (λ ps. plan (client_of old) ps (FanOut command) ≡ Err refusal) (sym picks) p.planned,
      subst (λ ps. ArePicks strategy (client_of old) (FanOut command) ps) (sym picks) p.picked,
    ))

-- the nodes were asked
pub fan_made : (strategy : Option Strategy) (old new : World) (log : List Request) (picks : List Address) (command : Command) (ds : List Dispatch) (result : Result (List Outcome) Refusal) (reply : Result Tree Refusal)
    → log ≡ [] → picks ≡ [] → IsPlanned strategy (client_of old) (FanOut command) [] (Ok ds) → NodesAsked (with_log old log picks) new ds result → IsMadeOfOutcomes command result reply
    → CallMade strategy old new (FanOut command) (value_answer reply)
fan_made strategy old new log picks command ds result reply e f p m made =
    several_made strategy old new command ds result reply p.planned p.picked (subst (λ w. NodesAsked w new ds result) (relogged old log picks e f) m) made

same_tree : (r : Result CodeValue Refusal) → tree_result view r ≡ tree_or_refusal r
same_tree (Ok value) = refl
same_tree (Err refusal) = refl

-- the reply that the code makes of the outcomes
pub made_of : (command : Command) (policy : Option ResponsePolicy) (os : List Outcome) (r : Result CodeValue Refusal) → policy ≡ policy_in (destination command.args [])
    → (r ≢ Err (by_cause Memory) → tree_or_refusal r ≡ reply_by_outcomes policy os) → IsMadeOfOutcomes command (Ok os) (tree_result view r)
made_of command policy os r is made = λ m. same_tree r ∙ made (λ k. m (ap (tree_result view) k)) ∙ ap (λ p. reply_by_outcomes p os) is

code_nodes : (ds : List CodeDispatch) → map (λ (d : Dispatch). d.node) (map dispatch_of ds) ≡ map node_of ds
code_nodes [] = refl
code_nodes (d ∷ ds) = ap (λ nodes. node_of d ∷ nodes) (code_nodes ds)

-- the nodes of what the code has planned are apart
pub list_apart : (client : Client) (command : Command) (ds : List CodeDispatch) → plan client [] (FanOut command) ≡ Ok (map dispatch_of ds) → IsDistinct same_address (map node_of ds)
list_apart client command ds planned = subst (IsDistinct same_address) (code_nodes ds) (nodes_apart client command (map dispatch_of ds) planned)
