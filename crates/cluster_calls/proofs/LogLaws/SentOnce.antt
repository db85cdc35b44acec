-- How many requests a call makes, and to which nodes a command to several nodes goes.
use Rattle.std.proofs.Common.{◌≡◌, ℕ, suc, ◌+◌, ◌≤◌, Bool, true, false, cond, ◌||◌, List, [], ◌∷◌, map, filter, length, take, drop, Option, Some, None, Result, Ok, Err, MatchResult, refl, sym, ap, ◌∙◌, subst, arith, ◌++◌}
use Rattle.std.specs.Prelude.{MatchBool, ◌*◌}
use Rattle.std.specs.List.{list_any, flat_map}
use Rattle.std.proofs.lemmas.Bool.{false≢true}
use Rattle.std.proofs.lemmas.List.{take-append-drop, length-append, length-map}
use Rattle.std.proofs.Math.Nat.{mul-le-mul_right, mul_comm}
use Rattle.resp_core.specs.Errors.{Refusal, by_cause}
use Rattle.resp_core.specs.declared.errors.redis_error.Cause.TheVariants.{NoLink, NoResponse}
use Rattle.resp_args.specs.Command.{Command}
use Rattle.resp_args.specs.Packed.{sent}
use Rattle.cluster_routing.specs.Address.{Address, same_address}
use Rattle.cluster_routing.specs.AllNodes.{all_nodes, all_primaries, node_sets, node_list}
use Rattle.cluster_routing.specs.Laws.{AddressesAscend}
use Rattle.cluster_routing.specs.Lists.{Pairwise, among, IsDistinct, concat}
use Rattle.cluster_routing.specs.Routing.{Destination, to_any_node, to_any_primary, to_route, to_address, to_all_nodes, to_all_primaries, to_parts, destination, route_to}
use Rattle.cluster_routing.specs.SlotMap.{Nodes, SlotEntries}
use Rattle.cluster_routing.specs.declared.route.SlotAddr.TheVariants.{Master}
use Rattle.cluster_routing.proofs.OnceAscending.{each_address_once}
use Rattle.cluster_calls.specs.Links.Log.{Exchange, requests, is_unanswered}
use Rattle.cluster_calls.specs.Links.Request.{Request, slots_command, multi, exec}
use Rattle.cluster_calls.specs.Links.World.{is_linked}
use Rattle.cluster_calls.specs.Calls.Call.{Call, Entry}
use Rattle.cluster_calls.specs.Calls.Task.{Task, slot_map_of, one_command, pipeline_of, positions_of, several_nodes, one_node, read_of, task_of, transaction_of}
use Rattle.cluster_calls.specs.Calls.Parts.{Part, part_to, at_node, at_slot, to_nodes, node_parts, with_whole, whole_part, reads_several_slots, if_one_slot, parts_of, pipeline_parts, result_then}
use Rattle.cluster_calls.specs.Calls.Plan.{Client, Dispatch, with_first, dispatches, plan}
use Rattle.cluster_calls.specs.Calls.Legal.{direct, nodes_in_use, node_groups, NodeByNode, AreMade, IsLegalCall, AttemptAfterAttempt, first_hop}
use Rattle.cluster_calls.specs.OneServer.Laws.{request_bound}
use Rattle.cluster_calls.specs.Calls.OneSlot.{args_of, common_slot, parts_at}
use Rattle.cluster_calls.specs.Calls.Transactions.{size}
use Rattle.cluster_calls.proofs.LogLaws.Bounds.{parts_bound}
use Rattle.cluster_calls.proofs.ServerLaws.Distinct.{firsts_distinct}
use Rattle.cluster_calls.proofs.LinkLaws.Addresses.{same_true}
use Rattle.cluster_calls.proofs.LogLaws.Planned.{Planned, planned}
use Rattle.cluster_calls.proofs.LogLaws.Plans.{IsFor, dispatches_for}
use Rattle.cluster_calls.proofs.LogLaws.Attempts.{counted}

-- ---- lengths

pub pair_length : {A X : Type 0} (R : A → X → Type 0) (as' : List A) (xs : List X) → Pairwise R as' xs → length as' ≡ length xs
pair_length R [] [] h = refl
pair_length R [] (x ∷ xs) h = absurd h
pair_length R (a ∷ as') [] h = absurd h
pair_length R (a ∷ as') (x ∷ xs) h = ap suc (pair_length R as' xs h.1)

sent_length : (xs : List Exchange) (ds : List Dispatch) → requests xs ≡ map direct ds → length xs ≡ length ds
sent_length [] [] e = refl
sent_length [] (d ∷ ds) e = cc
sent_length (x ∷ xs) [] e = cc
sent_length (x ∷ xs) (d ∷ ds) e = let b : requests xs ≡ map direct ds = cc in ap suc (sent_length xs ds b)

pipeline_length : (entries : List Entry) (position : ℕ) (parts : List Part) → pipeline_parts position entries ≡ Ok parts → length parts ≡ length entries
pipeline_length [] position parts e = let n : [] ≡ parts = cc in ap length (sym n)
pipeline_length (x ∷ xs) position parts e = whole (if_one_slot (reads_several_slots x.command.args) (whole_part (sent x.command) (parts_of [] x.command 0))) e (λ q f. pipeline_length xs (suc position) q f)
  where
    others : (part : Part) (o : Result (List Part) Refusal) → pipeline_parts (suc position) xs ≡ o → with_whole position (Some part) o ≡ Ok parts
        → ((q : List Part) → pipeline_parts (suc position) xs ≡ Ok q → length q ≡ length xs) → length parts ≡ suc (length xs)
    others part (Ok q) f e ih = let n : part ∷ q ≡ parts = cc in ap length (sym n) ∙ ap suc (ih q f)
    others part (Err r) f e ih = cc

    whole : (o : Option Part) → with_whole position o (pipeline_parts (suc position) xs) ≡ Ok parts
        → ((q : List Part) → pipeline_parts (suc position) xs ≡ Ok q → length q ≡ length xs) → length parts ≡ suc (length xs)
    whole None e ih = cc
    whole (Some part) e ih = others part (pipeline_parts (suc position) xs) refl e ih

-- ---- node by node

abbrev total : {X : Type 0} → List (List X) → ℕ
total [] = 0
total (xs ∷ xss) = length xs + total xss

groups_bound : (groups : List (List Dispatch)) (xs : List Exchange) → NodeByNode groups xs → length xs ≤ total groups
groups_bound [] xs h = let e : length xs ≡ 0 = ap length h in omega (arith, e)
groups_bound (group ∷ groups) xs h = by (list_any is_unanswered (take (length group) xs)) h.1 (λ g. groups_bound groups (drop (length group) xs) g)
  where
    front : length (take (length group) xs) ≡ length group
    front = sent_length (take (length group) xs) group h.0

    both : length xs ≡ length (take (length group) xs) + length (drop (length group) xs)
    both = ap length (sym (take-append-drop (length group) xs)) ∙ length-append (take (length group) xs) (drop (length group) xs)

    by : (b : Bool) → MatchBool b (drop (length group) xs ≡ []) (NodeByNode groups (drop (length group) xs)) → (NodeByNode groups (drop (length group) xs) → length (drop (length group) xs) ≤ total groups)
        → length xs ≤ length group + total groups
    by true g ih = let e : length (drop (length group) xs) ≡ 0 = ap length g in omega (arith, front, both, e)
    by false g ih = let i = ih g in omega (arith, front, both, i)

abbrev at_nodes : List Address → List Dispatch → List (List Dispatch)
at_nodes nodes ds = map (λ node. filter (λ (d : Dispatch). same_address d.node node) ds) nodes

-- where no node stands twice a dispatch is in one group at most
none_alike : (a : Address) (nodes : List Address) → among same_address a nodes ≡ false → (d : Dispatch) (ds : List Dispatch) → d.node ≡ a → total (at_nodes nodes (d ∷ ds)) ≡ total (at_nodes nodes ds)
none_alike a [] h d ds e = refl
none_alike a (n ∷ nodes) h d ds e = by (same_address a n) refl h (λ g. none_alike a nodes g d ds e)
  where
    by : (b : Bool) → same_address a n ≡ b → (b || among same_address a nodes) ≡ false → (among same_address a nodes ≡ false → total (at_nodes nodes (d ∷ ds)) ≡ total (at_nodes nodes ds))
        → total (at_nodes (n ∷ nodes) (d ∷ ds)) ≡ total (at_nodes (n ∷ nodes) ds)
    by true f h ih = absurd (false≢true (sym h))
    by false f h ih =
        ap (λ b. length (cond b (d ∷ filter (λ (d : Dispatch). same_address d.node n) ds) (filter (λ (d : Dispatch). same_address d.node n) ds)) + total (at_nodes nodes (d ∷ ds))) (ap (λ z. same_address z n) e ∙ f)
        ∙ ap (λ k. length (filter (λ (d : Dispatch). same_address d.node n) ds) + k) (ih h)

one_more : (nodes : List Address) → IsDistinct same_address nodes → (d : Dispatch) (ds : List Dispatch) → total (at_nodes nodes (d ∷ ds)) ≤ suc (total (at_nodes nodes ds))
one_more [] h d ds = omega arith
one_more (n ∷ nodes) h d ds = by (same_address d.node n) refl (one_more nodes h.1 d ds)
  where
    by : (b : Bool) → same_address d.node n ≡ b → total (at_nodes nodes (d ∷ ds)) ≤ suc (total (at_nodes nodes ds))
        → length (cond b (d ∷ filter (λ (d : Dispatch). same_address d.node n) ds) (filter (λ (d : Dispatch). same_address d.node n) ds)) + total (at_nodes nodes (d ∷ ds)) ≤ suc (length (filter (λ (d : Dispatch). same_address d.node n) ds) + total (at_nodes nodes ds))
    by true e ih = let s = none_alike n nodes h.0 d ds (same_true d.node n e) in omega (arith, s)
    by false e ih = omega (arith, ih)

none_total : (nodes : List Address) → total (at_nodes nodes []) ≡ 0
none_total [] = refl
none_total (n ∷ nodes) = let i = none_total nodes in omega (arith, i)

grouped_bound : (nodes : List Address) → IsDistinct same_address nodes → (ds : List Dispatch) → total (at_nodes nodes ds) ≤ length ds
grouped_bound nodes h [] = let e = none_total nodes in omega (arith, e)
grouped_bound nodes h (d ∷ ds) = let i = grouped_bound nodes h ds in let s = one_more nodes h d ds in omega (arith, i, s)

-- ---- all tasks

pipeline_bound : (client : Client) (picks : List Address) (call : Call) (entries : List Entry) (ds : List Dispatch) (xs : List Exchange) → task_of call ≡ pipeline_of entries → plan client picks call ≡ Ok ds
    → NodeByNode (node_groups ds) xs → length xs ≤ length entries
pipeline_bound client picks call entries ds xs t e h =
    let p = subst (λ task. Planned client picks task ds) t (planned client picks call ds e) in
    let a : length p.parts ≡ length entries = pipeline_length entries 0 p.parts p.parts_are in
    let b : length p.parts ≡ length p.found = pair_length IsFor p.parts p.found (dispatches_for client p.parts picks p.found p.found_are) in
    let c : length p.found ≡ length ds = ap length p.ordered in
    let g = groups_bound (node_groups ds) xs h in
    let k = grouped_bound (nodes_in_use ds) (firsts_distinct same_address (map (λ (d : Dispatch). d.node) ds)) ds in
    omega (arith, a, b, c, g, k)

concat_total : (groups : List (List Dispatch)) → length (concat groups) ≡ total groups
concat_total [] = refl
concat_total (group ∷ groups) = length-append group (concat groups) ∙ ap (λ n. length group + n) (concat_total groups)

-- each part has one
positions_bound : (ds : List Dispatch) (xs : List Exchange) → requests xs ≡ map direct (concat (node_groups ds)) → length xs ≤ length ds
positions_bound ds xs h =
    let sent = sent_length xs (concat (node_groups ds)) h in
    let all = concat_total (node_groups ds) in
    let k = grouped_bound (nodes_in_use ds) (firsts_distinct same_address (map (λ (d : Dispatch). d.node) ds)) ds in
    omega (arith, sent, all, k)

-- one part has one request
one_part_bound : (client : Client) (picks : List Address) (task : Task) (ds : List Dispatch) (xs : List Exchange) (p : Planned client picks task ds) → length p.found ≡ length ds → (part : Part) → part ∷ [] ≡ p.parts
    → requests xs ≡ map direct ds → length xs ≤ 1
one_part_bound client picks task ds xs p c part one h =
    let a : 1 ≡ length p.parts = ap length one in
    let b : length p.parts ≡ length p.found = pair_length IsFor p.parts p.found (dispatches_for client p.parts picks p.found p.found_are) in
    let d = sent_length xs ds h in
    omega (arith, a, b, c, d)

refresh_bound : (client : Client) (picks : List Address) (call : Call) (node : Address) (ds : List Dispatch) (xs : List Exchange) → task_of call ≡ slot_map_of node → plan client picks call ≡ Ok ds
    → requests xs ≡ map direct ds → length xs ≤ 1
refresh_bound client picks call node ds xs t e h =
    let p = subst (λ task. Planned client picks task ds) t (planned client picks call ds e) in
    let one : part_to slots_command (at_node node) ∷ [] ≡ p.parts = let f = p.parts_are in cc in
    one_part_bound client picks (slot_map_of node) ds xs p (ap length p.ordered) (part_to slots_command (at_node node)) one h

one_node_bound : (client : Client) (picks : List Address) (call : Call) (node : Address) (command : Command) (ds : List Dispatch) (xs : List Exchange) → task_of call ≡ one_node node command → plan client picks call ≡ Ok ds
    → requests xs ≡ map direct ds → length xs ≤ 1
one_node_bound client picks call node command ds xs t e h = by command.no_response p.parts_are
  where
    p : Planned client picks (one_node node command) ds
    p = subst (λ task. Planned client picks task ds) t (planned client picks call ds e)

    by : (b : Bool) → cond b (Err (by_cause NoResponse)) (Ok (part_to (sent command) (at_node node) ∷ [])) ≡ Ok p.parts → length xs ≤ 1
    by true f = cc
    by false f = one_part_bound client picks (one_node node command) ds xs p (ap length p.ordered) (part_to (sent command) (at_node node)) (cc) h

-- the parts of a transaction, where it has any, are an attempt's requests
transaction_size : (client : Client) (picks : List Address) (commands : List Command) (d : Dispatch) (ds : List Dispatch) (p : Planned client picks (transaction_of commands) (d ∷ ds)) → length (d ∷ ds) ≡ size (args_of commands)
transaction_size client picks commands d ds p = by (common_slot 0 None commands) p.parts_are
  where
    same : length p.parts ≡ length (d ∷ ds)
    same = pair_length IsFor p.parts p.found (dispatches_for client p.parts picks p.found p.found_are) ∙ ap length p.ordered

    sized : (slot : ℕ) → length (parts_at (args_of commands) (Some slot)) ≡ size (args_of commands)
    sized slot =
        let m : length (parts_at (args_of commands) (Some slot)) ≡ length (multi ∷ args_of commands ++ exec ∷ []) = length-map (multi ∷ args_of commands ++ exec ∷ []) (λ args. part_to args (at_slot (route_to Master slot))) in
        let l : length (args_of commands ++ exec ∷ []) ≡ length (args_of commands) + 1 = length-append (args_of commands) (exec ∷ []) in
        omega (arith, m, l)

    by : (common : Result (Option ℕ) Refusal) → result_then common (λ slot. Ok (parts_at (args_of commands) slot)) ≡ Ok p.parts → length (d ∷ ds) ≡ size (args_of commands)
    by (Err refusal) e = cc
    by (Ok None) e = let none : [] ≡ p.parts = cc in let l : 0 ≡ length p.parts = ap length none in absurd (omega (arith, l, same))
    by (Ok (Some slot)) e = let parts : parts_at (args_of commands) (Some slot) ≡ p.parts = cc in sym same ∙ sym (ap length parts) ∙ sized slot

transaction_bound : (client : Client) (picks : List Address) (call : Call) (commands : List Command) (ds : List Dispatch) (xs : List Exchange) → task_of call ≡ transaction_of commands → plan client picks call ≡ Ok ds
    → AttemptAfterAttempt client (args_of commands) ds xs → length xs ≤ length ds * suc client.settings.budget
transaction_bound client picks call commands [] xs t e none = let l : length xs ≡ 0 = ap length none in omega (arith, l)
transaction_bound client picks call commands (d ∷ ds) xs t e follows =
    let c = counted client.links client.settings.budget (first_hop d) (args_of commands) xs follows in
    let long = transaction_size client picks commands d ds (subst (λ task. Planned client picks task (d ∷ ds)) t (planned client picks call (d ∷ ds) e)) in
    let few : c.0 * size (args_of commands) ≤ suc client.settings.budget * size (args_of commands) = mul-le-mul_right (size (args_of commands)) c.2 in
    let turned : suc client.settings.budget * size (args_of commands) ≡ size (args_of commands) * suc client.settings.budget = mul_comm (suc client.settings.budget) (size (args_of commands)) in
    let whole : size (args_of commands) * suc client.settings.budget ≡ length (d ∷ ds) * suc client.settings.budget = ap (λ n. n * suc client.settings.budget) (sym long) in
    let l = c.1 in
    omega (arith, few, turned, whole, l)

pub requests_are_bounded : (client : Client) (picks : List Address) (call : Call) (ds : List Dispatch) (xs : List Exchange)
    → plan client picks call ≡ Ok ds → IsLegalCall client picks call xs → length xs ≤ request_bound client.settings.budget (length ds) (task_of call)
requests_are_bounded client picks call ds xs e legal = by (task_of call) refl (subst (λ o. MatchResult o (λ ds. AreMade client (task_of call) ds xs) (λ refusal. xs ≡ [])) e legal)
  where
    by : (task : Task) → task_of call ≡ task → AreMade client task ds xs → length xs ≤ request_bound client.settings.budget (length ds) task
    by (slot_map_of node) t m = refresh_bound client picks call node ds xs t e m
    by (one_command command number order) t m = parts_bound client ds xs m
    by (pipeline_of entries) t m = pipeline_bound client picks call entries ds xs t e m
    by (positions_of entries) t m = positions_bound ds xs m
    by (several_nodes command) t m = let s = sent_length xs ds m in omega (arith, s)
    by (one_node node command) t m = one_node_bound client picks call node command ds xs t e m
    by (transaction_of commands) t m = transaction_bound client picks call commands ds xs t e m
    by (read_of options streams) t m = parts_bound client ds xs m

-- ---- several nodes

abbrev parts_to : List (List ℕ) → List Address → List Part
parts_to args nodes = map (λ node. part_to args (at_node node)) nodes

dispatched_nodes : (client : Client) (picks : List Address) (args : List (List ℕ)) (nodes : List Address) (ds : List Dispatch) → dispatches client picks (parts_to args nodes) ≡ Ok ds → map (λ (d : Dispatch). d.node) ds ≡ nodes
dispatched_nodes client picks args [] ds e = let n : [] ≡ ds = cc in ap (map (λ (d : Dispatch). d.node)) (sym n)
dispatched_nodes client picks args (a ∷ nodes) ds e = at_link (is_linked client.links a) e (λ es f. dispatched_nodes client picks args nodes es f)
  where
    IH : Type 0
    IH = (es : List Dispatch) → dispatches client picks (parts_to args nodes) ≡ Ok es → map (λ (d : Dispatch). d.node) es ≡ nodes

    at_rest : (o : Result (List Dispatch) Refusal) → dispatches client picks (parts_to args nodes) ≡ o → with_first (record { node = a; args = args }) o ≡ Ok ds → IH → map (λ (d : Dispatch). d.node) ds ≡ a ∷ nodes
    at_rest (Ok es) f g ih = let n : record { node = a; args = args } ∷ es ≡ ds = cc in ap (map (λ (d : Dispatch). d.node)) (sym n) ∙ ap (λ l. a ∷ l) (ih es f)
    at_rest (Err r) f g ih = cc

    at_link : (b : Bool) → cond b (with_first (record { node = a; args = args }) (dispatches client picks (parts_to args nodes))) (Err (by_cause NoLink)) ≡ Ok ds → IH → map (λ (d : Dispatch). d.node) ds ≡ a ∷ nodes
    at_link true g ih = at_rest (dispatches client picks (parts_to args nodes)) refl g ih
    at_link false g ih = cc

-- the parts go to nodes that ascend
record ToAscending (args : List (List ℕ)) (parts : List Part) : Type 0 where
  nodes : List Address
  are : parts ≡ parts_to args nodes
  ascend : AddressesAscend nodes

to_ascending : (args : List (List ℕ)) (nodes : List Address) (parts : List Part) → AddressesAscend nodes → to_nodes args nodes ≡ Ok parts → ToAscending args parts
to_ascending args [] parts h e = cc
to_ascending args (a ∷ nodes) parts h e = let n : parts_to args (a ∷ nodes) ≡ parts = cc in record { nodes = a ∷ nodes; are = sym n; ascend = h }

node_parts_ascend : (entries : SlotEntries) (args : List (List ℕ)) (o : Option Destination) (parts : List Part) → node_parts entries args o ≡ Ok parts → ToAscending args parts
node_parts_ascend entries args (Some (to_all_nodes policy)) parts e = to_ascending args (all_nodes entries) parts (each_address_once.ascends (flat_map node_list (node_sets entries))) e
node_parts_ascend entries args (Some (to_all_primaries policy)) parts e = to_ascending args (all_primaries entries) parts (each_address_once.ascends (map (λ (n : Nodes). n.primary) (node_sets entries))) e
node_parts_ascend entries args (Some to_any_node) parts e = cc
node_parts_ascend entries args (Some to_any_primary) parts e = cc
node_parts_ascend entries args (Some (to_route route)) parts e = cc
node_parts_ascend entries args (Some (to_address a)) parts e = cc
node_parts_ascend entries args (Some (to_parts ps pattern policy)) parts e = cc
node_parts_ascend entries args None parts e = cc

several_ascend : (client : Client) (picks : List Address) (command : Command) (ds : List Dispatch) → Planned client picks (several_nodes command) ds → AddressesAscend (map (λ (d : Dispatch). d.node) ds)
several_ascend client picks command ds p = by command.no_response p.parts_are
  where
    by : (b : Bool) → cond b (Err (by_cause NoResponse)) (node_parts client.entries (sent command) (destination command.args client.settings.read_only)) ≡ Ok p.parts → AddressesAscend (map (λ (d : Dispatch). d.node) ds)
    by true e = cc
    by false e =
        let w = node_parts_ascend client.entries (sent command) (destination command.args client.settings.read_only) p.parts e in
        let n = dispatched_nodes client picks (sent command) w.nodes p.found (ap (dispatches client picks) (sym w.are) ∙ p.found_are) in
        subst AddressesAscend (sym n ∙ ap (map (λ (d : Dispatch). d.node)) p.ordered) w.ascend

sent_nodes : (xs : List Exchange) (ds : List Dispatch) → requests xs ≡ map direct ds → map (λ (x : Exchange). x.request.node) xs ≡ map (λ (d : Dispatch). d.node) ds
sent_nodes [] [] e = refl
sent_nodes [] (d ∷ ds) e = cc
sent_nodes (x ∷ xs) [] e = cc
sent_nodes (x ∷ xs) (d ∷ ds) e =
    let a : x.request ≡ direct d = cc in
    let b : requests xs ≡ map direct ds = cc in
    ap (λ (q : Request). q.node ∷ map (λ (x : Exchange). x.request.node) xs) a ∙ ap (λ l. d.node ∷ l) (sent_nodes xs ds b)

pub nodes_once_ascending : (client : Client) (picks : List Address) (call : Call) (command : Command) (xs : List Exchange)
    → task_of call ≡ several_nodes command → IsLegalCall client picks call xs → AddressesAscend (map (λ (x : Exchange). x.request.node) xs)
nodes_once_ascending client picks call command xs t legal = by (plan client picks call) refl legal
  where
    by : (o : Result (List Dispatch) Refusal) → plan client picks call ≡ o → MatchResult o (λ ds. AreMade client (task_of call) ds xs) (λ refusal. xs ≡ []) → AddressesAscend (map (λ (x : Exchange). x.request.node) xs)
    by (Ok ds) e l =
        let m : requests xs ≡ map direct ds = subst (λ q. AreMade client q ds xs) t l in
        subst AddressesAscend (sym (sent_nodes xs ds m)) (several_ascend client picks command ds (subst (λ task. Planned client picks task ds) t (planned client picks call ds e)))
    by (Err r) e l = subst (λ zs. AddressesAscend (map (λ (x : Exchange). x.request.node) zs)) (sym l) tt
