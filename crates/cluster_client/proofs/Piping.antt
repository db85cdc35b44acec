-- A pipeline's call, from the link calls of its groups and the reply that is made of theirs.
use Rattle.std.specs.Prelude.{filter, nat_eq, unwrap_or, ◌||◌}
use Rattle.std.specs.List.{AllByRecursion}
use Rattle.std.proofs.Common.{◌≡◌, ◌≢◌, ◌<◌, ℕ, ◌==◌, false, List, [], ◌∷◌, ◌++◌, map, length, Option, Result, Ok, Err, refl, sym, ap, ◌∙◌, subst, inl, inr}
use Rattle.std.proofs.lemmas.Bool.{false≢true}
use Rattle.std.proofs.lemmas.List.{length-map}
use Rattle.resp_core.specs.Trees.{Tree, nil}
use Rattle.resp_core.specs.Errors.{Refusal, by_cause}
use Rattle.resp_core.specs.declared.errors.redis_error.Cause.TheVariants.{Memory}
use Rattle.resp_args.specs.Packed.{sent}
use Rattle.cluster_routing.specs.Address.{Address, same_address}
use Rattle.cluster_routing.specs.Choice.{Strategy}
use Rattle.cluster_routing.specs.Combine.{array_of}
use Rattle.cluster_routing.specs.Info.{texts}
use Rattle.cluster_routing.specs.Lists.{among, concat, draw, firsts, IsDistinct, Pairwise}
use Rattle.cluster_calls.specs.Links.Request.{Request}
use Rattle.cluster_calls.specs.Links.Log.{Exchange}
use Rattle.cluster_calls.specs.Links.World.{World, Node, place_at}
use Rattle.cluster_calls.specs.Links.Faults.{LinkFault}
use Rattle.cluster_calls.specs.Links.Events.{Event, exchanges_of, faults_of}
use Rattle.cluster_calls.specs.Links.PipeReplies.{errors_in, pipeline_result}
use Rattle.cluster_calls.specs.Links.Converted.{value_answer}
use Rattle.cluster_calls.specs.Links.Happened.{client_of, Happened, CallMade}
use Rattle.cluster_calls.specs.Links.Lacking.{MayLack}
use Rattle.cluster_calls.specs.Links.Run.{with_log}
use Rattle.cluster_calls.specs.Calls.Answer.{Value}
use Rattle.cluster_calls.specs.Calls.Call.{Entry, Pipeline}
use Rattle.cluster_calls.specs.Calls.Legal.{IsLegalCall, node_groups}
use Rattle.cluster_calls.specs.Calls.Parts.{Part, pipeline_parts, result_then, unless}
use Rattle.cluster_calls.specs.Calls.Picks.{ArePicks}
use Rattle.cluster_calls.specs.Calls.Plan.{Client, Dispatch, dispatches, plan}
use Rattle.cluster_calls.specs.Calls.Refusals.{errors_from, errors_refusal, pipeline_refusal}
use Rattle.cluster_calls.specs.Calls.Replies.{args_slot, in_pipeline_order, not_ignored, pipeline_reply, reply_or_nil}
use Rattle.cluster_calls.specs.Calls.Task.{pipeline_of}
use Rattle.cluster_calls.proofs.LinkLaws.FaultsAgree.{agrees}
use Rattle.cluster_calls.proofs.LinkLaws.LackingLists.{some_events, value_lacked}
use Rattle.cluster_calls.proofs.LinkLaws.LinkCalls.{AreLinkCalls}
use Rattle.cluster_calls.proofs.LinkLaws.LinkRuns.{or_parts}
use Rattle.cluster_calls.proofs.LinkLaws.MovedLaws.{answered_plain}
use Rattle.cluster_calls.proofs.LinkLaws.PartedCalls.{happened_by}
use Rattle.cluster_calls.proofs.LinkLaws.PipeErrors.{all_answered, same_errors, value_or}
use Rattle.cluster_calls.proofs.LinkLaws.Played.{call_made}
use Rattle.cluster_calls.proofs.Lists.{same_values}
use Rattle.cluster_calls.proofs.LogLaws.PipePlans.{IsWholePart, pipeline_nodes, primary_of, whole_parts_are}
use Rattle.cluster_calls.proofs.LogLaws.Plans.{IsFor, dispatches_for}
use Rattle.cluster_steps.specs.Requests.{CodeDispatch}
use Rattle.cluster_steps.specs.Dispatches.{IsPlaced, IsPlanned, dispatch_of}
use Rattle.cluster_steps.specs.Groups.{NodeRequests, group_at, place_in, request_in}
use Rattle.cluster_steps.specs.GroupRuns.{GroupByGroup, AreGroupResults, GroupsMade, request_lists}
use Rattle.cluster_steps.specs.Queues.{queued, no_queues}
use Rattle.cluster_steps.proofs.GroupCalls.{all_replied}
use Rattle.cluster_steps.proofs.PipeGroups.{all_both, all_unmapped, by_node, groups_are, groups_distinct, map_twice, node_of}
use Rattle.cluster_steps.proofs.PipeOrder.{replies_drawn}
use Rattle.cluster_client.proofs.PipeParts.{gaps_stay_so}

-- ---- what the plan says of the dispatches

pub record AreOfSlots (client : Client) (entries : List Entry) (ds : List Dispatch) : Type 0 where
  pub slots : map (λ (e : Entry). args_slot (sent e.command)) entries ≡ map (λ (d : Dispatch). args_slot d.args) ds
  pub nodes : AllByRecursion (λ (d : Dispatch). d.node ≡ primary_of client (args_slot d.args)) ds

slots_of : (entries : List Entry) (parts : List Part) (ds : List Dispatch) → Pairwise IsWholePart entries parts → Pairwise IsFor parts ds
    → map (λ (e : Entry). args_slot (sent e.command)) entries ≡ map (λ (d : Dispatch). args_slot d.args) ds
slots_of = same_values IsWholePart IsFor (λ (e : Entry). args_slot (sent e.command)) (λ (d : Dispatch). args_slot d.args) (λ e part d w f. ap args_slot (sym (f ∙ w.args)))

as_they_are : (o : Result (List Dispatch) Refusal) (ds : List Dispatch) → result_then o (λ ds. Ok ds) ≡ Ok ds → o ≡ Ok ds
as_they_are (Ok es) ds e = e
as_they_are (Err refusal) ds e = cc

by_parts : (client : Client) (entries : List Entry) (picks : List Address) (ds : List Dispatch) (o : Result (List Part) Refusal) → pipeline_parts 0 entries ≡ o
    → result_then o (λ parts. result_then (dispatches client picks parts) (λ ds. Ok ds)) ≡ Ok ds → AreOfSlots client entries ds
by_parts client entries picks ds (Err refusal) p e = cc
by_parts client entries picks ds (Ok parts) p e =
    let d = as_they_are (dispatches client picks parts) ds e in
    let w = whole_parts_are entries 0 parts (gaps_stay_so entries) p in
    record { slots = slots_of entries parts ds w (dispatches_for client parts picks ds d); nodes = pipeline_nodes client entries parts picks ds w d }

pub are_of_slots : (client : Client) (entries : List Entry) (picks : List Address) (ds : List Dispatch) → plan client picks (Pipeline entries) ≡ Ok ds → AreOfSlots client entries ds
are_of_slots client entries picks ds e = by_parts client entries picks ds (pipeline_parts 0 entries) refl e

-- ---- the answer

-- the reply is made of what came from each place; a group's refusal refuses the call, and memory may be refused when all were answered
abbrev pub IsMadeOfGroups : List Entry → List CodeDispatch → Result (List (ℕ × List Tree)) Refusal → Result Tree Refusal → Type 0
IsMadeOfGroups entries cds (Ok answers) reply = reply ≢ Err (by_cause Memory) → reply ≡ pipeline_result entries (draw (map place_in cds) (queued no_queues answers))
IsMadeOfGroups entries cds (Err refusal) reply = reply ≡ Err refusal

abbrev as_one : Result (List (ℕ × List Tree)) Refusal → Result Tree Refusal
as_one (Ok answers) = Ok nil
as_one (Err refusal) = Err refusal

groups_had : (entries : List Entry) (cds : List CodeDispatch) (result : Result (List (ℕ × List Tree)) Refusal) (reply : Result Tree Refusal) → IsMadeOfGroups entries cds result reply → reply ≢ Err (by_cause Memory) → result ≢ Err (by_cause Memory)
groups_had entries cds (Ok answers) reply made had = λ e. cc
groups_had entries cds (Err refusal) reply made had = λ e. had (made ∙ ap as_one e)

-- ---- the call

distinct_front : (xs ys : List Address) → IsDistinct same_address (xs ++ ys) → IsDistinct same_address xs
distinct_front [] ys d = tt
distinct_front (x ∷ xs) ys d = (front xs d.0, distinct_front xs ys d.1)
  where
    front : (zs : List Address) → among same_address x (zs ++ ys) ≡ false → among same_address x zs ≡ false
    front [] e = refl
    front (z ∷ zs) e = let parts = or_parts (same_address x z) (among same_address x (zs ++ ys)) e in ap (λ b. b || among same_address x zs) parts.0 ∙ front zs parts.1

map_self : (ns : List ℕ) → map (λ n. n) ns ≡ ns
map_self [] = refl
map_self (n ∷ ns) = ap (λ r. n ∷ r) (map_self ns)

-- where a slot's commands go
abbrev slot_place : List Node → Client → ℕ → ℕ
slot_place ns client slot = unwrap_or (place_at ns (primary_of client slot)) 0

module _ (cds : List CodeDispatch) where
  abbrev pub pipe_groups : List NodeRequests
  pipe_groups = map (group_at cds) (firsts nat_eq (map place_in cds))

  pub group_links : map (λ (g : NodeRequests). g.link) pipe_groups ≡ firsts nat_eq (map place_in cds)
  group_links = map_twice (group_at cds) (λ (g : NodeRequests). g.link) (firsts nat_eq (map place_in cds)) ∙ map_self (firsts nat_eq (map place_in cds))

  each_count : (answers : List (ℕ × List Tree)) (order : List ℕ) → map (λ (a : ℕ × List Tree). a.0) answers ≡ order → map (λ (a : ℕ × List Tree). length a.1) answers ≡ map (λ k. length (map request_in (filter (λ c. k == place_in c) cds))) order
      → AllByRecursion (λ (a : ℕ × List Tree). length a.1 ≡ length (filter (λ c. a.0 == place_in c) cds)) answers
  each_count [] order e f = tt
  each_count (a ∷ answers) [] e f = cc
  each_count (a ∷ answers) (k ∷ ks) e f =
      let first : a.0 ≡ k = cc in
      let count : length a.1 ≡ length (map request_in (filter (λ c. k == place_in c) cds)) = cc in
      let more : map (λ (a : ℕ × List Tree). a.0) answers ≡ ks = cc in
      let later : map (λ (a : ℕ × List Tree). length a.1) answers ≡ map (λ k. length (map request_in (filter (λ c. k == place_in c) cds))) ks = cc in
      (count ∙ length-map (filter (λ c. k == place_in c) cds) request_in ∙ ap (λ n. length (filter (λ c. n == place_in c) cds)) (sym first), each_count answers ks more later)

  args_of_groups : (ks : List ℕ) → map (λ (q : Request). q.args) (concat (request_lists (map (group_at cds) ks))) ≡ concat (map (λ k. map (λ (c : CodeDispatch). texts c.args.items) (filter (λ c. k == place_in c) cds)) ks)
  args_of_groups [] = refl
  args_of_groups (k ∷ ks) =
      map_joined (map request_in (filter (λ c. k == place_in c) cds)) (concat (request_lists (map (group_at cds) ks)))
      ∙ ap (λ r. r ++ map (λ (q : Request). q.args) (concat (request_lists (map (group_at cds) ks)))) (map_twice request_in (λ (q : Request). q.args) (filter (λ c. k == place_in c) cds))
      ∙ ap (λ r. map (λ (c : CodeDispatch). texts c.args.items) (filter (λ c. k == place_in c) cds) ++ r) (args_of_groups ks)
    where
      map_joined : (qs rs : List Request) → map (λ (q : Request). q.args) (qs ++ rs) ≡ map (λ (q : Request). q.args) qs ++ map (λ (q : Request). q.args) rs
      map_joined [] rs = refl
      map_joined (q ∷ qs) rs = ap (λ r. q.args ∷ r) (map_joined qs rs)

  place_known : (ns : List Node) (client : Client) (es : List CodeDispatch) → AllByRecursion (IsPlaced ns) es → AllByRecursion (λ c. node_of c ≡ primary_of client (args_slot (texts c.args.items))) es
      → AllByRecursion (λ c. place_in c ≡ slot_place ns client (args_slot (texts c.args.items))) es
  place_known ns client es p n =
      all_both (IsPlaced ns) (λ c. node_of c ≡ primary_of client (args_slot (texts c.args.items))) (λ c. place_in c ≡ slot_place ns client (args_slot (texts c.args.items)))
      (λ c q m. sym (ap (λ o. unwrap_or o 0) (ap (place_at ns) (sym m) ∙ q.place.place))) es p n

  -- the replies in pipeline order are those that are drawn
  in_order : (ns : List Node) (client : Client) (entries : List Entry) → AllByRecursion (IsPlaced ns) cds → AreOfSlots client entries (map dispatch_of cds) → (faults : Address → LinkFault) (xs : List Exchange) (answers : List (ℕ × List Tree))
      → AreGroupResults faults pipe_groups xs (Ok answers) → map reply_or_nil (in_pipeline_order entries xs) ≡ draw (map place_in cds) (queued no_queues answers)
  in_order ns client entries placed slots faults xs answers (places, counts, sent_all, replied) =
      let keys : map (λ (a : ℕ × List Tree). a.0) answers ≡ firsts nat_eq (map place_in cds) = places ∙ group_links in
      replies_drawn place_in (λ (c : CodeDispatch). texts c.args.items) cds answers keys
      (each_count answers (firsts nat_eq (map place_in cds)) keys (counts ∙ map_twice (group_at cds) (λ (g : NodeRequests). length g.requests) (firsts nat_eq (map place_in cds))))
      (slot_place ns client)
      (place_known ns client cds placed (all_unmapped (λ (d : Dispatch). d.node ≡ primary_of client (args_slot d.args)) dispatch_of cds slots.nodes))
      entries xs (slots.slots ∙ map_twice dispatch_of (λ (d : Dispatch). args_slot d.args) cds)
      (sym (map_twice (λ (x : Exchange). x.request) (λ (q : Request). q.args) xs) ∙ ap (map (λ (q : Request). q.args)) sent_all ∙ args_of_groups (firsts nat_eq (map place_in cds)))
      replied

  told : (ns : List Node) (client : Client) (entries : List Entry) → AllByRecursion (IsPlaced ns) cds → AreOfSlots client entries (map dispatch_of cds) → (faults : Address → LinkFault) (xs : List Exchange) (result : Result (List (ℕ × List Tree)) Refusal) (reply : Result Tree Refusal)
      → AreGroupResults faults pipe_groups xs result → IsMadeOfGroups entries cds result reply → reply ≢ Err (by_cause Memory)
      → value_answer reply ≡ unless (pipeline_refusal faults xs (errors_from 0 (in_pipeline_order entries xs))) (Ok (Value (pipeline_reply entries xs)))
  told ns client entries placed slots faults xs (Err refusal) reply tells made had =
      ap value_answer made ∙ ap (λ why. unless why (Ok (Value (pipeline_reply entries xs)))) (sym (tells (errors_from 0 (in_pipeline_order entries xs))))
  told ns client entries placed slots faults xs (Ok answers) reply tells made had =
      let trees = draw (map place_in cds) (queued no_queues answers) in
      let are : map reply_or_nil (in_pipeline_order entries xs) ≡ trees = in_order ns client entries placed slots faults xs answers tells in
      let errors : errors_from 0 (in_pipeline_order entries xs) ≡ errors_in 0 trees = same_errors 0 (in_pipeline_order entries xs) ∙ ap (errors_in 0) are in
      ap value_answer (made had) ∙ value_or (errors_refusal (errors_in 0 trees)) (array_of (not_ignored entries trees))
      ∙ ap (λ ts. unless (errors_refusal (errors_in 0 trees)) (Ok (Value (array_of (not_ignored entries ts))))) (sym are)
      ∙ ap (λ why. unless why (Ok (Value (pipeline_reply entries xs))))
      (sym (ap (pipeline_refusal faults xs) errors ∙ all_answered faults xs (errors_in 0 trees) (all_replied xs (concat (map (λ (a : ℕ × List Tree). a.1) answers)) tells.3)))

module _ (strategy : Option Strategy) (old new : World) (entries : List Entry) (cds : List CodeDispatch) (result : Result (List (ℕ × List Tree)) Refusal)
    (planned : plan (client_of old) [] (Pipeline entries) ≡ Ok (map dispatch_of cds)) (picked : ArePicks strategy (client_of old) (Pipeline entries) []) (placed : AllByRecursion (IsPlaced old.nodes) cds)
    (m : GroupsMade (with_log old [] []) new (pipe_groups cds) result) where
  pub plans : plan (client_of old) new.picked (Pipeline entries) ≡ Ok (map dispatch_of cds)
  plans = subst (λ ps. plan (client_of old) ps (Pipeline entries) ≡ Ok (map dispatch_of cds)) (sym m.picked) planned

  pub are : ArePicks strategy (client_of old) (Pipeline entries) new.picked
  are = subst (λ ps. ArePicks strategy (client_of old) (Pipeline entries) ps) (sym m.picked) picked

  pub legal : (xs : List Exchange) → GroupByGroup (request_lists (pipe_groups cds)) xs → IsLegalCall (client_of old) new.picked (Pipeline entries) xs
  legal xs parts = rw plans (by_node (node_groups (map dispatch_of cds)) xs (subst (λ qss. GroupByGroup qss xs) (sym (groups_are old.nodes cds placed)) parts))

  pub once : AreLinkCalls (pipeline_of entries) m.events
  once = distinct_front (map (λ (x : Event). x.node) m.events) m.unasked (subst (IsDistinct same_address) (sym m.in_order) (groups_distinct old.nodes cds placed))

  abbrev pub happened : Happened strategy old new (Pipeline entries)
  happened =
      happened_by strategy old new (Pipeline entries) [] m.events (record { runs = m.runs; logged = m.logged; flag = m.flag; keeps = record { entries = m.entries; settings = m.settings; picked = m.picked } }) m.stops once are
      (λ place. record { later = (m.begins place).0; legal = legal (exchanges_of place m.events ++ (m.begins place).0) (m.begins place).1 })

  -- the call was made
  pub pipeline_made : (reply : Result Tree Refusal) → IsMadeOfGroups entries cds result reply → CallMade strategy old new (Pipeline entries) (value_answer reply)
  pipeline_made reply made =
      call_made strategy old new (Pipeline entries) (value_answer reply) happened
      (λ had.
      let there : reply ≢ Err (by_cause Memory) = λ e. had (ap value_answer e) in
      let a = m.answered (groups_had entries cds result reply made there) in
      let slots = are_of_slots (client_of old) entries new.picked (map dispatch_of cds) plans in
      answered_plain strategy old new (Pipeline entries) (value_answer reply) happened refl once (λ e. a.memory) m.logged are
      (λ place. legal (exchanges_of place m.events) (a.whole place))
      (λ faults agrees place. rw plans (told cds old.nodes (client_of old) entries placed slots faults (exchanges_of place m.events) result reply (a.tells faults agrees place) made there)))
      (λ e n. absurd (false≢true n))
      (λ e none. m.picked)
      (λ e some. by result refl made (value_lacked reply e) (some_events new.log m.events m.logged some))
    where
      by : (r : Result (List (ℕ × List Tree)) Refusal) → result ≡ r → IsMadeOfGroups entries cds r reply → reply ≡ Err (by_cause Memory) → m.events ≢ [] → MayLack (client_of old) new.picked (Pipeline entries) m.events
      by (Ok answers) is all lacks some = inr (inr (λ place. legal (exchanges_of place m.events) ((m.answered (λ k. cc)).whole place)))
      by (Err refusal) is one lacks some = let same : refusal ≡ by_cause Memory = let told = sym one ∙ lacks in cc in inl (m.room (is ∙ ap (λ k. Err k) same) some)

-- the same from what the code says of its steps
pub reply_made : (strategy : Option Strategy) (old mid new : World) (entries : List Entry) (cds : List CodeDispatch) (gs : List NodeRequests) (result : Result (List (ℕ × List Tree)) Refusal) (reply : Result Tree Refusal)
    → mid ≡ with_log old [] [] → IsPlanned strategy (client_of old) (Pipeline entries) [] (Ok (map dispatch_of cds)) → AllByRecursion (IsPlaced mid.nodes) cds → gs ≡ pipe_groups cds → GroupsMade mid new gs result → IsMadeOfGroups entries cds result reply
    → CallMade strategy old new (Pipeline entries) (value_answer reply)
reply_made strategy old mid new entries cds gs result reply stays planned placed grouped m made =
    pipeline_made strategy old new entries cds result planned.planned planned.picked (subst (λ (w : World). AllByRecursion (IsPlaced w.nodes) cds) stays placed)
    (subst (λ (w : World). GroupsMade w new (pipe_groups cds) result) stays (subst (λ hs. GroupsMade mid new hs result) grouped m)) reply made

-- ---- places of links

pub dispatches_within : (ns : List Node) (count : ℕ) (cds : List CodeDispatch) → length ns ≡ count → AllByRecursion (IsPlaced ns) cds → AllByRecursion (λ d. place_in d < count) cds
dispatches_within ns count [] e p = tt
dispatches_within ns count (d ∷ ds) e p = (subst (λ n. place_in d < n) e p.0.within, dispatches_within ns count ds e p.1)

-- each answer came from the place of its group
pub answered_links : (cds : List CodeDispatch) (gs : List NodeRequests) (old new : World) (answers : List (ℕ × List Tree)) → gs ≡ pipe_groups cds → GroupsMade old new gs (Ok answers) → map (λ (a : ℕ × List Tree). a.0) answers ≡ firsts nat_eq (map place_in cds)
answered_links cds gs old new answers same made =
    let m = subst (λ hs. GroupsMade old new hs (Ok answers)) same made in
    let told = (m.answered (λ k. cc k)).tells (faults_of m.events) (agrees old.nodes new.nodes m.events m.runs) 0 in
    told.0 ∙ group_links cds
