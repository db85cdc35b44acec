-- What the plan of a pipeline sends: each command whole, to its slot's primary.
use Rattle.std.proofs.Common.{◌≡◌, ℕ, suc, Bool, true, false, cond, ◌||◌, nat_eq, List, [], ◌∷◌, map, Option, Some, None, option_map, Result, Ok, Err, MatchOption, refl, sym, ap, ◌∙◌, subst, eqb-true}
use Rattle.std.specs.List.{AllByRecursion}
use Rattle.resp_core.specs.Trees.{Tree}
use Rattle.resp_core.specs.Errors.{Refusal, by_cause}
use Rattle.resp_core.specs.declared.errors.redis_error.Cause.TheVariants.{NoLink}
use Rattle.resp_args.specs.Command.{Command}
use Rattle.resp_args.specs.Packed.{sent}
use Rattle.resp_args.specs.declared.cmd.Arg.TheVariants.{Simple}
use Rattle.cluster_routing.specs.Address.{Address}
use Rattle.cluster_routing.specs.Lists.{Pairwise, among}
use Rattle.cluster_routing.specs.Parts.{Tuple, tuple_slot}
use Rattle.cluster_routing.specs.Routing.{Destination, to_any_node, to_any_primary, to_route, to_address, to_all_nodes, to_all_primaries, to_parts, route_to, destination}
use Rattle.cluster_routing.specs.SlotMap.{Nodes, nodes_at}
use Rattle.cluster_routing.specs.Split.{Split, split_of, part_slots}
use Rattle.cluster_routing.specs.declared.route.Route.{Route}
use Rattle.cluster_routing.specs.declared.route.SlotAddr.TheVariants.{Master}
use Rattle.cluster_routing.specs.declared.policy.ResponsePolicy.{ResponsePolicy}
use Rattle.cluster_calls.specs.Links.World.{is_linked}
use Rattle.cluster_calls.specs.Calls.Call.{Entry}
use Rattle.cluster_calls.specs.Calls.Parts.{Target, at_slot, at_number, at_node, Part, part_to, slot_part, parts_of, if_at_slot, whole_part, reads_several_slots, if_one_slot, with_whole, pipeline_parts}
use Rattle.cluster_calls.specs.Calls.Plan.{Client, Dispatch, first_by, first_of, read_candidates, with_first, dispatch_one, dispatches}
use Rattle.cluster_calls.specs.Calls.Replies.{args_slot, slot_by, first_tuple_slot, route_slot}
use Rattle.cluster_calls.specs.OneServer.Laws.{GapsNameNoKey}
use Rattle.cluster_calls.specs.OneServer.Keyspace.{Step}
use Rattle.cluster_calls.specs.OneServer.Meaning.{LeadsToSlot, DoCommand, DoesTuple, IsWholeStep, tree_of_steps, step_trees}
use Rattle.cluster_calls.proofs.ServerLaws.Distinct.{among-firsts}
use Rattle.cluster_routing.proofs.Recut.{cut_of}
use Rattle.cluster_calls.proofs.LogLaws.Plans.{role, split_parts_are, whole_route, tuples_among, all-weaker}

-- whatever does the command does it on its slot
abbrev pub IsOneSlot : List (List ℕ) → Type 0
IsOneSlot args = (st : List Step) (tree : Tree) → DoCommand args st tree → AllByRecursion (λ (x : Step). x.slot ≡ args_slot args) st

one_slot_tuples : (policy : ResponsePolicy) (word : List ℕ) (shared : List (List ℕ)) (n : ℕ) (ts : List Tuple) (st : List Step) → AllByRecursion (λ t. tuple_slot t ≡ n) ts → Pairwise (DoesTuple policy word shared) ts st → AllByRecursion (λ (x : Step). x.slot ≡ n) st
one_slot_tuples policy word shared n [] [] a h = tt
one_slot_tuples policy word shared n [] (x ∷ st) a h = absurd h
one_slot_tuples policy word shared n (t ∷ ts) [] a h = absurd h
one_slot_tuples policy word shared n (t ∷ ts) (x ∷ st) a h = (h.0.slot ∙ a.0, one_slot_tuples policy word shared n ts st a.1 h.1)

first_slot : (n : ℕ) (ts : List Tuple) (st : List Step) → AllByRecursion (λ t. tuple_slot t ≡ n) ts → AllByRecursion (λ (x : Step). x.slot ≡ n) st → (ts ≡ [] → st ≡ []) → AllByRecursion (λ (x : Step). x.slot ≡ first_tuple_slot ts) st
first_slot n [] st a h e = subst (AllByRecursion (λ (x : Step). x.slot ≡ 0)) (sym (e refl)) tt
first_slot n (t ∷ ts) st a h e = subst (λ m. AllByRecursion (λ (x : Step). x.slot ≡ m) st) (sym a.0) h

pub leads_slot : (n : ℕ) (o : Option Destination) → LeadsToSlot n o → route_slot o ≡ n
leads_slot n None h = absurd h
leads_slot n (Some (to_route route)) h = h
leads_slot n (Some to_any_node) h = absurd h
leads_slot n (Some to_any_primary) h = absurd h
leads_slot n (Some (to_address a)) h = absurd h
leads_slot n (Some (to_all_nodes p)) h = absurd h
leads_slot n (Some (to_all_primaries p)) h = absurd h
leads_slot n (Some (to_parts ps pattern p)) h = absurd h

-- a command routes as the arguments that it is sent as
abbrev pub GapsStay : Command → Type 0
GapsStay command = (route : Route) → destination command.args [] ≡ Some (to_route route) → destination (map (λ bytes. Simple bytes) (sent command)) [] ≡ Some (to_route route)

module _ (command : Command) (part : Part) (p : parts_of [] command 0 ≡ Ok (part ∷ [])) where
  pub one_part : (split : Split) (ks : List ℕ) → part ∷ [] ≡ map (slot_part (role [] command 0 (part ∷ [])) split) ks → (k : ℕ) × (ks ≡ k ∷ [])
  one_part split [] e = cc
  one_part split (k ∷ []) e = (k, refl)
  one_part split (k ∷ k2 ∷ ks) e = cc

  pub whole_one_slot : IsOneSlot (sent command)
  whole_one_slot st tree does = by (split_of (sent command)) refl does
    where
      empty : (split : Split) → Pairwise (DoesTuple split.splitting.policy split.word split.shared) split.tuples st → split.tuples ≡ [] → st ≡ []
      empty split h e = none st (subst (λ ts. Pairwise (DoesTuple split.splitting.policy split.word split.shared) ts st) e h)
        where
          none : (q : List Step) → Pairwise (DoesTuple split.splitting.policy split.word split.shared) [] q → q ≡ []
          none [] h = refl
          none (x ∷ q) h = absurd h

      or_none : (b : Bool) → (b || false) ≡ true → b ≡ true
      or_none true h = h
      or_none false h = h

      by : (o : Option Split) → split_of (sent command) ≡ o
          → MatchOption o ((x : Step) × (st ≡ x ∷ []) × IsWholeStep (sent command) x tree) (λ sp. Pairwise (DoesTuple sp.splitting.policy sp.word sp.shared) sp.tuples st × (tree ≡ tree_of_steps sp.splitting.policy (step_trees st)))
          → AllByRecursion (λ (x : Step). x.slot ≡ args_slot (sent command)) st
      by None e d =
          subst (AllByRecursion (λ (x : Step). x.slot ≡ args_slot (sent command))) (sym d.1)
          (sym (ap (slot_by (sent command)) e ∙ leads_slot d.0.slot (destination (map (λ bytes. Simple bytes) (sent command)) []) d.2.slot), tt)
      by (Some split) e d =
          let ks = one_part split (part_slots split.tuples) (split_parts_are [] command 0 (part ∷ []) split e p) in
          let all : AllByRecursion (λ t. tuple_slot t ≡ ks.0) split.tuples =
          all-weaker (λ t. among nat_eq (tuple_slot t) (map tuple_slot split.tuples) ≡ true) (λ t. tuple_slot t ≡ ks.0)
          (λ t g. eqb-true (tuple_slot t) ks.0 (or_none (nat_eq (tuple_slot t) ks.0) (subst (λ q. among nat_eq (tuple_slot t) q ≡ true) ks.1 (among-firsts nat_eq eqb-true (tuple_slot t) (map tuple_slot split.tuples) g))))
          split.tuples (tuples_among split.tuples) in
          subst (λ n. AllByRecursion (λ (x : Step). x.slot ≡ n) st) (sym (ap (slot_by (sent command)) e))
          (first_slot ks.0 split.tuples st all (one_slot_tuples split.splitting.policy split.word split.shared ks.0 split.tuples st all d.0) (empty split d.0))

  -- the route's slot is that of the arguments that are sent
  pub target_slot : GapsStay command → (route : Route) → part.target ≡ at_slot route → route.slot ≡ args_slot (sent command)
  target_slot stay route t = by (split_of (sent command)) refl
    where
      first_part : (split : Split) (ts : List Tuple) → split.tuples ≡ ts → (u : Tuple) × (us : List Tuple) × (ts ≡ u ∷ us) → part ∷ [] ≡ map (slot_part (role [] command 0 (part ∷ [])) split) (part_slots ts) → route.slot ≡ first_tuple_slot ts
      first_part split [] e some m = cc
      first_part split (u ∷ us) e some m =
          let same : part ≡ slot_part (role [] command 0 (part ∷ [])) split (tuple_slot u) = cc in
          let target : at_slot route ≡ at_slot (route_to (role [] command 0 (part ∷ [])) (tuple_slot u)) = sym t ∙ ap (λ (q : Part). q.target) same in
          let r : route ≡ route_to (role [] command 0 (part ∷ [])) (tuple_slot u) = cc in
          ap (λ (q : Route). q.slot) r

      by : (o : Option Split) → split_of (sent command) ≡ o → route.slot ≡ args_slot (sent command)
      by None e =
          let d = stay route (whole_route [] command 0 (part ∷ []) e p part refl route t) in
          sym (ap (slot_by (sent command)) e ∙ ap route_slot d)
      by (Some split) e =
          let c = cut_of (sent command) split e in
          first_part split split.tuples refl c.some (split_parts_are [] command 0 (part ∷ []) split e p) ∙ sym (ap (slot_by (sent command)) e)

-- the part is the whole command, to the primary of its slot
pub record IsWholePart (e : Entry) (part : Part) : Type 0 where
  pub args : part.args ≡ sent e.command
  pub target : part.target ≡ at_slot (route_to Master (args_slot (sent e.command)))
  pub one : IsOneSlot (sent e.command)

pub whole_parts_are : (entries : List Entry) (position : ℕ) (parts : List Part) → AllByRecursion (λ (e : Entry). GapsStay e.command) entries → pipeline_parts position entries ≡ Ok parts → Pairwise IsWholePart entries parts
whole_parts_are [] position parts stay e = let n : [] ≡ parts = cc in subst (Pairwise IsWholePart []) n tt
whole_parts_are (x ∷ xs) position parts stay e = one_slot (reads_several_slots x.command.args) e (λ q f. whole_parts_are xs (suc position) q stay.1 f)
  where
    IH : Type 0
    IH = (q : List Part) → pipeline_parts (suc position) xs ≡ Ok q → Pairwise IsWholePart xs q

    others : (part : Part) → IsWholePart x part → (o : Result (List Part) Refusal) → pipeline_parts (suc position) xs ≡ o → with_whole position (Some part) o ≡ Ok parts → IH → Pairwise IsWholePart (x ∷ xs) parts
    others part w (Ok q) f e ih = let n : part ∷ q ≡ parts = cc in subst (Pairwise IsWholePart (x ∷ xs)) n (w, ih q f)
    others part w (Err r) f e ih = cc

    at_target : (part : Part) → parts_of [] x.command 0 ≡ Ok (part ∷ []) → (t : Target) → part.target ≡ t → with_whole position (if_at_slot (sent x.command) t) (pipeline_parts (suc position) xs) ≡ Ok parts → IH → Pairwise IsWholePart (x ∷ xs) parts
    at_target part p (at_number n) t e ih = cc
    at_target part p (at_node n) t e ih = cc
    at_target part p (at_slot route) t e ih =
        others (part_to (sent x.command) (at_slot (route_to Master route.slot)))
        (record { args = refl; target = ap (λ n. at_slot (route_to Master n)) (target_slot x.command part p stay.0 route t); one = whole_one_slot x.command part p }) (pipeline_parts (suc position) xs) refl e ih

    whole : (o : Result (List Part) Refusal) → parts_of [] x.command 0 ≡ o → with_whole position (whole_part (sent x.command) o) (pipeline_parts (suc position) xs) ≡ Ok parts → IH → Pairwise IsWholePart (x ∷ xs) parts
    whole (Ok []) p e ih = cc
    whole (Ok (part ∷ part2 ∷ more)) p e ih = cc
    whole (Err r) p e ih = cc
    whole (Ok (part ∷ [])) p e ih = at_target part p part.target refl e ih

    one_slot : (b : Bool) → with_whole position (if_one_slot b (whole_part (sent x.command) (parts_of [] x.command 0))) (pipeline_parts (suc position) xs) ≡ Ok parts → IH → Pairwise IsWholePart (x ∷ xs) parts
    one_slot true e ih = cc
    one_slot false e ih = whole (parts_of [] x.command 0) refl e ih

gaps_stay : GapsNameNoKey → (entries : List Entry) → AllByRecursion (λ (e : Entry). GapsStay e.command) entries
gaps_stay gaps [] = tt
gaps_stay gaps (x ∷ xs) = (λ route h. gaps x.command [] route h, gaps_stay gaps xs)

pub pipeline_parts_are : GapsNameNoKey → (entries : List Entry) (position : ℕ) (parts : List Part) → pipeline_parts position entries ≡ Ok parts → Pairwise IsWholePart entries parts
pipeline_parts_are gaps entries position parts e = whole_parts_are entries position parts (gaps_stay gaps entries) e

-- the primary of a slot, or any address where it has none
abbrev pub primary_or_none : Option Nodes → Address
primary_or_none None = record { host = []; port = 0 }
primary_or_none (Some nodes) = nodes.primary

abbrev pub primary_of : Client → ℕ → Address
primary_of client slot = primary_or_none (nodes_at slot client.entries)

-- each part goes to its slot's primary
pub pipeline_nodes : (client : Client) (entries : List Entry) (parts : List Part) (picks : List Address) (ds : List Dispatch) → Pairwise IsWholePart entries parts → dispatches client picks parts ≡ Ok ds
    → AllByRecursion (λ (d : Dispatch). d.node ≡ primary_of client (args_slot d.args)) ds
pipeline_nodes client [] [] picks ds w e = let n : [] ≡ ds = cc in subst (AllByRecursion (λ (d : Dispatch). d.node ≡ primary_of client (args_slot d.args))) n tt
pipeline_nodes client [] (part ∷ parts) picks ds w e = absurd w
pipeline_nodes client (x ∷ xs) [] picks ds w e = absurd w
pipeline_nodes client (x ∷ xs) (part ∷ parts) picks ds w e =
    at_nodes (nodes_at slot client.entries) refl (subst (λ t. dispatch_one client.links part (first_of client.entries picks t) (λ left. dispatches client left parts) ≡ Ok ds) w.0.target e) (λ left q f. pipeline_nodes client xs parts left q w.1 f)
  where
    slot : ℕ
    slot = args_slot (sent x.command)

    IH : Type 0
    IH = (left : List Address) (q : List Dispatch) → dispatches client left parts ≡ Ok q → AllByRecursion (λ (d : Dispatch). d.node ≡ primary_of client (args_slot d.args)) q

    at_rest : (node : Address) → node ≡ primary_of client slot → (o : Result (List Dispatch) Refusal) → dispatches client picks parts ≡ o → with_first (record { node = node; args = part.args }) o ≡ Ok ds → IH
        → AllByRecursion (λ (d : Dispatch). d.node ≡ primary_of client (args_slot d.args)) ds
    at_rest node here (Ok q) h f ih =
        let n : record { node = node; args = part.args } ∷ q ≡ ds = cc in
        subst (AllByRecursion (λ (d : Dispatch). d.node ≡ primary_of client (args_slot d.args))) n (here ∙ ap (λ a. primary_of client (args_slot a)) (sym w.0.args), ih picks q h)
    at_rest node here (Err r) h f ih = cc

    at_link : (b : Bool) (node : Address) → node ≡ primary_of client slot → cond b (with_first (record { node = node; args = part.args }) (dispatches client picks parts)) (Err (by_cause NoLink)) ≡ Ok ds → IH
        → AllByRecursion (λ (d : Dispatch). d.node ≡ primary_of client (args_slot d.args)) ds
    at_link true node here f ih = at_rest node here (dispatches client picks parts) refl f ih
    at_link false node here f ih = cc

    at_nodes : (o : Option Nodes) → nodes_at slot client.entries ≡ o → dispatch_one client.links part (option_map (λ (nodes : Nodes). first_by (read_candidates (route_to Master slot) nodes) nodes.primary picks) o) (λ left. dispatches client left parts) ≡ Ok ds → IH
        → AllByRecursion (λ (d : Dispatch). d.node ≡ primary_of client (args_slot d.args)) ds
    at_nodes None s f ih = cc
    at_nodes (Some nodes) s f ih = at_link (is_linked client.links nodes.primary) nodes.primary (sym (ap primary_or_none s)) f ih
