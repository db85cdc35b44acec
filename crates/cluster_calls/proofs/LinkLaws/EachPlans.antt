-- What a pipeline that tells of each of its positions sends: what the pipeline of its parts does, and no strategy is asked.
use Rattle.std.specs.Prelude.{◌||◌, is_some, option_and_then, MatchBool}
use Rattle.std.specs.List.{AllByRecursion}
use Rattle.std.proofs.Common.{◌≡◌, ℕ, suc, Bool, true, false, cond, List, [], ◌∷◌, ◌++◌, Option, Some, None, option_map, Result, Ok, Err, MatchOption, refl, sym, ap, ◌∙◌, subst}
use Rattle.resp_core.specs.Errors.{Refusal, at_position}
use Rattle.resp_args.specs.Packed.{sent}
use Rattle.cluster_routing.specs.Address.{Address}
use Rattle.cluster_routing.specs.Choice.{Strategy}
use Rattle.cluster_routing.specs.Lists.{Pairwise}
use Rattle.cluster_routing.specs.Routing.{route_to}
use Rattle.cluster_routing.specs.SlotMap.{Nodes, nodes_at}
use Rattle.cluster_routing.specs.Split.{Split}
use Rattle.cluster_routing.specs.declared.route.SlotAddr.TheVariants.{Master}
use Rattle.cluster_calls.specs.Links.World.{is_linked}
use Rattle.cluster_calls.specs.Calls.Call.{Entry, Pipeline, Each}
use Rattle.cluster_calls.specs.Calls.EachInParts.{each_plan}
use Rattle.cluster_calls.specs.Calls.InParts.{entries_by, first_unplaced, in_parts, split_at}
use Rattle.cluster_calls.specs.Calls.Parts.{Part, Target, pipeline_parts, result_then, unless}
use Rattle.cluster_calls.specs.Calls.Picks.{ArePartPicks, ArePicks, ArePicksOf, IsPick}
use Rattle.cluster_calls.specs.Calls.Plan.{Client, Dispatch, First, dispatches, first_by, first_of, plan, read_candidates, target_candidates}
use Rattle.cluster_calls.specs.Calls.Replies.{args_slot}
use Rattle.cluster_calls.proofs.LogLaws.EachInParts.{HasPart, entry_part, have_parts}
use Rattle.cluster_calls.proofs.LogLaws.Gaps.{every_gap_names_no_key}
use Rattle.cluster_calls.proofs.LogLaws.PipePlans.{IsWholePart, pipeline_parts_are}

-- ---- the plan

-- is that of the pipeline of the parts, where each command goes to slots
pub each_plan_is : (client : Client) (picks : List Address) (entries : List Entry) → plan client picks (Each entries) ≡ each_plan client picks entries
each_plan_is client picks entries = by (first_unplaced 0 entries)
  where
    sends : List Part → Result (List Dispatch) Refusal
    sends parts = result_then (dispatches client picks parts) (λ ds. Ok ds)

    by : (o : Option Refusal) → result_then (unless o (pipeline_parts 0 (in_parts entries))) sends ≡ unless o (result_then (pipeline_parts 0 (in_parts entries)) sends)
    by None = refl
    by (Some refusal) = refl

all-behind : {A : Type 0} (P : A → Type 0) (xs ys : List A) → AllByRecursion P (xs ++ ys) → AllByRecursion P ys
all-behind P [] ys h = h
all-behind P (x ∷ xs) ys h = all-behind P xs ys h.1

-- where each part goes out whole, each command goes to slots
all_go_to_slots : (entries : List Entry) (position : ℕ) → AllByRecursion HasPart (in_parts entries) → first_unplaced position entries ≡ None
all_go_to_slots [] position h = refl
all_go_to_slots (e ∷ es) position h = by (split_at e) refl h (λ k. all_go_to_slots es (suc position) k)
  where
    goes : Bool → Option Refusal
    goes b = cond b (first_unplaced (suc position) es) (Some (at_position position))

    by : (o : Option Split) → split_at e ≡ o → AllByRecursion HasPart (entries_by e o ++ in_parts es) → (AllByRecursion HasPart (in_parts es) → first_unplaced (suc position) es ≡ None)
        → goes (is_some (split_at e) || is_some (entry_part e)) ≡ None
    by None s k ih = ap (λ o. goes (is_some o || is_some (entry_part e))) s ∙ ap (λ o. goes (is_some o)) k.0.1 ∙ ih k.1
    by (Some split) s k ih = ap (λ o. goes (is_some o || is_some (entry_part e))) s ∙ ih (all-behind HasPart (entries_by e (Some split)) (in_parts es) k)

planned_parts : (client : Client) (picks : List Address) (entries : List Entry) (ds : List Dispatch) → plan client picks (Pipeline entries) ≡ Ok ds → (parts : List Part) × (pipeline_parts 0 entries ≡ Ok parts)
planned_parts client picks entries ds e = by (pipeline_parts 0 entries) refl e
  where
    by : (o : Result (List Part) Refusal) → pipeline_parts 0 entries ≡ o → result_then o (λ parts. result_then (dispatches client picks parts) (λ ds. Ok ds)) ≡ Ok ds → (parts : List Part) × (pipeline_parts 0 entries ≡ Ok parts)
    by (Ok parts) p k = (parts, p)
    by (Err refusal) p k = cc

pub each_planned : (client : Client) (picks : List Address) (entries : List Entry) (ds : List Dispatch) → plan client picks (Pipeline (in_parts entries)) ≡ Ok ds → plan client picks (Each entries) ≡ Ok ds
each_planned client picks entries ds e =
    let found = planned_parts client picks (in_parts entries) ds e in
    each_plan_is client picks entries
    ∙ ap (λ o. unless o (plan client picks (Pipeline (in_parts entries)))) (all_go_to_slots entries 0 (have_parts (in_parts entries) 0 found.0 found.1))
    ∙ e

-- ---- no strategy is asked

abbrev no_addresses : List Address
no_addresses = []

no_pick : (admits : Strategy) (slot : ℕ) (ns : Option Nodes) → IsPick admits (option_and_then (read_candidates (route_to Master slot)) ns) []
no_pick admits slot None = tt
no_pick admits slot (Some nodes) = tt

no_first : (admits : Strategy) (client : Client) (parts : List Part) (slot : ℕ) (ns : Option Nodes) → ArePartPicks admits client parts []
    → MatchOption (option_map (λ (nodes : Nodes). first_by (read_candidates (route_to Master slot) nodes) nodes.primary []) ns) (no_addresses ≡ [])
    (λ (first : First). MatchBool (is_linked client.links first.node) (ArePartPicks admits client parts first.picks) (first.picks ≡ []))
no_first admits client parts slot None h = refl
no_first admits client parts slot (Some nodes) h = either (is_linked client.links nodes.primary) h
  where
    either : (b : Bool) → ArePartPicks admits client parts [] → MatchBool b (ArePartPicks admits client parts []) (no_addresses ≡ [])
    either true k = k
    either false k = refl

-- for commands that go whole, each to its slot's primary
pub whole_unpicked : (admits : Strategy) (client : Client) (entries : List Entry) (parts : List Part) → Pairwise IsWholePart entries parts → ArePartPicks admits client parts []
whole_unpicked admits client [] [] w = refl
whole_unpicked admits client [] (part ∷ parts) w = absurd w
whole_unpicked admits client (e ∷ es) [] w = absurd w
whole_unpicked admits client (e ∷ es) (part ∷ parts) w =
    subst Fits (sym w.0.target) (no_pick admits slot (nodes_at slot client.entries), no_first admits client parts slot (nodes_at slot client.entries) (whole_unpicked admits client es parts w.1))
  where
    slot : ℕ
    slot = args_slot (sent e.command)

    Fits : Target → Type 0
    Fits t = IsPick admits (target_candidates client.entries t) []
        × MatchOption (first_of client.entries [] t) (no_addresses ≡ []) (λ (first : First). MatchBool (is_linked client.links first.node) (ArePartPicks admits client parts first.picks) (first.picks ≡ []))

pub each_unpicked : (strategy : Option Strategy) (client : Client) (entries : List Entry) → ArePicks strategy client (Each entries) []
each_unpicked None client entries = refl
each_unpicked (Some admits) client entries = by (first_unplaced 0 entries) (pipeline_parts 0 (in_parts entries)) refl
  where
    by : (o : Option Refusal) (r : Result (List Part) Refusal) → pipeline_parts 0 (in_parts entries) ≡ r → ArePicksOf admits client (unless o r) []
    by (Some refusal) r e = refl
    by None (Err refusal) e = refl
    by None (Ok parts) e = whole_unpicked admits client (in_parts entries) parts (pipeline_parts_are every_gap_names_no_key (in_parts entries) 0 parts e)
