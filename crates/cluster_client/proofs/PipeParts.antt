-- The parts of a pipeline, one command after another, and its plan.
use Rattle.std.specs.List.{AllByRecursion}
use Rattle.std.proofs.Common.{◌≡◌, ◌<◌, ℕ, suc, length, drop, drop-cons, get_or, List, [], ◌∷◌, ◌++◌, Option, Some, None, Result, Ok, Err, refl, sym, ap, ◌∙◌, subst, append-nil, append_assoc}
use Rattle.resp_core.specs.Errors.{Refusal, at_position}
use Rattle.resp_args.specs.Packed.{sent}
use Rattle.cluster_routing.specs.Address.{Address}
use Rattle.cluster_routing.specs.Choice.{Strategy}
use Rattle.cluster_calls.proofs.LinkLaws.EachPlans.{whole_unpicked}
use Rattle.cluster_steps.specs.Dispatches.{AreDispatched, IsPlanned}
use Rattle.cluster_calls.specs.Calls.Call.{Entry, Pipeline}
use Rattle.cluster_calls.specs.Calls.Parts.{Part, if_one_slot, parts_of, reads_several_slots, whole_part, with_whole, pipeline_parts}
use Rattle.cluster_calls.specs.Calls.Plan.{Client, Dispatch}
use Rattle.cluster_calls.specs.Calls.Picks.{ArePicks, ArePicksOf}
use Rattle.cluster_steps.proofs.Dispatched.{plan_made, plan_refused, plan_unparted, picks_unparted}
use Rattle.cluster_calls.proofs.LogLaws.Gaps.{every_gap_names_no_key}
use Rattle.cluster_calls.proofs.LogLaws.PipePlans.{GapsStay, whole_parts_are}

-- ---- one command after another

abbrev pub before : List Part → Result (List Part) Refusal → Result (List Part) Refusal
before ps (Ok qs) = Ok (ps ++ qs)
before ps (Err refusal) = Err refusal

pub before_none : (r : Result (List Part) Refusal) → before [] r ≡ r
before_none (Ok qs) = refl
before_none (Err refusal) = refl

before_one : (position : ℕ) (ps : List Part) (part : Part) (r : Result (List Part) Refusal) → before ps (with_whole position (Some part) r) ≡ before (ps ++ part ∷ []) r
before_one position ps part (Ok qs) = ap (λ xs. Ok xs) (sym (append_assoc ps (part ∷ []) qs))
before_one position ps part (Err refusal) = refl

-- the next command is a part, and so on
pub parts_more : (entries : List Entry) (position : ℕ) (e : Entry) (rest : List Entry) (ps : List Part) (part : Part) → before ps (pipeline_parts position (e ∷ rest)) ≡ pipeline_parts 0 entries → if_one_slot (reads_several_slots e.command.args) (whole_part (sent e.command) (parts_of [] e.command 0)) ≡ Some part
    → before (ps ++ part ∷ []) (pipeline_parts (suc position) rest) ≡ pipeline_parts 0 entries
parts_more entries position e rest ps part h is =
    sym (before_one position ps part (pipeline_parts (suc position) rest)) ∙ ap (λ o. before ps (with_whole position o (pipeline_parts (suc position) rest))) (sym is) ∙ h

-- it is none
pub parts_stop : (entries : List Entry) (position : ℕ) (e : Entry) (rest : List Entry) (ps : List Part) → before ps (pipeline_parts position (e ∷ rest)) ≡ pipeline_parts 0 entries → if_one_slot (reads_several_slots e.command.args) (whole_part (sent e.command) (parts_of [] e.command 0)) ≡ None
    → Err (at_position position) ≡ pipeline_parts 0 entries
parts_stop entries position e rest ps h is = sym (ap (λ o. before ps (with_whole position o (pipeline_parts (suc position) rest))) is) ∙ h

pub parts_end : (entries : List Entry) (position : ℕ) (ps : List Part) → before ps (pipeline_parts position []) ≡ pipeline_parts 0 entries → Ok ps ≡ pipeline_parts 0 entries
parts_end entries position ps h = ap (λ xs. Ok xs) (sym (append-nil ps)) ∙ h

pub next_entry : {A : Type 0} (entries : List A) (i : ℕ) (x : A) → i < length entries → x ≡ get_or entries i x → drop i entries ≡ x ∷ drop (suc i) entries
next_entry entries i x within is = drop-cons entries i x within ∙ ap (λ y. y ∷ drop (suc i) entries) (sym is)

-- ---- the plan

pub gaps_stay_so : (entries : List Entry) → AllByRecursion (λ (e : Entry). GapsStay e.command) entries
gaps_stay_so [] = tt
gaps_stay_so (e ∷ es) = (λ route h. every_gap_names_no_key e.command [] route h, gaps_stay_so es)

-- ---- no strategy is asked

module _ (strategy : Option Strategy) (client : Client) (entries : List Entry) (picks : List Address) where
  picked : (parts : List Part) → pipeline_parts 0 entries ≡ Ok parts → picks ≡ [] → ArePicks strategy client (Pipeline entries) picks
  picked parts e none = subst (λ ps. ArePicks strategy client (Pipeline entries) ps) (sym none) (by strategy)
    where
      by : (s : Option Strategy) → ArePicks s client (Pipeline entries) []
      by None = refl
      by (Some admits) = subst (λ r. ArePicksOf admits client r []) (sym e) (whole_unpicked admits client entries parts (whole_parts_are entries 0 parts (gaps_stay_so entries) e))

  pub pipeline_planned : (parts : List Part) (made : Result (List Dispatch) Refusal) → pipeline_parts 0 entries ≡ Ok parts → AreDispatched None client parts picks made → IsPlanned strategy client (Pipeline entries) picks made
  pipeline_planned parts (Ok ds) e d = record { planned = plan_made None client (Pipeline entries) picks parts ds e d; picked = picked parts e d.picked }
  pipeline_planned parts (Err refusal) e d = record { planned = plan_refused None client (Pipeline entries) picks parts refusal e d; picked = picked parts e d.picked }

  pub pipeline_unplanned : (refusal : Refusal) → pipeline_parts 0 entries ≡ Err refusal → picks ≡ [] → IsPlanned strategy client (Pipeline entries) picks (Err refusal)
  pipeline_unplanned refusal e none = record {
    planned = plan_unparted None client (Pipeline entries) picks refusal e;
    picked = subst (λ ps. ArePicks strategy client (Pipeline entries) ps) (sym none) (picks_unparted strategy client (Pipeline entries) refusal e);
  }

-- the picks of a pipeline are none
pub planned_unpicked : (strategy : Option Strategy) (client : Client) (entries : List Entry) (picks : List Address) (parts : List Part) (made : Result (List Dispatch) Refusal) → pipeline_parts 0 entries ≡ Ok parts
    → AreDispatched None client parts picks made → IsPlanned strategy client (Pipeline entries) [] made
planned_unpicked strategy client entries picks parts made e d = subst (λ ps. IsPlanned strategy client (Pipeline entries) ps made) d.picked (pipeline_planned strategy client entries picks parts made e d)
