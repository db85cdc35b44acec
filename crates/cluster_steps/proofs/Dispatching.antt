-- The dispatches of parts, one after another.
use Rattle.std.specs.Prelude.{option_and_then, option_map, MatchOption, MatchBool}
use Rattle.std.specs.List.{AllByRecursion}
use Rattle.std.proofs.Common.{◌≡◌, Bool, true, false, cond, List, [], ◌∷◌, ◌++◌, Option, Some, None, refl, sym, ap, ◌∙◌, subst, append-nil, append_assoc, Result, Ok, Err}
use Rattle.resp_core.specs.Errors.{Refusal, by_cause}
use Rattle.resp_core.specs.declared.errors.redis_error.Cause.TheVariants.{NoNode, NoLink}
use Rattle.cluster_routing.specs.Address.{Address}
use Rattle.cluster_routing.specs.AllNodes.{all_nodes}
use Rattle.cluster_routing.specs.Candidates.{Candidates}
use Rattle.cluster_routing.specs.Choice.{Strategy}
use Rattle.cluster_routing.specs.SlotMap.{SlotEntries, Nodes, nodes_at}
use Rattle.cluster_routing.specs.declared.route.Route.{Route}
use Rattle.cluster_calls.specs.Links.World.{is_linked}
use Rattle.cluster_steps.specs.FirstPlaces.{ArePicksAt, FindsFirst, node_with_link}
use Rattle.cluster_steps.specs.Dispatches.{ArePicksFor, AreDispatched}
use Rattle.cluster_calls.specs.Calls.Parts.{Target, at_slot, at_number, at_node, Part}
use Rattle.cluster_calls.specs.Calls.Plan.{Client, Dispatch, First, first_by, first_of, by_number, read_candidates, target_candidates, with_first, dispatch_one, dispatches}
use Rattle.cluster_calls.specs.Calls.Picks.{IsPick, ArePartPicks}

-- ---- the picks of one part, with further ones behind them

abbrev with_picks : List Address → First → First
with_picks more first = record { node = first.node; picks = more }

record Behind (admits : Strategy) (entries : SlotEntries) (target : Target) (own more : List Address) : Type 0 where
  pick : IsPick admits (target_candidates entries target) (own ++ more)
  first : first_of entries (own ++ more) target ≡ option_map (with_picks more) (first_of entries own target)

node_behind : (o : Option Address) (own more : List Address) → MatchOption (option_map (λ node. record { node = node; picks = own }) o) (own ≡ []) (λ (first : First). first.picks ≡ [])
    → option_map (λ node. record { node = node; picks = own ++ more }) o ≡ option_map (with_picks more) (option_map (λ node. record { node = node; picks = own }) o)
node_behind None own more h = refl
node_behind (Some node) own more h = rw h refl

record SlotBehind (admits : Strategy) (route : Route) (ns : Option Nodes) (own more : List Address) : Type 0 where
  pick : IsPick admits (option_and_then (read_candidates route) ns) (own ++ more)
  first : option_map (λ (nodes : Nodes). first_by (read_candidates route nodes) nodes.primary (own ++ more)) ns
      ≡ option_map (with_picks more) (option_map (λ (nodes : Nodes). first_by (read_candidates route nodes) nodes.primary own) ns)

candidates_behind : (admits : Strategy) (c : Option Candidates) (primary : Address) (own more : List Address) → IsPick admits c own → (first_by c primary own).picks ≡ []
    → IsPick admits c (own ++ more) × (first_by c primary (own ++ more) ≡ with_picks more (first_by c primary own))
candidates_behind admits None primary own more p e = (tt, rw e refl)
candidates_behind admits (Some candidates) primary [] more p e = absurd p
candidates_behind admits (Some candidates) primary (pick ∷ picks) more p e = (p, rw e refl)

slot_behind : (admits : Strategy) (route : Route) (ns : Option Nodes) (own more : List Address) → IsPick admits (option_and_then (read_candidates route) ns) own
    → MatchOption (option_map (λ (nodes : Nodes). first_by (read_candidates route nodes) nodes.primary own) ns) (own ≡ []) (λ (first : First). first.picks ≡ []) → SlotBehind admits route ns own more
slot_behind admits route None own more p e = record { pick = tt; first = refl }
slot_behind admits route (Some nodes) own more p e =
    let h = candidates_behind admits (read_candidates route nodes) nodes.primary own more p e in
    record { pick = h.0; first = ap (λ first. Some first) h.1 }

behind : (admits : Strategy) (entries : SlotEntries) (target : Target) (own more : List Address) → ArePicksAt (Some admits) entries target own → Behind admits entries target own more
behind admits entries (at_slot route) own more h =
    let s = slot_behind admits route (nodes_at route.slot entries) own more h.0 h.1 in record { pick = s.pick; first = s.first }
behind admits entries (at_number n) own more h = record { pick = tt; first = node_behind (by_number n (all_nodes entries)) own more h.1 }
behind admits entries (at_node node) own more h = record { pick = tt; first = node_behind (Some node) own more h.1 }

abbrev no_address : List Address
no_address = []

nothing_left : (o : Option Address) → MatchOption (option_map (λ (node : Address). with_picks [] (record { node = node; picks = [] })) o) (no_address ≡ []) (λ (first : First). first.picks ≡ [])
nothing_left None = refl
nothing_left (Some node) = refl

-- without picks none are left
none_left : (entries : SlotEntries) (target : Target) → first_of entries [] target ≡ option_map (with_picks []) (first_of entries [] target)
none_left entries (at_slot route) = by (nodes_at route.slot entries)
  where
    primary : (c : Option Candidates) (a : Address) → first_by c a [] ≡ with_picks [] (first_by c a [])
    primary None a = refl
    primary (Some candidates) a = refl

    by : (ns : Option Nodes) → option_map (λ (nodes : Nodes). first_by (read_candidates route nodes) nodes.primary []) ns
        ≡ option_map (with_picks []) (option_map (λ (nodes : Nodes). first_by (read_candidates route nodes) nodes.primary []) ns)
    by None = refl
    by (Some nodes) = ap (λ first. Some first) (primary (read_candidates route nodes) nodes.primary)
none_left entries (at_number n) = node_behind (by_number n (all_nodes entries)) [] [] (nothing_left (by_number n (all_nodes entries)))
none_left entries (at_node node) = refl

-- ---- one part that has a place

dispatch_first : (links : List Address) (part : Part) (node : Address) (more : List Address) (o : Option First) (later : List Address → Result (List Dispatch) Refusal) → Ok node ≡ node_with_link links o
    → with_first (record { node = node; args = part.args }) (later more) ≡ dispatch_one links part (option_map (with_picks more) o) later
dispatch_first links part node more None later e = cc
dispatch_first links part node more (Some first) later e = by (is_linked links first.node) refl e
  where
    by : (b : Bool) → is_linked links first.node ≡ b → Ok node ≡ cond b (Ok first.node) (Err (by_cause NoLink))
        → with_first (record { node = node; args = part.args }) (later more) ≡ dispatch_one links part (Some (with_picks more first)) later
    by true t k = let same : node ≡ first.node = cc in rw t (ap (λ a. with_first (record { node = a; args = part.args }) (later more)) same)
    by false t k = cc

picks_first : (admits : Strategy) (client : Client) (node : Address) (rest : List Part) (all more : List Address) (o : Option First) → Ok node ≡ node_with_link client.links o → ArePartPicks admits client rest more
    → MatchOption (option_map (with_picks more) o) (all ≡ []) (λ (first : First). MatchBool (is_linked client.links first.node) (ArePartPicks admits client rest first.picks) (first.picks ≡ []))
picks_first admits client node rest all more None e h = cc
picks_first admits client node rest all more (Some first) e h = by (is_linked client.links first.node) e
  where
    by : (b : Bool) → Ok node ≡ cond b (Ok first.node) (Err (by_cause NoLink)) → MatchBool b (ArePartPicks admits client rest more) (more ≡ [])
    by true k = h
    by false k = cc

part_placed : (strategy : Option Strategy) (client : Client) (part : Part) (own : List Address) (node : Address) (rest : List Part) (more : List Address)
    → ArePicksAt strategy client.entries part.target own → Ok node ≡ node_with_link client.links (first_of client.entries own part.target) → ArePicksFor strategy client rest more
    → AreDispatched strategy client (part ∷ rest) (own ++ more) (with_first (record { node = node; args = part.args }) (dispatches client more rest))
part_placed None client part own node rest more p e h =
    let first : first_of client.entries (own ++ more) part.target ≡ option_map (with_picks more) (first_of client.entries own part.target) = rw (p, h) (none_left client.entries part.target) in
    record {
      picked = rw (p, h) refl;
      planned = dispatch_first client.links part node more (first_of client.entries own part.target) (λ left. dispatches client left rest) e
          ∙ ap (λ o. dispatch_one client.links part o (λ left. dispatches client left rest)) (sym first);
    }
part_placed (Some admits) client part own node rest more p e h =
    let b = behind admits client.entries part.target own more p in
    record {
      picked = (b.pick, rw b.first (picks_first admits client node rest (own ++ more) more (first_of client.entries own part.target) e h));
      planned = dispatch_first client.links part node more (first_of client.entries own part.target) (λ left. dispatches client left rest) e
          ∙ ap (λ o. dispatch_one client.links part o (λ left. dispatches client left rest)) (sym b.first);
    }

-- ---- one part that has none

refused_first : (links : List Address) (part : Part) (refusal : Refusal) (o : Option First) (later : List Address → Result (List Dispatch) Refusal) → Err refusal ≡ node_with_link links o
    → Err refusal ≡ dispatch_one links part o later
refused_first links part refusal None later e = let same : refusal ≡ by_cause NoNode = cc in ap (λ k. Err k) same
refused_first links part refusal (Some first) later e = by (is_linked links first.node) refl e
  where
    by : (b : Bool) → is_linked links first.node ≡ b → Err refusal ≡ cond b (Ok first.node) (Err (by_cause NoLink)) → Err refusal ≡ dispatch_one links part (Some first) later
    by true t k = cc
    by false t k = let same : refusal ≡ by_cause NoLink = cc in rw t (ap (λ k. Err k) same)

picks_refused : (admits : Strategy) (client : Client) (refusal : Refusal) (rest : List Part) (own : List Address) (o : Option First) → Err refusal ≡ node_with_link client.links o
    → MatchOption o (own ≡ []) (λ (first : First). first.picks ≡ [])
    → MatchOption o (own ≡ []) (λ (first : First). MatchBool (is_linked client.links first.node) (ArePartPicks admits client rest first.picks) (first.picks ≡ []))
picks_refused admits client refusal rest own None e h = h
picks_refused admits client refusal rest own (Some first) e h = by (is_linked client.links first.node) e
  where
    by : (b : Bool) → Err refusal ≡ cond b (Ok first.node) (Err (by_cause NoLink)) → MatchBool b (ArePartPicks admits client rest first.picks) (first.picks ≡ [])
    by true k = cc
    by false k = h

part_refused : (strategy : Option Strategy) (client : Client) (part : Part) (own : List Address) (refusal : Refusal) (rest : List Part)
    → ArePicksAt strategy client.entries part.target own → Err refusal ≡ node_with_link client.links (first_of client.entries own part.target)
    → AreDispatched strategy client (part ∷ rest) own (Err refusal)
part_refused None client part own refusal rest p e = record { picked = p; planned = refused_first client.links part refusal (first_of client.entries own part.target) (λ left. dispatches client left rest) e }
part_refused (Some admits) client part own refusal rest p e =
    record {
      picked = (p.0, picks_refused admits client refusal rest own (first_of client.entries own part.target) e p.1);
      planned = refused_first client.links part refusal (first_of client.entries own part.target) (λ left. dispatches client left rest) e;
    }

-- ---- the parts so far

abbrev with_all : List Dispatch → Result (List Dispatch) Refusal → Result (List Dispatch) Refusal
with_all [] later = later
with_all (d ∷ ds) later = with_first d (with_all ds later)

all_then : (ds : List Dispatch) (d : Dispatch) (later : Result (List Dispatch) Refusal) → with_all ds (with_first d later) ≡ with_all (ds ++ d ∷ []) later
all_then [] d later = refl
all_then (x ∷ ds) d later = ap (with_first x) (all_then ds d later)

all_made : (ds : List Dispatch) → with_all ds (Ok []) ≡ Ok ds
all_made [] = refl
all_made (d ∷ ds) = ap (with_first d) (all_made ds)

all_refused : (ds : List Dispatch) (refusal : Refusal) → with_all ds (Err refusal) ≡ Err refusal
all_refused [] refusal = refl
all_refused (d ∷ ds) refusal = ap (with_first d) (all_refused ds refusal)

-- whatever the rest of the parts makes of further picks completes these
pub record Loop (strategy : Option Strategy) (client : Client) (done : List Part) (picks : List Address) (ds : List Dispatch) : Type 0 where
  pub completes : (rest : List Part) (more : List Address) → ArePicksFor strategy client rest more → AreDispatched strategy client (done ++ rest) (picks ++ more) (with_all ds (dispatches client more rest))

pub dispatched_as : (strategy : Option Strategy) (client : Client) {parts others : List Part} {picks more : List Address} {made as' : Result (List Dispatch) Refusal}
    → AreDispatched strategy client parts picks made → parts ≡ others → picks ≡ more → made ≡ as' → AreDispatched strategy client others more as'
dispatched_as strategy client {parts} {others} {picks} {more} {made} {as'} d p q m =
    subst (λ ps. AreDispatched strategy client ps more as') p (subst (λ qs. AreDispatched strategy client parts qs as') q (subst (λ r. AreDispatched strategy client parts picks r) m d))

pub loop_start : (strategy : Option Strategy) (client : Client) → Loop strategy client [] [] []
loop_start strategy client = record { completes = λ rest more h. record { picked = h; planned = refl } }

pub loop_more : (strategy : Option Strategy) (client : Client) (done : List Part) (part : Part) (picks new : List Address) (ds : List Dispatch) (node : Address) → Loop strategy client done picks ds
    → FindsFirst strategy client.entries part.target picks new (λ first. Ok node ≡ node_with_link client.links first) → Loop strategy client (done ++ part ∷ []) new (ds ++ record { node = node; args = part.args } ∷ [])
loop_more strategy client done part picks new ds node l f = record {
  completes = λ rest more h.
      let s = part_placed strategy client part f.own node rest more f.picks f.leads h in
      let d : Dispatch = record { node = node; args = part.args } in
      dispatched_as strategy client (l.completes (part ∷ rest) (f.own ++ more) s.picked)
      (sym (append_assoc done (part ∷ []) rest))
      (sym (append_assoc picks f.own more) ∙ ap (λ ps. ps ++ more) (sym f.behind))
      (ap (with_all ds) (sym s.planned) ∙ all_then ds d (dispatches client more rest));
}

pub loop_as : {strategy : Option Strategy} {client : Client} {done others : List Part} {picks : List Address} {ds es : List Dispatch} → Loop strategy client done picks ds → done ≡ others → ds ≡ es → Loop strategy client others picks es
loop_as {strategy} {client} {done} {others} {picks} {ds} {es} l p q = subst (λ ps. Loop strategy client ps picks es) p (subst (λ xs. Loop strategy client done picks xs) q l)

pub loop_refused : (strategy : Option Strategy) (client : Client) (done : List Part) (part : Part) (rest : List Part) (picks new : List Address) (ds : List Dispatch) (refusal : Refusal) → Loop strategy client done picks ds
    → FindsFirst strategy client.entries part.target picks new (λ first. Err refusal ≡ node_with_link client.links first) → AreDispatched strategy client (done ++ part ∷ rest) new (Err refusal)
loop_refused strategy client done part rest picks new ds refusal l f =
    let s = part_refused strategy client part f.own refusal rest f.picks f.leads in
    dispatched_as strategy client (l.completes (part ∷ rest) f.own s.picked) refl (sym f.behind) (ap (with_all ds) (sym s.planned) ∙ all_refused ds refusal)

pub loop_done : (strategy : Option Strategy) (client : Client) (done : List Part) (picks : List Address) (ds : List Dispatch) → Loop strategy client done picks ds → AreDispatched strategy client done picks (Ok ds)
loop_done strategy client done picks ds l = dispatched_as strategy client (l.completes [] [] (none strategy)) (append-nil done) (append-nil picks) (all_made ds)
  where
    none : (s : Option Strategy) → ArePicksFor s client [] []
    none None = refl
    none (Some admits) = refl

pub all_more : {A : Type 0} (P : A → Type 0) (xs : List A) (x : A) → AllByRecursion P xs → P x → AllByRecursion P (xs ++ x ∷ [])
all_more P [] x a p = (p, tt)
all_more P (y ∷ xs) x a p = (a.0, all_more P xs x a.1 p)
