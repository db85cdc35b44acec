-- A transaction from what the code says of its attempts, and before them of its node.
use Rattle.std.specs.Prelude.{◌&&◌, ◌||◌, bytes_eq, option_map}
use Rattle.std.specs.Char.{to_ascii_lowercase}
use Rattle.std.specs.List.{list_any}
use Rattle.std.specs.Str.{str_to_ascii_lowercase, str_to_ascii_uppercase}
use Rattle.std.proofs.Common.{◌≡◌, ◌≢◌, ℕ, suc, ◌-◌, ◌<◌, Bor, get_or, IfSome, map, Bool, true, false, if◌then◌else◌, List, [], ◌∷◌, length, Option, Some, None, Result, Ok, Err, refl, sym, ap, ◌∙◌, subst}
use Rattle.std.proofs.lemmas.Str.Ascii.{lowercase-uppercase}
use Rattle.std.proofs.lemmas.List.{get_or-map}
use Rattle.std.proofs.Math.ListN.{get_or-map as same_at}
use Rattle.resp_core.specs.Trees.{Tree}
use Rattle.resp_core.specs.Errors.{Refusal, at_position, by_cause}
use Rattle.resp_core.specs.declared.errors.redis_error.Cause.TheVariants.{Memory, NoLink}
use Rattle.resp_args.specs.Command.{Command}
use Rattle.cluster_routing.specs.Address.{Address}
use Rattle.cluster_routing.specs.Choice.{Strategy}
use Rattle.cluster_routing.specs.Command.{Args, is_one_of}
use Rattle.cluster_routing.specs.Directions.{Direction as ShownDirection, direction, shown_direction}
use Rattle.cluster_routing.specs.declared.direction.Direction.{Direction}
use Rattle.cluster_routing.specs.Routing.{route_to}
use Rattle.cluster_routing.specs.SlotMap.{Nodes, nodes_at}
use Rattle.cluster_routing.specs.declared.route.SlotAddr.TheVariants.{Master}
use Rattle.cluster_calls.specs.Calls.OneSlot.{args_of, agrees, common_slot, is_outside, names_block, outside_names, own_slot, read_names, with_own}
use Rattle.cluster_calls.specs.Calls.Parts.{at_slot}
use Rattle.cluster_calls.specs.Calls.Call.{Transaction}
use Rattle.cluster_calls.specs.Calls.Answer.{Answer}
use Rattle.cluster_calls.specs.Calls.Picks.{ArePicks}
use Rattle.cluster_calls.specs.Calls.Plan.{Client, Dispatch, first_by, first_of, plan, read_candidates}
use Rattle.cluster_calls.specs.Calls.Redirects.{Hop, Goes, is_going}
use Rattle.cluster_calls.specs.Calls.Transactions.{attempt, attempt_answer, dispatches_to, exec_answers, next_attempt, size, unless_lost}
use Rattle.cluster_calls.specs.Links.AttemptRuns.{AttemptsMade}
use Rattle.cluster_calls.specs.Links.Exchanges.{Exchanges}
use Rattle.cluster_calls.specs.Links.Happened.{CallMade, client_of}
use Rattle.cluster_calls.specs.Links.Places.{IsOpenAt}
use Rattle.cluster_calls.specs.Links.Request.{Request, skipped}
use Rattle.cluster_calls.specs.Links.World.{World, is_linked, open_links}
use Rattle.cluster_calls.proofs.LinkLaws.AttemptLoop.{Loop, loop_answered, loop_ended, loop_err, loop_more, loop_ok}
use Rattle.cluster_calls.proofs.LinkLaws.Transacted.{no_picks, planned_at, slot_planned}
use Rattle.cluster_calls.proofs.LinkLaws.AnyStrategy.{with_strategy}
use Rattle.cluster_calls.proofs.Lists.{or_none}
use Rattle.cluster_calls.proofs.LogLaws.Attempts.{size_of}
use Rattle.cluster_steps.specs.Attempts.{AttemptExchanged, heard}
use Rattle.cluster_steps.specs.FirstPlaces.{node_with_link}
use Rattle.cluster_steps.specs.Turns.{hop_to}
use Rattle.cluster_steps.specs.declared.hop.Hop.{Hop as CodeHop}
use Rattle.cluster_client.specs.InParts.{AreDirected}

-- ---- names, whatever their case

lower_upper : (text : List ℕ) → str_to_ascii_lowercase (str_to_ascii_uppercase text) ≡ str_to_ascii_lowercase text
lower_upper [] = refl
lower_upper (c ∷ text) = ap (λ d. d ∷ str_to_ascii_lowercase (str_to_ascii_uppercase text)) (lowercase-uppercase c) ∙ ap (λ q. to_ascii_lowercase c ∷ q) (lower_upper text)

any_case : (words : List (List ℕ)) (n : List ℕ) → is_one_of words (str_to_ascii_uppercase n) ≡ is_one_of words n
any_case words n = ap (λ text. list_any (λ word. bytes_eq (str_to_ascii_lowercase word) text) words) (lower_upper n)

pub outside_named : (o : Option (List ℕ)) (name : List ℕ) (args : Args) → Some name ≡ option_map str_to_ascii_uppercase o
    → (is_one_of outside_names name || (is_one_of read_names name && names_block args)) ≡ is_outside o args
outside_named None name args e = cc
outside_named (Some n) name args e =
    let same : name ≡ str_to_ascii_uppercase n = cc in
    ap (λ k. is_one_of outside_names k || (is_one_of read_names k && names_block args)) same
    ∙ ap (λ b. b || (is_one_of read_names (str_to_ascii_uppercase n) && names_block args)) (any_case outside_names n)
    ∙ ap (λ b. is_one_of outside_names n || (b && names_block args)) (any_case read_names n)

-- ---- one command after another

module _ (all : List Command) (position : ℕ) (known : Option ℕ) (c : Command) (rest : List Command) where
  abbrev later : Option ℕ → Result (Option ℕ) Refusal
  later slot = common_slot (suc position) slot rest

  -- the next command has no slot of its own
  pub slots_stop : common_slot position known (c ∷ rest) ≡ common_slot 0 None all → own_slot c ≡ None → Err (at_position position) ≡ common_slot 0 None all
  slots_stop h is = sym (ap (λ o. with_own position known o later) is) ∙ h

  module _ (slot : ℕ) (h : common_slot position known (c ∷ rest) ≡ common_slot 0 None all) (is : own_slot c ≡ Some slot) where
    chosen : (if agrees known slot then later (Some slot) else Err (at_position position)) ≡ common_slot 0 None all
    chosen = sym (ap (λ o. with_own position known o later) is) ∙ h

    -- it has another than those before
    pub slots_differ : agrees known slot ≡ false → Err (at_position position) ≡ common_slot 0 None all
    slots_differ other = sym (ap (λ b. if b then later (Some slot) else Err (at_position position)) other) ∙ chosen

    pub slots_more : agrees known slot ≡ true → common_slot (suc position) (Some slot) rest ≡ common_slot 0 None all
    slots_more same = sym (ap (λ b. if b then later (Some slot) else Err (at_position position)) same) ∙ chosen

-- the direction at a command's place is its
pub known_at : (commands : List Command) (all : List Direction) (i : ℕ) (c : Command) (known : Option (Bor Direction)) → AreDirected commands all → i < length commands → c ≡ get_or commands i c
    → IfSome known (λ d. d.now ≡ get_or all i d.now) → IfSome known (λ d. shown_direction d.now ≡ direction c.args [])
known_at commands all i c None same lt at item = tt {0}
known_at commands all i c (Some d) same lt at item =
    let own : Command → ShownDirection = λ command. direction command.args [] in
    ap shown_direction item ∙ sym (same_at shown_direction all i d.now) ∙ ap (λ ds. get_or ds i (shown_direction d.now)) same ∙ get_or-map own commands i c (shown_direction d.now) lt ∙ ap own (sym at)

-- ---- the node

-- what goes to a node that was found, or why there is none
abbrev pub found_plan : List Command → Result Address Refusal → Result (List Dispatch) Refusal
found_plan commands (Ok node) = Ok (dispatches_to node (args_of commands))
found_plan commands (Err refusal) = Err refusal

linked_by : (commands : List Command) (node : Address) (b : Bool) → found_plan commands (if b then Ok node else Err (by_cause NoLink)) ≡ (if b then Ok (dispatches_to node (args_of commands)) else Err (by_cause NoLink))
linked_by commands node true = refl
linked_by commands node false = refl

primary_by : (links own : List Address) (commands : List Command) (slot : ℕ) (ns : Option Nodes) → found_plan commands (node_with_link links (option_map (λ (nodes : Nodes). first_by (read_candidates (route_to Master slot) nodes) nodes.primary own) ns)) ≡ planned_at links commands ns
primary_by links own commands slot None = refl
primary_by links own commands slot (Some nodes) = linked_by commands nodes.primary (is_linked links nodes.primary)

-- the commands go to the primary of their slot
pub primary_planned : (client : Client) (commands : List Command) (slot : ℕ) (own : List Address) (made : Result Address Refusal) → common_slot 0 None commands ≡ Ok (Some slot) → made ≡ node_with_link client.links (first_of client.entries own (at_slot (route_to Master slot)))
    → plan client [] (Transaction commands) ≡ found_plan commands made
primary_planned client commands slot own made is finds =
    slot_planned client [] commands slot is ∙ sym (ap (found_plan commands) finds ∙ primary_by client.links own commands slot (nodes_at slot client.entries))

-- ---- the attempts

module _ (old now new : World) (commands : List (List (List ℕ))) (first : Hop) (redirects : ℕ) (hop : Hop) (link : ℕ) (l : Loop old now commands first redirects hop link) (qs : List Request) (same : qs ≡ attempt hop commands) where
  whole_attempt : (result : Result (List Tree) Refusal) → AttemptExchanged now new link qs (skipped hop.asking) result → Exchanges now.nodes new.nodes link now.log new.log (attempt hop commands) (skipped hop.asking) (size commands) result
  whole_attempt result x =
      subst (λ n. Exchanges now.nodes new.nodes link now.log new.log (attempt hop commands) (skipped hop.asking) n result) (size_of hop commands)
      (subst (λ rs. Exchanges now.nodes new.nodes link now.log new.log rs (skipped hop.asking) (length rs) result) same x.exchange)

  -- the link call was refused
  pub attempt_failed : (e : Refusal) → AttemptExchanged now new link qs (skipped hop.asking) (Err e) → AttemptsMade old new first commands (Err e)
  attempt_failed e x = loop_err old now new commands first redirects hop link l (record { entries = x.entries; settings = x.settings; picked = x.picked }) e (whole_attempt (Err e) x) (x.flag ∙ or_none now.needs_refresh)

  module _ (trees : List Tree) (x : AttemptExchanged now new link qs (skipped hop.asking) (Ok trees)) where
    -- the replies make the answer, or refuse it; or memory was refused behind them
    pub attempt_answered : (outcome : Result Tree Refusal) → (outcome ≢ Err (by_cause Memory) → (is_going (next_attempt (open_links new.nodes) redirects (heard trees)) ≡ false)
        × (unless_lost (next_attempt (open_links new.nodes) redirects (heard trees)) (attempt_answer (heard trees)) ≡ outcome)) → (outcome ≡ Err (by_cause Memory) → exec_answers (heard trees) ≡ false) → AttemptsMade old new first commands outcome
    attempt_answered outcome why unanswered =
        let made = loop_ok l new.nodes new.log trees (whole_attempt (Ok trees) x) in
        loop_answered old now new commands first redirects hop link l (record { entries = x.entries; settings = x.settings; picked = x.picked }) trees made.1 made.0 x.flag outcome (λ m. let told = why m in (told.0, sym told.1)) unanswered

    -- the transaction goes on
    pub attempt_more : (next : Hop) (place : ℕ) → next_attempt (open_links new.nodes) redirects (heard trees) ≡ Goes next → redirects ≢ 0 → IsOpenAt new.nodes next.node place → Loop old new commands first (redirects - 1) next place
    attempt_more next place go some at =
        let made = loop_ok l new.nodes new.log trees (whole_attempt (Ok trees) x) in
        loop_more old now new commands first redirects hop link l (record { entries = x.entries; settings = x.settings; picked = x.picked }) trees made.1 made.0 x.flag next place go some at

-- the log was only given room
pub attempt_with_room : (old now : World) (commands : List (List (List ℕ))) (first : Hop) (redirects : ℕ) (hop : Hop) (link : ℕ) (log : List Request) → log ≡ now.log → Loop old now commands first redirects hop link
    → Loop old (record now { log = log }) commands first redirects hop link
attempt_with_room old now commands first redirects hop link log same l = subst (λ k. Loop old (record now { log = k }) commands first redirects hop link) (sym same) l

pub attempt_to_hop : (old now : World) (commands : List (List (List ℕ))) (first : Hop) (redirects : ℕ) (p q : CodeHop) → p ≡ q → Loop old now commands first redirects (hop_to q) q.link → Loop old now commands first redirects (hop_to p) p.link
attempt_to_hop old now commands first redirects p q same l = subst (λ r. Loop old now commands first redirects (hop_to r) r.link) (sym same) l

-- and then memory was refused
pub attempt_stopped : (old now : World) (commands : List (List (List ℕ))) (first : Hop) (redirects : ℕ) (hop : Hop) (link : ℕ) (log : List Request) → log ≡ now.log → Loop old now commands first redirects hop link
    → AttemptsMade old (record now { log = log }) first commands (Err (by_cause Memory))
attempt_stopped old now commands first redirects hop link log same l = loop_ended old now (record now { log = log }) commands first redirects hop link l (record { entries = refl; settings = refl; picked = refl }) refl same refl

-- ---- the whole call

-- no strategy is asked, so the call is made for every one
pub transacted_for_every : (strategy : Option Strategy) (old new : World) (commands : List Command) (answer : Result Answer Refusal) → new.picked ≡ [] → CallMade None old new (Transaction commands) answer → CallMade strategy old new (Transaction commands) answer
transacted_for_every strategy old new commands answer none m =
    with_strategy None strategy old new (Transaction commands) answer (λ k. subst (ArePicks strategy (client_of old) (Transaction commands)) (sym none) (no_picks strategy (client_of old) commands)) m
