-- What a pipeline that tells of each position lets its caller know: of each position whether it was answered, was
-- not done, or may have been done; and that, where no link call failed, the one answer of `query` follows from
-- these outcomes.
use Rattle.std.specs.Prelude.{◌≡◌, ℕ, Bool, true, false, List, [], ◌∷◌, map, take, drop, length, Option, Some, None, Result, Ok, ⊤}
use Rattle.std.specs.List.{list_any, AllByRecursion}
use Rattle.resp_core.specs.Trees.{Tree}
use Rattle.resp_core.specs.Errors.{Refusal}
use Rattle.cluster_routing.specs.Address.{Address}
use Rattle.cluster_routing.specs.Choice.{Strategy}
use Rattle.cluster_routing.specs.Lists.{concat}
use Rattle.cluster_routing.specs.Split.{Split}
use Rattle.cluster_calls.specs.Links.Converted.{told_answer, value_answer}
use Rattle.cluster_calls.specs.Links.EachMade.{EachMade, refusals_of}
use Rattle.cluster_calls.specs.Links.Events.{exchanges_of}
use Rattle.cluster_calls.specs.Links.Faults.{LinkFault, refusal_by_fault}
use Rattle.cluster_calls.specs.Links.Happened.{CallMade}
use Rattle.cluster_calls.specs.Links.Log.{Exchange, requests, has_lost, is_unanswered}
use Rattle.cluster_calls.specs.Links.World.{World, link_at, is_usable}
use Rattle.cluster_calls.specs.Calls.Answer.{answer_of}
use Rattle.cluster_calls.specs.Calls.Call.{Each, Entry, Pipeline}
use Rattle.cluster_calls.specs.Calls.Each.{Fate, answered, redirected, lost, fate_of, reply_outcome, exchanges_with, position_exchanges, each_of, answer_of_each}
use Rattle.cluster_calls.specs.Calls.EachInParts.{AreOutcomesOf}
use Rattle.cluster_calls.specs.Calls.InParts.{first_unplaced, in_parts, part_count, splits_in}
use Rattle.cluster_calls.specs.Calls.Legal.{IsLegalCall, direct, node_groups}
use Rattle.cluster_calls.specs.Calls.Parts.{Part, pipeline_parts}
use Rattle.cluster_calls.specs.Calls.Plan.{Client, Dispatch, plan}
use Rattle.cluster_calls.specs.OneServer.Laws.{is_redirected}

-- ---- what each fate says of a part's dispatch and exchange

-- its request has this reply, and the outcome is that reply
pub record IsReplied (xs : List Exchange) (d : Dispatch) (its : Exchange) (outcome : Result Tree Refusal)
    (sent_on : Bool) : Type 0 where
  pub reply : Tree
  pub request : its.request ≡ direct d
  pub replied : its.reply ≡ Some reply
  pub outcome_is : outcome ≡ reply_outcome reply
  pub redirect : is_redirected its ≡ sent_on
  pub link_answered : has_lost d.node xs ≡ false

-- its request stands in the log, and the link call of its node was refused, which closed the link
pub record IsLost (new : World) (xs : List Exchange) (d : Dispatch) (its : Exchange) : Type 0 where
  pub request : its.request ≡ direct d
  pub link_refused : has_lost d.node xs ≡ true
  pub closed : is_usable (link_at new.nodes d.node) ≡ false

abbrev pub FateSays : World → List Exchange → Dispatch → Exchange → Result Tree Refusal → Fate → Type 0
FateSays new xs d its outcome answered = IsReplied xs d its outcome false
FateSays new xs d its outcome redirected = IsReplied xs d its outcome true
FateSays new xs d its outcome lost = IsLost new xs d its

-- part by part
abbrev pub HaveFates : World → List Exchange → List Dispatch → List Exchange → List (Result Tree Refusal)
    → Type 0
HaveFates new xs [] [] [] = ⊤
HaveFates new xs (d ∷ ds) (its ∷ more) (outcome ∷ outcomes) =
    FateSays new xs d its outcome (fate_of outcome) × HaveFates new xs ds more outcomes
HaveFates _ _ _ _ _ = ⊥

-- each part has its fate; the log has the requests of the exchanges and no other; and each exchange with a
-- node is that of one part, in their order
pub record PartsAreKnown (new : World) (parts : List Entry) (ds : List Dispatch) (xs : List Exchange)
    (told : List (Result Tree Refusal)) : Type 0 where
  pub fates : HaveFates new xs ds (position_exchanges ds xs) told
  pub log : requests xs ≡ new.log
  pub own : (node : Address) → exchanges_with (position_exchanges ds xs) node ≡ exchanges_with xs node
  pub whole : length told ≡ length parts

-- ---- what the fate of a position says of its parts

-- unless it may have been done, it is the fate of each part
abbrev pub FateOfParts : Fate → List (Result Tree Refusal) → Type 0
FateOfParts lost told = ⊤
FateOfParts fate told = AllByRecursion (λ outcome. fate_of outcome ≡ fate) told

-- position by position, each with so many of the parts
abbrev pub AreFatesOfParts : List (Option Split) → List (Result Tree Refusal) → List (Result Tree Refusal)
    → Type 0
AreFatesOfParts [] told [] = told ≡ []
AreFatesOfParts (s ∷ ss) told (outcome ∷ outcomes) = FateOfParts (fate_of outcome) (take (part_count s) told)
    × AreFatesOfParts ss (drop (part_count s) told) outcomes
AreFatesOfParts _ told _ = ⊥

-- what is known of the parts, and of each position from its parts
pub record PositionsAreKnown (new : World) (entries : List Entry) (ds : List Dispatch) (xs : List Exchange)
    (told outcomes : List (Result Tree Refusal)) : Type 0 where
  pub parts : PartsAreKnown new (in_parts entries) ds xs told
  pub positions : AreFatesOfParts (splits_in entries) told outcomes
  pub whole : length outcomes ≡ length entries

-- From what a call ensures alone it is known of each position whether all its parts were answered (`answered`; a part
-- whose answer is an error need not have been done), none was done (`redirected`), or it may have been done (`lost`),
-- also where memory is refused.
abbrev pub EachPositionHasItsFate : Type 0
EachPositionHasItsFate = (strategy : Option Strategy) (old new : World) (entries : List Entry)
    (outcomes : List (Result Tree Refusal)) → (made : EachMade strategy old new entries (Ok outcomes))
    → (place : ℕ)
    → PositionsAreKnown new entries made.told.dispatches (exchanges_of place made.happened.events)
    (each_of (refusals_of made.happened.events) made.told.dispatches (exchanges_of place made.happened.events))
    outcomes

-- ---- the parts of a pipeline

-- Where each command goes to slots, so does each part, and whole.
abbrev pub PartsGoWhole : Type 0
PartsGoWhole = (entries : List Entry) → first_unplaced 0 entries ≡ None
    → (parts : List Part) × (pipeline_parts 0 (in_parts entries) ≡ Ok parts)

-- Where no command is split its outcomes are those of its parts.
abbrev pub WholesStayWhole : Type 0
WholesStayWhole = (entries : List Entry) (parts : List Part) → pipeline_parts 0 entries ≡ Ok parts
    → (in_parts entries ≡ entries) × (first_unplaced 0 entries ≡ None)
    × ((told outcomes : List (Result Tree Refusal)) → AreOutcomesOf (splits_in entries) told outcomes
    → told ≡ outcomes)

-- Where no link call failed, the exchanges are those of `query`, and its answer is a function of the outcomes.
abbrev pub OutcomesMakeTheAnswer : Type 0
OutcomesMakeTheAnswer = (client : Client) (picks : List Address) (faults : Address → LinkFault)
    (entries : List Entry) (ds : List Dispatch) (xs : List Exchange)
    → plan client picks (Pipeline entries) ≡ Ok ds → requests xs ≡ map direct (concat (node_groups ds))
    → list_any is_unanswered xs ≡ false
    → IsLegalCall client picks (Pipeline entries) xs
    × (answer_of client picks faults (Pipeline entries) xs
    ≡ value_answer (answer_of_each entries (each_of (λ node. refusal_by_fault (faults node)) ds xs)))

-- What a pipeline that tells of each position ensures makes it a call like any other, of which all laws of calls
-- hold.
abbrev pub EachIsACall : Type 0
EachIsACall = (strategy : Option Strategy) (old new : World) (entries : List Entry)
    (result : Result (List (Result Tree Refusal)) Refusal) → EachMade strategy old new entries result
    → CallMade strategy old new (Each entries) (told_answer result)
