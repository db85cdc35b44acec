-- A pipeline in which split commands stand as their parts, from the run of these parts.
use Rattle.std.specs.Prelude.{◌+◌, ◌≤◌, ◌||◌, cond, is_some, replicate, IfSome, MatchOption}
use Rattle.std.specs.List.{list_any, AllByRecursion}
use Rattle.std.proofs.Common.{◌≡◌, ◌≢◌, ℕ, zero, suc, Bool, true, false, List, [], ◌∷◌, ◌++◌, map, take, drop, length, length-append, append-nil, append_assoc, Option, Some, None, option_map, Result, Ok, Err, refl, sym, ap, ◌∙◌, subst, arith}
use Rattle.std.proofs.lemmas.List.{length-map, map-append}
use Rattle.resp_core.specs.Trees.{Tree, nil}
use Rattle.resp_core.specs.Trees as trees
use Rattle.resp_core.specs.Errors.{Refusal, by_cause, at_position}
use Rattle.resp_core.specs.declared.errors.redis_error.Cause.TheVariants.{Memory, NoResponse, CursorInSplit}
use Rattle.resp_args.specs.Command.{Command}
use Rattle.resp_args.specs.Packed.{sent}
use Rattle.cluster_routing.specs.Address.{Address, same_address}
use Rattle.cluster_routing.specs.Choice.{Strategy}
use Rattle.cluster_routing.specs.Command.{all_bytes}
use Rattle.cluster_routing.specs.Routing.{Destination, to_any_node, to_any_primary, to_route, to_address, to_all_nodes, to_all_primaries, to_parts, route_to, name_of, destination}
use Rattle.cluster_routing.specs.Split.{Split, PartsByPlace, split_of, split_by_place, parts_by_place, has_split_word, part_places, part_slots, sub}
use Rattle.cluster_routing.specs.declared.route.Route.{Route}
use Rattle.cluster_routing.specs.declared.route.SlotAddr.TheVariants.{Master}
use Rattle.cluster_routing.proofs.PartPlaces.{subs_are_at_their_places}
use Rattle.cluster_routing.specs.Lists.{concat}
use Rattle.cluster_calls.specs.Calls.Call.{Entry, Pipeline}
use Rattle.cluster_calls.specs.Calls.Each.{each_of, outcome_of, position_exchanges, reply_in, reply_outcome}
use Rattle.cluster_calls.specs.Calls.EachInParts.{AreOutcomesOf, IsMadeOf, each_plan, refusal_of_parts, reply_in_parts}
use Rattle.cluster_calls.specs.Calls.InParts.{if_several, entries_by, first_unplaced, goes_to_slots, in_parts, part_entry, split_at, splits_in}
use Rattle.cluster_calls.specs.Calls.Legal.{direct, node_groups}
use Rattle.cluster_calls.specs.Calls.Parts.{Part, Target, at_slot, if_one_slot, is_gap, only_part, part_to, parts_of, pipeline_parts, role_by, split_parts, whole_part, with_whole, unless}
use Rattle.cluster_calls.specs.Calls.Plan.{Client, Dispatch, plan}
use Rattle.cluster_calls.specs.Calls.Replies.{reply_or_nil}
use Rattle.cluster_calls.specs.Links.EachMade.{EachHappened, EachMade, WholesMade, refusal_by, refusals_of}
use Rattle.cluster_calls.specs.Links.Events.{Event, Ending, answers, fails, exchanges_of}
use Rattle.cluster_calls.specs.Links.Faults.{LinkFault, io, grammar, no_memory, refusal_by_fault}
use Rattle.cluster_calls.specs.Links.Happened.{client_of}
use Rattle.cluster_calls.specs.Links.Log.{Exchange, has_lost, requests}
use Rattle.cluster_calls.specs.Links.Run.{with_log}
use Rattle.cluster_calls.specs.Links.World.{World}
use Rattle.cluster_steps.specs.Joins.{AreOutcomesBy, HasRoom, IsJoinedBy, IsTold, shown_join, width_by, width_of_all}
use Rattle.cluster_steps.specs.FirstPlaces.{part_of}
use Rattle.cluster_steps.specs.declared.join.Join.{Join}
use Rattle.cluster_steps.specs.CodeParts.{part_targets, routed_at, routed_part}
use Rattle.cluster_steps.specs.WholeParts.{whole_by}
use Rattle.cluster_client.specs.InParts.{AreInParts, AreReady, IsAdded, if_several_targets, joined_by, joins_after, places_of, shown_joins}
use Rattle.cluster_client.specs.declared.pipeline.in_parts.InParts.{InParts}
use Rattle.cluster_client.proofs.PipeParts.{before, before_none}
use Rattle.cluster_calls.proofs.LinkLaws.EventLists.{exchanged}
use Rattle.cluster_calls.proofs.LogLaws.EachInParts.{entry_part, is_whole, part_to_slot, split_is, split_parts_go}
use Rattle.cluster_calls.proofs.LogLaws.EachPosition.{IsItsOwn, positions_drawn}
use Rattle.cluster_calls.proofs.LogLaws.Fates.{pairwise_length, pipe_dispatches}
use Rattle.cluster_calls.proofs.ServerLaws.Pipes.{IsEntryDispatch}
use Rattle.cluster_steps.proofs.PartReplies.{cut_so}
use Rattle.cluster_steps.proofs.ReadStreams.{sent_plain}
use Rattle.cluster_steps.proofs.SplitCommands.{all_of}
use Rattle.cluster_client.proofs.EachPiping.{WholesTold, nothing_sent}

abbrev Outcome : Type 0
Outcome = Result Tree Refusal

-- ---- outcomes by places are those of the commands

taken_length : {A : Type 0} (n m : ℕ) (xs : List A) → n + m ≡ length xs → (length (take n xs) ≡ n) × (m ≡ length (drop n xs))
taken_length zero m xs e = (refl, let k : m ≡ length xs = omega (arith, e) in k)
taken_length (suc n) m [] e = absurd (let f : ⊥ = omega (arith, e) in f)
taken_length (suc n) m (x ∷ xs) e =
    let r = taken_length n m xs (let k : n + m ≡ length xs = omega (arith, e) in k) in (ap suc r.0, r.1)

joined_so : (e : Entry) (s : Split) → split_at e ≡ Some s → (os : List Outcome) (outcome : Outcome) → length os ≡ length (part_slots s.tuples) → IsJoinedBy (split_by_place [] s) os outcome → IsMadeOf s os outcome
joined_so e s is os outcome len joined = by (refusal_of_parts os) joined
  where
    by : (o : Option Refusal)
        → MatchOption o ((args : List (List ℕ)) (t : Split) → split_of args ≡ Some t → split_by_place [] s ≡ split_by_place [] t → length os ≡ length (part_slots t.tuples) → outcome ≢ Err (by_cause Memory) → outcome ≡ reply_in_parts t (map reply_in os)) (λ refusal. outcome ≡ Err refusal)
        → MatchOption o (outcome ≢ Err (by_cause Memory) → outcome ≡ reply_in_parts s (map reply_in os)) (λ refusal. outcome ≡ Err refusal)
    by None j = λ m. j (sent e.command) s (split_is (parts_of [] e.command 0) (split_of (sent e.command)) s is) refl len m
    by (Some refusal) j = j

pub outcomes_by_places : (entries : List Entry) (told outcomes : List Outcome) → width_of_all (map places_of (splits_in entries)) ≡ length told → AreOutcomesBy (map places_of (splits_in entries)) told outcomes → AreOutcomesOf (splits_in entries) told outcomes
outcomes_by_places [] told [] w h = h
outcomes_by_places [] told (o ∷ os) w h = absurd h
outcomes_by_places (e ∷ es) told [] w h = absurd h
outcomes_by_places (e ∷ es) told (o ∷ os) w h = by (split_at e) refl w h (λ k i. outcomes_by_places es k os i)
  where
    rest : ℕ
    rest = width_of_all (map places_of (splits_in es))

    by : (s : Option Split) → split_at e ≡ s → width_by (places_of s) + rest ≡ length told → AreOutcomesBy (places_of s ∷ map places_of (splits_in es)) told (o ∷ os)
        → ((k : List Outcome) → rest ≡ length k → AreOutcomesBy (map places_of (splits_in es)) k os → AreOutcomesOf (splits_in es) k os) → AreOutcomesOf (s ∷ splits_in es) told (o ∷ os)
    by None is v k ih = (k.0, ih (drop 1 told) (taken_length 1 rest told v).1 k.1)
    by (Some s) is v k ih =
        let n : width_by (places_of (Some s)) ≡ length (part_slots s.tuples) = length-map (part_slots s.tuples) _ in
        let t = taken_length (length (part_slots s.tuples)) rest told (subst (λ m. m + rest ≡ length told) n v) in
        let both = subst (λ m. IsJoinedBy (split_by_place [] s) (take m told) o × AreOutcomesBy (map places_of (splits_in es)) (drop m told) os) n k in
        (joined_so e s is (take (length (part_slots s.tuples)) told) o t.0 both.0, ih (drop (length (part_slots s.tuples)) told) t.1 both.1)

-- ---- as many outcomes as commands that go out

pub widths : (entries : List Entry) → width_of_all (map places_of (splits_in entries)) ≡ length (in_parts entries)
widths [] = refl
widths (e ∷ es) = by (split_at e) (widths es)
  where
    by : (s : Option Split) → width_of_all (map places_of (splits_in es)) ≡ length (in_parts es) → width_by (places_of s) + width_of_all (map places_of (splits_in es)) ≡ length (entries_by e s ++ in_parts es)
    by None ih = let k : 1 + width_of_all (map places_of (splits_in es)) ≡ suc (length (in_parts es)) = omega (arith, ih) in k
    by (Some s) ih =
        ap (λ n. n + width_of_all (map places_of (splits_in es))) (length-map (part_slots s.tuples) _ ∙ sym (length-map (part_slots s.tuples) (part_entry s)))
        ∙ ap (λ n. length (map (part_entry s) (part_slots s.tuples)) + n) ih ∙ sym (length-append (map (part_entry s) (part_slots s.tuples)) (in_parts es))

pub told_length : (client : Client) (picks : List Address) (entries : List Entry) (ds : List Dispatch) (refusals : Address → Refusal) (xs : List Exchange) → plan client picks (Pipeline entries) ≡ Ok ds → requests xs ≡ map direct (concat (node_groups ds)) → length (each_of refusals ds xs) ≡ length entries
told_length client picks entries ds refusals xs planned sent =
    length-map (position_exchanges ds xs) (outcome_of refusals xs) ∙ pairwise_length (IsItsOwn xs) ds (position_exchanges ds xs) (positions_drawn ds xs sent).0
    ∙ pairwise_length IsEntryDispatch entries ds (pipe_dispatches client picks entries ds planned).1

-- ---- a command of several slots is split

pub several_is : (ts : List Target) (p : Option PartsByPlace) (made : PartsByPlace) → Some made ≡ if_several_targets ts p → Some made ≡ p
several_is [] p made e = cc
several_is (t ∷ []) p made e = cc
several_is (t ∷ u ∷ ts) p made e = e

-- ---- what is told of each

reply_told : (tree : Tree) → IsTold (reply_outcome tree)
reply_told (trees.server_error e) = tt
reply_told nil = tt
reply_told (trees.int n) = tt
reply_told (trees.bulk v) = tt
reply_told (trees.array ts) = tt
reply_told (trees.simple s) = tt
reply_told trees.okay = tt
reply_told (trees.map ps) = tt
reply_told (trees.attribute t ps) = tt
reply_told (trees.set ts) = tt
reply_told (trees.double s) = tt
reply_told (trees.boolean b) = tt
reply_told (trees.verbatim f s) = tt
reply_told (trees.big_number s) = tt
reply_told (trees.push k ts) = tt

fault_told : (fault : LinkFault) → IsTold (Err (refusal_by_fault fault))
fault_told io = tt
fault_told grammar = tt
fault_told no_memory = tt

pub refusals_told : (events : List Event) (a : Address) → IsTold (Err (refusals_of events a))
refusals_told [] a = tt
refusals_told (x ∷ xs) a = by (same_address x.node a) x.ending (refusals_told xs a)
  where
    by : (b : Bool) (e : Ending) → IsTold (Err (refusals_of xs a)) → IsTold (Err (cond b (refusal_by e (refusals_of xs a)) (refusals_of xs a)))
    by false e later = later
    by true (answers replies) later = later
    by true (fails fault) later = fault_told fault

pub each_told : (refusals : Address → Refusal) → ((a : Address) → IsTold (Err (refusals a))) → (xs its : List Exchange) → AllByRecursion IsTold (map (outcome_of refusals xs) its)
each_told refusals told xs [] = tt
each_told refusals told xs (x ∷ its) = (by (has_lost x.request.node xs), each_told refusals told xs its)
  where
    by : (b : Bool) → IsTold (cond b (Err (refusals x.request.node)) (reply_outcome (reply_or_nil x)))
    by true = told x.request.node
    by false = reply_told (reply_or_nil x)

-- what stands behind commands that went whole
pub record Told (entries : List Entry) (told : List Outcome) : Type 0 where
  pub each : AllByRecursion IsTold told
  pub count : length told ≡ length entries

pub wholes_are_told : (strategy : Option Strategy) (old new : World) (entries : List Entry) (told : List Outcome) → WholesTold strategy old new entries (Ok told) → Told entries told
wholes_are_told strategy old new entries told w =
    let events = w.happened.events in
    let xs = exchanges_of 0 events in
    let is = w.told.each 0 in
    record {
      each = subst (AllByRecursion IsTold) (sym is) (each_told (refusals_of events) (refusals_told events) xs (position_exchanges w.told.dispatches xs));
      count = ap length is ∙ told_length (client_of old) new.picked entries w.told.dispatches (refusals_of events) xs w.told.planned (exchanged events 0 ∙ w.told.sent);
    }

-- ---- behind an emptied log

abbrev happened_before : (old new : World) → EachHappened (with_log old [] []) new → EachHappened old new
happened_before old new h = record { events = h.events; runs = h.runs; logged = h.logged; calls = h.calls; entries = h.entries; settings = h.settings; flag = h.flag }

-- the same of commands that go whole
pub wholes_before : (strategy : Option Strategy) (old mid new : World) (entries : List Entry) (planned : Result (List Dispatch) Refusal) (Tells : List Outcome → List Outcome → Type 0) (result : Result (List Outcome) Refusal)
    → mid ≡ with_log old [] [] → WholesMade strategy mid new entries planned Tells result → WholesMade strategy old new entries planned Tells result
wholes_before strategy old mid new entries planned Tells result stays made = by result (subst (λ (w : World). WholesMade strategy w new entries planned Tells result) stays made)
  where
    by : (r : Result (List Outcome) Refusal) → WholesMade strategy (with_log old [] []) new entries planned Tells r → WholesMade strategy old new entries planned Tells r
    by (Ok outcomes) m = record {
      happened = happened_before old new m.happened;
      told = record { dispatches = m.told.dispatches; planned = m.told.planned; picks = m.told.picks; unpicked = m.told.unpicked; sent = m.told.sent; each = m.told.each };
    }
    by (Err refusal) m = record {
      happened = happened_before old new m.happened;
      told = record { stays = m.told.stays; refused = m.told.refused };
    }

pub each_before : (strategy : Option Strategy) (old mid new : World) (entries : List Entry) (result : Result (List Outcome) Refusal) → mid ≡ with_log old [] [] → EachMade strategy mid new entries result → EachMade strategy old new entries result
each_before strategy old mid new entries result stays made =
    wholes_before strategy old mid new (in_parts entries) (each_plan (client_of old) [] entries) (AreOutcomesOf (splits_in entries)) result stays
    (subst (λ (w : World). WholesMade strategy mid new (in_parts entries) (each_plan (client_of w) [] entries) (AreOutcomesOf (splits_in entries)) result) stays made)

-- ---- the call

pub unsent : (strategy : Option Strategy) (old new : World) (entries : List Entry) (refusal : Refusal) → new ≡ with_log old [] [] → (refusal ≢ by_cause Memory → each_plan (client_of old) [] entries ≡ Err refusal) → EachMade strategy old new entries (Err refusal)
unsent strategy old new entries refusal stays why = record { happened = nothing_sent old new stays; told = record { stays = stays; refused = why } }

-- a command is at no slot
pub unplaced : (strategy : Option Strategy) (old new : World) (entries : List Entry) (refusal : Refusal) → new ≡ with_log old [] [] → (refusal ≢ by_cause Memory → first_unplaced 0 entries ≡ Some refusal) → EachMade strategy old new entries (Err refusal)
unplaced strategy old new entries refusal stays why =
    unsent strategy old new entries refusal stays (λ m. ap (λ o. unless o (plan (client_of old) [] (Pipeline (in_parts entries)))) (why m))

-- all commands go out whole or in parts
module _ (strategy : Option Strategy) (old new : World) (entries : List Entry) (placed : first_unplaced 0 entries ≡ None) where
  pub told_in_parts : (told outcomes : List Outcome) → WholesTold strategy old new (in_parts entries) (Ok told) → AreOutcomesOf (splits_in entries) told outcomes → EachMade strategy old new entries (Ok outcomes)
  told_in_parts told outcomes w are = record {
    happened = w.happened;
    told = record {
      dispatches = w.told.dispatches;
      planned = w.told.planned;
      picks = w.told.picks;
      unpicked = w.told.unpicked;
      sent = w.told.sent;
      each = λ place. subst (λ os. AreOutcomesOf (splits_in entries) os outcomes) (w.told.each place) are;
    };
  }

  pub refused_in_parts : (refusal : Refusal) → WholesTold strategy old new (in_parts entries) (Err refusal) → EachMade strategy old new entries (Err refusal)
  refused_in_parts refusal w = unsent strategy old new entries refusal w.told.stays
      (λ m. ap (λ o. unless o (plan (client_of old) [] (Pipeline (in_parts entries)))) placed ∙ w.told.refused m)

-- ---- no command is split

own_outcomes : (n : ℕ) (told : List Outcome) → n ≡ length told → AreOutcomesBy (replicate n None) told told
own_outcomes zero [] e = refl
own_outcomes zero (t ∷ told) e = cc
own_outcomes (suc n) [] e = cc
own_outcomes (suc n) (t ∷ told) e = (refl, own_outcomes n told (let k : n ≡ length told = omega (arith, e) in k))

pub told_so : (entries : List Entry) (told : List Outcome) → replicate (length entries) None ≡ map places_of (splits_in entries) → width_of_all (map places_of (splits_in entries)) ≡ length told → AreOutcomesOf (splits_in entries) told told
told_so entries told none width =
    outcomes_by_places entries told told width
    (subst (λ ps. AreOutcomesBy ps told told) none (own_outcomes (length entries) told (sym (whole_widths (length entries)) ∙ ap width_of_all none ∙ width)))
  where
    whole_widths : (n : ℕ) → width_of_all (replicate n None) ≡ n
    whole_widths zero = refl
    whole_widths (suc n) = let k : 1 + width_of_all (replicate n None) ≡ suc n = omega (arith, whole_widths n) in k

-- ---- joins behind those of commands that go whole

pub all_joined : (n : ℕ) (joins : List (Option PartsByPlace)) → joins ≢ [] → joined_by n joins ≡ joins
all_joined n [] some = absurd (some refl)
all_joined n (join ∷ joins) some = refl

replicated : (n : ℕ) (joins : List (Option PartsByPlace)) → replicate n None ++ None ∷ joins ≡ None ∷ (replicate n None ++ joins)
replicated zero joins = refl
replicated (suc n) joins = ap (λ js. None ∷ js) (replicated n joins)

-- one more that goes whole
pub one_more : (n : ℕ) → joined_by (suc n) [] ≡ joined_by n [] ++ None ∷ []
one_more n = sym (replicated n [] ∙ ap (λ js. None ∷ js) (append-nil (replicate n None)))

-- one more behind the others
pub pushed_join : (n : ℕ) (joins new : List (Option Join)) (join : Option Join) → new ≡ joins ++ join ∷ [] → joined_by n (shown_joins new) ≡ shown_joins joins ++ option_map shown_join join ∷ []
pushed_join n [] new join is = rw is refl
pushed_join n (j ∷ joins) new join is = rw is (ap (λ js. option_map shown_join j ∷ js) (map-append (option_map shown_join) joins (join ∷ [])))

-- ---- what goes out, command by command

-- a command with several parts is split as its parts are
several_split : (e : Entry) (list : List Part) → parts_of [] e.command 0 ≡ Ok list → 2 ≤ length list → parts_by_place e.command.args [] ≡ places_of (split_at e)
several_split e [] p w = absurd (let f : ⊥ = omega (arith, w) in f)
several_split e (a ∷ []) p w = absurd (let f : ⊥ = omega (arith, w) in f)
several_split e (a ∷ b ∷ more) p w = cut_so [] e.command 0 (a ∷ b ∷ more) p ∙ ap (λ r. places_of (if_several r (split_of (sent e.command)))) (sym p)

-- by where the parts go
pub split_by_targets : (e : Entry) (ts : List Target) (places : Option PartsByPlace) → Ok ts ≡ part_targets (parts_of [] e.command 0) → places ≡ parts_by_place e.command.args [] → if_several_targets ts places ≡ places_of (split_at e)
split_by_targets e ts places t p = by (parts_of [] e.command 0) refl t
  where
    split : (r : Result (List Part) Refusal) → parts_of [] e.command 0 ≡ r → places_of (if_several r (split_of (sent e.command))) ≡ places_of (split_at e)
    split r is = ap (λ q. places_of (if_several q (split_of (sent e.command)))) (sym is)

    by : (r : Result (List Part) Refusal) → parts_of [] e.command 0 ≡ r → Ok ts ≡ part_targets r → if_several_targets ts places ≡ places_of (split_at e)
    by (Err refusal) is k = cc
    by (Ok []) is k =
        let none : ts ≡ [] = cc in
        rw none (split (Ok []) is)
    by (Ok (a ∷ [])) is k =
        let one : ts ≡ a.target ∷ [] = cc in
        rw one (split (Ok (a ∷ [])) is)
    by (Ok (a ∷ b ∷ more)) is k =
        let several : ts ≡ a.target ∷ b.target ∷ map (λ (part : Part). part.target) more = cc in
        rw several (p ∙ several_split e (a ∷ b ∷ more) is (omega arith))

pub none_split : (e : Entry) (refusal : Refusal) → Err refusal ≡ parts_of [] e.command 0 → None ≡ places_of (split_at e)
none_split e refusal p = ap (λ r. places_of (if_several r (split_of (sent e.command)))) p

pub no_split : (o : Option Split) → None ≡ places_of o → o ≡ None
no_split None h = refl
no_split (Some s) h = cc

pub ready_more : (joins : List (Option Join)) (join : Option Join) → AreReady joins → IfSome join HasRoom → AreReady (joins ++ join ∷ [])
ready_more [] join r h = (h, tt)
ready_more (j ∷ joins) join r h = (r.0, ready_more joins join r.1 h)

pub goes_as : (e : Entry) (o : Option Route) (b : Bool) → None ≡ places_of (split_at e) → option_map (whole_by (sent e.command)) o ≡ entry_part e → is_some o ≡ b → goes_to_slots e ≡ b
goes_as e o b split part is = ap (λ q. is_some q || is_some (entry_part e)) (no_split (split_at e) split) ∙ ap is_some (sym part) ∙ same o ∙ is
  where
    same : (o : Option Route) → is_some (option_map (whole_by (sent e.command)) o) ≡ is_some o
    same None = refl
    same (Some route) = refl

-- the commands of a split command's parts

gap_free : (command : Command) (s : Split) → if_several (parts_of [] command 0) (split_of (sent command)) ≡ Some s → all_bytes command.args ≡ Some (sent command)
gap_free command s is = by command.no_response (has_split_word command.args) (list_any is_gap command.args) refl is
  where
    split : Option Split
    split = split_of (sent command)

    routed : (o : Option Destination) → if_several (only_part (sent command) 0 o) split ≡ Some s → all_bytes command.args ≡ Some (sent command)
    routed None e = cc
    routed (Some (to_route route)) e = cc
    routed (Some to_any_node) e = cc
    routed (Some to_any_primary) e = cc
    routed (Some (to_address a)) e = cc
    routed (Some (to_all_nodes q)) e = cc
    routed (Some (to_all_primaries q)) e = cc
    routed (Some (to_parts ps pattern q)) e = cc

    by : (a b c : Bool) → list_any is_gap command.args ≡ c
        → if_several (cond a (Err (by_cause NoResponse)) (cond b (cond c (Err (by_cause CursorInSplit)) (split_parts (role_by (name_of command.args) []) split)) (only_part (sent command) 0 (destination command.args [])))) split ≡ Some s
        → all_bytes command.args ≡ Some (sent command)
    by true b c g e = cc
    by false true true g e = cc
    by false true false g e = all_of _ command.args g
    by false false c g e = routed (destination command.args []) e

pub parts_go : (e : Entry) (made : PartsByPlace) → Some made ≡ places_of (split_at e) → goes_to_slots e ≡ true
parts_go e made some = by (split_at e) refl some
  where
    by : (o : Option Split) → split_at e ≡ o → Some made ≡ places_of o → goes_to_slots e ≡ true
    by None is k = cc
    by (Some s) is k = ap (λ o. is_some o || is_some (entry_part e)) is

abbrev routes_to : Split → List ℕ → List (Route × List ℕ)
routes_to s slots = map (λ slot. (route_to Master slot, part_places slot s.tuples)) slots

-- its parts are made of its routes
pub parts_placed : (e : Entry) (made : PartsByPlace) → Some made ≡ places_of (split_at e) → (position : ℕ)
    → pipeline_parts position (entries_by e (split_at e)) ≡ Ok (map routed_part (map (routed_at e.command.args) made.routes))
parts_placed e made some position = by (split_at e) refl some
  where
    each : (s : Split) → split_at e ≡ Some s → (slots : List ℕ)
        → map routed_part (map (routed_at e.command.args) (routes_to s slots)) ≡ map (part_to_slot s) slots
    each s is [] = refl
    each s is (slot ∷ slots) =
        ap (λ texts. part_to texts (at_slot (route_to Master slot)) ∷ map routed_part (map (routed_at e.command.args) (routes_to s slots)))
        (subs_are_at_their_places e.command.args (sent e.command) s slot (gap_free e.command s is) (split_is (parts_of [] e.command 0) (split_of (sent e.command)) s is) ∙ sym (sent_plain (sub s slot)))
        ∙ ap (λ ps. part_to_slot s slot ∷ ps) (each s is slots)

    by : (o : Option Split) → split_at e ≡ o → Some made ≡ places_of o
        → pipeline_parts position (entries_by e o) ≡ Ok (map routed_part (map (routed_at e.command.args) made.routes))
    by None is k = cc
    by (Some s) is k =
        let same : made ≡ split_by_place [] s = cc in
        split_parts_go e s is position ∙ ap (λ ps. Ok ps) (sym (each s is (part_slots s.tuples)))
        ∙ ap (λ (m : PartsByPlace). Ok (map routed_part (map (routed_at e.command.args) m.routes))) (sym same)

-- the part of a command that goes whole
pub whole_placed : (e : Entry) (part : Part) → entry_part e ≡ Some part → (position : ℕ) → pipeline_parts position (entries_by e (split_at e)) ≡ Ok (part ∷ [])
whole_placed e part h position =
    ap (λ o. pipeline_parts position (entries_by e o)) (is_whole e part h) ∙ ap (λ o. with_whole position o (Ok [])) h

pub whole_goes : (e : Entry) (part : Part) → entry_part e ≡ Some part → goes_to_slots e ≡ true
whole_goes e part h = ap (λ o. is_some o || is_some (entry_part e)) (is_whole e part h) ∙ ap is_some h

-- a command without parts is no part
pub unparted : (several : Bool) (args : List (List ℕ)) (r : Result (List Part) Refusal) (refusal : Refusal) → Err refusal ≡ r → None ≡ if_one_slot several (whole_part args r)
unparted true args r refusal e = refl
unparted false args r refusal e = ap (whole_part args) e

-- ---- one command after another

before_both : (part : Part) (qs : List Part) (position : ℕ) (r : Result (List Part) Refusal) → with_whole position (Some part) (before qs r) ≡ before (part ∷ qs) r
before_both part qs position (Ok more) = refl
before_both part qs position (Err refusal) = refl

before_more : (ps qs : List Part) (r : Result (List Part) Refusal) → before ps (before qs r) ≡ before (ps ++ qs) r
before_more ps qs (Ok more) = ap (λ xs. Ok xs) (sym (append_assoc ps qs more))
before_more ps qs (Err refusal) = refl

-- the parts of some commands, and then those of the others
parts_then : (es fs : List Entry) (ps : List Part) (position : ℕ) → pipeline_parts position es ≡ Ok ps → pipeline_parts position (es ++ fs) ≡ before ps (pipeline_parts (position + length ps) fs)
parts_then [] fs ps position h =
    let none : ps ≡ [] = cc in
    let same : position ≡ position + 0 = omega arith in
    rw none (sym (before_none (pipeline_parts position fs)) ∙ ap (λ n. before [] (pipeline_parts n fs)) same)
parts_then (e ∷ es) fs ps position h = by (entry_part e) (pipeline_parts (suc position) es) refl refl h (λ qs q. parts_then es fs qs (suc position) q)
  where
    by : (o : Option Part) (r : Result (List Part) Refusal) → entry_part e ≡ o → pipeline_parts (suc position) es ≡ r → with_whole position o r ≡ Ok ps
        → ((qs : List Part) → pipeline_parts (suc position) es ≡ Ok qs → pipeline_parts (suc position) (es ++ fs) ≡ before qs (pipeline_parts (suc position + length qs) fs))
        → pipeline_parts position ((e ∷ es) ++ fs) ≡ before ps (pipeline_parts (position + length ps) fs)
    by None r p q k ih = cc
    by (Some part) (Err refusal) p q k ih = cc
    by (Some part) (Ok qs) p q k ih =
        let is : part ∷ qs ≡ ps = cc in
        let count : suc position + length qs ≡ position + length (part ∷ qs) = omega arith in
        subst (λ xs. pipeline_parts position ((e ∷ es) ++ fs) ≡ before xs (pipeline_parts (position + length xs) fs)) is
        (ap (λ o. with_whole position o (pipeline_parts (suc position) (es ++ fs))) p
        ∙ ap (with_whole position (Some part)) (ih qs q)
        ∙ before_both part qs position (pipeline_parts (suc position + length qs) fs)
        ∙ ap (λ n. before (part ∷ qs) (pipeline_parts n fs)) count)

-- what is known behind so many commands
pub record Added (entries : List Entry) (position : ℕ) (rest : List Entry) (p : InParts) : Type 0 where
  pub placed : first_unplaced position rest ≡ first_unplaced 0 entries
  pub parts : before (map part_of p.parts.items) (pipeline_parts (length (map part_of p.parts.items)) (in_parts rest)) ≡ pipeline_parts 0 (in_parts entries)
  pub count : position + length rest ≡ length entries
  pub joins : joins_after position p ++ map places_of (splits_in rest) ≡ map places_of (splits_in entries)
  pub ready : AreReady p.joins.items

pub added_more : (entries : List Entry) (position : ℕ) (e : Entry) (rest : List Entry) (old new : InParts) → Added entries position (e ∷ rest) old → IsAdded position e old new → Added entries (suc position) rest new
added_more entries position e rest old new a more = record {
  placed = sym (ap (λ b. cond b (first_unplaced (suc position) rest) (Some (at_position position))) more.placed) ∙ a.placed;
  parts =
      let ps = map part_of old.parts.items in
      let count : length (ps ++ more.more) ≡ length ps + length more.more = length-append ps more.more in
      ap (λ xs. before xs (pipeline_parts (length xs) (in_parts rest))) more.parts
      ∙ ap (λ n. before (ps ++ more.more) (pipeline_parts n (in_parts rest))) count
      ∙ sym (before_more ps more.more (pipeline_parts (length ps + length more.more) (in_parts rest)))
      ∙ ap (before ps) (sym (parts_then (entries_by e (split_at e)) (in_parts rest) more.more (length ps) (more.goes (length ps))))
      ∙ a.parts;
  count = let count : suc position + length rest ≡ length entries = omega (arith, a.count) in count;
  joins = ap (λ js. js ++ map places_of (splits_in rest)) more.joins ∙ append_assoc (joins_after position old) (places_of (split_at e) ∷ []) (map places_of (splits_in rest)) ∙ a.joins;
  ready = more.ready a.ready;
}

pub added_all : (entries : List Entry) (position : ℕ) (p : InParts) → Added entries position [] p → AreInParts entries p
added_all entries position p a = record {
  placed = sym a.placed;
  parts = sym a.parts ∙ ap (λ xs. Ok xs) (append-nil (map part_of p.parts.items));
  joins =
      let all : length entries ≡ position = omega (arith, a.count) in
      ap (λ n. joins_after n p) all ∙ sym (append-nil (joins_after position p)) ∙ a.joins;
  ready = a.ready;
}

pub added_none : (entries : List Entry) (position : ℕ) (e : Entry) (rest : List Entry) (p : InParts) → Added entries position (e ∷ rest) p → goes_to_slots e ≡ false → first_unplaced 0 entries ≡ Some (at_position position)
added_none entries position e rest p a none = sym a.placed ∙ ap (λ b. cond b (first_unplaced (suc position) rest) (Some (at_position position))) none
