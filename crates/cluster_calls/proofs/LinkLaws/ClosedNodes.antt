-- A node whose link is closed is passed over by link calls, and by what a call does.
use Rattle.std.proofs.Common.{◌≡◌, Bool, true, false, cond, not, List, [], ◌∷◌, ◌++◌, filter, Option, Some, None, Result, refl, sym, ap, ◌∙◌, subst}
use Rattle.std.specs.Prelude.{◌||◌}
use Rattle.std.specs.List.{list_any}
use Rattle.std.proofs.lemmas.Bool.{false≢true}
use Rattle.resp_core.specs.Errors.{Refusal}
use Rattle.resp_link.specs.Call.{Seen}
use Rattle.cluster_routing.specs.Address.{Address, same_address}
use Rattle.cluster_routing.specs.Choice.{Strategy}
use Rattle.cluster_calls.specs.Calls.Answer.{Answer, IsAnswerOf}
use Rattle.cluster_calls.specs.Calls.Call.{Call}
use Rattle.cluster_calls.specs.Calls.Legal.{IsLegalCall}
use Rattle.cluster_calls.specs.Calls.Picks.{ArePicks}
use Rattle.cluster_calls.specs.Links.Events.{Event, LinkCalled, Runs, exchanges_of}
use Rattle.cluster_calls.specs.Links.Happened.{client_of, BeginsLegal, Happened, Answered, CallMade}
use Rattle.cluster_calls.specs.Links.Lacking.{MayLack}
use Rattle.cluster_calls.specs.Links.World.{Node, World, link_at, set_link, is_usable, open_links}
use Rattle.cluster_calls.specs.OneServer.ClosedLinks.{with_nodes, IsAlsoMade}
use Rattle.cluster_calls.proofs.LinkLaws.Addresses.{same_true}
use Rattle.cluster_calls.proofs.LinkLaws.EndLaws.{ends_was_open}
use Rattle.cluster_calls.proofs.LinkLaws.LinkPlaces.{set_other, linked}
use Rattle.cluster_calls.proofs.LinkLaws.OpenLinks.{swapped}
use Rattle.cluster_calls.proofs.LinkLaws.Played.{played}

-- ---- the open links

none_gone : (a : Address) (xs : List Address) → list_any (λ k. same_address k a) xs ≡ false → filter (λ k. not (same_address k a)) xs ≡ xs
none_gone a [] h = refl
none_gone a (x ∷ xs) h = by (same_address x a) h (λ g. none_gone a xs g)
  where
    by : (b : Bool) → (b || list_any (λ k. same_address k a) xs) ≡ false → (list_any (λ k. same_address k a) xs ≡ false → filter (λ k. not (same_address k a)) xs ≡ xs)
        → cond (not b) (x ∷ filter (λ k. not (same_address k a)) xs) (filter (λ k. not (same_address k a)) xs) ≡ x ∷ xs
    by true g ih = absurd (false≢true (sym g))
    by false g ih = ap (λ r. x ∷ r) (ih g)

pub open_without : (before after : List Node) (closed : Node) → closed.link.usable ≡ false → link_at after closed.address ≡ None → open_links (before ++ closed ∷ after) ≡ open_links (before ++ after)
open_without [] after closed shut alone =
    let others = filter (λ k. not (same_address k closed.address)) (open_links after) in
    ap (λ b. cond b (closed.address ∷ others) others) shut ∙ none_gone closed.address (open_links after) (linked after closed.address ∙ ap is_usable alone)
open_without (n ∷ before) after closed shut alone =
    ap (λ os. cond n.link.usable (n.address ∷ filter (λ k. not (same_address k n.address)) os) (filter (λ k. not (same_address k n.address)) os)) (open_without before after closed shut alone)

-- ---- one link call

-- the link of an open node is found with the closed one and without it, and changed alike
record Passes (before after : List Node) (closed : Node) (a : Address) (s v : Seen) : Type 0 where
  before' : List Node
  after' : List Node
  found_with : link_at (before ++ closed ∷ after) a ≡ Some s
  found_without : link_at (before ++ after) a ≡ Some s
  set_with : set_link (before ++ closed ∷ after) a v ≡ before' ++ closed ∷ after'
  set_without : set_link (before ++ after) a v ≡ before' ++ after'
  alone : link_at after' closed.address ≡ None

passes_here : (after : List Node) (closed : Node) (a : Address) (s v : Seen) → link_at after closed.address ≡ None → same_address closed.address a ≡ false → link_at after a ≡ Some s → Passes [] after closed a s v
passes_here after closed a s v alone other found = record {
  before' = [];
  after' = set_link after a v;
  found_with = ap (λ b. cond b (Some closed.link) (link_at after a)) other ∙ found;
  found_without = found;
  set_with = ap (λ b. cond b (record { address = closed.address; link = v } ∷ after) (closed ∷ set_link after a v)) other;
  set_without = refl;
  alone = set_other after a closed.address v (swapped a closed.address ∙ other) ∙ alone;
}

passes_there : (n : Node) (before after : List Node) (closed : Node) (a : Address) (s v : Seen) → same_address n.address a ≡ false → Passes before after closed a s v → Passes (n ∷ before) after closed a s v
passes_there n before after closed a s v other p = record {
  before' = n ∷ p.before';
  after' = p.after';
  found_with = ap (λ b. cond b (Some n.link) (link_at (before ++ closed ∷ after) a)) other ∙ p.found_with;
  found_without = ap (λ b. cond b (Some n.link) (link_at (before ++ after) a)) other ∙ p.found_without;
  set_with = ap (λ b. cond b (record { address = n.address; link = v } ∷ (before ++ closed ∷ after)) (n ∷ set_link (before ++ closed ∷ after) a v)) other ∙ ap (λ ns. n ∷ ns) p.set_with;
  set_without = ap (λ b. cond b (record { address = n.address; link = v } ∷ (before ++ after)) (n ∷ set_link (before ++ after) a v)) other ∙ ap (λ ns. n ∷ ns) p.set_without;
  alone = p.alone;
}

passes_first : (n : Node) (before after : List Node) (closed : Node) (a : Address) (s v : Seen) → link_at after closed.address ≡ None → same_address n.address a ≡ true → Some n.link ≡ Some s → Passes (n ∷ before) after closed a s v
passes_first n before after closed a s v alone same found = record {
  before' = record { address = n.address; link = v } ∷ before;
  after' = after;
  found_with = ap (λ b. cond b (Some n.link) (link_at (before ++ closed ∷ after) a)) same ∙ found;
  found_without = ap (λ b. cond b (Some n.link) (link_at (before ++ after) a)) same ∙ found;
  set_with = ap (λ b. cond b (record { address = n.address; link = v } ∷ (before ++ closed ∷ after)) (n ∷ set_link (before ++ closed ∷ after) a v)) same;
  set_without = ap (λ b. cond b (record { address = n.address; link = v } ∷ (before ++ after)) (n ∷ set_link (before ++ after) a v)) same;
  alone = alone;
}

usable_of : (s t : Seen) → Some s ≡ Some t → s.usable ≡ t.usable
usable_of s t e = let f : s ≡ t = cc in ap (λ (l : Seen). l.usable) f

passes_without : (before after : List Node) (closed : Node) (a : Address) (s v : Seen) → closed.link.usable ≡ false → link_at after closed.address ≡ None → s.usable ≡ true → link_at (before ++ closed ∷ after) a ≡ Some s
    → Passes before after closed a s v
passes_without [] after closed a s v shut alone opened found = by (same_address closed.address a) refl found
  where
    by : (b : Bool) → same_address closed.address a ≡ b → cond b (Some closed.link) (link_at after a) ≡ Some s → Passes [] after closed a s v
    by true e f = absurd (false≢true (sym shut ∙ usable_of closed.link s f ∙ opened))
    by false e f = passes_here after closed a s v alone e f
passes_without (n ∷ before) after closed a s v shut alone opened found = by (same_address n.address a) refl found (λ g. passes_without before after closed a s v shut alone opened g)
  where
    by : (b : Bool) → same_address n.address a ≡ b → cond b (Some n.link) (link_at (before ++ closed ∷ after) a) ≡ Some s → (link_at (before ++ closed ∷ after) a ≡ Some s → Passes before after closed a s v)
        → Passes (n ∷ before) after closed a s v
    by true e f ih = passes_first n before after closed a s v alone e f
    by false e f ih = passes_there n before after closed a s v e (ih f)

passes_with : (before after : List Node) (closed : Node) (a : Address) (s v : Seen) → link_at after closed.address ≡ None → link_at (before ++ after) a ≡ Some s → Passes before after closed a s v
passes_with [] after closed a s v alone found = by (same_address closed.address a) refl
  where
    none : None ≡ Some s → ⊥
    none e = cc

    by : (b : Bool) → same_address closed.address a ≡ b → Passes [] after closed a s v
    by true e = absurd (none (sym alone ∙ ap (link_at after) (same_true closed.address a e) ∙ found))
    by false e = passes_here after closed a s v alone e found
passes_with (n ∷ before) after closed a s v alone found = by (same_address n.address a) refl found (λ g. passes_with before after closed a s v alone g)
  where
    by : (b : Bool) → same_address n.address a ≡ b → cond b (Some n.link) (link_at (before ++ after) a) ≡ Some s → (link_at (before ++ after) a ≡ Some s → Passes before after closed a s v) → Passes (n ∷ before) after closed a s v
    by true e f ih = passes_first n before after closed a s v alone e f
    by false e f ih = passes_there n before after closed a s v e (ih f)

-- ---- runs of link calls

module _ (closed : Node) (shut : closed.link.usable ≡ false) where
  pub runs_without : (before after new : List Node) (xs : List Event) → link_at after closed.address ≡ None → Runs (before ++ closed ∷ after) new xs
      → (before' after' : List Node) × (new ≡ before' ++ closed ∷ after') × Runs (before ++ after) (before' ++ after') xs
  runs_without before after new [] alone r = (before, after, r, refl)
  runs_without before after new (x ∷ xs) alone r =
      let s = r.1 in
      let p = passes_without before after closed x.node s.before s.after shut alone (ends_was_open s.before s.after x.requests x.taken x.ending s.ends) s.found in
      let later = runs_without p.before' p.after' new xs p.alone (subst (λ ns. Runs ns new xs) (s.now ∙ p.set_with) r.2) in
      let here : LinkCalled (before ++ after) (p.before' ++ p.after') x =
      record { before = s.before; after = s.after; found = p.found_without; now = sym p.set_without; some = s.some; to_node = s.to_node; ends = s.ends } in
      (later.0, later.1, later.2, (p.before' ++ p.after', here, later.3))

  pub runs_with : (before after new : List Node) (xs : List Event) → link_at after closed.address ≡ None → Runs (before ++ after) new xs
      → (before' after' : List Node) × (new ≡ before' ++ after') × Runs (before ++ closed ∷ after) (before' ++ closed ∷ after') xs
  runs_with before after new [] alone r = (before, after, r, refl)
  runs_with before after new (x ∷ xs) alone r =
      let s = r.1 in
      let p = passes_with before after closed x.node s.before s.after alone s.found in
      let later = runs_with p.before' p.after' new xs p.alone (subst (λ ns. Runs ns new xs) (s.now ∙ p.set_without) r.2) in
      let here : LinkCalled (before ++ closed ∷ after) (p.before' ++ closed ∷ p.after') x =
      record { before = s.before; after = s.after; found = p.found_with; now = sym p.set_with; some = s.some; to_node = s.to_node; ends = s.ends } in
      (later.0, later.1, later.2, (p.before' ++ closed ∷ p.after', here, later.3))

-- ---- a call

module _ (strategy : Option Strategy) (old new : World) (call : Call) (answer : Result Answer Refusal) (made : CallMade strategy old new call answer) (nodes nodes' : List Node)
    (same : client_of old ≡ client_of (with_nodes old nodes)) (runs : Runs nodes nodes' made.happened.events) where
  abbrev happened : Happened strategy (with_nodes old nodes) (with_nodes new nodes') call
  happened = record {
    events = made.happened.events;
    runs = runs;
    stops = made.happened.stops;
    logged = made.happened.logged;
    calls = made.happened.calls;
    picks = λ some. subst (λ c. ArePicks strategy c call new.picked) same (made.happened.picks some);
    begins = λ some place. subst (λ c. BeginsLegal c new.picked call (exchanges_of place made.happened.events)) same (made.happened.begins some place);
    settings = made.happened.settings;
    map_stays = made.happened.map_stays;
    flag = made.happened.flag;
  }

  answered : Answered strategy old new call made.happened.events answer → Answered strategy (with_nodes old nodes) (with_nodes new nodes') call made.happened.events answer
  answered a = record {
    memory = a.memory;
    logged = a.logged;
    picks = subst (λ c. ArePicks strategy c call new.picked) same a.picks;
    legal = λ place. subst (λ c. IsLegalCall c new.picked call (exchanges_of place made.happened.events)) same (a.legal place);
    answered = λ faults agree place. subst (λ c. IsAnswerOf c new.picked faults call (exchanges_of place made.happened.events) answer) same (a.answered faults agree place);
    entries = a.entries;
    flag = a.flag;
  }

  pub also_made : IsAlsoMade strategy old new call answer made nodes nodes'
  also_made = (
    record {
      happened = happened;
      answered = λ had. answered (made.answered had);
      played = λ told. played strategy (with_nodes old nodes) (with_nodes new nodes') call answer happened (answered (made.answered told.0)) told;
      memory = λ lacks refreshes. let l = made.memory lacks refreshes in record { entries = l.entries; flag = l.flag };
      unpicked = made.unpicked;
      room = λ lacks some. subst (λ c. MayLack c new.picked call made.happened.events) same (made.room lacks some);
    },
    refl,
  )

-- ---- all

pub closed_links : (strategy : Option Strategy) (old : World) (before after : List Node) (closed : Node) (call : Call) (answer : Result Answer Refusal) → closed.link.usable ≡ false → link_at after closed.address ≡ None
    → (client_of (with_nodes old (before ++ closed ∷ after)) ≡ client_of (with_nodes old (before ++ after)))
    × ((new : World) (made : CallMade strategy (with_nodes old (before ++ closed ∷ after)) new call answer) → (before' after' : List Node) × (new.nodes ≡ before' ++ closed ∷ after')
    × IsAlsoMade strategy (with_nodes old (before ++ closed ∷ after)) new call answer made (before ++ after) (before' ++ after'))
    × ((new : World) (made : CallMade strategy (with_nodes old (before ++ after)) new call answer) → (before' after' : List Node) × (new.nodes ≡ before' ++ after')
    × IsAlsoMade strategy (with_nodes old (before ++ after)) new call answer made (before ++ closed ∷ after) (before' ++ closed ∷ after'))
closed_links strategy old before after closed call answer shut alone = (
  same,
  λ new made.
      let r = runs_without closed shut before after new.nodes made.happened.events alone made.happened.runs in
      (r.0, r.1, r.2, also_made strategy (with_nodes old (before ++ closed ∷ after)) new call answer made (before ++ after) (r.0 ++ r.1) same r.3),
  λ new made.
      let r = runs_with closed shut before after new.nodes made.happened.events alone made.happened.runs in
      (r.0, r.1, r.2, also_made strategy (with_nodes old (before ++ after)) new call answer made (before ++ closed ∷ after) (r.0 ++ closed ∷ r.1) (sym same) r.3),
)
  where
    same : client_of (with_nodes old (before ++ closed ∷ after)) ≡ client_of (with_nodes old (before ++ after))
    same = let links = open_without before after closed shut alone in λ i. record { settings = old.settings; entries = old.entries; links = links i }
