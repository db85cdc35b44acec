-- Two plays of the same calls over devices that promise to refuse none.
use Rattle.std.specs.List.{AllByRecursion}
use Rattle.std.specs.Io.KnownBytes.{Appends, Consumes, IsAtEnd, prepend_known}
use Rattle.std.proofs.Common.{◌≡◌, ◌≢◌, ◌≤◌, ◌⊎◌, ◌&&◌, ◌||◌, ℕ, suc, Bool, true, false, cond, List, [], ◌∷◌, ◌++◌, map, length, Option, Some, None, refl, sym, ap, ◌∙◌, subst, inl, inr, arith, append_assoc, append-nil}
use Rattle.std.proofs.lemmas.Bool.{false≢true}
use Rattle.std.proofs.lemmas.List.Elements.{filter-append}
use Rattle.resp_core.specs.Trees.{Tree}
use Rattle.resp_core.specs.Counts.{counted}
use Rattle.resp_core.specs.Errors.{by_cause}
use Rattle.resp_core.specs.declared.errors.redis_error.Cause.TheVariants.{Io, Parse, Memory}
use Rattle.resp_core.specs.Incoming.{Reading, Takes, Awaits, SpelledInOrder}
use Rattle.resp_core.specs.Promise.{MayRefuse}
use Rattle.resp_core.specs.Standing.{BeginsFaulty, BeginsUnfinished}
use Rattle.resp_core.proofs.GivenReads.{given_in}
use Rattle.resp_core.proofs.Readings.{SpelledInOrder-append}
use Rattle.resp_link.specs.Replies.{replies_of}
use Rattle.resp_link.specs.Call.{Seen, SendFails, ReadFails, at_start}
use Rattle.cluster_routing.specs.Address.{Address, same_address}
use Rattle.cluster_routing.specs.Lists.{concat}
use Rattle.cluster_calls.specs.Calls.Call.{Call}
use Rattle.cluster_calls.specs.Links.Request.{Request, bytes_of}
use Rattle.cluster_calls.specs.Links.Log.{Exchange, exchanges, has_lost, left_after, replies, reply_at, is_unanswered}
use Rattle.cluster_calls.specs.Links.Faults.{LinkFault, io, grammar, no_memory, refusal_by_fault}
use Rattle.cluster_calls.specs.Links.Events.{Event, Ending, answers, fails, AllTo, FailsFrom, in_sending, in_receiving, Runs, fault_by, faults_of, is_memory_ending, lack_memory, log_of, taken_of, reply_count}
use Rattle.cluster_calls.specs.Links.Happened.{client_of}
use Rattle.cluster_calls.specs.Links.Nodes.{IsSentFor, LostBy, NodeMade, is_in_sending}
use Rattle.cluster_calls.specs.Links.Play.{Plays, Shown, shown_of}
use Rattle.cluster_calls.specs.Links.Run.{CallsMade, HadMemory, RunPlayed, whole_log, run_calls}
use Rattle.cluster_calls.specs.Links.World.{Node, World, link_at}
use Rattle.cluster_calls.specs.OneServer.Headline.{PlayedCall, IsPlayedFrom}
use Rattle.cluster_calls.specs.OneServer.PromisedPlays.{IsPromised, ArePromised, HadRoom, LinksHadMemory, SentSame}
use Rattle.cluster_calls.proofs.LinkLaws.Addresses.{same_true}
use Rattle.cluster_calls.proofs.LinkLaws.LinkPlaces.{set_other}
use Rattle.cluster_calls.proofs.LinkLaws.LinkRuns.{had_memory}
use Rattle.cluster_calls.proofs.LinkLaws.PlayedRuns.{calls_run, calls_log, run_faults, run_played}
use Rattle.cluster_calls.proofs.LogLaws.OneRun.{IsFront, one_run, other_faults, more_replies}
use Rattle.cluster_calls.proofs.LogLaws.OneSpelling.{SpellsAll, compared, all_first, all_same, used_up}

-- ---- a link that was lost took all that its bytes spell

had_memory_fault : (f : LinkFault) → is_memory_ending (fails f) ≡ false → refusal_by_fault f ≢ by_cause Memory
had_memory_fault io m e = cc
had_memory_fault grammar m e = cc
had_memory_fault no_memory m e = absurd (false≢true (sym m))

-- where no link call lacked memory no node has that fault
node_had_memory : (xs : List Event) (a : Address) → lack_memory xs ≡ false → refusal_by_fault (faults_of xs a) ≢ by_cause Memory
node_had_memory [] a m = λ e. cc
node_had_memory (x ∷ xs) a m =
    let had = had_memory x xs m in
    by (same_address x.node a) x.ending had.0 (node_had_memory xs a had.1)
  where
    by : (b : Bool) (e : Ending) → is_memory_ending e ≡ false → refusal_by_fault (faults_of xs a) ≢ by_cause Memory → refusal_by_fault (cond b (fault_by e (faults_of xs a)) (faults_of xs a)) ≢ by_cause Memory
    by true (answers replies) k later = later
    by true (fails f) k later = had_memory_fault f k
    by false e k later = later

no_room_counted : (n m : ℕ) → n ≡ 0 → n ≡ counted m → ⊥
no_room_counted n m e h = omega (arith, e, h)

is_io : (f : LinkFault) → refusal_by_fault f ≡ by_cause Io → f ≡ io
is_io io e = refl
is_io grammar e = cc
is_io no_memory e = cc

is_grammar : (f : LinkFault) → refusal_by_fault f ≡ by_cause Parse → f ≡ grammar
is_grammar io e = cc
is_grammar grammar e = refl
is_grammar no_memory e = cc

module _ (a b : Seen) (calls : List (List Request)) (taken : List Tree) (fault : LinkFault) (w : Bool) (s : IsPromised a) (room : b.write_counts.no_room ≡ 0) (had : refusal_by_fault fault ≢ by_cause Memory) (l : LostBy a b calls taken fault w) where
  no_write_failed : SendFails l.mid b (bytes_of l.last) → ⊥
  no_write_failed f = elim f.sent.counted.cause [
    | inl more ↦ no_room_counted b.write_counts.no_room l.mid.write_counts.no_room room more
    | inr kept ↦ subst (λ p. MayRefuse p b.write_counts.writes) (l.came.promises.1 ∙ s.writes) kept.1
  ]

  -- the reading end behind what was read
  abbrev behind : ReadFails l.mid b (bytes_of l.last) (reply_count l.last) (refusal_by_fault fault) → Reading
  behind r = record { unread = b.unread; held = r.lacks.held; counts = b.counts; allowed = r.lacks.allowed; limit = l.mid.limit }

  abbrev Ends : ℕ → List ℕ → Type 0
  Ends limit rest = ((fault ≡ io) × BeginsUnfinished limit rest) ⊎ ((fault ≡ grammar) × BeginsFaulty limit rest)

  received : (r : ReadFails l.mid b (bytes_of l.last) (reply_count l.last) (refusal_by_fault fault)) → r.lacks.ends.trees ≡ l.later → SpellsAll a.limit s.bytes taken fault
  received r values = elim r.lacks.ends.ends [
    | inl stops ↦ elim stops.0.cause [
      | inl refused ↦ absurd (subst (λ p. MayRefuse p b.counts.reads) (l.came.promises.0 ∙ s.reads) refused.1)
      | inr (inl ended) ↦
          let u = used stops.0.takes in
          let none : u.0 ≡ [] = subst IsAtEnd u.1 ended.1 in
          let rest : r.lacks.held ++ u.0 ≡ r.lacks.held = ap (λ z. r.lacks.held ++ z) none ∙ append-nil r.lacks.held in
          spelled stops.0.takes (inl (is_io fault stops.1, subst (BeginsUnfinished l.mid.limit) (sym rest) stops.0.unfinished))
      | inr (inr seeks) ↦
          let given = given_in (Awaits l.mid.limit r.lacks.ends.trees) (at_start l.mid) (behind r) seeks.0.takes.got seeks.0.needed in
          absurd (omega (arith, given.1, given.2.0, seeks.1, (used seeks.0.takes).3, s.few))
    ]
    | inr (inl meets) ↦
        let f = meets.0.faulty in
        let n = (used meets.0.seeks.takes).0 in
        spelled meets.0.seeks.takes (inr (is_grammar fault meets.1, (f.0, f.1 ++ n, f.2, ap (λ z. z ++ n) f.3 ∙ append_assoc f.0 f.1 n)))
    | inr (inr memory) ↦ absurd (had memory.1)
  ]
    where
      used : (t : Takes (at_start l.mid) (behind r) r.lacks.ends.trees) → (n : List ℕ) × (b.unread ≡ Some n) × (s.bytes ≡ (l.came.bytes ++ t.bytes) ++ (r.lacks.held ++ n)) × (length t.got ≤ length s.bytes)
      used t =
          let first = subst (λ o. Consumes o (prepend_known l.came.unread l.mid.unread) l.came.bytes) s.known l.came.consumed in
          used_up s.bytes l.came.unread l.mid.held l.came.bytes t.got t.bytes r.lacks.held l.mid.unread b.unread first (l.came.kept r.was_open) t.consumed t.joins

      spelled : (t : Takes (at_start l.mid) (behind r) r.lacks.ends.trees) → Ends l.mid.limit (r.lacks.held ++ (used t).0) → SpellsAll a.limit s.bytes taken fault
      spelled t ends = record {
        front = l.came.bytes ++ t.bytes;
        rest = r.lacks.held ++ (used t).0;
        joins = (used t).2;
        spells = subst (SpelledInOrder a.limit (l.came.bytes ++ t.bytes)) (ap (λ z. l.earlier ++ z) values ∙ sym l.values)
            (SpelledInOrder-append a.limit l.came.bytes t.bytes l.earlier r.lacks.ends.trees l.came.spells
            (subst (λ k. SpelledInOrder k t.bytes r.lacks.ends.trees) l.came.same_limit t.spells));
        ends = subst (λ k. Ends k (r.lacks.held ++ (used t).0)) l.came.same_limit ends;
      }

  pub lost_all : SpellsAll a.limit s.bytes taken fault × (w ≡ false)
  lost_all = by l.fails l.by_write
    where
      by : (f : FailsFrom l.mid b (bytes_of l.last) (reply_count l.last) l.later (refusal_by_fault fault)) → w ≡ is_in_sending f → SpellsAll a.limit s.bytes taken fault × (w ≡ false)
      by (in_sending f is nothing) e = absurd (no_write_failed f)
      by (in_receiving r values) e = (received r values, e)

-- ---- what two plays have of one node

-- the replies that are to come, and how the link fails, for both
record Both (ts us : List Tree) (lost lost' : Bool) (f g : LinkFault) : Type 0 where
  queue : List Tree
  fault : LinkFault
  first : IsFront (replies_of ts) queue lost
  second : IsFront (replies_of us) queue lost'
  one : lost ≡ true → f ≡ fault
  other : lost' ≡ true → g ≡ fault

front_of : (bytes first : List ℕ) (left : Option (List ℕ)) → Consumes (Some bytes) left first → (rest : List ℕ) × (bytes ≡ first ++ rest)
front_of bytes first None c = absurd c
front_of bytes first (Some rest) c = (rest, c)

fewer_replies : (ts us more : List Tree) → us ≡ ts ++ more → (rest : List Tree) × (replies_of us ≡ replies_of ts ++ replies_of more)
fewer_replies ts us more e = (more, ap replies_of e ∙ rw filter-append refl)

not_lost : {A : Type 0} {b : Bool} → b ≡ false → b ≡ true → A
not_lost e h = absurd (false≢true (sym e ∙ h))

module _ (a b c : Seen) (calls calls' : List (List Request)) (ts us : List Tree) (lost lost' : Bool) (f g : LinkFault) (s : IsPromised a) (room : b.write_counts.no_room ≡ 0) (room' : c.write_counts.no_room ≡ 0)
    (had : refusal_by_fault f ≢ by_cause Memory) (had' : refusal_by_fault g ≢ by_cause Memory) (m : NodeMade a b calls ts lost f) (n : NodeMade a c calls' us lost' g) where
  left : (rest : List ℕ) × (s.bytes ≡ m.came.bytes ++ rest)
  left = front_of s.bytes m.came.bytes (prepend_known m.came.unread b.unread) (subst (λ o. Consumes o (prepend_known m.came.unread b.unread) m.came.bytes) s.known m.came.consumed)

  right : (rest : List ℕ) × (s.bytes ≡ n.came.bytes ++ rest)
  right = front_of s.bytes n.came.bytes (prepend_known n.came.unread c.unread) (subst (λ o. Consumes o (prepend_known n.came.unread c.unread) n.came.bytes) s.known n.came.consumed)

  both_made : Both ts us lost lost' f g
  both_made = by lost lost' refl refl
    where
      by : (x y : Bool) → lost ≡ x → lost' ≡ y → Both ts us lost lost' f g
      by true true e e' =
          let p = (lost_all a b calls ts f m.write_failed s room had (m.failed e).1).0 in
          let q = (lost_all a c calls' us g n.write_failed s room' had' (n.failed e').1).0 in
          let same = all_same a.limit s.bytes ts us f g p q in
          record { queue = replies_of ts; fault = f; first = inl refl; second = inl (ap replies_of same.0); one = λ h. refl; other = λ h. sym same.1 }
      by true false e e' =
          let p = (lost_all a b calls ts f m.write_failed s room had (m.failed e).1).0 in
          let k = all_first a.limit s.bytes n.came.bytes right.0 ts us f p right.1 n.came.spells in
          record { queue = replies_of ts; fault = f; first = inl refl; second = inr (e', (replies_of k.0, (fewer_replies us ts k.0 k.1).1)); one = λ h. refl; other = not_lost e' }
      by false true e e' =
          let q = (lost_all a c calls' us g n.write_failed s room' had' (n.failed e').1).0 in
          let k = all_first a.limit s.bytes m.came.bytes left.0 us ts g q left.1 m.came.spells in
          record { queue = replies_of us; fault = g; first = inr (e, (replies_of k.0, (fewer_replies ts us k.0 k.1).1)); second = inl refl; one = not_lost e; other = λ h. refl }
      by false false e e' = elim (compared a.limit ts us m.came.bytes n.came.bytes left.0 right.0 m.came.spells n.came.spells (sym left.1 ∙ right.1)) [
        | inl k ↦ record { queue = replies_of ts; fault = io; first = inl refl; second = inr (e', (replies_of k.0, (fewer_replies us ts k.0 k.1).1)); one = not_lost e; other = not_lost e' }
        | inr k ↦ record { queue = replies_of us; fault = io; first = inr (e, (replies_of (k.0 ∷ k.1), (fewer_replies ts us (k.0 ∷ k.1) k.3).1)); second = inl refl; one = not_lost e; other = not_lost e' }
      ]

-- ---- a node without a link

abbrev AllElsewhere : Address → List Request → Type 0
AllElsewhere a qs = AllByRecursion (λ (q : Request). same_address q.node a ≡ false) qs

apart : (ns : List Node) (node a : Address) (s : Seen) → link_at ns node ≡ Some s → link_at ns a ≡ None → same_address node a ≡ false
apart ns node a s is none = by (same_address node a) refl
  where
    by : (b : Bool) → same_address node a ≡ b → b ≡ false
    by true e = let there : link_at ns node ≡ None = subst (λ k. link_at ns k ≡ None) (sym (same_true node a e)) none in cc
    by false e = refl

all_to : (node a : Address) (qs later : List Request) → same_address node a ≡ false → AllTo node qs → AllElsewhere a later → AllElsewhere a (qs ++ later)
all_to node a [] later ne h k = k
all_to node a (q ∷ qs) later ne h k = (subst (λ z. same_address z a ≡ false) (sym h.0) ne, all_to node a qs later ne h.1 k)

elsewhere : (old new : List Node) (xs : List Event) (a : Address) → link_at old a ≡ None → Runs old new xs → (taken_of xs a ≡ []) × AllElsewhere a (log_of xs)
elsewhere old new [] a none r = (refl, tt)
elsewhere old new (x ∷ xs) a none r =
    let s = r.1 in
    let ne = apart old x.node a s.before s.found none in
    let gone : link_at r.0 a ≡ None = ap (λ ns. link_at ns a) s.now ∙ set_other old x.node a s.after ne ∙ none in
    let later = elsewhere r.0 new xs a gone r.2 in
    (ap (λ b. cond b (x.taken ++ taken_of xs a) (taken_of xs a)) ne ∙ later.0, all_to x.node a x.requests (log_of xs) ne s.to_node later.1)

none_there : (a : Address) (qs : List Request) (f : Address → List Tree) (place : ℕ) → AllElsewhere a qs → has_lost a (exchanges f place qs) ≡ false
none_there a [] f place h = refl
none_there a (q ∷ qs) f place h =
    let x : Exchange = record { request = q; place = place; reply = reply_at (f q.node) q } in
    ap (λ b. (b && is_unanswered x) || has_lost a (exchanges (left_after f q) (suc place) qs)) h.0 ∙ none_there a qs (left_after f q) (suc place) h.1

-- ---- the two plays

still_linked : (old new : List Node) → map (λ (n : Node). n.address) new ≡ map (λ (n : Node). n.address) old → (a : Address) (s : Seen) → link_at old a ≡ Some s → (t : Seen) × (link_at new a ≡ Some t)
still_linked [] new e a s h = cc
still_linked (o ∷ old) [] e a s h = cc
still_linked (o ∷ old) (n ∷ new) e a s h =
    let first : n.address ≡ o.address = cc in
    let others : map (λ (n : Node). n.address) new ≡ map (λ (n : Node). n.address) old = cc in
    let i = by (same_address o.address a) (still_linked old new others a s) h in
    (i.0, ap (λ k. cond (same_address k a) (Some n.link) (link_at new a)) first ∙ i.1)
  where
    by : (b : Bool) → (link_at old a ≡ Some s → (t : Seen) × (link_at new a ≡ Some t)) → cond b (Some o.link) (link_at old a) ≡ Some s → (t : Seen) × (cond b (Some n.link) (link_at new a) ≡ Some t)
    by true later h = (n.link, refl)
    by false later h = later h

grown : (o : Option (List ℕ)) (xs bs : List ℕ) → Appends (Some xs) o bs → o ≡ Some (xs ++ bs)
grown None xs bs h = absurd h
grown (Some ys) xs bs h = ap (λ z. Some z) h

-- what went out over a link
went_out : (a b : Seen) (calls : List (List Request)) (ts : List Tree) (lost : Bool) (f : LinkFault) (s : IsPromised a) → b.write_counts.no_room ≡ 0 → refusal_by_fault f ≢ by_cause Memory → NodeMade a b calls ts lost f → b.sent ≡ Some (s.sent ++ bytes_of (concat calls))
went_out a b calls ts lost f s room had m =
    let are : m.bytes ≡ bytes_of (concat calls) = subst (λ w. IsSentFor w calls m.bytes) (whole lost refl) m.are in
    grown b.sent s.sent m.bytes (subst (λ o. Appends o b.sent m.bytes) s.told m.sent) ∙ ap (λ z. Some (s.sent ++ z)) are
  where
    whole : (x : Bool) → lost ≡ x → m.write_failed ≡ false
    whole true e = (lost_all a b calls ts f m.write_failed s room had (m.failed e).1).1
    whole false e = (m.kept e).0

all_calls : {old new : World} {calls : List Call} {before after : List Shown} (p : Plays None old new calls before after true) → calls ≡ map (λ (t : PlayedCall). t.call) p.run
all_calls p = p.first ∙ ap (λ z. map (λ (t : PlayedCall). t.call) p.run ++ z) (p.whole refl) ∙ append-nil (map (λ (t : PlayedCall). t.call) p.run)

-- in a run as link calls make it the faults are theirs
run_fault : (old new : World) (ts : List PlayedCall) (es : List Event) (r : CallsMade None old new ts es) (had : HadMemory ts) (a : Address) → lack_memory es ≡ false
    → refusal_by_fault ((run_played None old new ts es r had).faults a) ≢ by_cause Memory
run_fault old new ts es r had a m = subst (λ f. refusal_by_fault f ≢ by_cause Memory) (sym (run_faults None old new ts es r had a)) (node_had_memory es a m)

module _ (old new new' : World) (calls : List Call) (before after after' : List Shown) (p : Plays None old new calls before after true) (q : Plays None old new' calls before after' true)
    (promised : ArePromised old.nodes) (had : HadMemory p.run) (had' : HadMemory q.run) (links : LinksHadMemory p.is_run.events) (links' : LinksHadMemory q.is_run.events) (room : HadRoom new.nodes) (room' : HadRoom new'.nodes) where
  abbrev one_play : RunPlayed None old new p.run (taken_of p.is_run.events)
  one_play = run_played None old new p.run p.is_run.events p.is_run.calls had

  abbrev other_play : RunPlayed None old new' q.run (taken_of q.is_run.events)
  other_play = run_played None old new' q.run q.is_run.events q.is_run.calls had'

  abbrev lost_in : {z : World} {xs : List Shown} → Plays None old z calls before xs true → Address → Bool
  lost_in k a = has_lost a (exchanges (replies (taken_of k.is_run.events)) 0 (whole_log k.run))

  nothing_at : {z : World} {xs : List Shown} (k : Plays None old z calls before xs true) → HadMemory k.run → (a : Address) → link_at old.nodes a ≡ None → (taken_of k.is_run.events a ≡ []) × (lost_in k a ≡ false)
  nothing_at {z} k h a none =
      let gone = elsewhere old.nodes z.nodes k.is_run.events a none (calls_run None old z k.run k.is_run.events k.is_run.calls) in
      let log : whole_log k.run ≡ log_of k.is_run.events = calls_log None old z k.run k.is_run.events k.is_run.calls h in
      (gone.0, none_there a (whole_log k.run) (replies (taken_of k.is_run.events)) 0 (subst (AllElsewhere a) (sym log) gone.1))

  both : (a : Address) → Both (taken_of p.is_run.events a) (taken_of q.is_run.events a) (lost_in p a) (lost_in q a) (one_play.faults a) (other_play.faults a)
  both a = by (link_at old.nodes a) refl
    where
      by : (o : Option Seen) → link_at old.nodes a ≡ o → Both (taken_of p.is_run.events a) (taken_of q.is_run.events a) (lost_in p a) (lost_in q a) (one_play.faults a) (other_play.faults a)
      by None e =
          let x = nothing_at p had a e in
          let y = nothing_at q had' a e in
          record { queue = []; fault = io; first = inl (sym (ap replies_of x.0)); second = inl (sym (ap replies_of y.0)); one = not_lost x.1; other = not_lost y.1 }
      by (Some link) e =
          let r = one_play in
          let s = other_play in
          let t = still_linked old.nodes new.nodes r.made.addresses a link e in
          let u = still_linked old.nodes new'.nodes s.made.addresses a link e in
          both_made link t.0 u.0 (run_calls p.run a) (run_calls q.run a) (taken_of p.is_run.events a) (taken_of q.is_run.events a) (lost_in p a) (lost_in q a) (r.faults a) (s.faults a)
          (promised a link e) (room a t.0 t.1) (room' a u.0 u.1)
          (run_fault old new p.run p.is_run.events p.is_run.calls had a links) (run_fault old new' q.run q.is_run.events q.is_run.calls had' a links') (r.made.each a link t.0 e t.1) (s.made.each a link u.0 e u.1)

  same_run : p.run ≡ q.run
  same_run =
      let r = one_play in
      let s = other_play in
      let queues : Address → List Tree = λ a. (both a).queue in
      let faults : Address → LinkFault = λ a. (both a).fault in
      let left = subst (IsPlayedFrom None (client_of old) faults) (more_replies p.run (replies (taken_of p.is_run.events)) queues 0 (λ a. (both a).first))
      (other_faults r.faults faults (client_of old) (replies (taken_of p.is_run.events)) 0 p.run (λ a l. (both a).one l) r.played) in
      let right = subst (IsPlayedFrom None (client_of old) faults) (more_replies q.run (replies (taken_of q.is_run.events)) queues 0 (λ a. (both a).second))
      (other_faults s.faults faults (client_of old) (replies (taken_of q.is_run.events)) 0 q.run (λ a l. (both a).other l) s.played) in
      one_run (client_of old) faults queues 0 p.run q.run (sym (all_calls p) ∙ all_calls q) left right

  same_sent : SentSame new.nodes new'.nodes
  same_sent a l m is is' =
      let r = one_play in
      let s = other_play in
      let was = still_linked new.nodes old.nodes (sym r.made.addresses) a l is in
      let k = promised a was.0 was.1 in
      went_out was.0 l (run_calls p.run a) (taken_of p.is_run.events a) (lost_in p a) (r.faults a) k (room a l is) (run_fault old new p.run p.is_run.events p.is_run.calls had a links) (r.made.each a was.0 l was.1 is)
      ∙ ap (λ ts. Some (k.sent ++ bytes_of (concat (run_calls ts a)))) same_run
      ∙ sym (went_out was.0 m (run_calls q.run a) (taken_of q.is_run.events a) (lost_in q a) (s.faults a) k (room' a m is') (run_fault old new' q.run q.is_run.events q.is_run.calls had' a links') (s.made.each a was.0 m was.1 is'))

  pub promised_plays : (after ≡ after') × SentSame new.nodes new'.nodes
  promised_plays = (p.shown ∙ ap (λ ts. before ++ map shown_of ts) same_run ∙ sym q.shown, same_sent)
