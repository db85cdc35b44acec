-- Of a session's reads and writes only those are refused that its `fault` lines name.
use Rattle.std.proofs.Common.{◌≡◌, ℕ, zero, suc, Bool, true, false, cond, List, [], ◌∷◌, map, Some, None, refl, sym, ap, ◌∙◌, subst, inl, inr, arith}
use Rattle.std.proofs.lemmas.Bool.{false≢true}
use Rattle.resp_core.specs.Trees.{Tree}
use Rattle.resp_core.specs.Errors.{Refusal}
use Rattle.resp_core.specs.Counts.{Counts, counted}
use Rattle.resp_core.specs.Incoming.{IsSound}
use Rattle.resp_core.specs.Promise.{Promise, nothing, refuses_none, refuses_only, refuses_at, RefusesNone, MayRefuse}
use Rattle.resp_link.specs.Call.{Seen, SendFails, ReadFails}
use Rattle.resp_link.specs.Counts.{AllWritten}
use Rattle.cluster_routing.specs.Address.{Address, same_address}
use Rattle.cluster_calls.specs.Links.Events.{Event, Ending, answers, fails, AnswersFrom, FailsFrom, in_sending, in_receiving, EndsBy, Runs}
use Rattle.cluster_calls.specs.Links.Request.{Request}
use Rattle.cluster_calls.specs.Links.World.{Node, link_at, set_link}
use Rattle.cluster_calls.proofs.LinkLaws.PlayedRuns.{calls_run}
use Rattle.cluster_session.specs.OnlyFaults.{ReadsRefused, no_read, that_read, ended, WritesRefused, no_write, that_write, no_room, RefuseOnlyFaults, OnlyFaults}
use Rattle.cluster_session.specs.Session.{Setup, link_at_start, node_at_start, start}

-- ---- promises over several calls

none_joined : (p : Promise) (m n : ℕ) → RefusesNone p 0 m → RefusesNone p m n → RefusesNone p 0 n
none_joined nothing m n h k = tt
none_joined refuses_none m n h k = tt
none_joined (refuses_only i) m n h k = elim h [
  | inl first ↦ inl first
  | inr later ↦ elim k [
    | inl before ↦ absurd (omega (arith, later, before))
    | inr behind ↦ inr behind
  ]
]

none_at_first : (number : ℕ) → RefusesNone (refuses_at number) 0 0
none_at_first zero = tt
none_at_first (suc n) = inr (omega arith)

-- ---- one link

-- what its devices promise, which of its reads and writes were refused, and that over an open link none was
record Stands (setup : Setup) (link : Seen) : Type 0 where
  promise : link.counts.promise ≡ refuses_at setup.failing_read
  write_promise : link.write_counts.promise ≡ refuses_at setup.failing_write
  reads : ReadsRefused setup.failing_read link
  writes : WritesRefused setup.failing_write link
  is_open : link.usable ≡ true → (link.counts.refused ≡ 0) × RefusesNone (refuses_at setup.failing_read) 0 link.counts.reads
      × (link.write_counts.refused ≡ 0) × (link.write_counts.no_room ≡ 0) × RefusesNone (refuses_at setup.failing_write) 0 link.write_counts.writes

at_first : (levels : ℕ) (setup : Setup) → Stands setup (link_at_start levels setup)
at_first levels setup = record {
  promise = refl;
  write_promise = refl;
  reads = no_read refl (none_at_first setup.failing_read);
  writes = no_write refl (none_at_first setup.failing_write);
  is_open = λ h. (refl, none_at_first setup.failing_read, refl, refl, none_at_first setup.failing_write);
}

module _ (setup : Setup) (old new : Seen) (s : Stands setup old) (was_open : old.usable ≡ true) where
  abbrev reading : Promise
  reading = refuses_at setup.failing_read

  abbrev writing : Promise
  writing = refuses_at setup.failing_write

  behind_reads : RefusesNone old.counts.promise old.counts.reads new.counts.reads → RefusesNone reading 0 new.counts.reads
  behind_reads k = none_joined reading old.counts.reads new.counts.reads (s.is_open was_open).1 (subst (λ p. RefusesNone p old.counts.reads new.counts.reads) s.promise k)

  sound_reads : IsSound old.counts new.counts → (new.counts.refused ≡ 0) × RefusesNone reading 0 new.counts.reads
  sound_reads k = (k.refused ∙ (s.is_open was_open).0, behind_reads k.kept)

  all_written : AllWritten old.write_counts new.write_counts → (new.write_counts.refused ≡ 0) × (new.write_counts.no_room ≡ 0) × RefusesNone writing 0 new.write_counts.writes
  all_written k =
      let o = s.is_open was_open in (
        k.refused ∙ o.2,
        k.no_room ∙ o.3,
        none_joined writing old.write_counts.writes new.write_counts.writes o.4 (subst (λ p. RefusesNone p old.write_counts.writes new.write_counts.writes) s.write_promise k.kept),
      )

  answered : {bytes : List ℕ} {count : ℕ} {taken replies : List Tree} → AnswersFrom old new bytes count taken replies → Stands setup new
  answered k =
      let reads = k.contract.takes.reads.reads in
      let r = sound_reads reads.sound in
      let w = all_written k.contract.sent.sound in
      record {
        promise = reads.takes.promise ∙ s.promise;
        write_promise = k.contract.sent.sound.promise ∙ s.write_promise;
        reads = no_read r.0 r.1;
        writes = no_write w.0 w.2;
        is_open = λ h. (r.0, r.1, w.0, w.1, w.2);
      }

  -- a count of one more than none
  one_more : (n m : ℕ) → m ≡ 0 → n ≡ counted m → n ≡ 1
  one_more n m e h = h ∙ ap counted e

  not_sent : {bytes : List ℕ} → SendFails old new bytes → Stands setup new
  not_sent k =
      let o = s.is_open was_open in
      let last = k.sent.counted in
      record {
        promise = ap (λ (c : Counts). c.promise) k.counts ∙ s.promise;
        write_promise = last.promise ∙ s.write_promise;
        reads = no_read (ap (λ (c : Counts). c.refused) k.counts ∙ o.0) (subst (λ (c : Counts). RefusesNone reading 0 c.reads) (sym k.counts) o.1);
        writes = elim last.cause [
          | inl room ↦ no_room (one_more _ _ o.2 last.refused) (one_more _ _ o.3 room)
          | inr that ↦ that_write (one_more _ _ o.2 last.refused) (that.0 ∙ o.3) (subst (λ p. MayRefuse p new.write_counts.writes) s.write_promise that.1)
        ];
        is_open = λ h. absurd (false≢true (sym k.closed ∙ h));
      }

  not_read : {bytes : List ℕ} {count : ℕ} {refusal : Refusal} → ReadFails old new bytes count refusal → Stands setup new
  not_read k =
      let w = all_written k.sent.sound in
      let told : (new.counts.promise ≡ old.counts.promise) × ReadsRefused setup.failing_read new = elim k.lacks.ends.ends [
        | inl stops ↦ (
          stops.0.takes.promise,
          elim stops.0.cause [
            | inl that ↦ that_read (one_more _ _ (s.is_open was_open).0 that.0) (subst (λ p. MayRefuse p new.counts.reads) s.promise that.1)
            | inr (inl end) ↦ ended end.1 (behind_reads end.2)
            | inr (inr seeks) ↦ let r = sound_reads seeks.0.sound in no_read r.0 r.1
          ],
        )
        | inr (inl meets) ↦ let r = sound_reads meets.0.seeks.sound in (meets.0.seeks.takes.promise, no_read r.0 r.1)
        | inr (inr seeks) ↦ let r = sound_reads seeks.0.sound in (seeks.0.takes.promise, no_read r.0 r.1)
      ] in
      record {
        promise = told.0 ∙ s.promise;
        write_promise = k.sent.sound.promise ∙ s.write_promise;
        reads = told.1;
        writes = no_write w.0 w.2;
        is_open = λ h. absurd (false≢true (sym k.closed ∙ h));
      }

failed : (setup : Setup) (old new : Seen) (bytes : List ℕ) (count : ℕ) (taken : List Tree) (refusal : Refusal) → Stands setup old → FailsFrom old new bytes count taken refusal → Stands setup new
failed setup old new bytes count taken refusal s (in_sending k is none) = not_sent setup old new s k.was_open k
failed setup old new bytes count taken refusal s (in_receiving k values) = not_read setup old new s k.was_open k

ends_so : (setup : Setup) (old new : Seen) (qs : List Request) (taken : List Tree) (ending : Ending) → Stands setup old → EndsBy old new qs taken ending → Stands setup new
ends_so setup old new qs taken (answers replies) s k = answered setup old new s k.contract.was_open k
ends_so setup old new qs taken (fails fault) s k = failed setup old new _ _ taken _ s k

-- ---- all links

abbrev AllStand : List (Address × Setup) → List Node → Type 0
AllStand [] [] = Unit {0}
AllStand (s ∷ ss) (n ∷ ns) = (n.address ≡ s.0) × Stands s.1 n.link × AllStand ss ns
AllStand _ _ = ⊥

all_at_first : (levels : ℕ) (ss : List (Address × Setup)) → AllStand ss (map (node_at_start levels) ss)
all_at_first levels [] = tt
all_at_first levels (s ∷ ss) = (refl, at_first levels s.1, all_at_first levels ss)

one_set : (ss : List (Address × Setup)) (ns : List Node) (a : Address) (old new : Seen) → link_at ns a ≡ Some old → ((setup : Setup) → Stands setup old → Stands setup new) → AllStand ss ns → AllStand ss (set_link ns a new)
one_set [] [] a old new found step all = tt
one_set [] (n ∷ ns) a old new found step all = absurd all
one_set (s ∷ ss) [] a old new found step all = absurd all
one_set (s ∷ ss) (n ∷ ns) a old new found step all = by (same_address n.address a) found (λ e. one_set ss ns a old new e step all.2)
  where
    by : (b : Bool) → cond b (Some n.link) (link_at ns a) ≡ Some old → (link_at ns a ≡ Some old → AllStand ss (set_link ns a new)) → AllStand (s ∷ ss) (cond b (record { address = n.address; link = new } ∷ ns) (n ∷ set_link ns a new))
    by true e later = let same : n.link ≡ old = cc in (all.0, step s.1 (subst (Stands s.1) same all.1), all.2)
    by false e later = (all.0, all.1, later e)

all_run : (ss : List (Address × Setup)) (old new : List Node) (xs : List Event) → AllStand ss old → Runs old new xs → AllStand ss new
all_run ss old new [] all r = subst (AllStand ss) (sym r) all
all_run ss old new (x ∷ xs) all r =
    let c = r.1 in
    let here = one_set ss old x.node c.before c.after c.found (λ setup s. ends_so setup c.before c.after x.requests x.taken x.ending s c.ends) all in
    all_run ss r.0 new xs (subst (AllStand ss) (sym c.now) here) r.2

shown : (ss : List (Address × Setup)) (ns : List Node) → AllStand ss ns → RefuseOnlyFaults ss ns
shown [] [] all = tt
shown [] (n ∷ ns) all = all
shown (s ∷ ss) [] all = all
shown (s ∷ ss) (n ∷ ns) all = (all.0, all.1.reads, all.1.writes, shown ss ns all.2)

pub only_faults : OnlyFaults
only_faults session output p =
    let run = p.plays.is_run in
    shown session.nodes p.after.nodes
    (all_run session.nodes (start session).nodes p.after.nodes run.events (all_at_first session.levels session.nodes) (calls_run None (start session) p.after p.plays.run run.events run.calls))
