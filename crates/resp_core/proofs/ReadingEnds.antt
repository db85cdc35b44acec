-- one value, one fault, one bound, one read: what a reading is made of
use Rattle.std.proofs.Common.{◌≡◌, ◌≤◌, ◌+◌, ℕ, Bool, ◌==◌, ◌&&◌, if◌then◌else◌, List, [], ◌∷◌, ◌++◌, length, take, Option, Some, None, Ok, Err, sym, ap, subst, ◌∙◌, append-nil, refl, arith, inl, inr}
use Rattle.std.proofs.lemmas.List.{length-take-le}
use Rattle.std.proofs.lemmas.Bool.Decides.{eqb_tells}
use Rattle.std.specs.Io.KnownBytes.{Consumes, Keeps, ReadConsumes}
use Rattle.resp_core.specs.Trees.{Tree}
use Rattle.resp_core.specs.Counts.{counted, CountsRead}
use Rattle.resp_core.specs.Standing.{BeginsWith, BeginsFaulty, BeginsUnfinished}
use Rattle.resp_core.specs.Incoming.{Reading, Takes, IsSound, ReadsWhile, Awaits, Lacks, Reads, Seeks, Stops, Meets}
use Rattle.resp_core.proofs.Readings.{Consumes-none, Takes-none, Takes-append, ReadsWhile-append, Seeks-none, Stops-behind, IsSound-append}

-- the same, under another name of the limit behind it
pub Reads-within : {a b : Reading} {ts : List Tree} (k : ℕ) → k ≡ b.limit → Reads a b ts → Reads a (record b { limit = k }) ts
Reads-within {a} {b} {ts} k e h = subst (λ (n : ℕ). Reads a (record b { limit = n }) ts) (sym e) h

pub Seeks-within : {a b : Reading} {ts : List Tree} (k : ℕ) → k ≡ b.limit → Seeks a b ts → Seeks a (record b { limit = k }) ts
Seeks-within {a} {b} {ts} k e h = subst (λ (n : ℕ). Seeks a (record b { limit = n }) ts) (sym e) h

pub Meets-within : {a b : Reading} {ts : List Tree} (k : ℕ) → k ≡ b.limit → Meets a b ts → Meets a (record b { limit = k }) ts
Meets-within {a} {b} {ts} k e h = subst (λ (n : ℕ). Meets a (record b { limit = n }) ts) (sym e) h

-- while no value is taken, what is awaited is the bytes themselves
awaits_all : (limit : ℕ) (bytes : List ℕ) → BeginsUnfinished limit bytes → Awaits limit [] bytes
awaits_all limit bytes u rest h = subst (λ (x : List ℕ). BeginsUnfinished limit x) (h.2 ∙ ap (λ (x : List ℕ). x ++ rest) h.1) u

all_await : (limit : ℕ) (bytes : List ℕ) → Awaits limit [] bytes → BeginsUnfinished limit bytes
all_await limit bytes awaits = awaits bytes ([], refl, refl)

lacks_one : (limit : ℕ) (t : Tree) (bytes : List ℕ) → Awaits limit [] bytes → Lacks limit (t ∷ []) bytes
lacks_one limit t bytes awaits rest h =
    let value = h.1 in
    let front : h.0 ≡ value.0 = value.2 ∙ ap (λ (x : List ℕ). value.0 ++ x) value.4 ∙ append-nil value.0 in
    (all_await limit bytes awaits).0 t rest (value.0, value.3, h.2 ∙ ap (λ (x : List ℕ). x ++ rest) front)

abbrev taken : (a : Reading) (t : Tree) (rest : List ℕ) → BeginsWith a.limit t a.held rest → Takes a (record a { held = rest }) (t ∷ [])
taken a t rest b = record {
  got = [];
  bytes = b.0;
  consumed = Consumes-none a.unread;
  spells = (b.0, [], sym (append-nil b.0), b.1, refl);
  joins = append-nil a.held ∙ b.2;
  room = omega arith;
  reads = λ _. refl;
  promise = refl;
  same_limit = refl;
}

-- a value that is held whole behind what was read for it
pub Seeks-then_value : (a b : Reading) (t : Tree) (rest rest' : List ℕ) → Seeks a b [] → BeginsWith b.limit t b.held rest → rest' ≡ rest → Reads a (record b { held = rest' }) (t ∷ [])
Seeks-then_value a b t rest rest' p h e = rw e (record {
  takes = Takes-append p.takes (taken b t rest h);
  sound = p.sound;
  needed = elim p.needed [
    | inl n ↦ inl (n.0, n.1, append-nil p.takes.got ∙ n.2)
    | inr l ↦ inr (l.0, l.1, l.2, append-nil p.takes.got ∙ l.3, l.4, l.5, l.6, lacks_one a.limit t (a.held ++ l.0) l.7)
  ];
})

-- the bytes so far are awaited
still : {a b : Reading} (p : Takes a b []) (more : List ℕ) → Awaits b.limit [] (b.held ++ more) → Awaits a.limit [] (p.bytes ++ (b.held ++ more))
still {a = a} {b = b} p more awaits = subst (λ (x : List ℕ). Awaits a.limit [] (x ++ (b.held ++ more))) (sym p.spells) (subst (λ (k : ℕ). Awaits k [] (b.held ++ more)) p.same_limit awaits)

pub Seeks-on : {a b c : Reading} → Seeks a b [] → Seeks b c [] → Seeks a c []
Seeks-on {a} {b} {c} p q = record {
  takes = Takes-append p.takes q.takes;
  sound = IsSound-append p.takes.promise p.sound q.sound;
  needed = ReadsWhile-append (Awaits a.limit []) (Awaits b.limit []) (Awaits a.limit []) a b c p.takes q.takes.got (λ bytes awaits. awaits) (still p.takes) p.needed q.needed;
}

pub Stops-on : {a b c : Reading} → Seeks a b [] → Stops b c [] → Stops a c []
Stops-on p q = Stops-behind p.takes p.sound (Seeks-on p) q

pub Meets-fault : {a b : Reading} → Seeks a b [] → BeginsFaulty b.limit b.held → Meets a b []
Meets-fault p b = record { seeks = p; faulty = b }

-- no further read was allowed
pub Stops-bound : (a : Reading) → BeginsUnfinished a.limit a.held → a.allowed ≡ 0 → Stops a a []
Stops-bound a u e = record { takes = Takes-none a; unfinished = u; cause = inr (inr (Seeks-none a, e)) }

not_empty : (n : ℕ) (old new : ℕ) (rest : Bool) → (n ≡ 0 → ⊥) → new ≡ (if (n == 0) && rest then counted old else old) → new ≡ old
not_empty n old new rest some e = elim (eqb_tells n 0) [ inl p ↦ absurd (some p.1) | inr p ↦ rw p.0 at e ]

-- one read gave this front of the buffer
pub Seeks-once : {E : Type 0} (a b : Reading) (buffer : List ℕ) (n : ℕ) → BeginsUnfinished a.limit a.held → ReadConsumes {E = E} a.unread b.unread (Ok n) buffer
    → CountsRead {E = E} a.counts b.counts (Ok n) (length buffer) → a.held ++ take n buffer ≡ b.held
    → (n ≡ 0 → ⊥) → n ≤ length buffer → length buffer ≡ 4096 → a.allowed ≡ b.allowed + 1 → b.limit ≡ a.limit → Seeks a b []
Seeks-once a b buffer n u bytes counts joins some bound room allowed same = record {
  takes = record {
    got = take n buffer;
    bytes = [];
    consumed = bytes.0;
    spells = refl;
    joins = joins;
    room = omega (arith, length-take-le n buffer bound, room, allowed);
    reads = λ h. omega (arith, h, counts.reads, allowed);
    promise = counts.promise;
    same_limit = same;
  };
  sound = record { refused = counts.refused; empty = not_empty n a.counts.empty b.counts.empty _ some counts.empty; kept = counts.kept };
  needed = inr (
    [],
    take n buffer,
    0,
    refl,
    (omega arith, omega arith),
    (omega (arith, length-take-le n buffer bound, some), omega (arith, length-take-le n buffer bound, room)),
    omega (arith, allowed),
    subst (λ (x : List ℕ). Awaits a.limit [] x) (sym (append-nil a.held)) (awaits_all a.limit a.held u),
  );
}

-- what was left stays
kept : (old new : Option (List ℕ)) → Keeps old new → Consumes old new []
kept None new k = tt
kept (Some xs) None k = absurd k
kept (Some xs) (Some ys) k = sym k

-- one read was refused
pub Stops-refused : {E : Type 0} (a b : Reading) (buffer : List ℕ) (e : E) → BeginsUnfinished a.limit a.held → ReadConsumes {E = E} a.unread b.unread (Err e) buffer
    → CountsRead {E = E} a.counts b.counts (Err e) (length buffer) → b.held ≡ a.held → a.allowed ≡ b.allowed + 1 → b.limit ≡ a.limit → Stops a b []
Stops-refused a b buffer e u bytes counts held allowed same = record {
  takes = record {
    got = [];
    bytes = [];
    consumed = kept a.unread b.unread bytes;
    spells = refl;
    joins = append-nil a.held ∙ sym held;
    room = omega (arith, allowed);
    reads = λ h. omega (arith, h, counts.reads, allowed);
    promise = counts.promise;
    same_limit = same;
  };
  unfinished = rw (same, held) u;
  cause = inl (counts.refused, counts.kept);
}
